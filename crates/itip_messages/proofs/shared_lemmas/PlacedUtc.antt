-- In a room that goes by UTC an event is as its lines say it.
-- Behind one_message of law, shown_reads_back of sent_law.
use Rattle.std.proofs.Common.{◌≡◌, ◌∙◌, refl, sym, ap, subst, inl, inr, ℤ, List, [], ◌∷◌, ℕ, codes, Bool}
use Rattle.std.specs.Prelude.{Option, Some, None, option_map}
use Rattle.std.specs.List.{AllZip}
use Rattle.profile.specs.text.Lines.{line_param, line_value}
use Rattle.profile.specs.text.Trees.{Tree}
use Rattle.profile.specs.series.Zones.{Zone}
use Rattle.profile.specs.events.Properties.{BothOrNeither, Form, Fixed, Floating, WholeDay}
use Rattle.profile.specs.events.ZonedTimes.{EventTimes, SaysTimes, SpellsForm}
use Rattle.profile.specs.events.Occurrences.{Time}
use Rattle.profile.specs.events.EventComponents.{EventComponent, Method, SaysEventComponent, instants_of}
use Rattle.profile.specs.events.Placed.{IsAt, IsInstantIn, SaysPlaced, zone_in}
use Rattle.cal_events.proofs.shared_lemmas.Meanings.{utc_instant, utc_means}

abbrev Lines : Type 0
Lines = List (List ℕ)

-- ---- instants

at_itself : (form : Form) (t : ℤ) → IsInstantIn None form t t
at_itself Fixed t = refl
at_itself Floating t = utc_means t
at_itself WholeDay t = utc_means t

at_once : (form : Form) (t u : ℤ) → IsInstantIn None form t u → u ≡ t
at_once Fixed t u e = e
at_once Floating t u m = utc_instant t u m
at_once WholeDay t u m = utc_instant t u m

slot_itself : (time : Option Time) → BothOrNeither (IsAt None) time (option_map (λ x. x.instant) time)
slot_itself None = tt
slot_itself (Some time) = at_itself time.form time.instant

slot_once : (time : Option Time) (slot : Option ℤ) → BothOrNeither (IsAt None) time slot → slot ≡ option_map (λ x. x.instant) time
slot_once None None b = refl
slot_once (Some time) (Some t) b = ap Some (at_once time.form time.instant t b)
slot_once None (Some t) b = absurd b
slot_once (Some time) None b = absurd b

all_itself : (times : List Time) → AllZip (IsAt None) times (instants_of times)
all_itself [] = tt
all_itself (time ∷ times) = (at_itself time.form time.instant, all_itself times)

all_once : (times : List Time) (instants : List ℤ) → AllZip (IsAt None) times instants → instants ≡ instants_of times
all_once [] [] z = refl
all_once [] (t ∷ instants) z = absurd z
all_once (time ∷ times) [] z = absurd z
all_once (time ∷ times) (t ∷ instants) z = let first = at_once time.form time.instant t z.0 in let rest = all_once times instants z.1 in λ i. first i ∷ rest i

-- ---- the start

form_zone : (object : Tree) (name : Option (List ℕ)) (text : List ℕ) (form : Form) (zone : Option Zone) (local : ℤ) → SpellsForm object name text form zone local → zone_in None form zone ≡ zone
form_zone object name text Fixed _ local s = refl
form_zone object name text Floating _ local s = sym s.1
form_zone object name text WholeDay _ local s = sym s.1

fixed_zone : (form : Form) (zone : Option Zone) → form ≡ Fixed → zone_in None form zone ≡ zone
fixed_zone form zone e = ap (λ (f : Form). zone_in None f zone) e

times_zone : (may_lack : Bool) (object : Tree) (lines : Lines) (times : EventTimes) → SaysTimes may_lack object lines times → zone_in None times.form times.zone ≡ times.zone
times_zone may_lack object lines times (inl t) = form_zone object (line_param (codes "TZID") t.line) (line_value t.line) times.form times.zone times.local t.says.1
times_zone may_lack object lines times (inr (_, t)) = fixed_zone times.form times.zone t.form

-- ---- events

module _ (object : Tree) (method : Option Method) (lines : Lines) where
  pub placed_itself : (event : EventComponent) → SaysEventComponent object method lines event → SaysPlaced None object method lines event
  placed_itself event s =
      let zone = times_zone _ object lines event.times s.times in (
        event,
        s,
        record {
          start = event.times.start;
          recurrence = event.recurrence;
          additions = event.additions;
          exceptions = event.exceptions;
          starts = at_itself event.times.form event.times.start;
          slot = subst (BothOrNeither (IsAt None) event.written.recurrence) (sym s.instants.slot) (slot_itself event.written.recurrence);
          adds = subst (AllZip (IsAt None) event.written.additions) (sym s.instants.added) (all_itself event.written.additions);
          takes = subst (AllZip (IsAt None) event.written.exceptions) (sym s.instants.taken) (all_itself event.written.exceptions);
          is = λ i. record event { times = record event.times { zone = sym zone i } };
        },
      )

  pub as_said : (placed : EventComponent) → SaysPlaced None object method lines placed → SaysEventComponent object method lines placed
  as_said placed (event, s, p) =
      let zone = times_zone _ object lines event.times s.times in
      let start = at_once event.times.form event.times.start p.start p.starts in
      let slot = slot_once event.written.recurrence p.recurrence p.slot ∙ sym s.instants.slot in
      let added = all_once event.written.additions p.additions p.adds ∙ sym s.instants.added in
      let taken = all_once event.written.exceptions p.exceptions p.takes ∙ sym s.instants.taken in
      let same : placed ≡ event =
      p.is ∙ (λ i. record event { recurrence = slot i; times = record event.times { zone = zone i; start = start i }; additions = added i; exceptions = taken i }) in
      subst (SaysEventComponent object method lines) (sym same) s

pub all_placed : (object : Tree) (method : Option Method) (vs : List Lines) (events : List EventComponent) → AllZip (SaysEventComponent object method) vs events → AllZip (SaysPlaced None object method) vs events
all_placed object method [] [] z = tt
all_placed object method [] (e ∷ events) z = absurd z
all_placed object method (v ∷ vs) [] z = absurd z
all_placed object method (v ∷ vs) (e ∷ events) z = (placed_itself object method v e z.0, all_placed object method vs events z.1)

pub all_said : (object : Tree) (method : Option Method) (vs : List Lines) (events : List EventComponent) → AllZip (SaysPlaced None object method) vs events → AllZip (SaysEventComponent object method) vs events
all_said object method [] [] z = tt
all_said object method [] (e ∷ events) z = absurd z
all_said object method (v ∷ vs) [] z = absurd z
all_said object method (v ∷ vs) (e ∷ events) z = (as_said object method v e z.0, all_said object method vs events z.1)
