-- The events of a message: what is known of each.
-- Cited by Message::of.
use Rattle.std.proofs.Common.{◌≡◌, ◌∙◌, ℕ, Bool, true, false, List, [], ◌∷◌, get_or, refl, sym, ap, subst, inl, inr, codes, arith, pos, ◌*ℤ◌, ◌+ℤ◌, ◌<◌, ℤ, Option, Some, None, is_some}
use Rattle.std.specs.Prelude.{Contains, All, unwrap_or}
use Rattle.std.specs.List.{AllZip}
use Rattle.std.proofs.lemmas.Bool.{true≢false}
use Rattle.std.proofs.lemmas.Option.{same_Some}
use Rattle.std.proofs.lemmas.List.Elements.{All-contains, All-map, All-cons, All-nil, Contains-get_or}
use Rattle.std.proofs.lemmas.Int.{ints}
use Rattle.profile.specs.text.Trees.{Tree, vevents}
use Rattle.profile.specs.events.EventComponents.{AreOfWritten, Method, Store, Request, Add, Cancel, Reply, Refresh, EventComponent as SaidComponent, SaysEventComponent, may_lack_start}
use Rattle.profile.specs.events.Properties.{BothOrNeither, Form, Fixed, Floating, WholeDay}
use Rattle.profile.specs.events.Occurrences.{ListedTime, Time, IsInside, IsListed}
use Rattle.profile.specs.events.ZonedTimes.{EventTimes, SaysTimes, SpellsForm, SpellsMidnight, IsInDates, clock_of, is_in_zone}
use Rattle.profile.specs.series.Zones.{Means, Zone}
use Rattle.profile.specs.text.Lines.{line_param, line_value}
use Rattle.profile.specs.text.Values.{IsClockSeconds, SpellsDate, SpellsLocal}
use Rattle.profile.specs.events.Events.{as_added, taken_by}
use Rattle.profile.specs.events.Messages.{Message, SaysMessage}
use Rattle.profile.specs.rooms.Messages.{may_take, slot_of, slot_named}
use Rattle.cal_events.specs.MeetingComponents.{IsInEventDates}
use Rattle.cal_events.specs.Said.{IsWritten}
use Rattle.cal_events.proofs.shared_lemmas.InOneOrder.{of_filtered}
use Rattle.cal_events.proofs.shared_lemmas.InRooms.{IsTakenFrom, taken_from, taken_is_written, taken_of_written, taken_slot_in_dates}
use Rattle.cal_events.proofs.shared_lemmas.OneInstance.{event_sound}
use Rattle.cal_events.proofs.shared_lemmas.Meanings.{utc_instant}
use Rattle.cal_events.proofs.shared_lemmas.SeriesLemmas.{zip_back}
use Rattle.itip_messages.specs.Body.{IsMidnight, IsReady, IsShowable, IsWholeIn, StartIsWhole}
use Rattle.itip_messages.specs.MessageEvents.{AreMessageEvents, IsDated, IsDatedEach}
use Rattle.itip_messages.specs.SentLaw.{time_as}
use Rattle.itip_messages.proofs.body_lemmas.TimeLists.{dates_start, start_dates}
use Rattle.itip_messages.proofs.shared_lemmas.RuleBack.{clock_second, date_count, date_low, rule_told}

abbrev Lines : Type 0
Lines = List (List ℕ)

-- ---- each event of a message has ORGANIZER and DTSTAMP

given : {V : Type 0} (R : List ℕ → V → Type 0) (line : Option (List ℕ)) (value : Option V) → is_some line ≡ true → BothOrNeither R line value → is_some value ≡ true
given R None None h b = h
given R (Some l) None h b = absurd b
given R None (Some v) h b = absurd b
given R (Some l) (Some v) h b = refl

pub organised : (object : Tree) (m : Method) (vs : List Lines) (es : List SaidComponent) → AllZip (SaysEventComponent object (Some m)) vs es → All (λ e. is_some e.organiser ≡ true) es
organised object m [] [] z = All-nil (λ e. is_some e.organiser ≡ true)
organised object m [] (e ∷ es) z = absurd z
organised object m (v ∷ vs) [] z = absurd z
organised object m (v ∷ vs) (e ∷ es) z =
    let s = z.0.organiser in
    All-cons (λ (e : SaidComponent). is_some e.organiser ≡ true) e es (given _ s.line e.organiser (s.present refl) s.is) (organised object m vs es z.1)

pub stamped : (object : Tree) (m : Method) (vs : List Lines) (es : List SaidComponent) → AllZip (SaysEventComponent object (Some m)) vs es → All (λ e. is_some e.stamp ≡ true) es
stamped object m [] [] z = All-nil (λ e. is_some e.stamp ≡ true)
stamped object m [] (e ∷ es) z = absurd z
stamped object m (v ∷ vs) [] z = absurd z
stamped object m (v ∷ vs) (e ∷ es) z =
    let s = z.0.stamp in
    All-cons (λ (e : SaidComponent). is_some e.stamp ≡ true) e es (given _ s.line e.stamp (s.present refl) s.is) (stamped object m vs es z.1)

-- and RECURRENCE-ID names an instant that a stamp writes
in_stamps : (r : Option ℤ) → ((t : ℤ) → r ≡ Some t → IsInEventDates t) → IsDated (slot_named r)
in_stamps None h = tt
in_stamps (Some t) h = let n = h t refl in (omega (arith, ints, n.0), omega (arith, ints, n.1))

pub dated : (object : Tree) (m : Method) (vs : List Lines) (es : List SaidComponent) → AllZip (SaysEventComponent object (Some m)) vs es → All (λ e. IsDated (slot_of e)) es
dated object m [] [] z = All-nil (λ e. IsDated (slot_of e))
dated object m [] (e ∷ es) z = absurd z
dated object m (v ∷ vs) [] z = absurd z
dated object m (v ∷ vs) (e ∷ es) z =
    All-cons (λ (e : SaidComponent). IsDated (slot_of e)) e es (in_stamps e.recurrence (event_sound object v e z.0).names) (dated object m vs es z.1)

-- and so does its own start
starts_dated : (object : Tree) (m : Method) (vs : List Lines) (es : List SaidComponent) → AllZip (SaysEventComponent object (Some m)) vs es → All (λ e. IsDated (slot_of (as_added e))) es
starts_dated object m [] [] z = All-nil (λ e. IsDated (slot_of (as_added e)))
starts_dated object m [] (e ∷ es) z = absurd z
starts_dated object m (v ∷ vs) [] z = absurd z
starts_dated object m (v ∷ vs) (e ∷ es) z =
    All-cons (λ (e : SaidComponent). IsDated (slot_of (as_added e))) e es (in_stamps (Some e.times.start) (λ t is. subst IsInEventDates (same_Some e.times.start t is) (event_sound object v e z.0).starts)) (starts_dated object m vs es z.1)

-- ---- what can be written

-- what is read in UTC, or in the years 1 to 9999 without zone
date_clock : (text : List ℕ) (day : ℤ) → SpellsDate text day → IsClockSeconds (day *ℤ pos 86_400)
date_clock text day d = let (n, few, is) = date_count text day d in let low = date_low text day d in (omega (arith, ints, low), omega (arith, ints, few, is))

local_clock : (text : List ℕ) (local : ℤ) → SpellsLocal text local → IsClockSeconds local
local_clock text local s =
    let (n, few, is) = date_count s.date s.number s.on in
    let low = date_low s.date s.number s.on in
    let second : s.second < 86_400 = clock_second s.time s.second s.at_second in
    let counted : local ≡ (s.number *ℤ pos 86_400) +ℤ pos s.second = s.counted in
    (omega (arith, ints, low, counted), omega (arith, ints, few, is, second, counted))

midnight_clock : (text : List ℕ) (local : ℤ) → SpellsMidnight text local → IsMidnight local
midnight_clock text local (day, d, e) = (subst IsClockSeconds (sym e) (date_clock text day d), (day, e))

-- a time that isn't fixed is of no zone
unzoned_clock : (object : Tree) (name : Option (List ℕ)) (text : List ℕ) (form : Form) (zone : Option Zone) (local : ℤ) → SpellsForm object name text form zone local → IsWholeIn form zone local
unzoned_clock object name text Fixed _ local s = tt
unzoned_clock object name text Floating _ local s = s.1
unzoned_clock object name text WholeDay _ local s = (s.1, midnight_clock text local s.2)

-- a listed time: a fixed one where a start may be
shown_from : (object : Tree) (name : Option (List ℕ)) (text : List ℕ) (form : Form) (zone : Option Zone) (local t : ℤ) → SpellsForm object name text form zone local → Means (clock_of zone) local t → may_take (time_as form t) ≡ true
    → IsShowable form t
shown_from object name text Fixed _ local t s m h = let d = dates_start t h in (omega (arith, ints, d.0), omega (arith, ints, d.1))
shown_from object name text Floating _ local t s m h =
    subst IsClockSeconds (sym (utc_instant local t (subst (λ (z : Option Zone). Means (clock_of z) local t) s.1 m))) (local_clock text local s.2)
shown_from object name text WholeDay _ local t s m h =
    subst IsMidnight (sym (utc_instant local t (subst (λ (z : Option Zone). Means (clock_of z) local t) s.1 m))) (midnight_clock text local s.2)

listed_shown : (object : Tree) (name : List ℕ) (entry : ListedTime) (time : Time) → IsListed object name entry time → may_take time ≡ true → IsShowable time.form time.instant
listed_shown object name (line, text) time (_, (zone, local, says, means)) h = shown_from object (line_param (codes "TZID") line) text time.form zone local time.instant says.1 means h

all_shown : (object : Tree) (name : List ℕ) (entries : List ListedTime) (times : List Time) → AllZip (IsListed object name) entries times → (time : Time) → Contains times time → may_take time ≡ true → IsShowable time.form time.instant
all_shown object name entries times z time c h = let back = zip_back (IsListed object name) entries times time z c in listed_shown object name back.0 time back.2 h

-- what is in the dates of an event may be taken away
inside_takes : (form : Form) (in_zone : Bool) (local t : ℤ) → IsInDates false form in_zone local t → may_take (time_as form t) ≡ true
inside_takes Fixed in_zone local t d = start_dates t (d.1, d.2)
inside_takes Floating in_zone local t d = refl
inside_takes WholeDay in_zone local t d = refl

entry_takes : (object : Tree) (entry : ListedTime) (time : Time) → IsInside object entry time → may_take time ≡ true
entry_takes object (line, text) time (_, local, says, means, dates) = inside_takes time.form (is_in_zone line) local time.instant dates

start_whole : (may_lack : Bool) (object : Tree) (lines : Lines) (times : EventTimes) → SaysTimes may_lack object lines times → StartIsWhole times
start_whole may_lack object lines times (inl t) = unzoned_clock object (line_param (codes "TZID") t.line) (line_value t.line) times.form times.zone times.local t.says.1
start_whole may_lack object lines times (inr (_, t)) = subst (λ (form : Form). IsWholeIn form times.zone times.local) (sym t.form) tt

event_ready : (object : Tree) (m : Method) (lines : Lines) (event : SaidComponent) → SaysEventComponent object (Some m) lines event → IsReady event
event_ready object m lines event s =
    let sound = event_sound object lines event s in
    record {
      ends = rule_told lines event.times event.rule s.rule;
      timely = record { steady = sound.steady; starts = sound.starts };
      start = start_whole (may_lack_start (Some m)) object lines event.times s.times;
      added = λ time c.
          let inside = zip_back (IsInside object) _ event.written.additions time s.occurrences.inside c in
          all_shown object (codes "RDATE") _ event.written.additions s.occurrences.adds.0 time c (entry_takes object inside.0 time inside.2);
      taken = λ time c.
          let among = of_filtered may_take event.written.exceptions time c in
          all_shown object (codes "EXDATE") _ event.written.exceptions s.occurrences.takes.0 time among.0 among.1;
    }

pub ready : (object : Tree) (m : Method) (vs : List Lines) (es : List SaidComponent) → AllZip (SaysEventComponent object (Some m)) vs es → All IsReady es
ready object m [] [] z = All-nil IsReady
ready object m [] (e ∷ es) z = absurd z
ready object m (v ∷ vs) [] z = absurd z
ready object m (v ∷ vs) (e ∷ es) z = All-cons IsReady e es (event_ready object m v e z.0) (ready object m vs es z.1)

-- also as an instance that is added
ready_added : (es : List SaidComponent) → All IsReady es → All (λ e. IsReady (as_added e)) es
ready_added es a k e w =
    let r = a k e w in record { ends = r.ends; timely = record { steady = r.timely.steady; starts = r.timely.starts }; start = r.start; added = r.added; taken = r.taken }

-- ---- as a method takes them

taken_all : (Q : SaidComponent → Type 0) (method : Method) (es : List SaidComponent) → All Q es → All (λ e. Q (as_added e)) es → All Q (taken_by (Some method) es)
taken_all Q Store es a b = a
taken_all Q Request es a b = a
taken_all Q Add es a b = All-map Q as_added es b
taken_all Q Cancel es a b = a
taken_all Q Reply es a b = a
taken_all Q Refresh es a b = a

-- ---- what is known of the events of a message

-- some VEVENT says each, as the METHOD takes it
of_vevent : (object : Tree) (message : Message) → SaysMessage object message → (event : SaidComponent) → Contains message.events event → IsTakenFrom object (Some message.method) (vevents object) event
of_vevent object message s =
    taken_from object (Some message.method) (vevents object) message.events (record {
      said = s.events;
      says = s.says;
      taken = s.taken;
      some = s.are.some;
      one = λ a b c d. s.are.of_it a c ∙ sym (s.are.of_it b d);
      masters = s.are.masters;
      differ = s.are.differ;
    })

each_so : (P : SaidComponent → Type 0) (es : List SaidComponent) → ((e : SaidComponent) → Contains es e → P e) → All P es
each_so P es h k d w = h (get_or es k d) (Contains-get_or es k d w)

pub of_message : (object : Tree) (message : Message) → SaysMessage object message → AreMessageEvents message.events
of_message object message s =
    let m = message.method in
    let vs = vevents object in
    let given_organiser = organised object m vs s.events s.says in
    let given_stamp = stamped object m vs s.events s.says in
    let all_ready = ready object m vs s.events s.says in
    let from = of_vevent object message s in
    record {
      some = s.are.some;
      organised = subst (All (λ (e : SaidComponent). is_some e.organiser ≡ true)) (sym s.taken) (taken_all (λ e. is_some e.organiser ≡ true) m s.events given_organiser given_organiser);
      stamped = subst (All (λ (e : SaidComponent). is_some e.stamp ≡ true)) (sym s.taken) (taken_all (λ e. is_some e.stamp ≡ true) m s.events given_stamp given_stamp);
      dated = subst (All (λ (e : SaidComponent). IsDated (slot_of e))) (sym s.taken)
          (taken_all (λ e. IsDated (slot_of e)) m s.events (dated object m vs s.events s.says) (starts_dated object m vs s.events s.says));
      dated_each = each_so IsDatedEach message.events (λ e c words zone named slot is.
          subst IsDated (sym is.2) (in_stamps is.0 (λ t at. taken_slot_in_dates object (Some m) vs e (from e c) words zone named is.0 t is.1 at)));
      ready = subst (All IsReady) (sym s.taken) (taken_all IsReady m s.events all_ready (ready_added s.events all_ready));
      written = each_so IsWritten message.events (λ e c. taken_is_written object (Some m) vs e (from e c));
      instants = each_so (λ e. AreOfWritten e.written e.recurrence e.additions e.exceptions) message.events (λ e c. taken_of_written object (Some m) vs e (from e c));
    }

-- each has its ORGANIZER
pub of_organiser : (object : Tree) (message : Message) → SaysMessage object message → (event : SaidComponent) → Contains message.events event → event.organiser ≡ Some message.organiser
of_organiser object message s event c =
    there event.organiser (All-contains (λ (e : SaidComponent). is_some e.organiser ≡ true) message.events event (of_message object message s).organised c)
    (ap (λ (p : List ℕ × List ℕ). p.0) (s.are.of_it event c))
  where
    there : (o : Option (List ℕ)) → is_some o ≡ true → unwrap_or o [] ≡ message.organiser → o ≡ Some message.organiser
    there None h e = absurd (true≢false (sym h))
    there (Some x) h e = ap Some e
