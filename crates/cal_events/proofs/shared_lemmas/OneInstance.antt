-- The instances of an event that octets spell: one at each place, in the dates that an event may name. None ends before it starts.
-- Cited by EventComponent::read of component, Event::of_object of event, one_instance of event.
use Rattle.std.proofs.Common.{◌≡◌, ◌∙◌, ℕ, zero, suc, ◌*◌, ◌<◌, ◌≤◌, true, false, ◌&&◌, nat_le, List, [], ◌∷◌, codes, map, get_or, length, sym, ap, subst, refl, inl, inr, ◌⊎◌, arith, ℤ, pos, ◌+ℤ◌, ◌-ℤ◌, ◌≤ℤ◌, unsigned_abs, Bool}
use Rattle.std.specs.Prelude.{Option, Some, None, Contains, option_map}
use Rattle.std.proofs.lemmas.Int.{ints}
use Rattle.std.proofs.lemmas.Bool.{and_parts}
use Rattle.std.proofs.lemmas.Option.{same_Some}
use Rattle.profile.specs.text.Lines.{line_value, line_param}
use Rattle.profile.specs.text.Trees.{Tree}
use Rattle.profile.specs.series.Rules.{Pattern, is_base}
use Rattle.profile.specs.series.Zones.{Zone, Constant, Single, Pair, Observance, Onset, IsOnset, IsOffsetAt, IsOneOffset, Means}
use Rattle.profile.specs.series.ZoneTexts.{AreMatched, AreSpaced, HasForm, pair, IsRuleOnset, PartsSay, year_pattern}
use Rattle.profile.specs.checker.Instances.{Instance}
use Rattle.profile.specs.events.Properties.{BothOrNeither, Form, Fixed, Floating, WholeDay}
use Rattle.profile.specs.events.ZonedTimes.{zone_named, is_in_zone, SaysZoneOf, SpellsZoned, SaysZonedText, SaysZonedTime, clock_of, IsInDates, EventTimes, SaysTimes}
use Rattle.profile.specs.events.Occurrences.{Time, IsRecurrenceLine}
use Rattle.profile.specs.events.EventComponents.{Method, EventComponent, SaysEventComponent}
use Rattle.profile.specs.events.Events.{InstancesDiffer}
use Rattle.profile.specs.events.Starts.{IsDaysLater, EndsAt}
use Rattle.cal_events.specs.Clocks.{IsSteady}
use Rattle.cal_events.specs.MeetingComponents.{IsInEventDates}
use Rattle.cal_zones.proofs.Zones.{unique, once_constant, once_single, once_pair}
use Rattle.cal_events.proofs.shared_lemmas.Meanings.{one_meaning, utc_instant}
use Rattle.cal_events.proofs.shared_lemmas.OneTimes.{Lines, some_zone}
use Rattle.cal_events.proofs.shared_lemmas.CountedFrom.{counted_one, counted_later}
use Rattle.cal_events.proofs.shared_lemmas.Clocks.{ReadsWith, near, single_in_force, pair_in_force, single_reads, pair_reads, constant_reads, ascends}

-- ---- the clocks of a zone

stays : (x y offset local u : ℤ) → (x ≤ℤ (y +ℤ pos 43_200)) × (y ≤ℤ (x +ℤ pos 43_200)) → (offset ≡ x) ⊎ (offset ≡ y) → ReadsWith x y local u → (local -ℤ offset) ≤ℤ (u +ℤ pos 43_200)
stays x y offset local u n (inl e) (inl p) = omega (arith, ints, e, p)
stays x y offset local u n (inl e) (inr p) = omega (arith, ints, n.0, n.1, e, p)
stays x y offset local u n (inr e) (inl p) = omega (arith, ints, n.0, n.1, e, p)
stays x y offset local u n (inr e) (inr p) = omega (arith, ints, e, p)

pub keeps_near : (z : Zone) → AreMatched z → (t offset local u : ℤ) → IsOffsetAt z t offset → Means z local u → (local -ℤ offset) ≤ℤ (u +ℤ pos 43_200)
keeps_near (Constant k) m t offset local u o h = omega (arith, ints, o, constant_reads k local u h)
keeps_near (Single a) m t offset local u o h =
    stays a.offset_from a.offset_to offset local u (near a.offset_from a.offset_to m) (single_in_force a t offset o) (single_reads a local u h)
keeps_near (Pair a b) m t offset local u o h =
    stays a.offset_from a.offset_to offset local u (near a.offset_from a.offset_to m.2) (pair_in_force a b t offset m o) (pair_reads a b local u m h)

rule_onset : (o : Observance) (parts : Pattern) (x : Onset) → o.rule ≡ Some parts → IsOnset o x → IsRuleOnset o x.instant
rule_onset o parts x e h =
    let t : (nat_le o.day h.day && is_base parts h.day) ≡ true = rw e at h.begins in
    record { parts = parts; rule = e; day = h.day; on = (and_parts (nat_le o.day h.day) (is_base parts h.day) t).1; read = h.read }

pub never_at_once : (a b : Observance) (p q : Pattern) → a.rule ≡ Some p → b.rule ≡ Some q → AreSpaced (Pair a b) → (x y : Onset) → IsOnset a x → IsOnset b y → x.instant ≡ y.instant → ⊥
never_at_once a b p q e f spaced x y h j same =
    let far = spaced x.instant y.instant (rule_onset a p x e h) (rule_onset b q y f j) in
    let none : x.instant -ℤ y.instant ≡ pos 0 = omega (arith, ints, same) in
    let zero_far : 172_800 ≤ 0 = subst (λ (d : ℤ). 172_800 ≤ unsigned_abs d) none far in
    omega (arith, zero_far)

one_offset_of : (z : Zone) (parts standards daylights : List (List (List ℕ))) → PartsSay parts standards daylights z → IsOneOffset z
one_offset_of z parts standards daylights s = go z s.form s.spaced
  where
    go : (z : Zone) → HasForm parts standards daylights z → AreSpaced z → IsOneOffset z
    go (Constant k) f spaced t p q h j = unique (Constant k) t p q (once_constant k) h j
    go (Single a) f spaced t p q h j = unique (Single a) t p q (once_single a) h j
    go (Pair a b) (pair standard daylight _ _ differ one other x y) spaced t p q h j =
        unique (Pair a b) t p q (once_pair a b (never_at_once a b (year_pattern x.each a.day) (year_pattern y.each b.day) x.is y.is spaced)) h j

pub utc_steady : IsSteady (Constant (pos 0))
utc_steady = record {
  offset = λ t p q h j. unique (Constant (pos 0)) t p q (once_constant (pos 0)) h j;
  meaning = one_meaning (Constant (pos 0)) tt;
  keeps = keeps_near (Constant (pos 0)) tt;
  ascends = ascends (Constant (pos 0)) tt;
}

clock_steady : (object : Tree) (line text : List ℕ) (form : Form) (zone : Option Zone) (local : ℤ) → SaysZonedText object line text form zone local → IsSteady (clock_of zone)
clock_steady object line text form None local h = utc_steady
clock_steady object line text Floating (Some zone) local h = absurd (some_zone zone h.1)
clock_steady object line text WholeDay (Some zone) local h = absurd (some_zone zone h.1)
clock_steady object line text Fixed (Some zone) local h = spelled (line_param (codes "TZID") line) h.1
  where
    named : (o : Option Tree) → SaysZoneOf o zone → IsSteady zone
    named None says = absurd says
    named (Some part) says = record { offset = one_offset_of zone _ _ _ says; meaning = one_meaning zone says.matched; keeps = keeps_near zone says.matched; ascends = ascends zone says.matched }

    spelled : (o : Option (List ℕ)) → SpellsZoned object o text (Some zone) local → IsSteady zone
    spelled None says = absurd says
    spelled (Some name) says = named (zone_named name object) says.1

-- ---- an event

pub record IsSound (event : EventComponent) : Type 0 where
  pub steady : IsSteady (clock_of event.times.zone)
  pub starts : IsInEventDates event.times.start
  pub names : (slot : ℤ) → event.recurrence ≡ Some slot → IsInEventDates slot

-- a start is in the dates that an event may name: one that isn't fixed is an instant by the clocks of UTC
pub start_dated : (object : Tree) (line : List ℕ) (form : Form) (zone : Option Zone) (local t : ℤ) → SaysZonedTime object line form zone local → Means (clock_of zone) local t
    → IsInDates false form (is_in_zone line) local t → IsInEventDates t
start_dated object line Fixed _ local t says means dates = (dates.1, dates.2)
start_dated object line Floating None local t says means dates = let e = utc_instant local t means in (omega (arith, ints, e, dates.0), omega (arith, ints, e, dates.1))
start_dated object line WholeDay None local t says means dates = let e = utc_instant local t means in (omega (arith, ints, e, dates.0), omega (arith, ints, e, dates.1))
start_dated object line Floating (Some zone) local t says means dates = absurd (some_zone zone says.1)
start_dated object line WholeDay (Some zone) local t says means dates = absurd (some_zone zone says.1)

-- its clocks, and where it starts
pub times_sound : {may : Bool} (object : Tree) (lines : Lines) (times : EventTimes) → SaysTimes may object lines times → IsSteady (clock_of times.zone) × IsInEventDates times.start
times_sound object lines times (inl t) = (
  clock_steady object t.line (line_value t.line) times.form times.zone times.local t.says,
  start_dated object t.line times.form times.zone times.local times.start t.says t.means t.in_dates,
)
times_sound object lines times (inr (_, t)) = (
  subst (λ (z : Option Zone). IsSteady (clock_of z)) (sym t.zone) utc_steady,
  subst IsInEventDates (sym t.start) (omega (arith, ints), omega (arith, ints)),
)

pub recurrence_named : (object : Tree) (line : Option (List ℕ)) (w : Option Time) (slot : ℤ) → BothOrNeither (IsRecurrenceLine object) line w → option_map (λ time. time.instant) w ≡ Some slot → IsInEventDates slot
recurrence_named object None None slot h e = cc
recurrence_named object None (Some w) slot h e = absurd h
recurrence_named object (Some l) None slot h e = absurd h
recurrence_named object (Some l) (Some w) slot (_, (zone, local, says, means, dates)) e =
    subst IsInEventDates (same_Some w.instant slot e) (start_dated object l w.form zone local w.instant says means dates)

-- an event as it is written
pub event_sound : (object : Tree) {m : Option Method} (lines : Lines) (event : EventComponent) → SaysEventComponent object m lines event → IsSound event
event_sound object lines event s =
    let t = times_sound object lines event.times s.times in
    record {
      steady = t.0;
      starts = t.1;
      names = λ slot e. recurrence_named object s.occurrences.is.line event.written.recurrence slot s.occurrences.is.is (sym s.instants.slot ∙ e);
    }

-- an instance of it ends at one instant
later_one : (form : Form) (z : Zone) (days : ℕ) (t u v : ℤ) → IsSteady z → IsDaysLater form z days t u → IsDaysLater form z days t v → u ≡ v
later_one form z days t u v s (inl (n, e)) (inl (m, f)) = e ∙ sym f
later_one form z days t u v s (inl (n, e)) (inr (m, f)) = absurd (omega (arith, n, m))
later_one form z days t u v s (inr (n, e)) (inl (m, f)) = absurd (omega (arith, n, m))
later_one form z days t u v s (inr (n, (a, counted, means))) (inr (m, (b, again, other))) =
    let same : b ≡ a = counted_one form z t b a s.offset again counted in
    s.meaning (a +ℤ pos (86_400 * days)) u v means (subst (λ (x : ℤ). Means z (x +ℤ pos (86_400 * days)) v) same other)

pub end_one : (times : EventTimes) (t e f : ℤ) → IsSteady (clock_of times.zone) → EndsAt times t e → EndsAt times t f → e ≡ f
end_one times t e f s (u, h, p) (v, k, q) =
    p ∙ ap (λ (x : ℤ). x +ℤ pos times.length.seconds) (later_one times.form (clock_of times.zone) times.length.days t u v s h k) ∙ sym q

-- and not before it starts
not_earlier : (form : Form) (z : Zone) (days : ℕ) (t u : ℤ) → IsSteady z → IsDaysLater form z days t u → t ≤ℤ u
not_earlier form z days t u s (inl (n, e)) = omega (arith, ints, e)
not_earlier form z days t u s (inr (n, (local, counted, means))) = counted_later form z days t u local s n counted means

pub ends_after : (times : EventTimes) (t e : ℤ) → IsSteady (clock_of times.zone) → EndsAt times t e → t ≤ℤ e
ends_after times t e s (u, h, p) = let k = not_earlier times.form (clock_of times.zone) times.length.days t u s h in omega (arith, ints, k, p)

-- ---- overrides

recurrence_at : (os : List EventComponent) (y : EventComponent) (k : ℕ) → k < length os → get_or os k y ≡ y → get_or (map (λ event. event.recurrence) os) k y.recurrence ≡ y.recurrence
recurrence_at [] y k w e = refl
recurrence_at (o ∷ os) y zero w e = ap (λ (x : EventComponent). x.recurrence) e
recurrence_at (o ∷ os) y (suc k) w e = recurrence_at os y k (omega (arith, w)) e

as_many : (os : List EventComponent) (k : ℕ) → k < length os → k < length (map (λ event. event.recurrence) os)
as_many [] k w = absurd (omega (arith, w))
as_many (o ∷ os) zero w = omega arith
as_many (o ∷ os) (suc k) w = let l = as_many os k (omega (arith, w)) in omega (arith, l)

apart : (o : EventComponent) (os : List EventComponent) (y : EventComponent) → InstancesDiffer (o ∷ os) → Contains os y → o.recurrence ≡ y.recurrence → ⊥
apart o os y d (k, w, e) same =
    let l = as_many os k w in
    d 0 (suc k) y.recurrence (omega arith) (omega (arith, l)) (same ∙ sym (recurrence_at os y k w e))

rest_differ : (o : EventComponent) (os : List EventComponent) → InstancesDiffer (o ∷ os) → InstancesDiffer os
rest_differ o os d i j x l w = d (suc i) (suc j) x (omega (arith, l)) (omega (arith, w))

pub same_override : (os : List EventComponent) (a b : EventComponent) → InstancesDiffer os → Contains os a → Contains os b → a.recurrence ≡ b.recurrence → a ≡ b
same_override [] a b d (k, w, e) c same = absurd (omega (arith, w))
same_override (o ∷ os) a b d (zero, w, e) (zero, v, f) same = sym e ∙ f
same_override (o ∷ os) a b d (zero, w, e) (suc k, v, f) same =
    absurd (apart o os b d (k, omega (arith, v), f) (ap (λ (x : EventComponent). x.recurrence) e ∙ same))
same_override (o ∷ os) a b d (suc k, w, e) (zero, v, f) same =
    absurd (apart o os a d (k, omega (arith, w), e) (ap (λ (x : EventComponent). x.recurrence) f ∙ sym same))
same_override (o ∷ os) a b d (suc k, w, e) (suc j, v, f) same =
    same_override os a b (rest_differ o os d) (k, omega (arith, w), e) (j, omega (arith, v), f) same

-- ---- an event with its instances

pub booked_same : (a b : Instance) → a.key ≡ b.key → a.start ≡ b.start → a.end ≡ b.end → a ≡ b
booked_same a b p q r = λ i. record { key = p i; start = q i; end = r i }
