-- What an open series gives, and what is left of it then.
use Rattle.std.proofs.Common.{◌≡◌, ◌∙◌, refl, sym, ap, subst, inl, inr, arith, ℕ, ◌<◌, List, map, length, get_or, ℤ, pos, ◌+ℤ◌, ◌≤ℤ◌, ◌<ℤ◌}
use Rattle.std.specs.Prelude.{Option, Some, None, option_map, Contains}
use Rattle.std.specs.List.{slice_get}
use Rattle.std.proofs.lemmas.Int.{ints, by_lt_z}
use Rattle.std.proofs.lemmas.Option.{same_Some, slice_get-map, slice_get-get_or}
use Rattle.profile.specs.checker.Instances.{Instance as SaidInstance, horizon}
use Rattle.profile.specs.events.Properties.{first_second}
use Rattle.profile.specs.events.Events.{Event}
use Rattle.profile.specs.events.Starts.{IsInstance}
use Rattle.profile.specs.events.Confirmed.{Confirmed}
use Rattle.cal_events.specs.Calendar.{instance_of}
use Rattle.cal_events.specs.Event.{said_meeting}
use Rattle.cal_events.specs.Left.{IsLeft, GivesFirst}
use Rattle.cal_events.specs.Instances.{IsAfter}
use Rattle.cal_events.specs.Series.{series_said, AreKnownByStart}
use Rattle.cal_events.specs.declared.series.Series.{Series}
use Rattle.cal_events.specs.declared.instance.Instance.{Instance}
use Rattle.cal_events.specs.declared.instances.Instances.{Instances}
use Rattle.cal_events.specs.declared.instances.Bound.{Bound}
use Rattle.clash_check.specs.Opened.{AreOfSeries, NoneIsBefore, AllAreLeft, IsFirstSpanFrom}

-- ---- the series of a calendar

-- that at a place
pub at_place : (xs : List Series) (all : List Event) (i : ℕ) (s : Series) → map series_said xs ≡ all → i < length xs → s ≡ get_or xs i s → slice_get all i ≡ Some (series_said s)
at_place xs all i s e within is = ap (λ l. slice_get l i) (sym e) ∙ slice_get-map series_said xs i ∙ ap (option_map series_said) (slice_get-get_or xs i s within ∙ ap Some (sym is))

of_some : (P : Event → Type 0) (found : Option Series) (event : Event) → option_map series_said found ≡ Some event → ((s : Series) → P (series_said s)) → P event
of_some P None event e each = cc
of_some P (Some s) event e each = subst P (same_Some (series_said s) event e) (each s)

-- what holds of each series holds of it
pub of_each : (P : Event → Type 0) (xs : List Series) (all : List Event) (i : ℕ) (event : Event) → map series_said xs ≡ all → slice_get all i ≡ Some event → ((s : Series) → P (series_said s)) → P event
of_each P xs all i event e at each = of_some P (slice_get xs i) event (sym (slice_get-map series_said xs i) ∙ ap (λ l. slice_get l i) e ∙ at) each

pub of_all : (P : Event → Type 0) (xs : List Series) (all : List Event) → map series_said xs ≡ all → ((s : Series) → P (series_said s)) → (event : Event) → Contains all event → P event
of_all P xs all e each event (i, within, at) = of_each P xs all i event e (slice_get-get_or all i event within ∙ ap Some at) each

-- ---- of the iterator that is open

pub of_it : (P : Instances → Type 0) (x : Instances) → P x → (s : Instances) → Some x ≡ Some s → P s
of_it P x p s e = subst P (same_Some x s e) p

-- what it begins with
module _ (series : Event) (from : ℤ) (starts : Instances) (of : said_meeting starts.event.now ≡ series)
    (left : (b : SaidInstance) → (IsLeft starts b → IsInstance series b × (from ≤ℤ b.start)) × (IsInstance series b × (from ≤ℤ b.start) → IsLeft starts b)) where
  pub none_before : NoneIsBefore from (Some starts)
  none_before = of_it (λ s. (b : SaidInstance) → IsLeft s b → from ≤ℤ b.start) starts (λ b is. ((left b).0 is).1)

  pub all_left : AllAreLeft from (Some starts)
  all_left = of_it (λ s. (b : SaidInstance) → IsInstance (said_meeting s.event.now) b → from ≤ℤ b.start → (IsAfter s.after b.start b.key.slot → ⊥) → ⊥) starts
      (λ b is at not. not (((left b).1 (subst (λ (m : Event). IsInstance m b) of is, at)).1))

-- what is known of it
pub record IsReady (all : Confirmed) (place : ℕ) (from : ℤ) (old : Instances) : Type 0 where
  pub known : AreKnownByStart (said_meeting old.event.now)
  pub of : AreOfSeries all place (Some old)
  pub before : NoneIsBefore from (Some old)
  pub left : AllAreLeft from (Some old)

pub ready : (all : Confirmed) (place : ℕ) (from : ℤ) (opened : Option Instances) (old : Instances) → opened ≡ Some old → AreOfSeries all place opened → NoneIsBefore from opened
    → AllAreLeft from opened → (xs : List Series) → map series_said xs ≡ all.series → ((s : Series) → AreKnownByStart (series_said s)) → IsReady all place from old
ready all place from opened old is of before left xs are known = record {
  known = of_each AreKnownByStart xs all.series place (said_meeting old.event.now) are (of old is) known;
  of = subst (AreOfSeries all place) is of;
  before = subst (NoneIsBefore from) is before;
  left = subst (AllAreLeft from) is left;
}

-- what it gives
module _ (all : Confirmed) (place : ℕ) (from : ℤ) (old new : Instances) (r : IsReady all place from old) where
  of : AreOfSeries all place (Some old)
  of = r.of

  before : NoneIsBefore from (Some old)
  before = r.before

  left : AllAreLeft from (Some old)
  left = r.left

  known : AreKnownByStart (said_meeting old.event.now)
  known = r.known

  abbrev series : Event
  series = said_meeting old.event.now

  pub still_of : new.event ≡ old.event → AreOfSeries all place (Some new)
  still_of e = of_it (λ s. slice_get all.series place ≡ Some (said_meeting s.event.now)) new (of old refl ∙ ap (λ e. Some (said_meeting e.now)) (sym e))

  -- of the series at that place
  pub first_there : (found : Option (ℤ × ℤ)) → IsFirstSpanFrom series from found → (event : Event) → slice_get all.series place ≡ Some event → IsFirstSpanFrom event from found
  first_there found is event at = subst (λ (m : Event). IsFirstSpanFrom m from found) (same_Some series event (sym (of old refl) ∙ at)) is

  -- there was none
  module _ (gives : GivesFirst old None new) where
    pub none_first : IsFirstSpanFrom series from None
    none_first b is at = left old refl b is at (λ after. gives.1.0 b (is, after))

    pub none_still_before : NoneIsBefore from (Some new)
    none_still_before = of_it (λ s. (b : SaidInstance) → IsLeft s b → from ≤ℤ b.start) new (λ b l.
        before old refl b (subst (λ e. IsInstance (said_meeting e.now) b) gives.0 l.0, subst (λ (a : Bound). IsAfter a b.start b.key.slot) gives.1.1 l.1))

    pub none_still_left : AllAreLeft from (Some new)
    none_still_left = of_it (λ s. (b : SaidInstance) → IsInstance (said_meeting s.event.now) b → from ≤ℤ b.start → (IsAfter s.after b.start b.key.slot → ⊥) → ⊥) new
        (λ b is at not. left old refl b (subst (λ e. IsInstance (said_meeting e.now) b) gives.0 is) at (λ after. not (subst (λ (a : Bound). IsAfter a b.start b.key.slot) (sym gives.1.1) after)))

  -- there was one
  module _ (i : Instance) (gives : GivesFirst old (Some i) new) where
    is_it : IsInstance series (instance_of i)
    is_it = gives.1.0.0

    pub dated : (first_second ≤ℤ i.start) × (i.start <ℤ horizon)
    dated = known.dates (instance_of i) is_it

    pub one_first : IsFirstSpanFrom series from (Some (i.start, i.end))
    one_first = (
      (instance_of i, is_it, refl, refl),
      before old refl (instance_of i) gives.1.0,
      λ b is at. by_lt_z b.start i.start (λ less. absurd (left old refl b is at (λ after. gives.1.1 b (is, after) (inl less)))) (λ most. most),
    )

    pub later_before : NoneIsBefore (i.start +ℤ pos 1) (Some new)
    later_before = of_it (λ s. (b : SaidInstance) → IsLeft s b → (i.start +ℤ pos 1) ≤ℤ b.start) new (λ b l.
        let own = subst (λ e. IsInstance (said_meeting e.now) b) gives.0 l.0 in
        let slot = known.slots b own in
        let slot_of_it = known.slots (instance_of i) is_it in
        elim (subst (λ (a : Bound). IsAfter a b.start b.key.slot) gives.1.2 l.1) [
          | inl less ↦ omega (arith, ints, less)
          | inr (same, later) ↦ omega (arith, ints, same, later, slot, slot_of_it)
        ])

    pub later_left : AllAreLeft (i.start +ℤ pos 1) (Some new)
    later_left = of_it (λ s. (b : SaidInstance) → IsInstance (said_meeting s.event.now) b → (i.start +ℤ pos 1) ≤ℤ b.start → (IsAfter s.after b.start b.key.slot → ⊥) → ⊥) new
        (λ b is at not. not (subst (λ (a : Bound). IsAfter a b.start b.key.slot) (sym gives.1.2) (inl (omega (arith, ints, at)))))
