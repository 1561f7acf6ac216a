-- A walk through the starts of a series gathers its instances in a span.
use Rattle.std.proofs.Common.{◌≡◌, ◌≢◌, ◌∙◌, ℕ, ◌<◌, List, [], refl, sym, ap, subst, inl, inr, ◌⊎◌, arith, ℤ, pos, ◌+ℤ◌, ◌-ℤ◌, ◌≤ℤ◌, ◌<ℤ◌, unsigned_abs}
use Rattle.std.specs.Prelude.{Option, Some, None, ◌↔◌}
use Rattle.std.proofs.lemmas.Int.{ints, by_lt_z}
use Rattle.profile.specs.checker.Instances.{Instance as SaidInstance, horizon}
use Rattle.profile.specs.events.Properties.{first_second}
use Rattle.profile.specs.events.Events.{Event}
use Rattle.profile.specs.events.Starts.{IsInstance}
use Rattle.cal_events.specs.Calendar.{instance_of}
use Rattle.cal_events.specs.Event.{said_meeting}
use Rattle.cal_events.specs.Left.{IsLeft, GivesFirst}
use Rattle.cal_events.specs.Instances.{IsAfter}
use Rattle.cal_events.specs.Series.{AreKnownByStart}
use Rattle.cal_events.specs.declared.instance.Instance.{Instance}
use Rattle.cal_events.specs.declared.instances.Bound.{Bound}
use Rattle.cal_events.specs.declared.instances.Instances.{Instances}
use Rattle.cal_events.proofs.shared_lemmas.Overlaps.{abs_is}
use Rattle.cal_agenda.specs.InSpan.{AreAllInSpan, AddsInSpan}
use Rattle.cal_agenda.proofs.Gathering.{nothing, joined, renamed}

-- an instance of the series that starts before a place
abbrev pub IsBefore : Event → ℤ → SaidInstance → Type 0
IsBefore series place b = IsInstance series b × (b.start <ℤ place)

-- those that start from a place on are left, and those before it are gathered
pub record IsAt (series : Event) (from until place : ℤ) (left : Instances) (found : List SaidInstance) : Type 0 where
  pub of : said_meeting left.event.now ≡ series
  pub rest : (b : SaidInstance) → IsLeft left b ↔ (IsInstance series b × (place ≤ℤ b.start))
  pub gathered : AreAllInSpan (IsBefore series place) from until found

-- and the next of them was given
pub record IsWalk (series : Event) (from until : ℤ) (found : List SaidInstance) (next : Option Instance) (left : Instances) : Type 0 where
  pub place : ℤ
  pub old : Instances
  pub at : IsAt series from until place old found
  pub given : GivesFirst old next left

-- how long before the horizon the next one starts
abbrev pub seconds_left : Option Instance → ℕ
seconds_left None = 0
seconds_left (Some next) = unsigned_abs (horizon -ℤ next.start)

module _ (series : Event) (from until : ℤ) where
  -- what starts so early is over before the span
  pub begins : (begin width : ℤ) (left : Instances) → AreKnownByStart series → ((b : SaidInstance) → IsInstance series b → b.end ≤ℤ (b.start +ℤ width))
      → (begin ≤ℤ (from -ℤ width)) ⊎ (begin ≤ℤ first_second) → said_meeting left.event.now ≡ series
      → ((b : SaidInstance) → IsLeft left b ↔ (IsInstance series b × (begin ≤ℤ b.start))) → IsAt series from until begin left []
  begins begin width left known lasts early of rest = record {
    of = of;
    rest = rest;
    gathered = nothing from until (IsBefore series begin) (λ b is within.
        let long = lasts b is.0 in
        let dated = (known.dates b is.0).0 in
        let before = is.1 in
        elim early [
          | inl x ↦ omega (arith, ints, x, long, before, within.1, within.2)
          | inr x ↦ omega (arith, ints, x, dated, before)
        ]);
  }

  module _ (place : ℤ) (old new : Instances) (found : List SaidInstance) (at : IsAt series from until place old found) where
    its_rest : (b : SaidInstance) → IsLeft old b ↔ (IsInstance series b × (place ≤ℤ b.start))
    its_rest = at.rest

    -- none is left
    pub ends : GivesFirst old None new → AreAllInSpan (IsInstance series) from until found
    ends given = renamed from until (IsBefore series place) (IsInstance series) found
        (λ b is. (is, by_lt_z b.start place (λ less. less) (λ most. absurd (given.1.0 b ((its_rest b).1 (is, most))))))
        (λ b is. is.0) at.gathered

    module _ (i : Instance) (given : GivesFirst old (Some i) new) where
      abbrev it : SaidInstance
      it = instance_of i

      it_is : IsInstance series it × (place ≤ℤ i.start)
      it_is = (its_rest it).0 given.1.0

      -- none is between
      none_before : (b : SaidInstance) → IsInstance series b → place ≤ℤ b.start → i.start ≤ℤ b.start
      none_before b is late = by_lt_z b.start i.start (λ less. absurd (given.1.1 b ((its_rest b).1 (is, late)) (inl less))) (λ most. most)

      -- the others start behind the span
      pub ends_early : until ≤ℤ i.start → AreAllInSpan (IsInstance series) from until found
      ends_early late = record {
        all = λ b is within. by_lt_z b.start place (λ less. at.gathered.all b (is, less) within)
            (λ most. let l = none_before b is most in absurd (omega (arith, ints, l, late, within.1, within.2)));
        only = λ b among. ((at.gathered.only b among).0.0, (at.gathered.only b among).1);
        differ = at.gathered.differ;
      }

      module _ (known : AreKnownByStart series) where
        pub before_horizon : i.start <ℤ horizon
        before_horizon = (known.dates it it_is.0).1

        one_or_before : (b : SaidInstance) → IsBefore series (i.start +ℤ pos 1) b → IsBefore series place b ⊎ (b ≡ it)
        one_or_before b (is, before) = by_lt_z b.start place (λ less. inl (is, less))
            (λ most.
            let l = none_before b is most in
            let same : b.start ≡ i.start = by_lt_z b.start i.start (λ less. absurd (omega (arith, ints, l, less))) (λ other. omega (arith, ints, l, before)) in
            inr (known.one b it is it_is.0 same))

        keys_differ : (a b : SaidInstance) → IsBefore series place a → b ≡ it → a.key ≢ b.key
        keys_differ a b is same e =
            let slot = known.slots a is.0 in
            let slot_of_it = known.slots it it_is.0 in
            let equal : a.key.slot ≡ i.key.slot = ap (λ k. k.slot) e ∙ ap (λ (x : SaidInstance). x.key.slot) same in
            let before = is.1 in
            let late = it_is.1 in
            omega (arith, ints, slot, slot_of_it, equal, before, late)

        later_left : (b : SaidInstance) → IsLeft new b ↔ (IsInstance series b × ((i.start +ℤ pos 1) ≤ℤ b.start))
        later_left b = (
          (λ l.
              let own : IsInstance series b = subst (λ (m : Event). IsInstance m b) at.of (subst (λ e. IsInstance (said_meeting e.now) b) given.0 l.0) in
              let slot = known.slots b own in
              let slot_of_it = known.slots it it_is.0 in (
                own,
                elim (subst (λ (a : Bound). IsAfter a b.start b.key.slot) given.1.2 l.1) [
                  | inl less ↦ omega (arith, ints, less)
                  | inr (same, later) ↦ omega (arith, ints, same, later, slot, slot_of_it)
                ],
              )),
          λ r. (
            subst (λ e. IsInstance (said_meeting e.now) b) (sym given.0) (subst (λ (m : Event). IsInstance m b) (sym at.of) r.0),
            subst (λ (a : Bound). IsAfter a b.start b.key.slot) (sym given.1.2) (inl (omega (arith, ints, r.1))),
          ),
        )

        -- it was kept, if it is in the span
        pub goes_on : (more : List SaidInstance) → AddsInSpan from until it found more → IsAt series from until (i.start +ℤ pos 1) new more
        goes_on more (added, is, kept) = record {
          of = ap (λ e. said_meeting e.now) given.0 ∙ at.of;
          rest = later_left;
          gathered = subst (AreAllInSpan (IsBefore series (i.start +ℤ pos 1)) from until) (sym is)
              (joined from until (IsBefore series place) (λ b. b ≡ it) (IsBefore series (i.start +ℤ pos 1)) found added one_or_before
              (λ b before. let early = before.1 in let late = it_is.1 in (before.0, omega (arith, ints, early, late)))
              (λ b same. subst (IsBefore series (i.start +ℤ pos 1)) (sym same) (it_is.0, omega (arith, ints)))
              keys_differ at.gathered kept);
        }

  -- fewer seconds are left then
  pub fewer : (start : ℤ) (old new : Instances) (more : List SaidInstance) (next : Option Instance) → AreKnownByStart series → start <ℤ horizon
      → IsAt series from until (start +ℤ pos 1) old more → GivesFirst old next new → seconds_left next < unsigned_abs (horizon -ℤ start)
  fewer start old new more None known early at given =
      let a = abs_is (horizon -ℤ start) (omega (arith, ints, early)) in omega (arith, ints, a, early)
  fewer start old new more (Some j) known early at given =
      let is = (at.rest (instance_of j)).0 given.1.0 in
      let later = is.1 in
      let dated = (known.dates (instance_of j) is.0).1 in
      let a = abs_is (horizon -ℤ start) (omega (arith, ints, early)) in
      let b = abs_is (horizon -ℤ j.start) (omega (arith, ints, dated)) in
      omega (arith, ints, a, b, later, dated, early)

  -- no other is to be looked at
  pub ended : (found : List SaidInstance) (next : Option Instance) (left : Instances) → IsWalk series from until found next left → ((i : Instance) → next ≡ Some i → ⊥)
      → AreAllInSpan (IsInstance series) from until found
  ended found None left walk none = ends walk.place walk.old left found walk.at walk.given
  ended found (Some i) left walk none = absurd (none i refl)
