-- The starts of a master that belong to no series.
-- Cited by candidates, is_on_rule, is_single, single_starts.
use Rattle.std.proofs.Common.{◌≡◌, ◌∙◌, ℕ, zero, suc, ◌+◌, ◌-◌, ◌<◌, ◌≤◌, true, false, List, [], ◌∷◌, ◌++◌, take, length, get_or, subst, sym, refl, ap, inl, inr, ◌⊎◌, arith, ℤ, ◌<ℤ◌, ◌≤ℤ◌}
use Rattle.std.specs.Prelude.{Option, Some, None, AllPairs, Contains, Bool, not, IsTrue, is_some, ◌↔◌}
use Rattle.std.specs.Ordering.{int_cmp}
use Rattle.std.specs.List.Sorted.{IsSorted}
use Rattle.std.proofs.lemmas.Bool.{cases_order, false≢true, true≢false}
use Rattle.std.proofs.lemmas.Int.{ints, by_lt_z}
use Rattle.std.proofs.lemmas.Option.{same_Some}
use Rattle.std.proofs.lemmas.List.{take_all, take_more, get_or_default, length-take-le, get_or-take}
use Rattle.std.proofs.lemmas.List.Elements.{Contains-push_cases, Contains-push, Contains-append_left}
use Rattle.profile.specs.series.Rules.{Rule, IsNextDay, NoDayFrom}
use Rattle.profile.specs.series.Zones.{Means, IsOneMeaning, local_time}
use Rattle.profile.specs.events.EventComponents.{EventComponent}
use Rattle.profile.specs.events.EventRules.{IsOnDay}
use Rattle.profile.specs.events.ZonedTimes.{clock_of}
use Rattle.profile.specs.events.Starts.{IsGiven, IsRuleStart}
use Rattle.cal_events.specs.Clocks.{IsAscending}
use Rattle.cal_events.specs.MeetingComponents.{IsInEventDates}
use Rattle.cal_events.specs.Instances.{IsAfter, IsWanted, NoneBefore}
use Rattle.cal_events.specs.SingleStarts.{IsOnRule, IsSingleStart, AreSingleStarts, IsCandidate, IsLast, IsLeftOver}
use Rattle.cal_events.specs.declared.instances.Bound.{Bound}
use Rattle.cal_events.proofs.shared_lemmas.HiddenLemmas.{AreKept, kept_more, kept_past}
use Rattle.cal_events.proofs.shared_lemmas.InOneOrder.{none_in, append_pairs}
use Rattle.cal_events.proofs.instants_lemmas.InOrder.{far}
use Rattle.cal_events.proofs.shared_lemmas.InstanceLemmas.{none_earlier, one_second}

-- ---- candidates

module _ (master : EventComponent) (xs sorted : List ℤ) (same : (t : ℤ) → Contains sorted t ↔ Contains xs t) where
  there : (t : ℤ) → Contains sorted t → Contains xs t
  there t c = (same t).0 c

  back : (t : ℤ) → Contains xs t → Contains sorted t
  back t c = (same t).1 c

  pub with_dtstart : master.rule ≡ None → xs ≡ master.additions ++ master.times.start ∷ [] → (t : ℤ) → Contains sorted t ↔ IsCandidate master t
  with_dtstart none is t = (
    (λ c. elim (Contains-push_cases master.additions master.times.start t (subst (λ (l : List ℤ). Contains l t) is (there t c))) [ inl old ↦ inr old | inr same ↦ inl (none, sym same) ]),
    λ h. back t (subst (λ (l : List ℤ). Contains l t) (sym is) (elim h [
      | inl it ↦ subst (Contains (master.additions ++ master.times.start ∷ [])) (sym it.1) (Contains-push master.additions master.times.start)
      | inr old ↦ Contains-append_left master.additions (master.times.start ∷ []) t old
    ])),
  )

  pub without_dtstart : is_some master.rule ≡ true → xs ≡ master.additions → (t : ℤ) → Contains sorted t ↔ IsCandidate master t
  without_dtstart some is t = (
    (λ c. inr (subst (λ (l : List ℤ). Contains l t) is (there t c))),
    λ h. back t (subst (λ (l : List ℤ). Contains l t) (sym is) (elim h [
      | inl it ↦ absurd (false≢true (sym (ap (λ (o : Option Rule). is_some o) it.0) ∙ some))
      | inr old ↦ old
    ])),
  )

-- ---- whether a rule gives an instant

abbrev pub at : ℤ → Bound
at instant = record { start = instant; slot = None }

pub wanted_at : (master : EventComponent) (instant : ℤ) → IsInEventDates instant → (Contains master.exceptions instant → ⊥) → IsWanted master [] (at instant) instant
wanted_at master instant named not = record { after = inr (refl, tt); in_dates = named; not_excepted = not; not_replaced = λ r. none_in _ r.among }

pub early_unwanted : (master : EventComponent) (instant start : ℤ) → start <ℤ instant → IsWanted master [] (at instant) start → ⊥
early_unwanted master instant start less w = go w.after
  where
    go : IsAfter (at instant) start start → ⊥
    go (inl l) = omega (arith, ints, l, less)
    go (inr (e, _)) = omega (arith, ints, e, less)

module _ (master : EventComponent) (instant : ℤ) (rule : Rule) (is : master.rule ≡ Some rule) (one : IsOneMeaning (clock_of master.times.zone))
    (first second : ℕ) (on : IsOnDay master.times.local first second) (from : ℕ) (none : NoneBefore master [] (at instant) from)
    (wanted : IsWanted master [] (at instant) instant) where
  pub gives : (found : ℕ) → IsNextDay rule from found → (start : ℤ) → Means (clock_of master.times.zone) (local_time found second) start → start ≡ instant → IsOnRule master instant
  gives found next start means e =
      (rule, is, record { first = first; second = second; on = on; day = found; listed = next.holds; means = subst (Means (clock_of master.times.zone) (local_time found second)) e means })

  -- what the rule gives, on the clock of the first
  means_too : (r : IsRuleStart master.times rule instant) → Means (clock_of master.times.zone) (local_time r.day second) instant
  means_too r = subst (λ (x : ℕ). Means (clock_of master.times.zone) (local_time r.day x) instant) (one_second master.times.local r.first first r.second second r.on on) r.means

  it_gives : IsOnRule master instant → IsRuleStart master.times rule instant
  it_gives (other, e, r) = subst (λ (x : Rule). IsRuleStart master.times x instant) (same_Some other rule (sym e ∙ is)) r

  pub gives_not : IsAscending (clock_of master.times.zone) → (found : ℕ) → IsNextDay rule from found → (start : ℤ) → Means (clock_of master.times.zone) (local_time found second) start → instant <ℤ start
      → IsOnRule master instant → ⊥
  gives_not up found next start means less h =
      let r = it_gives h in
      elim (cases_order r.day found) [
        | inl same ↦
            let e = one (local_time found second) instant start (subst (λ (x : ℕ). Means (clock_of master.times.zone) (local_time x second) instant) same (means_too r)) means in omega (arith, ints, e, less)
        | inr x ↦ elim x [
          | inl before ↦ none_earlier master [] (at instant) rule is one first second on from none found next r.day before r.listed instant (means_too r) wanted
          | inr after ↦ let l : start <ℤ instant = up (local_time found second) (local_time r.day second) start instant means (means_too r) (omega (arith, ints, after)) in omega (arith, ints, l, less)
        ]
      ]

  pub gives_none : NoDayFrom rule from → IsOnRule master instant → ⊥
  gives_none rest h =
      let r = it_gives h in
      elim (cases_order r.day from) [
        | inl same ↦ true≢false (sym r.listed ∙ rest r.day (omega (arith, same)))
        | inr x ↦ elim x [
          | inl less ↦ none rule is r.first r.second r.day r.on less r.listed instant r.means wanted
          | inr more ↦ true≢false (sym r.listed ∙ rest r.day (omega (arith, more)))
        ]
      ]

-- ---- whether a candidate is left over

module _ (master : EventComponent) (hidden : List ℤ) (instant : ℤ) (r : Bool) (same : (t : ℤ) → Contains hidden t ↔ Contains master.exceptions t) where
  pub left_over : IsInEventDates instant × (Contains hidden instant → ⊥) → IsTrue r ↔ IsOnRule master instant → IsTrue (not r) ↔ IsLeftOver master instant
  left_over (named, none) on = (
    (λ h. (named, (λ c. none ((same instant).1 c)), λ given. both r h (on.1 given))),
    λ h. neither r (λ t. h.2 (on.0 t)),
  )
    where
      both : (r : Bool) → not r ≡ true → r ≡ true → ⊥
      both true h k = false≢true h
      both false h k = false≢true k

      neither : (r : Bool) → (r ≡ true → ⊥) → not r ≡ true
      neither true h = absurd (h refl)
      neither false h = refl

  pub not_left_over : r ≡ false → IsTrue r ↔ (IsInEventDates instant × (Contains hidden instant → ⊥)) → IsTrue r ↔ IsLeftOver master instant
  not_left_over isnt starts = (
    (λ h. absurd (true≢false (sym h ∙ isnt))),
    λ h. starts.1 (h.0, λ c. h.1 ((same instant).0 c)),
  )

-- ---- one candidate after another

-- those so far
pub record AreSoFar (master : EventComponent) (xs starts : List ℤ) : Type 0 where
  pub kept : AreKept (IsLeftOver master) xs starts
  pub ascending : AllPairs ◌<ℤ◌ starts

-- the last of ascending ones is the greatest
below_last : (starts : List ℤ) (t x : ℤ) → AllPairs ◌<ℤ◌ starts → Contains starts t → ((u : ℤ) → Contains starts u → u ≤ℤ x) → (IsLast starts x → ⊥) → t <ℤ x
below_last starts t x up (k, w, e) most not =
    let n = length starts - 1 in
    let last = get_or starts n x in
    let within : n < length starts = omega (arith, w) in
    let le : last ≤ℤ x = most last (n, within, get_or_default starts n last x within) in
    let ne : last ≡ x → ⊥ = λ same. not (omega (arith, w), same) in
    let less : last <ℤ x = strict last x le ne in
    elim (cases_order k n) [
      | inl same ↦ let here : t ≡ last = sym e ∙ ap (λ j. get_or starts j t) same ∙ get_or_default starts n t x within in omega (arith, ints, here, less)
      | inr o ↦ elim o [
        | inl before ↦ let l : t <ℤ last = subst (λ (y : ℤ). y <ℤ last) e (subst (λ (y : ℤ). get_or starts k t <ℤ y) (get_or_default starts n t x within) (up k n t before within)) in omega (arith, ints, l, less)
        | inr after ↦ absurd (omega (arith, after, w))
      ]
    ]
  where
    strict : (a b : ℤ) → a ≤ℤ b → (a ≡ b → ⊥) → a <ℤ b
    strict a b le ne = by_lt_z a b (λ l. l) (λ m. absurd (ne (omega (arith, ints, le, m))))

module _ (master : EventComponent) (xs starts : List ℤ) (up : IsSorted int_cmp xs) (k : ℕ) (x : ℤ) (w : k < length xs) (e : get_or xs k x ≡ x) (h : AreSoFar master (take k xs) starts) where
  -- those so far aren't later
  most : (u : ℤ) → Contains starts u → u ≤ℤ x
  most u c =
      let at = ((h.kept u).0 c).0 in
      let j = at.0 in
      let lt : j < k = omega (arith, at.1, length-take-le k xs (omega (arith, w))) in
      let is : get_or xs j u ≡ u = sym (get_or-take k xs j u lt) ∙ at.2 in
      let f = far xs up j k u (omega (arith, lt)) w in
      omega (arith, ints, f, is, get_or_default xs k u x w, e)

  pub one_more : (new : List ℤ) → new ≡ starts ++ x ∷ [] → (IsLast starts x → ⊥) → IsLeftOver master x → AreSoFar master (take (k + 1) xs) new
  one_more new is not p = record {
    kept = kept_more (IsLeftOver master) xs starts k x w e h.kept new is p;
    ascending = subst (λ (l : List ℤ). AllPairs ◌<ℤ◌ l) (sym is)
        (append_pairs ◌<ℤ◌ starts (x ∷ []) h.ascending (λ i j d l v. absurd (omega (arith, l, v)))
        (λ a b c d. subst (λ (y : ℤ). a <ℤ y) (one_of b d) (below_last starts a x h.ascending c most not)));
  }
    where
      one_of : (b : ℤ) → Contains (x ∷ []) b → x ≡ b
      one_of b (zero, v, f) = f
      one_of b (suc j, v, f) = absurd (omega (arith, v))

  pub none_more : (IsLeftOver master x → ⊥) → AreSoFar master (take (k + 1) xs) starts
  none_more not = record { kept = kept_past (IsLeftOver master) xs starts k x w e h.kept not; ascending = h.ascending }

  -- it was given before
  pub once_more : IsLast starts x → AreSoFar master (take (k + 1) xs) starts
  once_more last = record { kept = kept_again; ascending = h.ascending }
    where
      in_starts : Contains starts x
      in_starts = (length starts - 1, omega (arith, last.0), last.1)

      kept_again : AreKept (IsLeftOver master) (take (k + 1) xs) starts
      kept_again t = (
        (λ c. let a = (h.kept t).0 c in (subst (λ (l : List ℤ). Contains l t) (sym grown) (Contains-append_left (take k xs) (x ∷ []) t a.0), a.1)),
        λ c. elim (Contains-push_cases (take k xs) x t (subst (λ (l : List ℤ). Contains l t) grown c.0)) [
          | inl old ↦ (h.kept t).1 (old, c.1)
          | inr same ↦ subst (Contains starts) same in_starts
        ],
      )
        where
          grown : take (k + 1) xs ≡ take k xs ++ x ∷ []
          grown = take_more xs k x w ∙ ap (λ y. take k xs ++ y ∷ []) e

-- all candidates
pub all_starts : (master : EventComponent) (xs starts : List ℤ) (k : ℕ) → length xs ≤ k → ((t : ℤ) → Contains xs t ↔ IsCandidate master t) → AreSoFar master (take k xs) starts → AreSingleStarts master starts
all_starts master xs starts k le are h =
    let kept = subst (λ (l : List ℤ). AreKept (IsLeftOver master) l starts) (take_all k xs le) h.kept in
    record {
      each = λ i d w. one (get_or starts i d) ((kept (get_or starts i d)).0 (i, w, get_or_default starts i (get_or starts i d) d w));
      ascending = h.ascending;
      all = λ t s. (kept t).1 ((are t).1 (candidate t s.1 s.0.given), (s.0.in_dates, s.0.not_excepted, s.1));
    }
  where
    at_all : (t : ℤ) → IsCandidate master t → IsGiven master.times master.rule t ⊎ Contains master.additions t
    at_all t (inl (none, it)) = inl (subst (λ (r : Option Rule). IsGiven master.times r t) (sym none) it)
    at_all t (inr added) = inr added

    one : (t : ℤ) → Contains xs t × IsLeftOver master t → IsSingleStart master t
    one t (c, (named, not, apart)) = (record { given = at_all t ((are t).0 c); in_dates = named; not_excepted = not; not_replaced = λ r. none_in _ r.among }, apart)

    candidate : (t : ℤ) → (IsOnRule master t → ⊥) → IsGiven master.times master.rule t ⊎ Contains master.additions t → IsCandidate master t
    candidate t apart (inr added) = inr added
    candidate t apart (inl given) = go master.rule refl given
      where
        go : (r : Option Rule) → master.rule ≡ r → IsGiven master.times r t → IsCandidate master t
        go None e g = inl (e, g)
        go (Some rule) e g = absurd (apart (rule, e, g))
