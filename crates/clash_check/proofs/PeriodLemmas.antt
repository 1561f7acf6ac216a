-- Whether series do the same after so many days, from an instant on, and how long the longest of them last.
use Rattle.std.proofs.Common.{◌≡◌, ◌∙◌, ap, sym, refl, subst, inl, inr, ◌⊎◌, ℕ, zero, suc, ◌+◌, ◌%◌, ◌/◌, ◌^◌, ◌<◌, ◌≤◌, true, false, Bool, arith, List, [], ◌∷◌, length, get_or, ℤ, pos, ◌≤ℤ◌, ◌<ℤ◌, nat_eq, to_z, of_z, to_z-of_z, w64, FitsSigned}
use Rattle.std.specs.Prelude.{◌↔◌, IsTrue, int_le, Contains}
use Rattle.std.specs.Int.{int_max}
use Rattle.std.proofs.lemmas.Int.{ints, by_lt_z}
use Rattle.std.proofs.lemmas.Bool.{cases_lt, true≢false, false≢true}
use Rattle.std.proofs.lemmas.Bool.Decides.{nat_tests}
use Rattle.std.proofs.lemmas.List.Elements.{Contains-get_or}
use Rattle.std.proofs.lemmas.Nat.{div-add-mod'}
use Rattle.std.proofs.Math.Nat.{mul-mod_left}
use Rattle.profile.specs.checker.Certificates.{IsSeriesAt, AreSeriesAt}
use Rattle.profile.specs.events.Events.{Event}
use Rattle.profile.specs.events.Confirmed.{Confirmed}
use Rattle.profile.specs.events.Spans.{IsPastAll, IsLeastPast, IsPeriodOf, HasNoPeriodOf, IsSpan, IsBoundOf, IsGreatestWidth, IsWidthOf, span_end}
use Rattle.profile.specs.series.Periods.{IsMultiple, most_period}
use Rattle.cal_period.proofs.Spanning.{later_past}
use Rattle.cal_period.proofs.Widths.{greatest_is_one, width_is_one}
use Rattle.clash_check.proofs.PlacedLemmas.{at_number, at_place, number_of}

-- ---- one series

pub multiple_by_rest : (n b : ℕ) → n % b ≡ 0 → IsMultiple n b
multiple_by_rest n b e = (n / b, let d = div-add-mod' n b in omega (arith, d, e))

pub rest_of_multiple : (n b : ℕ) → IsMultiple n b → n % b ≡ 0
rest_of_multiple n b (k, e) = ap (λ x. x % b) e ∙ mul-mod_left k b

eq_of : (x : ℕ) → nat_eq x 0 ≡ true → x ≡ 0
eq_of x h = grind (arith, nat_tests)

to_eq : (x : ℕ) → x ≡ 0 → nat_eq x 0 ≡ true
to_eq x h = grind (arith, nat_tests)

pub multiple_iff : (n b : ℕ) → IsTrue (nat_eq (n % b) 0) ↔ IsMultiple n b
multiple_iff n b = (λ t. multiple_by_rest n b (eq_of (n % b) t), λ m. to_eq (n % b) (rest_of_multiple n b m))

-- it does the same after so many days, from an instant on
abbrev pub DoesAgain : Event → ℤ → ℕ → Type 0
DoesAgain a from days = IsPastAll a from × IsPeriodOf a days

pub repeats_past : (a : Event) (p q : ℤ) (days : ℕ) → FitsSigned w64 p → FitsSigned w64 q → IsLeastPast a p → IsPeriodOf a days
    → IsTrue (int_le (to_z w64 (of_z w64 p)) (to_z w64 (of_z w64 q))) ↔ DoesAgain a q days
repeats_past a p q days f g past period =
    let x : to_z w64 (of_z w64 p) ≡ p = to_z-of_z f in
    let y : to_z w64 (of_z w64 q) ≡ q = to_z-of_z g in
    rw (x, y) (λ t. (later_past a p q (below p q t) past.0, period), λ h. at_most p q (past.1 q h.0))
  where
    below : (p q : ℤ) → int_le p q ≡ true → p ≤ℤ q
    below p q t = grind (arith, ints)

    at_most : (p q : ℤ) → p ≤ℤ q → int_le p q ≡ true
    at_most p q l = grind (arith, ints)

pub repeats_never : (a : Event) (from : ℤ) (days : ℕ) (r : Bool) → r ≡ false → (IsPeriodOf a days → ⊥) → IsTrue r ↔ DoesAgain a from days
repeats_never a from days r e none = (λ t. absurd (true≢false (sym t ∙ e)), λ h. absurd (none h.1))

pub no_period : (a : Event) (days : ℕ) → HasNoPeriodOf a → 0 < days → days ≤ most_period → IsPeriodOf a days → ⊥
no_period a days none some few h = let l = none days some h in omega (arith, l, few)

pub no_multiple : (a : Event) (days period : ℕ) → IsPeriodOf a days ↔ IsMultiple days period → (r : Bool) → IsTrue r ↔ IsMultiple days period → r ≡ false → IsPeriodOf a days → ⊥
no_multiple a days period multiples r iff e h = true≢false (sym (iff.1 (multiples.0 h)) ∙ e)

-- ---- those of some numbers

-- the first n do
abbrev pub DoAgainTo : Confirmed → List ℕ → ℤ → ℕ → ℕ → Type 0
DoAgainTo all numbers from days n = (k : ℕ) → k < n → (a : Event) → IsSeriesAt all (get_or numbers k 0) a → DoesAgain a from days

-- all these do
abbrev pub DoAllAgain : List Event → ℤ → ℕ → Type 0
DoAllAgain those from days = (a : Event) → Contains those a → DoesAgain a from days

-- the place of a number
place_of : (numbers : List ℕ) (i : ℕ) → Contains numbers i → (k : ℕ) × (k < length numbers) × (get_or numbers k 0 ≡ i)
place_of [] i (k, l, e) = absurd (omega (arith, l))
place_of (n ∷ numbers) i (zero, l, e) = (zero, l, e)
place_of (n ∷ numbers) i (suc k, l, e) =
    let (p, m, f) = place_of numbers i (k, omega (arith, l), e) in
    (suc p, omega (arith, m), f)

module _ (all : Confirmed) (numbers : List ℕ) (from : ℤ) (days : ℕ) where
  pub all_again : (n : ℕ) → length numbers ≤ n → DoAgainTo all numbers from days n → (those : List Event) → AreSeriesAt all numbers those → IsTrue true ↔ DoAllAgain those from days
  all_again n past to those are = (
    λ _ a c.
        let (i, has, at) = number_of all numbers those are a c in
        let (k, l, e) = place_of numbers i has in
        to k (omega (arith, l, past)) a (subst (λ p. IsSeriesAt all p a) (sym e) at),
    λ _. refl,
  )

  pub one_not_again : (i : ℕ) → Contains numbers i → (a : Event) → IsSeriesAt all i a → (DoesAgain a from days → ⊥) → (those : List Event) → AreSeriesAt all numbers those
      → IsTrue false ↔ DoAllAgain those from days
  one_not_again i has a at none those are = (λ t. absurd (false≢true t), λ h. absurd (none (h a (at_number all numbers those are i has a at))))

pub span_iff : (those : List Event) (from : ℤ) (days : ℕ) (r : Bool) → (0 < days) × (days ≤ most_period) → IsTrue r ↔ DoAllAgain those from days → IsTrue r ↔ IsSpan those from days
span_iff those from days r d iff = (
  λ t. record { some = d.0; most = d.1; past = λ a c. (iff.0 t a c).0; period = λ a c. (iff.0 t a c).1 },
  λ s. iff.1 (λ a c. (s.past a c, s.period a c)),
)

pub no_span : (those : List Event) (from : ℤ) (days : ℕ) (r : Bool) → r ≡ false → ((0 < days) × (days ≤ most_period) → ⊥) → IsTrue r ↔ IsSpan those from days
no_span those from days r e none = (λ t. absurd (true≢false (sym t ∙ e)), λ s. absurd (none (s.some, s.most)))

-- ---- how long they last

-- the greatest width of the first n, and 0 of none
pub record IsWidestOf (all : Confirmed) (numbers : List ℕ) (n : ℕ) (width : ℤ) : Type 0 where
  pub none : n ≡ 0 → width ≡ pos 0
  pub one : 0 < n → (k : ℕ) × (k < n) × ((a : Event) → IsSeriesAt all (get_or numbers k 0) a → IsWidthOf a width)
  pub most : (k : ℕ) → k < n → (a : Event) (w : ℤ) → IsSeriesAt all (get_or numbers k 0) a → IsWidthOf a w → w ≤ℤ width
  pub least : pos 0 ≤ℤ width
  pub short : width <ℤ pos (2 ^ 50)

max_cases : (p q m : ℤ) → m ≡ int_max p q → ((q <ℤ p) × (m ≡ p)) ⊎ ((p ≤ℤ q) × (m ≡ q))
max_cases p q m e = by_lt_z q p (λ l. inl (l, e ∙ first p q l)) (λ l. inr (l, e ∙ second p q l))
  where
    first : (p q : ℤ) → q <ℤ p → int_max p q ≡ p
    first p q l = grind (arith, ints)

    second : (p q : ℤ) → p ≤ℤ q → int_max p q ≡ q
    second p q l = grind (arith, ints)

module _ (all : Confirmed) (numbers : List ℕ) (n : ℕ) (width other m : ℤ) (so_far : IsWidestOf all numbers n width)
    (is : (a : Event) → IsSeriesAt all (get_or numbers n 0) a → IsWidthOf a other) (least : pos 0 ≤ℤ other) (short : other <ℤ pos (2 ^ 50)) where
  by_new : width <ℤ other → IsWidestOf all numbers (n + 1) other
  by_new less = record {
    none = λ e. absurd (omega (arith, e));
    one = λ _. (n, omega arith, is);
    most = λ k l a w at of. elim (cases_lt k n) [
      | inl was ↦ let h = so_far.most k was a w at of in omega (arith, ints, h, less)
      | inr now ↦
          let e : k ≡ n = omega (arith, l, now) in
          let f = width_is_one a w other of (is a (subst (λ p. IsSeriesAt all (get_or numbers p 0) a) e at)) in
          omega (arith, ints, f)
    ];
    least = least;
    short = short;
  }

  by_old : other ≤ℤ width → IsWidestOf all numbers (n + 1) width
  by_old most = record {
    none = λ e. absurd (omega (arith, e));
    one = λ _. elim (cases_lt 0 n) [
      | inl some ↦ let o = so_far.one some in let l = o.1 in (o.0, omega (arith, l), o.2)
      | inr few ↦
          let e : width ≡ pos 0 = so_far.none (omega (arith, few)) in
          let f : other ≡ width = same_int other width most (omega (arith, ints, least, e)) in
          (n, omega arith, λ a at. subst (IsWidthOf a) f (is a at))
    ];
    most = λ k l a w at of. elim (cases_lt k n) [
      | inl was ↦ so_far.most k was a w at of
      | inr now ↦
          let e : k ≡ n = omega (arith, l, now) in
          let f = width_is_one a w other of (is a (subst (λ p. IsSeriesAt all (get_or numbers p 0) a) e at)) in
          omega (arith, ints, f, most)
    ];
    least = so_far.least;
    short = so_far.short;
  }
    where
      same_int : (a b : ℤ) → a ≤ℤ b → b ≤ℤ a → a ≡ b
      same_int a b l m = omega (arith, ints, l, m)

  pub widest_next : (v : ℤ) → v ≡ other → m ≡ int_max v width → IsWidestOf all numbers (n + 1) m
  widest_next v e f = elim (max_cases other width m (f ∙ ap (λ w. int_max w width) e)) [
    | inl (less, same) ↦ subst (IsWidestOf all numbers (n + 1)) (sym same) (by_new less)
    | inr (most, same) ↦ subst (IsWidestOf all numbers (n + 1)) (sym same) (by_old most)
  ]

pub widest_all : (all : Confirmed) (numbers : List ℕ) (n : ℕ) (width : ℤ) → n ≡ length numbers → IsWidestOf all numbers n width → (those : List Event) → 0 < length numbers
    → AreSeriesAt all numbers those → IsGreatestWidth those width
widest_all all numbers n width e widest those some are = record { one = one; none_greater = none_greater }
  where
    one : (a : Event) × Contains those a × IsWidthOf a width
    one =
        let (k, l, is) = widest.one (omega (arith, e, some)) in
        let (a, c, at) = at_place all numbers those are (get_or numbers k 0) (Contains-get_or numbers k 0 (omega (arith, l, e))) in
        (a, c, is a at)

    none_greater : (a : Event) (w : ℤ) → Contains those a → IsWidthOf a w → w ≤ℤ width
    none_greater a w c of =
        let (i, has, at) = number_of all numbers those are a c in
        let (k, l, f) = place_of numbers i has in
        widest.most k (omega (arith, l, e)) a w (subst (λ p. IsSeriesAt all p a) (sym f) at) of

-- ---- the bound of a span

pub bound_of : (those : List Event) (from width bound t w : ℤ) (days : ℕ) → t ≡ from → w ≡ width → IsGreatestWidth those width → bound ≡ span_end t days w → IsBoundOf those from days bound
bound_of those from width bound t w days e f greatest is = (width, greatest, is ∙ ap (λ x. span_end x days w) e ∙ ap (span_end from days) f)

-- there is one

pub one_bound : (those : List Event) (from : ℤ) (days : ℕ) (x y : ℤ) → IsBoundOf those from days x → IsBoundOf those from days y → x ≡ y
one_bound those from days x y (v, first, e) (w, second, f) = e ∙ ap (span_end from days) (greatest_is_one those v w first second) ∙ sym f
