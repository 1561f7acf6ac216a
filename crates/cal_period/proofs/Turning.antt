-- Turns, strides of two series, and what holds by their residues.
use Rattle.std.proofs.Common.{◌≡◌, ◌∙◌, ap, sym, refl, subst, ℕ, zero, suc, ◌*◌, ◌/◌, ◌<◌, ◌≤◌, Bool, true, false, List, Contains, Some, ℤ, arith}
use Rattle.std.specs.Int.{IsGcd}
use Rattle.std.specs.List.Sorted.{IsStrictlyIncreasing}
use Rattle.std.proofs.Math.Nat.{div-le_self, mul_assoc, mul_comm}
use Rattle.std.proofs.lemmas.Nat.{div-add-mod'}
use Rattle.std.proofs.lemmas.Nat.Gcd.{mod-eq-zero_of_dvd}
use Rattle.std.proofs.lemmas.Bool.{true≢false}
use Rattle.std.proofs.lemmas.Option.{same_Some}
use Rattle.profile.specs.series.Periods.{IsLeastMultiple, IsMultiple, HasNoMultiple}
use Rattle.profile.specs.series.Residues.{IsLeastStrideOf, IsStride}
use Rattle.profile.specs.series.Rules.{Pattern, Rule}
use Rattle.profile.specs.events.EventComponents.{EventComponent}
use Rattle.profile.specs.events.Events.{Event}
use Rattle.profile.specs.events.Residues.{AreArcsApart, AreResidues, IsArcsApart, IsLeastStride, IsModulus, IsResidue, IsStrideOf, ResiduesHold}
use Rattle.profile.specs.events.Spans.{IsWidthOf}
use Rattle.profile.specs.checker.Certificates.{AreSettling, NoneSettle}
use Rattle.cal_period.specs.Around.{AreApart, AreAround, IsApart}
use Rattle.cal_period.specs.Strides.{HasLongStride}
use Rattle.cal_period.proofs.Widths.{width_is_one}

-- ---- turns

pub some_divisor : (cycle days g : ℕ) → IsGcd cycle days g → 0 < cycle → 0 < g
some_divisor cycle days zero gcd some =
    let e = div-add-mod' cycle 0 in
    let f = mod-eq-zero_of_dvd 0 gcd.0 in
    let n : cycle / 0 * 0 ≡ 0 = omega arith in
    absurd (omega (arith, e, f, n, some))
some_divisor cycle days (suc g) gcd some = omega arith

pub few_turns : (days g : ℕ) → days ≤ 420 → days / g ≤ 420
few_turns days g few = let l = div-le_self days g in omega (arith, l, few)

module _ (cycle days m g : ℕ) (gcd : IsGcd cycle days g) (is : m ≡ 86_400 * days) (some : 0 < days) where
  whole_days : days ≡ days / g * g
  whole_days = let e = div-add-mod' days g in let f = mod-eq-zero_of_dvd g gcd.1 in omega (arith, e, f)

  whole_cycle : cycle ≡ cycle / g * g
  whole_cycle = let e = div-add-mod' cycle g in let f = mod-eq-zero_of_dvd g gcd.0 in omega (arith, e, f)

  pub some_turns : 0 < days / g
  some_turns = by (days / g) refl
    where
      by : (q : ℕ) → days / g ≡ q → 0 < days / g
      by zero e = let f : days / g * g ≡ 0 * g = ap (λ x. x * g) e in let n : 0 * g ≡ 0 = omega arith in let w = whole_days in absurd (omega (arith, some, w, f, n))
      by (suc q) e = omega (arith, e)

  pub whole_turns : IsMultiple (86_400 * (cycle * (days / g))) m
  whole_turns = (cycle / g, rw is into)
    where
      inner : cycle * (days / g) ≡ cycle / g * days
      inner =
          ap (λ x. x * (days / g)) whole_cycle
          ∙ (mul_assoc (cycle / g) g (days / g) ∙ ap (λ x. cycle / g * x) (mul_comm g (days / g) ∙ sym whole_days))

      into : 86_400 * (cycle * (days / g)) ≡ cycle / g * (86_400 * days)
      into =
          ap (λ x. 86_400 * x) inner
          ∙ (sym (mul_assoc 86_400 (cycle / g) days) ∙ (ap (λ x. x * days) (mul_comm 86_400 (cycle / g)) ∙ mul_assoc (cycle / g) 86_400 days))

-- ---- strides

abbrev Strides : Type 0
Strides = (p : Pattern) (days n : ℕ) → IsLeastStrideOf p days → (IsStride p n → IsMultiple n days) × (IsMultiple n days → IsStride p n)

module _ (law : Strides) (a : Event) (master : EventComponent) (is : a.master ≡ Some master) (rule : Rule) (recurs : master.rule ≡ Some rule) (days : ℕ) (least : IsLeastStrideOf rule.pattern days) where
  pub to_stride : (n : ℕ) → IsMultiple n days → IsStrideOf a n
  to_stride n m = record {
    master = master;
    is = is;
    rule = λ other e. subst (λ (r : Rule). IsStride r.pattern n) (same_Some rule other (sym recurs ∙ e)) ((law rule.pattern days n least).1 m);
  }

  pub from_stride : (n : ℕ) → IsStrideOf a n → IsMultiple n days
  from_stride n s =
      let same : s.master ≡ master = same_Some s.master master (sym s.is ∙ is) in
      (law rule.pattern days n least).0 (s.rule rule (ap (λ (m : EventComponent). m.rule) same ∙ recurs))

pub least_of_both : (a b : Event) (s t days : ℕ) → ((n : ℕ) → IsMultiple n s → IsStrideOf a n) → ((n : ℕ) → IsStrideOf a n → IsMultiple n s)
    → ((n : ℕ) → IsMultiple n t → IsStrideOf b n) → ((n : ℕ) → IsStrideOf b n → IsMultiple n t) → IsLeastMultiple s t days → IsLeastStride a b days
least_of_both a b s t days to from into out m = record {
  some = m.some;
  first = to days m.of_first;
  second = into days m.of_second;
  least = λ n some first second. m.least n some (from n first) (out n second);
}

pub long_of_none : (a b : Event) (s t : ℕ) → ((n : ℕ) → IsStrideOf a n → IsMultiple n s) → ((n : ℕ) → IsStrideOf b n → IsMultiple n t) → HasNoMultiple s t → HasLongStride a b
long_of_none a b s t from out none days least =
    let past = none days least.some (from days least.first) (out days least.second) in
    omega (arith, past)

pub long_of_least : (a b : Event) (days : ℕ) → IsLeastStride a b days → 420 < days → HasLongStride a b
long_of_least a b days least long n other =
    let le = least.least n other.some other.first other.second in
    omega (arith, le, long)

-- ---- residues

pub are_residues : (series : Event) (m : ℕ) (listed ordered : List ℕ) → ((r : ℕ) → (Contains listed r → IsResidue series m r) × (IsResidue series m r → Contains listed r))
    → IsStrictlyIncreasing ordered → ((x : ℕ) → Contains listed x → Contains ordered x) → ((x : ℕ) → Contains ordered x → Contains listed x) → AreResidues series m ordered
are_residues series m listed ordered exact rises keeps adds_none = record {
  ascending = rises;
  exact = λ r. (λ c. (exact r).0 (adds_none r c), λ is. keeps r ((exact r).1 is));
}

pub are_around : (series : Event) (m : ℕ) (residues : List ℕ) → AreResidues series m residues → AreAround m residues
are_around series m residues are = record { ascending = are.ascending; below = λ r c. ((are.exact r).0 c).below }

module _ (a b : Event) (m : ℕ) (modulus : IsModulus m) (first : List ℕ) (of_first : AreResidues a m first) (w : ℤ) (width : IsWidthOf a w) where
  -- one series by itself
  pub own_hold : IsApart m first w → ResiduesHold true a b m
  own_hold apart = record {
    modulus = modulus;
    two = λ e. absurd (true≢false e);
    one = λ _. (w, width, apart.0, λ r s c d. apart.1 r s ((of_first.exact r).1 c) ((of_first.exact s).1 d));
  }

  pub own_apart : ResiduesHold true a b m → IsApart m first w
  own_apart holds = by (holds.one refl)
    where
      by : IsArcsApart a m → IsApart m first w
      by (x, of, narrow, apart) =
          subst (IsApart m first) (width_is_one a x w of width) (narrow, λ r s c d. apart r s ((of_first.exact r).0 c) ((of_first.exact s).0 d))

  -- two series
  module _ (second : List ℕ) (of_second : AreResidues b m second) (v : ℤ) (other : IsWidthOf b v) where
    pub two_hold : AreApart m first w second v → ResiduesHold false a b m
    two_hold apart = record {
      modulus = modulus;
      two = λ _. (w, v, width, other, λ r s c d. apart r s ((of_first.exact r).1 c) ((of_second.exact s).1 d));
      one = λ e. absurd (true≢false (sym e));
    }

    pub two_apart : ResiduesHold false a b m → AreApart m first w second v
    two_apart holds = by (holds.two refl)
      where
        by : AreArcsApart a b m → AreApart m first w second v
        by (x, y, of, there, apart) =
            subst (λ x. AreApart m first x second v) (width_is_one a x w of width)
            (subst (λ y. AreApart m first x second y) (width_is_one b y v there other) (λ r s c d. apart r s ((of_first.exact r).0 c) ((of_second.exact s).0 d)))

-- ---- what settles

pub settling : (own : Bool) (a b : Event) (days m : ℕ) → IsLeastStride a b days → m ≡ 86_400 * days → ResiduesHold own a b m → AreSettling own a b m
settling own a b days m least is holds = (days, least, is, holds)

pub none_long : (own : Bool) (a b : Event) → HasLongStride a b → NoneSettle own a b
none_long own a b long m (days, least, is, holds) =
    let past = long days least in
    let e = holds.modulus.1 in
    let few = holds.modulus.3 in
    omega (arith, past, is, e, few)

pub none_fail : (own : Bool) (a b : Event) (days m : ℕ) → IsLeastStride a b days → m ≡ 86_400 * days → (ResiduesHold own a b m → ⊥) → NoneSettle own a b
none_fail own a b days m least is fails n (others, there, at, holds) =
    let low = least.least others there.some there.first there.second in
    let high = there.least days least.some least.first least.second in
    let same : n ≡ m = omega (arith, low, high, is, at) in
    fails (subst (ResiduesHold own a b) same holds)
