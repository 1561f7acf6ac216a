-- The least common multiple, found by counting multiples of one number.
use Rattle.std.proofs.Common.{◌≡◌, ◌∙◌, ap, sym, refl, inl, inr, ℕ, zero, suc, ◌*◌, ◌/◌, ◌%◌, ◌<◌, ◌≤◌, arith}
use Rattle.std.proofs.Math.Nat.{mul-mod_left, mul-le-mul_right, le-div_iff_mul-le}
use Rattle.std.proofs.lemmas.Nat.{div-add-mod'}
use Rattle.std.proofs.lemmas.Bool.{cases_lt}
use Rattle.std.specs.Prelude.{MatchOption, Option, None, Some}
use Rattle.profile.specs.series.Periods.{IsMultiple, IsLeastMultiple, HasNoMultiple, most_period}
use Rattle.cal_rules.specs.Shifting.{IsLeastCount, HasNoCount, HasNoCycle}

-- a multiple leaves no rest
no_rest : (n b : ℕ) → IsMultiple n b → n % b ≡ 0
no_rest n b (k, e) = ap (λ x. x % b) e ∙ mul-mod_left k b

pub some_times : (k a n : ℕ) → 0 < n → n ≡ k * a → 0 < k
some_times zero a n h e = let z : 0 * a ≡ 0 = omega arith in absurd (omega (arith, h, e, z))
some_times (suc k) a n h e = omega arith

pub least_count : (a b most count : ℕ) → 1 ≤ count → count ≤ most → count * a % b ≡ 0 → ((m : ℕ) → 1 ≤ m → m < count → m * a % b ≡ 0 → ⊥) → IsLeastCount a b most count
least_count a b most count begun few e none = record {
  some = omega (arith, begun);
  few = few;
  multiple = (count * a / b, (let d = div-add-mod' (count * a) b in omega (arith, d, e)));
  least = λ n some multiple. elim (cases_lt n count) [
    | inl less ↦ absurd (none n (omega (arith, some)) less (no_rest (n * a) b multiple))
    | inr least ↦ least
  ];
}

pub no_count : (a b most count : ℕ) → most < count → ((m : ℕ) → 1 ≤ m → m < count → m * a % b ≡ 0 → ⊥) → HasNoCount a b most
no_count a b most count past none n some few multiple = none n (omega (arith, some)) (omega (arith, few, past)) (no_rest (n * a) b multiple)

pub least_multiple : (a b most count : ℕ) → 0 < a → IsLeastCount a b most count → IsLeastMultiple a b (count * a)
least_multiple a b most count h k = record {
  some = let s = k.some in let m = mul-le-mul_right {m = 1} {n = count} a (omega (arith, s)) in let o : 1 * a ≡ a = omega arith in omega (arith, m, o, h);
  of_first = (count, refl);
  of_second = k.multiple;
  least = λ n some first second.
      let f = first.1 in
      let l = k.least first.0 (some_times first.0 a n some f) (second.0, sym f ∙ second.1) in
      let m = mul-le-mul_right {m = count} {n = first.0} a l in
      omega (arith, m, f);
}

pub no_multiple : (a b : ℕ) → 0 < a → HasNoCount a b (2_932_897 / a) → HasNoMultiple a b
no_multiple a b h none n some first second = elim (cases_lt most_period n) [
  | inl less ↦ less
  | inr most ↦
      let f = first.1 in
      let few : first.0 ≤ 2_932_897 / a = (le-div_iff_mul-le {k = a} {x = first.0} {y = 2_932_897} h).1 (omega (arith, most, f)) in
      absurd (none first.0 (some_times first.0 a n some f) few (second.0, sym f ∙ second.1))
]

pub few_days : (a count : ℕ) → 0 < a → count ≤ 2_932_897 / a → count * a ≤ most_period
few_days a count h few = (le-div_iff_mul-le {k = a} {x = count} {y = 2_932_897} h).0 few

-- in either order
pub swapped : (a b days : ℕ) → IsLeastMultiple b a days → IsLeastMultiple a b days
swapped a b days m = record { some = m.some; of_first = m.of_second; of_second = m.of_first; least = λ n some first second. m.least n some second first }

pub none_swapped : (a b : ℕ) → HasNoMultiple b a → HasNoMultiple a b
none_swapped a b h n some first second = h n some second first

pub either_order : (a b : ℕ) (found : Option ℕ) → MatchOption found (HasNoMultiple b a) (IsLeastMultiple b a) → MatchOption found (HasNoMultiple a b) (IsLeastMultiple a b)
either_order a b None h = none_swapped a b h
either_order a b (Some days) h = swapped a b days h

pub within : (a most count : ℕ) → count ≤ most → count * a ≤ most * a
within a most count h = mul-le-mul_right a h

pub no_cycle : (periods interval : ℕ) → HasNoCount periods interval 20 → HasNoCycle periods interval
no_cycle periods interval none q some multiple = elim (cases_lt 20 q) [
  | inl more ↦ omega (arith, more)
  | inr few ↦ absurd (none q some few multiple)
]

-- none of a number that isn't 0 is a multiple of 0
pub none_of_zero : (a b most : ℕ) → 0 < a → b ≡ 0 → HasNoCount a b most
none_of_zero a b most h none n some few (k, e) =
    let z : k * b ≡ 0 = ap (λ x. k * x) none ∙ (omega arith) in
    let m = mul-le-mul_right {m = 1} {n = n} a (omega (arith, some)) in
    let o : 1 * a ≡ a = omega arith in
    omega (arith, m, o, h, e, z)
