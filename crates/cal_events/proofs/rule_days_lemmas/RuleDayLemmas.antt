-- The rule days from a day on, taken one by one.
-- Cited by RuleDays::next, RuleDays::pass, RuleDays::put_back.
use Rattle.std.proofs.Common.{◌≡◌, ◌∙◌, sym, ap, subst, refl, ℕ, zero, suc, ◌+◌, ◌-◌, ◌<◌, ◌≤◌, Bool, true, false, List, [], ◌∷◌, filter, inl, inr, cond, arith}
use Rattle.std.specs.List.{range_with_len}
use Rattle.std.proofs.lemmas.Bool.{cases_order}
use Rattle.std.proofs.lemmas.Bool.Decides.{nat_tests}
use Rattle.profile.specs.series.Rules.{Rule, is_rule_day, is_counted, rule_days_from, NoDayFrom, IsNextDay, last_rule_day}
use Rattle.cal_rules.proofs.Lists.{days_after}

last_of : (r : Rule) (n : ℕ) → is_rule_day r n ≡ true → n ≤ 3_652_424
unfolding is_rule_day is_counted
last_of r n h = grind (arith, nat_tests)

-- of a range the first that passes
record IsFirst (test : ℕ → Bool) (from len day : ℕ) (rest : List ℕ) : Type 0 where
  not_before : from ≤ day
  before_end : day < from + len
  holds : test day ≡ true
  least : (n : ℕ) → from ≤ n → n < day → test n ≡ false
  others : filter test (range_with_len (day + 1) (from + len - (day + 1))) ≡ rest

head_same : (a b : ℕ) (xs ys : List ℕ) → a ∷ xs ≡ b ∷ ys → (a ≡ b) × (xs ≡ ys)
head_same a b xs ys e = (cc, cc)

not_empty : (a : ℕ) (xs : List ℕ) → [] ≡ a ∷ xs → ⊥
not_empty a xs e = cc

first_there : (test : ℕ → Bool) (from len day : ℕ) (rest : List ℕ) → filter test (range_with_len from len) ≡ day ∷ rest → IsFirst test from len day rest
first_there test from zero day rest e = absurd (not_empty day rest e)
first_there test from (suc len) day rest e = go (first_there test (from + 1) len day rest) (test from) refl
  where
    go : (filter test (range_with_len (from + 1) len) ≡ day ∷ rest → IsFirst test (from + 1) len day rest) → (b : Bool) → test from ≡ b → IsFirst test from (suc len) day rest
    go later true is =
        let same = head_same from day (filter test (range_with_len (from + 1) len)) rest (sym (ap (λ b. cond b (from ∷ filter test (range_with_len (from + 1) len)) (filter test (range_with_len (from + 1) len))) is) ∙ e) in
        let left : from + suc len - (day + 1) ≡ len = omega (arith, same.0) in
        record {
          not_before = omega (arith, same.0);
          before_end = omega (arith, same.0);
          holds = subst (λ n. test n ≡ true) same.0 is;
          least = λ n a b. absurd (omega (arith, same.0, a, b));
          others = rw left (subst (λ n. filter test (range_with_len (n + 1) len) ≡ rest) same.0 same.1);
        }
    go later false is =
        let f = later (sym (ap (λ b. cond b (from ∷ filter test (range_with_len (from + 1) len)) (filter test (range_with_len (from + 1) len))) is) ∙ e) in
        let left : from + suc len - (day + 1) ≡ from + 1 + len - (day + 1) = omega arith in
        record {
          not_before = omega (arith, f.not_before);
          before_end = omega (arith, f.before_end);
          holds = f.holds;
          least = λ n a b. elim (cases_order n from) [
            | inl same ↦ subst (λ m. test m ≡ false) (sym same) is
            | inr o ↦ elim o [ inl less ↦ absurd (omega (arith, a, less)) | inr more ↦ f.least n (omega (arith, more)) b ]
          ];
          others = rw left f.others;
        }

none_there : (test : ℕ → Bool) (from len : ℕ) → filter test (range_with_len from len) ≡ [] → (n : ℕ) → from ≤ n → n < from + len → test n ≡ false
none_there test from zero e n a b = absurd (omega (arith, a, b))
none_there test from (suc len) e n a b = go (λ h more. none_there test (from + 1) len h n more (omega (arith, b))) (test from) refl
  where
    go : (filter test (range_with_len (from + 1) len) ≡ [] → from + 1 ≤ n → test n ≡ false) → (c : Bool) → test from ≡ c → test n ≡ false
    go later true is = absurd (not_empty from (filter test (range_with_len (from + 1) len)) (sym e ∙ ap (λ b. cond b (from ∷ filter test (range_with_len (from + 1) len)) (filter test (range_with_len (from + 1) len))) is))
    go later false is = elim (cases_order n from) [
      | inl same ↦ subst (λ m. test m ≡ false) (sym same) is
      | inr o ↦ elim o [
        | inl less ↦ absurd (omega (arith, a, less))
        | inr more ↦ later (sym (ap (λ b. cond b (from ∷ filter test (range_with_len (from + 1) len)) (filter test (range_with_len (from + 1) len))) is) ∙ e) (omega (arith, more))
      ]
    ]

pub none_from : (r : Rule) (from : ℕ) → rule_days_from r from ≡ [] → NoDayFrom r from
unfolding rule_days_from
none_from r from e n a = go (is_rule_day r n) refl
  where
    go : (b : Bool) → is_rule_day r n ≡ b → is_rule_day r n ≡ false
    go false is = is
    go true is = none_there (is_rule_day r) from (last_rule_day + 1 - from) e n a (omega (arith, last_of r n is, a))

pub next_from : (r : Rule) (from day : ℕ) (rest : List ℕ) → rule_days_from r from ≡ day ∷ rest → IsNextDay r from day × (rest ≡ rule_days_from r (day + 1))
unfolding rule_days_from
next_from r from day rest e =
    let f = first_there (is_rule_day r) from (last_rule_day + 1 - from) day rest e in
    let left : from + (last_rule_day + 1 - from) - (day + 1) ≡ last_rule_day + 1 - (day + 1) = omega (arith, f.not_before, f.before_end) in
    (record { not_before = f.not_before; holds = f.holds; least = f.least }, sym (rw left at f.others))

-- ---- the days that are still to be looked at

-- the first was taken
pub first_taken : (r : Rule) (from after day : ℕ) (days rest : List ℕ) → days ≡ rule_days_from r from → days ≡ day ∷ rest → after ≡ day + 1 → IsNextDay r from day × (rest ≡ rule_days_from r after)
first_taken r from after day days rest are e is = let n = next_from r from day rest (sym are ∙ e) in (n.0, n.1 ∙ ap (rule_days_from r) (sym is))

-- there was none
pub none_taken : (r : Rule) (from after : ℕ) (days rest : List ℕ) → days ≡ rule_days_from r from → days ≡ [] → rest ≡ [] → after ≡ from → NoDayFrom r from × (rest ≡ rule_days_from r after)
none_taken r from after days rest are e f is = (none_from r from (sym are ∙ e), f ∙ sym e ∙ are ∙ ap (rule_days_from r) (sym is))

-- and put back
pub first_back : (r : Rule) (from after day : ℕ) (rest : List ℕ) → rest ≡ rule_days_from r after → IsNextDay r from day → after ≡ day + 1 → day ∷ rest ≡ rule_days_from r day
first_back r from after day rest are next is =
    let here : IsNextDay r day day = record { not_before = omega arith; holds = next.holds; least = λ n a b. absurd (omega (arith, a, b)) } in
    ap (λ (l : List ℕ). day ∷ l) are ∙ sym (days_after r day day after here is)
