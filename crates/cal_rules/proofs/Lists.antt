-- The rule days from a day on, as a list.
use Rattle.std.proofs.Common.{◌≡◌, refl, ℕ, zero, suc, ◌+◌, ◌-◌, ◌<◌, ◌≤◌, Bool, true, false, IsTrue, List, [], ◌∷◌, length, filter, arith}
use Rattle.std.proofs.lemmas.Bool.{and_parts}
use Rattle.std.proofs.lemmas.Bool.Decides.{nat_tests}
use Rattle.std.specs.List.{range_with_len}
use Rattle.profile.specs.series.Rules.{Rule, RuleText, is_in_range, is_rule_day, is_counted, rule_days_from, NoDayFrom, IsNextDay, last_rule_day}
use Rattle.cal_rules.proofs.Counting.{counted_bound}

-- INTERVAL is at least 1
pub interval_low : (t : RuleText) → IsTrue (is_in_range t) → 1 ≤ t.interval
unfolding is_in_range
interval_low t h = grind (arith, nat_tests)

filter_none : (test : ℕ → Bool) (from days : ℕ) → ((n : ℕ) → from ≤ n → test n ≡ false) → filter test (range_with_len from days) ≡ []
filter_none test from zero h = refl
filter_none test from (suc days) h =
    rw (h from (omega arith)) (filter_none test (from + 1) days (λ n k. h n (omega arith)))

filter_next : (test : ℕ → Bool) (from gap days : ℕ) → ((n : ℕ) → from ≤ n → n < from + gap → test n ≡ false) → test (from + gap) ≡ true → filter test (range_with_len from (gap + suc days)) ≡ (from + gap) ∷ filter test (range_with_len (from + gap + 1) days)
filter_next test from zero days least here =
    let e : 0 + suc days ≡ suc days = omega arith in
    let k : from + 0 ≡ from = omega arith in
    let there : test from ≡ true = rw k at here in
    rw (e, k, there) refl
filter_next test from (suc gap) days least here =
    let e : suc gap + suc days ≡ suc (gap + suc days) = omega arith in
    let k : from + suc gap ≡ from + 1 + gap = omega arith in
    let out : test from ≡ false = least from (omega arith) (omega arith) in
    rw (e, k, out) (filter_next test (from + 1) gap days (λ n a b. least n (omega arith) (omega arith)) (rw k at here))

pub no_days : (r : Rule) (from : ℕ) → NoDayFrom r from → rule_days_from r from ≡ []
unfolding rule_days_from
no_days r from h = filter_none (is_rule_day r) from (last_rule_day + 1 - from) h

pub counted_rule_day : (r : Rule) (n : ℕ) → is_rule_day r n ≡ true → is_counted r n ≡ true
unfolding is_rule_day
counted_rule_day r n h = (and_parts _ _ h).0

pub days_after : (r : Rule) (from day after : ℕ) → IsNextDay r from day → after ≡ day + 1 → rule_days_from r from ≡ day ∷ rule_days_from r after
unfolding rule_days_from
days_after r from day after h e =
    let low = h.not_before in
    let high = (counted_bound r day (counted_rule_day r day h.holds)).1 in
    let whole : last_rule_day + 1 - from ≡ day - from + suc (last_rule_day - day) = omega arith in
    let rest : last_rule_day + 1 - after ≡ last_rule_day - day = omega arith in
    let place : from + (day - from) ≡ day = omega arith in
    rw (whole, rest, e) (rw place at (filter_next (is_rule_day r) from (day - from) (last_rule_day - day) (λ n a b. h.least n a (omega arith)) (rw place h.holds)))

pub shorter : (days rest : List ℕ) (day : ℕ) → days ≡ day ∷ rest → length rest < length days
shorter days rest day e = rw e (omega arith)
