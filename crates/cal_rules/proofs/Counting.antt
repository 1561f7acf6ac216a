-- Days of a rule apart from COUNT, counted.
use Rattle.std.proofs.Common.{◌≡◌, ◌∙◌, sym, refl, inl, inr, ℕ, zero, suc, ◌+◌, ◌-◌, ◌<◌, ◌≤◌, min, max, Bool, true, false, ◌&&◌, nat_le, Some, None, arith}
use Rattle.std.proofs.lemmas.Bool.{cases_lt, false≢true, and_cases, and_left, and_right}
use Rattle.std.proofs.lemmas.Bool.Decides.{nat_tests}
use Rattle.profile.specs.series.Rules.{Rule, count_days, is_rule_day, is_within_count, is_counted, is_base, is_placed, last_rule_day}
use Rattle.cal_rules.specs.Counted.{NoneIn, IsFirstIn, HasNoDayFrom, NoneBetween, IsNextCounted, RuleEndsAt, is_chosen}

-- no such day before DTSTART
pub counted_early : (r : Rule) (n : ℕ) → n < r.pattern.start → is_counted r n ≡ false
unfolding is_counted
counted_early r n h = grind (arith, nat_tests)

-- nor past the last day
pub counted_late : (r : Rule) (n : ℕ) → min r.last last_rule_day < n → is_counted r n ≡ false
unfolding is_counted
counted_late r n h = grind (arith, nat_tests)

-- nor without a set position
counted_chosen : (r : Rule) (n : ℕ) → is_chosen r.pattern n ≡ false → is_counted r n ≡ false
unfolding is_counted
counted_chosen r n h =
    let within = nat_le r.pattern.start n && nat_le n r.last && nat_le n last_rule_day in
    elim (and_cases (is_base r.pattern n) (is_placed r.pattern n) h) [
      | inl e ↦ and_left (within && is_base r.pattern n) (is_placed r.pattern n) (and_right within (is_base r.pattern n) e)
      | inr e ↦ and_right (within && is_base r.pattern n) (is_placed r.pattern n) e
    ]

-- between the first day and the last one
pub counted_is : (r : Rule) (n : ℕ) → r.pattern.start ≤ n → n ≤ r.last → n ≤ last_rule_day → is_counted r n ≡ is_chosen r.pattern n
unfolding is_counted
counted_is r n a b c =
    let x : nat_le r.pattern.start n ≡ true = grind (arith, nat_tests) in
    let y : nat_le n r.last ≡ true = grind (arith, nat_tests) in
    let z : nat_le n last_rule_day ≡ true = grind (arith, nat_tests) in
    rw (x, y, z) refl

-- the least of these days, by the first base day with a set position
pub none_counted : (r : Rule) (from : ℕ) → NoneIn (is_chosen r.pattern) (max from r.pattern.start) (min r.last last_rule_day + 1) → HasNoDayFrom r from
none_counted r from h n a =
    elim (cases_lt n r.pattern.start) [
      | inl lt ↦ counted_early r n lt
      | inr ge ↦ elim (cases_lt (min r.last last_rule_day) n) [
        | inl past ↦ counted_late r n past
        | inr within ↦ counted_chosen r n (h n (omega arith) (omega arith))
      ]
    ]

pub first_counted : (r : Rule) (from day : ℕ) → IsFirstIn (is_chosen r.pattern) (max from r.pattern.start) (min r.last last_rule_day + 1) day → IsNextCounted r from day
first_counted r from day h =
    let low = h.not_before in
    let high = h.inside in
    record {
      not_before = omega arith;
      counted = counted_is r day (omega arith) (omega arith) (omega arith) ∙ h.holds;
      least = λ n a b. elim (cases_lt n r.pattern.start) [
        | inl lt ↦ counted_early r n lt
        | inr ge ↦ counted_chosen r n (h.least n (omega arith) b)
      ];
    }

pub counted_bound : (r : Rule) (n : ℕ) → is_counted r n ≡ true → (r.pattern.start ≤ n) × (n ≤ last_rule_day)
unfolding is_counted
counted_bound r n h = (grind (arith, nat_tests), grind (arith, nat_tests))

-- COUNTS

-- a day that passes counts once
pub count_here : (test : ℕ → Bool) (from days : ℕ) → test (from + days) ≡ true → count_days test from (suc days) ≡ suc (count_days test from days)
unfolding count_days
count_here test from days h = rw h (omega arith)

-- days that don't pass count nothing
pub count_flat : (test : ℕ → Bool) (from days stride : ℕ) → ((n : ℕ) → from + days ≤ n → n < from + days + stride → test n ≡ false) → count_days test from (days + stride) ≡ count_days test from days
unfolding count_days
count_flat test from days zero h = let e : days + 0 ≡ days = omega arith in rw e refl
count_flat test from days (suc stride) h =
    let e : days + suc stride ≡ suc (days + stride) = omega arith in
    let out : test (from + (days + stride)) ≡ false = h (from + (days + stride)) (omega arith) (omega arith) in
    rw (e, out) (omega (arith, count_flat test from days stride (λ n low high. h n low (omega arith))))

-- more days count no less
pub count_more : (test : ℕ → Bool) (from days stride : ℕ) → count_days test from days ≤ count_days test from (days + stride)
unfolding count_days
count_more test from days zero = let e : days + 0 ≡ days = omega arith in rw e (omega arith)
count_more test from days (suc stride) =
    let e : days + suc stride ≡ suc (days + stride) = omega arith in
    rw e (omega (arith, count_more test from days stride))

pub count_less : (test : ℕ → Bool) (from few many : ℕ) → few ≤ many → count_days test from few ≤ count_days test from many
count_less test from few many h =
    let e : few + (many - few) ≡ many = omega arith in
    rw e at (count_more test from few (many - few))

-- from one day that is counted to the day after the next one
pub count_next : (r : Rule) (from found done : ℕ) → r.pattern.start ≤ from → from ≤ found → count_days (is_counted r) r.pattern.start (from - r.pattern.start) ≡ done → NoneBetween r from found → is_counted r found ≡ true → count_days (is_counted r) r.pattern.start (found + 1 - r.pattern.start) ≡ done + 1
count_next r from found done low order so_far none here =
    let s = r.pattern.start in
    let gap : from - s + (found - from) ≡ found - s = omega arith in
    let flat : count_days (is_counted r) s (found - s) ≡ done =
    (rw gap at (count_flat (is_counted r) s (from - s) (found - from) (λ n a b. none n (omega arith) (omega arith)))) ∙ so_far in
    let place : s + (found - s) ≡ found = omega arith in
    let turn : found + 1 - s ≡ suc (found - s) = omega arith in
    rw turn (omega (arith, count_here (is_counted r) s (found - s) (rw place here), flat))

-- THE END

within_is : (r : Rule) (count n : ℕ) → r.count ≡ Some count → is_within_count r n ≡ nat_le (count_days (is_counted r) r.pattern.start (n + 1 - r.pattern.start)) count
unfolding is_within_count
within_is r count n e = rw e refl

-- where each day that is counted is within COUNT exactly up to the end
from_counted : (r : Rule) (end n : ℕ) → (is_counted r n ≡ true → is_within_count r n ≡ nat_le n end) → is_rule_day r n ≡ (is_counted r n && nat_le n end)
unfolding is_rule_day
from_counted r end n h =
    elim (is_counted r n) as (λ b. is_counted r n ≡ b → (b && is_within_count r n) ≡ (b && nat_le n end)) [
      | true ↦ λ e. h e
      | false ↦ λ e. refl
    ] refl

no_count_within : (r : Rule) (n : ℕ) → r.count ≡ None → is_within_count r n ≡ true
unfolding is_within_count
no_count_within r n e = rw e refl

pub ends_never : (r : Rule) → r.count ≡ None → RuleEndsAt r last_rule_day
ends_never r e n =
    from_counted r last_rule_day n (λ k.
    let bound = counted_bound r n k in
    let within : nat_le n last_rule_day ≡ true = grind (arith, nat_tests) in
    no_count_within r n e ∙ sym within)

pub ends_early : (r : Rule) (count from : ℕ) → r.count ≡ Some count → r.pattern.start ≤ from → count_days (is_counted r) r.pattern.start (from - r.pattern.start) ≤ count → HasNoDayFrom r from → RuleEndsAt r last_rule_day
ends_early r count from e low so_far none n =
    from_counted r last_rule_day n (λ k.
    let s = r.pattern.start in
    let bound = counted_bound r n k in
    elim (cases_lt n from) [
      | inl lt ↦
          let less = count_less (is_counted r) s (n + 1 - s) (from - s) (omega arith) in
          let a : nat_le (count_days (is_counted r) s (n + 1 - s)) count ≡ true = grind (arith, nat_tests) in
          let b : nat_le n last_rule_day ≡ true = grind (arith, nat_tests) in
          within_is r count n e ∙ a ∙ sym b
      | inr ge ↦ absurd (false≢true (sym (none n ge) ∙ k))
    ])

pub ends_at : (r : Rule) (count from : ℕ) → r.count ≡ Some count → r.pattern.start ≤ from → 1 ≤ from → count_days (is_counted r) r.pattern.start (from - r.pattern.start) ≡ count → RuleEndsAt r (from - 1)
ends_at r count from e low first so_far n =
    from_counted r (from - 1) n (λ k.
    let s = r.pattern.start in
    let bound = counted_bound r n k in
    elim (cases_lt n from) [
      | inl lt ↦
          let less = count_less (is_counted r) s (n + 1 - s) (from - s) (omega arith) in
          let a : nat_le (count_days (is_counted r) s (n + 1 - s)) count ≡ true = grind (arith, nat_tests) in
          let b : nat_le n (from - 1) ≡ true = grind (arith, nat_tests) in
          within_is r count n e ∙ a ∙ sym b
      | inr ge ↦
          let less = count_less (is_counted r) s (from - s) (n - s) (omega arith) in
          let place : s + (n - s) ≡ n = omega arith in
          let turn : n + 1 - s ≡ suc (n - s) = omega arith in
          let here = count_here (is_counted r) s (n - s) (rw place k) in
          let a : nat_le (count_days (is_counted r) s (n + 1 - s)) count ≡ false = rw turn (grind (arith, nat_tests)) in
          let b : nat_le n (from - 1) ≡ false = grind (arith, nat_tests) in
          within_is r count n e ∙ a ∙ sym b
    ])
