-- The last day of a rule up to one.
-- Cited by Rule::last_not_after of rule.
use Rattle.std.proofs.Common.{◌≡◌, ap, ℕ, ◌+◌, ◌<◌, false, ◌&&◌, inl, inr, arith}
use Rattle.std.proofs.lemmas.Bool.{cases_lt}
use Rattle.profile.specs.series.Rules.{Rule, is_rule_day, is_within_count}
use Rattle.cal_rules.specs.Counted.{NoneIn}
use Rattle.cal_rules.specs.LastDays.{NoDayTo}
use Rattle.cal_rules.proofs.Counting.{counted_early}

-- none is before DTSTART
rule_day_early : (r : Rule) (n : ℕ) → n < r.pattern.start → is_rule_day r n ≡ false
unfolding is_rule_day
rule_day_early r n h = ap (λ b. b && is_within_count r n) (counted_early r n h)

-- none from DTSTART on, so none
pub none_to : (r : Rule) (start to : ℕ) → start ≡ r.pattern.start → NoneIn (is_rule_day r) start (to + 1) → NoDayTo r to
none_to r start to is none n h = elim (cases_lt n start) [
  | inl early ↦ rule_day_early r n (omega (arith, is, early))
  | inr from ↦ none n from (omega (arith, h))
]
