use Rattle.std.proofs.Common.{◌≡◌, ◌++◌, ℕ, List}
use Rattle.profile.specs.series.RuleTexts.{rule_parts}
use Rattle.cal_rules.specs.Taken.{ArePartsTaken}
use Rattle.cal_rules.proofs.Cuts.{Leaves}
use Rattle.cal_rules.proofs.text.RuleText.read.Given as goal

-- the parts that were taken, and those that are left, are all
abbrev pub invariant-loop-part : goal.invariant-loop-part
invariant-loop-part l =
    (left : List (List ℕ)) × Leaves l.part-iterator left × (done : List (List ℕ)) × (rule_parts l.text ≡ done ++ left) × ArePartsTaken done l.parts
