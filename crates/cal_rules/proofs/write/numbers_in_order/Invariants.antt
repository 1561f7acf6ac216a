use Rattle.std.proofs.Common.{take}
use Rattle.profile.specs.series.RuleTexts.{nth_number}
use Rattle.cal_rules.proofs.Sorting.{ArePlaces}
use Rattle.cal_rules.proofs.write.numbers_in_order.Given as goal

-- the places of those that were seen
abbrev pub invariant-loop-number : goal.invariant-loop-number
invariant-loop-number l = ArePlaces nth_number 0 733 (take l.number-index l.numbers) l.places.items
