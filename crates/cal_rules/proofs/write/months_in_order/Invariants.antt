use Rattle.std.proofs.Common.{take}
use Rattle.cal_rules.proofs.Sorting.{ArePlaces}
use Rattle.cal_rules.proofs.write.months_in_order.Given as goal

-- the places of those that were seen
abbrev pub invariant-loop-month : goal.invariant-loop-month
invariant-loop-month l = ArePlaces (λ x. x) 1 12 (take l.month-index l.months) l.places.items
