use Rattle.std.proofs.Common.{◌==◌, ℕ, List, Some}
use Rattle.std.specs.List.{slice_split}
use Rattle.std.specs.Fn.{FnReturnsAt}
use Rattle.cal_rules.proofs.Cuts.{Leaves}
use Rattle.cal_rules.proofs.Entered.{EntriesRead}
use Rattle.cal_rules.proofs.values.read_list.Given as goal

-- the values so far, and those that are left, are all
abbrev pub invariant-loop-text : goal.invariant-loop-text
invariant-loop-text g l =
    (left : List (List ℕ)) × Leaves l.text-iterator left × EntriesRead (λ text value. FnReturnsAt g.F.Fn l.read text (Some value)) (slice_split (λ c. c == 44) l.list) left l.values.items
