use Rattle.std.proofs.Common.{◌≤◌, ◌-◌}
use Rattle.cal_rules.specs.Views.{pattern_of}
use Rattle.cal_rules.specs.Counted.{NoneIn, is_chosen}
use Rattle.cal_rules.proofs.listing.first_chosen.Given as goal

abbrev pub invariant-loop-index : goal.invariant-loop-index
invariant-loop-index l = record {
  first : 366 ≤ l.index;
  low : l.from ≤ l.index;
  none : NoneIn (is_chosen (pattern_of l.written l.start.index)) l.from l.index;
}

abbrev pub decreases-loop-index : goal.decreases-loop-index
decreases-loop-index l = 4_000_000 - l.index
