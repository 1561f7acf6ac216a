use Rattle.std.proofs.Common.{◌≡◌, ◌≤◌, ◌-◌}
use Rattle.cal_rules.specs.Views.{pattern_of}
use Rattle.cal_rules.specs.Counted.{NoneIn, is_chosen}
use Rattle.cal_rules.specs.Cursors.{IsCursorOf}
use Rattle.cal_rules.proofs.listing.go_on.Given as goal

abbrev pub invariant-loop-cursor : goal.invariant-loop-cursor
invariant-loop-cursor l = record {
  is_cursor : IsCursorOf (pattern_of l.written l.start.index) l.cursor;
  span : l.cursor.span ≡ l.fn.from.span;
  low : l.fn.from.day.index ≤ l.cursor.day.index;
  none : NoneIn (is_chosen (pattern_of l.written l.start.index)) l.fn.from.day.index l.cursor.day.index;
}

abbrev pub decreases-loop-cursor : goal.decreases-loop-cursor
decreases-loop-cursor l = l.fn.from.span.end - l.cursor.day.index
