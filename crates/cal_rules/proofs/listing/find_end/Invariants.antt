use Rattle.std.proofs.Common.{◌≡◌, ◌≤◌, ◌-◌}
use Rattle.profile.specs.series.Days.{day_index}
use Rattle.profile.specs.series.Rules.{is_counted, count_days}
use Rattle.cal_rules.specs.Views.{pattern_of, rule_said}
use Rattle.cal_rules.specs.Cursors.{IsCursorOf}
use Rattle.cal_rules.proofs.listing.find_end.Given as goal

abbrev pub invariant-loop-done : goal.invariant-loop-done
invariant-loop-done l = record {
  is_cursor : IsCursorOf (pattern_of l.written l.start.index) l.cursor;
  low : l.start.index ≤ l.cursor.day.index;
  count : count_days (is_counted (rule_said l.written l.start.index (day_index l.last))) l.start.index (l.cursor.day.index - l.start.index) ≡ l.done;
}
