use Rattle.std.proofs.Common.{◌≡◌, ◌<◌, ◌≤◌, ◌-◌}
use Rattle.profile.specs.series.Rules.{passes, count_days}
use Rattle.cal_rules.specs.Views.{pattern_of}
use Rattle.cal_rules.specs.Known.{AreFacts}
use Rattle.cal_rules.proofs.listing.count_passing.Given as goal

abbrev pub invariant-loop-day : goal.invariant-loop-day
invariant-loop-day l = record {
  facts : l.day.index < l.end → AreFacts l.day;
  low : l.fn.from.index ≤ l.day.index;
  high : l.day.index ≤ l.end;
  small : l.count ≤ l.day.index;
  count : l.count ≡ count_days (passes (pattern_of l.written l.start.index)) l.fn.from.index (l.day.index - l.fn.from.index);
}

abbrev pub decreases-loop-day : goal.decreases-loop-day
decreases-loop-day l = l.end - l.day.index
