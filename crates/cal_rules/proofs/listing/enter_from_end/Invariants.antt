use Rattle.std.proofs.Common.{◌≡◌, ◌≤◌, ◌-◌}
use Rattle.profile.specs.series.Rules.{passes, count_days}
use Rattle.cal_rules.specs.Views.{pattern_of}
use Rattle.cal_rules.specs.Known.{AreFacts}
use Rattle.cal_rules.proofs.listing.enter_from_end.Given as goal

abbrev pub invariant-loop-here : goal.invariant-loop-here
invariant-loop-here l = record {
  facts : AreFacts l.here;
  low : l.day.index ≤ l.here.index;
  high : l.here.index ≤ l.span.end;
  count : l.later ≡ count_days (passes (pattern_of l.written l.start.index)) l.here.index (l.span.end - l.here.index);
}

abbrev pub decreases-loop-here : goal.decreases-loop-here
decreases-loop-here l = l.here.index
