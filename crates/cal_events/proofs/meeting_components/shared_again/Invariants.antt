use Rattle.std.proofs.Common.{◌≤◌, ◌<◌, ◌-◌, length}
use Rattle.cal_events.proofs.meeting_components.shared_again.Given as goal

abbrev pub invariant-loop-apart : goal.invariant-loop-apart
invariant-loop-apart l = (1 ≤ l.apart) × (l.apart < l.shared) × (l.shared ≤ length l.components)

abbrev pub decreases-loop-apart : goal.decreases-loop-apart
decreases-loop-apart l = l.shared - l.apart
