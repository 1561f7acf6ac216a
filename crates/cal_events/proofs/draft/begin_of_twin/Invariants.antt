use Rattle.std.proofs.Common.{◌≤◌, ◌<◌, ◌-◌, length}
use Rattle.cal_events.proofs.draft.begin_of_twin.Given as goal

abbrev pub invariant-loop-apart : goal.invariant-loop-apart
invariant-loop-apart l = (1 ≤ l.apart) × (l.apart < l.twins) × (l.twins ≤ length l.begins)

abbrev pub decreases-loop-apart : goal.decreases-loop-apart
decreases-loop-apart l = l.twins - l.apart
