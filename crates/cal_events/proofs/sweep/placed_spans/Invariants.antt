use Rattle.std.proofs.Common.{◌≡◌, ◌++◌, drop}
use Rattle.cal_events.specs.Sweep.{placed_from}
use Rattle.cal_events.proofs.sweep.placed_spans.Given as goal

-- the spans kept so far and those to come are those of the whole list
abbrev pub invariant-loop-place : goal.invariant-loop-place
invariant-loop-place l = l.placed.items ++ placed_from l.place (drop l.place l.spans) ≡ placed_from 0 l.spans
