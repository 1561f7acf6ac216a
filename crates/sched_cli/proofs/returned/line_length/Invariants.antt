use Rattle.std.proofs.Common.{◌≡◌, drop}
use Rattle.sched_cli.specs.Returned.{after_line}
use Rattle.sched_cli.proofs.returned.line_length.Given as goal

abbrev pub invariant-loop-place : goal.invariant-loop-place
invariant-loop-place l = after_line (drop l.place l.octets) ≡ after_line l.octets
