use Rattle.std.proofs.Common.{◌≡◌, drop}
use Rattle.ical_lines.specs.Cut.{rest_after, begun_after, fresh}
use Rattle.ical_lines.proofs.object_end.cut.Given as goal

abbrev pub invariant-loop-place : goal.invariant-loop-place
invariant-loop-place l = record {
  rest : rest_after l.cutter (drop l.place l.bytes) ≡ rest_after fresh l.bytes;
  begun : begun_after l.cutter (drop l.place l.bytes) ≡ begun_after fresh l.bytes;
}
