use Rattle.std.proofs.Common.{◌≤◌, drop, length, map, string_bytes}
use Rattle.sched_box.specs.Running.{NoneAmong}
use Rattle.sched_box.proofs.folders.place_behind_last.Given as goal

abbrev pub invariant-loop-place : goal.invariant-loop-place
invariant-loop-place l = record {
  within : l.place ≤ length l.files;
  behind : NoneAmong (map string_bytes l.theirs) (drop l.place l.files);
}

abbrev pub decreases-loop-place : goal.decreases-loop-place
decreases-loop-place l = l.place
