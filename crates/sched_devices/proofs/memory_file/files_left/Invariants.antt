use Rattle.std.proofs.Common.{◌≡◌, ◌++◌, drop}
use Rattle.sched_devices.specs.Memory.{files_left}
use Rattle.sched_devices.proofs.memory_file.files_left.Given as goal

abbrev pub invariant-loop-file : goal.invariant-loop-file
invariant-loop-file l = l.left.items ++ files_left l.lost l.torn (drop l.file-index l.files) ≡ files_left l.lost l.torn l.files
