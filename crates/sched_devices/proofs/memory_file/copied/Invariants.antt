use Rattle.std.proofs.Common.{◌≡◌, ◌++◌, drop}
use Rattle.sched_devices.proofs.memory_file.copied.Given as goal

abbrev pub invariant-loop-file : goal.invariant-loop-file
invariant-loop-file l = l.copies.items ++ drop l.file-index l.files ≡ l.files
