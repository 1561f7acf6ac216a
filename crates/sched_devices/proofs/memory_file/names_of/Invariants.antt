use Rattle.std.proofs.Common.{◌≡◌, ◌++◌, map, drop, string_bytes}
use Rattle.sched_devices.specs.Memory.{names_held}
use Rattle.sched_devices.proofs.memory_file.names_of.Given as goal

-- the names so far and those that are left are all
abbrev pub invariant-loop-file : goal.invariant-loop-file
invariant-loop-file l = map string_bytes l.names.items ++ names_held (drop l.file-index l.files) ≡ names_held l.files
