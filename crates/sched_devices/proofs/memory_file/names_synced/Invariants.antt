use Rattle.std.proofs.Common.{◌≡◌, ◌++◌, map, drop}
use Rattle.sched_devices.specs.Memory.{with_name_synced}
use Rattle.sched_devices.proofs.memory_file.names_synced.Given as goal

abbrev pub invariant-loop-file : goal.invariant-loop-file
invariant-loop-file l = l.synced.items ++ map with_name_synced (drop l.file-index l.files) ≡ map with_name_synced l.files
