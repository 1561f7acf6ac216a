use Rattle.std.proofs.Common.{◌-◌, length}
use Rattle.std.specs.Io.KnownBytes.{Consumes}
use Rattle.sched_devices.proofs.disk_folder.read_whole.Given as goal

abbrev pub invariant-loop-reader : goal.invariant-loop-reader
invariant-loop-reader g l = Consumes (g.R.Input.remaining l.fn.reader) (g.R.Input.remaining l.reader) l.octets.items

abbrev pub decreases-loop-reader : goal.decreases-loop-reader
decreases-loop-reader g l = 1_073_741_825 - length l.octets.items
