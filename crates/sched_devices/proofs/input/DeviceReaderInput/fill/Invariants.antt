use Rattle.std.proofs.Common.{◌≡◌, false}
use Rattle.std.specs.Io.KnownBytes.{Keeps}
use Rattle.std.specs.Io.Buffered.{reader_remaining}
use Rattle.sched_devices.proofs.input.DeviceReaderInput.fill.Given as goal

abbrev pub invariant-loop : goal.invariant-loop
invariant-loop g l =
    Keeps (reader_remaining g.R.Read.remaining l.fn.self.reader) (reader_remaining g.R.Read.remaining l.self.reader) × (l.self.failed ≡ l.fn.self.failed)
    × (l.self.ended ≡ false)
