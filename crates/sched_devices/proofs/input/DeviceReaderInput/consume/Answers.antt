use Rattle.std.specs.Io.Buffered.{reader_buffer, reader_capacity, reader_inner, reader_remaining}
use Rattle.sched_devices.specs.Taking.{device_follows}
use Rattle.sched_devices.proofs.InputLemmas.{device_taken}
use Rattle.sched_devices.proofs.input.DeviceReaderInput.consume.Goals as goal
use Rattle.std.proofs.Common.{false}

pub returns-clause-taken : goal.returns-clause-taken
returns-clause-taken g c = λ within.
    let old = c.args.self.now.reader in
    device_taken (reader_buffer old) (reader_buffer c.consume.new.self) c.args.self.now.ended c.args.count (reader_remaining g.R.Read.remaining old) (reader_remaining g.R.Read.remaining c.consume.new.self) within c.consume.ensures.buffer c.consume.ensures.bytes
    (device_follows (reader_buffer old) false (reader_capacity old) (g.R.Read.remaining (reader_inner old)))
