use Rattle.std.proofs.Common.{subst}
use Rattle.std.specs.Io.BufRead.{FillKeeps}
use Rattle.std.specs.Io.Buffered.{reader_buffer, reader_remaining}
use Rattle.std.proofs.Common.{length, Some}
use Rattle.sched_devices.proofs.InputLemmas.{filled_end}
use Rattle.sched_devices.proofs.input.DeviceReader.fill_once.Goals as goal

pub returns-clause-end : goal.returns-clause-end
returns-clause-end g c =
    let rested = c.fill_buf.follows.lender-at-none in
    let filled = subst (FillKeeps _ (reader_remaining g.R.Read.remaining rested) (Some (length (reader_buffer rested)))) c.in_ok-fill_buf.was c.fill_buf.follows.holds-at-none in
    filled_end _ _ c.in_ok-fill_buf.field-0.now _ c.in_ok-fill_buf.ensures.end filled.0 filled.1
