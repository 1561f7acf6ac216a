use Rattle.ical_values.specs.Octets.{address_octets}
use Rattle.std.proofs.Common.{◌∙◌, List, ℕ, subst, sym}
use Rattle.std.specs.Io.KnownBytes.{Appends}
use Rattle.sched_devices.proofs.InputLemmas.{for_each}
use Rattle.sched_cli.proofs.Keeping.{not_done}
use Rattle.sched_cli.proofs.Showing.{cut_meetings}
use Rattle.sched_cli.proofs.meetings.run_meetings.Goals as goal

pub returns-in-Ok-clause-cut : goal.returns-in-Ok-clause-cut
returns-in-Ok-clause-cut g c =
    cut_meetings (g.R.Input.remaining c.args.reader.now) (g.R.Input.remaining c.meetings_of_stream.new.reader) (g.W.Output.contents c.args.writer.now) (g.W.Output.contents c.write_out.new.writer)
    (address_octets c.args.organiser.now) c.in-Ok.texts.items c.as_slice.result.now c.write_out.result c.in-Ok.ensures.shows c.as_slice.ensures.value c.write_out.ensures.cut

pub returns-in-Ok-clause-taken : goal.returns-in-Ok-clause-taken
returns-in-Ok-clause-taken g c = λ e.
    let written = subst (λ (o : List ℕ). Appends (g.W.Output.contents c.args.writer.now) (g.W.Output.contents c.write_out.new.writer) o) c.as_slice.ensures.value (c.write_out.ensures.written e) in
    for_each _ _ _ _ _ _ _ c.in-Ok.ensures.taken (λ input left h. record { texts = c.in-Ok.texts.items; shown = h; written = written })

pub returns-in-Err-clause-taken : goal.returns-in-Err-clause-taken
returns-in-Err-clause-taken g c = λ e. absurd (not_done c.in-Err.fault (sym c.report_stream.ensures.status ∙ e))
