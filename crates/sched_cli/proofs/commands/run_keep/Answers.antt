use Rattle.std.proofs.Common.{◌≡◌, ◌∙◌, List, ℕ, rules, subst, sym}
use Rattle.std.specs.Io.KnownBytes.{Appends}
use Rattle.sched_devices.proofs.InputLemmas.{for_each}
use Rattle.ical_values.specs.Octets.{address_octets}
use Rattle.sched_cli.specs.Commands.{kept_text}
use Rattle.sched_cli.proofs.Keeping.{cut_kept, not_done}
use Rattle.sched_cli.proofs.commands.run_keep.Goals as goal
use Rattle.sched_cli.proofs.commands.run_keep.Goals.{in-Calendar, in-Certificate}

pub returns-after-kept-clause-cut : goal.returns-after-kept-clause-cut
returns-after-kept-clause-cut g c =
    let calendar = c.in-Ok.calendar.items in
    let certificate = c.in-Ok.certificate.items in
    let is : c.as_slice.result.now ≡ kept_text c.args.kept calendar certificate = elim c.match-kept.branch [ in-Calendar w ↦ search rules | in-Certificate w ↦ search rules ] in
    cut_kept c.args.kept (g.R.Input.remaining c.args.reader.now) (g.R.Input.remaining c.keep_stream.new.reader) (g.W.Output.contents c.args.writer.now) (g.W.Output.contents c.write_out.new.writer)
    (address_octets c.args.room.now) calendar certificate c.as_slice.result.now c.write_out.result c.in-Ok.ensures.keeps is c.write_out.ensures.cut

pub returns-after-kept-clause-taken : goal.returns-after-kept-clause-taken
returns-after-kept-clause-taken g c = λ e.
    let calendar = c.in-Ok.calendar.items in
    let certificate = c.in-Ok.certificate.items in
    let is : c.as_slice.result.now ≡ kept_text c.args.kept calendar certificate = elim c.match-kept.branch [ in-Calendar w ↦ search rules | in-Certificate w ↦ search rules ] in
    let written = subst (λ (o : List ℕ). Appends (g.W.Output.contents c.args.writer.now) (g.W.Output.contents c.write_out.new.writer) o) is (c.write_out.ensures.written e) in
    for_each _ _ _ _ _ _ _ c.in-Ok.ensures.taken (λ input left h. record { calendar = calendar; certificate = certificate; keeps = h; written = written })

pub returns-in-Err-clause-taken : goal.returns-in-Err-clause-taken
returns-in-Err-clause-taken g c = λ e. absurd (not_done c.in-Err.fault (sym c.report_stream.ensures.status ∙ e))
