use Rattle.std.proofs.Common.{◌∙◌, arith}
use Rattle.sched_cli.proofs.Taken.{says_taken}
use Rattle.sched_cli.proofs.diagnosis.run_explain_object.Goals as goal

pub returns-in-Ok-clause-taken : goal.returns-in-Ok-clause-taken
returns-in-Ok-clause-taken g c done =
    says_taken c.args.octets.now c.as_bytes.result.now c.in-Ok.message (g.W.Output.contents c.args.writer.now) (g.W.Output.contents c.write_status.new.writer)
    c.in-Ok.ensures.spells (c.as_bytes.ensures.value ∙ c.taken_line.ensures) (c.write_status.ensures.written (omega (arith, done)))
