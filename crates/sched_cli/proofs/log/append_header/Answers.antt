use Rattle.std.proofs.Common.{codes}
use Rattle.sched_cli.specs.Logging.{value_text}
use Rattle.sched_cli.proofs.DiagnosisLemmas.{three_joined}
use Rattle.sched_cli.proofs.log.append_header.Goals as goal

pub returns : goal.returns
returns c =
    let method = c.method.result.now in
    let uid = c.uid.result.now in
    let organizer = c.organizer.result.now in
    let old = c.args.line.now.items in
    let one = c.append_value.new.line.items in
    let two = c.append_value-2.new.line.items in (
      method,
      uid,
      organizer,
      three_joined old one two c.append_value-3.new.line.items (value_text (codes ", ") method) (value_text (codes ", UID ") uid) (value_text (codes ", ORGANIZER ") organizer)
          c.in_ok-append_value.ensures c.in_ok-append_value-2.ensures c.in_ok-append_value-3.ensures,
    )
