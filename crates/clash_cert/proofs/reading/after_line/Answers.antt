use Rattle.clash_cert.proofs.TextLemmas.{line_from_parts}
use Rattle.clash_cert.proofs.reading.after_line.Goals as goal

pub returns : goal.returns
returns c = line_from_parts c.args.bytes.now c.args.line.now c.in_ok-rest.rest.now c.after-2.result c.in_ok-rest.ensures c.after-2.ensures
