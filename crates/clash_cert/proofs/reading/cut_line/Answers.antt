use Rattle.std.proofs.Common.{sym}
use Rattle.clash_cert.proofs.TextLemmas.{cut_from_end}
use Rattle.clash_cert.proofs.reading.cut_line.Goals as goal

pub returns : goal.returns
returns c = cut_from_end c.args.bytes.now c.in_ok-end.end (sym c.in_ok-end.ensures)
