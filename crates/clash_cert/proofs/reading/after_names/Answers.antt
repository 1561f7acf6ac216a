use Rattle.std.proofs.Common.{◌++◌, codes, decimal}
use Rattle.clash_cert.proofs.TextLemmas.{none_exit}
use Rattle.clash_cert.proofs.Words.{names_lack_second, names_end}
use Rattle.clash_cert.proofs.reading.after_names.Goals as goal

pub returns-in_err-rest-2 : goal.returns-in_err-rest-2
returns-in_err-rest-2 c =
    none_exit _ _ _ c.from_residual-in_err-rest-2.ensures
    (names_lack_second (codes "PAIR ") (decimal c.args.i) (codes " ") c.args.bytes.now c.in_ok-rest.rest.now c.in_ok-rest.ensures (decimal c.args.j ++ codes " ") c.in_err-rest-2.ensures)

pub returns : goal.returns
returns c =
    names_end (codes "PAIR ") (decimal c.args.i) (codes " ") c.args.bytes.now c.in_ok-rest.rest.now c.in_ok-rest.ensures
    (decimal c.args.j) c.in_ok-rest-2.rest.now c.after_number-2.result c.in_ok-rest-2.ensures c.after_number-2.ensures
