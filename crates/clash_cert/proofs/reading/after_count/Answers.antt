use Rattle.clash_cert.proofs.TextLemmas.{no_count, other_count, none_exit}
use Rattle.clash_cert.proofs.reading.after_count.Goals as goal

pub returns-in_err-digits : goal.returns-in_err-digits
returns-in_err-digits c = none_exit _ _ _ c.from_residual-in_err-digits.ensures (no_count c.args.bytes.now c.args.word.now c.in_ok-rest.rest.now c.in_ok-rest.ensures c.in_err-digits.ensures)

pub returns-in_err-number : goal.returns-in_err-number
returns-in_err-number c =
    none_exit _ _ _ c.from_residual-in_err-number.ensures (other_count c.args.bytes.now c.args.word.now c.in_ok-rest.rest.now c.in_ok-digits.digits.now c.in_ok-digits.rest.now c.in_ok-rest.ensures c.in_ok-digits.ensures c.in_err-number.ensures)
