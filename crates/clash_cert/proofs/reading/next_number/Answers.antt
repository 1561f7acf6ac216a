use Rattle.clash_cert.proofs.TextLemmas.{none_exit}
use Rattle.clash_cert.proofs.GroupWords.{no_next_number, next_there}
use Rattle.clash_cert.proofs.reading.next_number.Goals as goal

pub returns-in_err-number : goal.returns-in_err-number
returns-in_err-number c =
    none_exit _ _ _ c.from_residual-in_err-number.ensures
    (no_next_number c.args.text.now c.in_ok-digits.digits.now c.cut_word.result.0.now c.cut_word.result.1.now c.in_ok-digits.ensures c.cut_word.ensures c.in_err-number.ensures)

pub returns : goal.returns
returns c =
    next_there c.args.text.now c.in_ok-digits.digits.now c.cut_word.result.0.now c.cut_word.result.1.now c.in_ok-digits.ensures c.cut_word.ensures c.in_ok-number.number c.in_ok-number.ensures.0
    c.in_ok-number.ensures.1
