use Rattle.std.proofs.Common.{◌∙◌}
use Rattle.clash_cert.proofs.TextLemmas.{number_gives, number_is_text, not_read, not_printed, is_value, at_value, at_no_value, none_exit}
use Rattle.clash_cert.proofs.reading.number_of.Goals as goal

pub returns-in_err-text : goal.returns-in_err-text
returns-in_err-text c =
    none_exit _ _ _ c.from_residual.ensures (λ n h e. (at_no_value _ _ _ c.in_err-text.ensures.value c.from_utf8.ensures.cases).1.0 (number_is_text c.args.digits.now n h e))

pub returns-in_err-number : goal.returns-in_err-number
returns-in_err-number c =
    none_exit _ _ _ c.from_residual-in_err-number.ensures (λ n h e.
    let text = at_value _ _ _ _ c.in_ok-text.ensures.value c.from_utf8.ensures.cases in
    not_read c.parse.result n (number_gives c.args.digits.now c.in_ok-text.text.now c.parse.result n h text.0 e c.parse.ensures.value.0) c.in_err-number.ensures.value)

pub returns-else-eq : goal.returns-else-eq
returns-else-eq c n h e =
    let text = at_value _ _ _ _ c.in_ok-text.ensures.value c.from_utf8.ensures.cases in
    let gives = number_gives c.args.digits.now c.in_ok-text.text.now c.parse.result n h text.0 e c.parse.ensures.value.0 in
    let read = is_value c.parse.result c.in_ok-number.number c.in_ok-number.ensures.value in
    not_printed c.args.digits.now c.as_bytes.result.now c.parse.result n c.in_ok-number.number c.eq.result gives read e (c.as_bytes.ensures.value ∙ c.format.ensures.text) c.eq.ensures c.if-eq.false
