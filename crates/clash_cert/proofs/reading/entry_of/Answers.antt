use Rattle.std.proofs.Common.{◌≢◌, ◌∙◌, sym, codes}
use Rattle.clash_cert.proofs.TextLemmas.{none_exit}
use Rattle.clash_cert.proofs.Words.{differ, no_modulus, or_span}
use Rattle.clash_cert.proofs.reading.entry_of.Goals as goal

pub returns-in_default : goal.returns-in_default
returns-in_default c =
    let end = differ c.args.words.now c.as_slice.result.now c.eq.result c.eq.ensures c.if-eq.false in
    let other : c.args.words.now ≢ codes "END" = λ e. end (e ∙ sym c.as_slice.ensures) in
    or_span c.args.words.now c.span_of.result _ other c.in_default.ensures c.span_of.ensures

pub returns-in_err-modulus : goal.returns-in_err-modulus
returns-in_err-modulus c = none_exit _ _ _ c.from_residual.ensures (no_modulus c.args.words.now c.in-Some.digits.now c.in-Some.ensures c.in_err-modulus.ensures)
