use Rattle.std.proofs.Common.{◌∙◌, ◌++◌, ap, decimal}
use Rattle.clash_cert.proofs.TextLemmas.{both}
use Rattle.clash_cert.proofs.reading.after_number.Goals as goal

pub returns : goal.returns
returns c =
    both (decimal c.args.number) c.args.tail.now c.args.bytes.now c.in_ok-rest.rest.now c.after-2.result
    (c.in_ok-rest.ensures ∙ ap (λ l. l ++ c.in_ok-rest.rest.now) (c.as_bytes.ensures.value ∙ c.format.ensures.text)) c.after-2.ensures
