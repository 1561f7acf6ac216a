use Rattle.std.proofs.Common.{◌∙◌, ap, sym, arith, ℕ, List, Bor, None, Some}
use Rattle.std.proofs.lemmas.Str.Pattern.{strip_prefix_char, strip_suffix_char}
use Rattle.ical_lines.proofs.QuoteLemmas.{cut_quotes, without_first}
use Rattle.ical_lines.proofs.param.unquoted.Goals as goal

pub returns-in-Some : goal.returns-in-Some
returns-in-Some c =
    let text = c.args.text in
    let rest = c.in-Some.rest in
    let opened = strip_prefix_char 34 text.now (Some rest) c.in-Some.ensures.cases (omega arith) in
    let closed = strip_suffix_char 34 rest.now c.strip_suffix.result c.strip_suffix.ensures.cases (omega arith) in
    ap (λ (b : Bor (List ℕ)). b.now) c.unwrap_or.ensures ∙ cut_quotes text rest.now c.strip_suffix.result opened closed

pub returns-in-None : goal.returns-in-None
returns-in-None c = sym (without_first c.args.text.now (strip_prefix_char 34 c.args.text.now None c.in-None.ensures.cases (omega arith)))
