use Rattle.std.proofs.Common.{◌∙◌, ap, arith, ℕ, List, Bor}
use Rattle.std.proofs.lemmas.Str.Pattern.{strip_suffix_char}
use Rattle.ical_lines.proofs.ReturnLemmas.{cut_return}
use Rattle.ical_lines.proofs.text.without_return.Goals as goal

pub returns : goal.returns
returns c =
    ap (λ (b : Bor (List ℕ)). b.now) c.unwrap_or.ensures
    ∙ cut_return c.args.line c.strip_suffix.result (strip_suffix_char 13 c.args.line.now c.strip_suffix.result c.strip_suffix.ensures.cases (omega arith))
