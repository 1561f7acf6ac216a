use Rattle.std.proofs.Common.{◌≡◌, ◌∙◌, sym, false, is_some, arith}
use Rattle.std.proofs.lemmas.Str.Pattern.{strip_prefix_char}
use Rattle.cal_rules.proofs.Numbers.{parsed, stripped_none}
use Rattle.cal_rules.proofs.values.read_number.Goals as goal

pub returns-clause-reads : goal.returns-clause-reads
returns-clause-reads c =
    let none : is_some c.strip_prefix.result ≡ false = sym c.is_some.ensures ∙ c.if-is_some.false in
    let h = stripped_none c.args.value.now c.strip_prefix.result none (strip_prefix_char 43 c.args.value.now c.strip_prefix.result c.strip_prefix.ensures.cases (omega arith)) in
    rw c.ok.ensures.value (parsed c.args.value.now c.parse.result h c.parse.ensures.value.0)
