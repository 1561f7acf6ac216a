use Rattle.std.proofs.Common.{◌∙◌, sym, arith, rules}
use borrow.Author.Tests.{tests}
use Rattle.std.proofs.lemmas.Bool.Decides.{nat_tests}
use Rattle.std.proofs.lemmas.Iterator.{YieldsList-from_slice}
use Rattle.std.proofs.lemmas.Iterator.Search.{position_from_yields_List}
use Rattle.ical_lines.specs.Plain.{ends_name}
use Rattle.ical_lines.proofs.PlainLemmas.{plain_at}
use Rattle.ical_lines.proofs.line.is_plain.Goals as goal

pub returns-then-place-gt0 : goal.returns-then-place-gt0
returns-then-place-gt0 c =
    let at = sym (position_from_yields_List ends_name c.position.new.self _ c.position.result c.position.ensures.ran (YieldsList-from_slice c.args.line.now (cc)) (λ x b q k. search (rules, tests))) ∙ c.in-Some.is in
    λ h. plain_at c.args.line.now c.in-Some.place at c.if-place-gt0.true (grind (arith, nat_tests, h))
