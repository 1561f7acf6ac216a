use Rattle.std.proofs.lemmas.Grind.{common_steps}
use Rattle.std.proofs.Common.{◌∙◌, sym, arith, rules}
use borrow.Author.Tests.{tests}
use Rattle.std.proofs.lemmas.Iterator.Adapters.{YieldsList-from_bytes}
use Rattle.std.proofs.lemmas.Iterator.Search.{position_from_yields_List}
use Rattle.ical_lines.specs.Breaks.{is_mark}
use Rattle.ical_lines.proofs.MarkLemmas.{mark_at, plain_before, plain_all}
use Rattle.ical_lines.proofs.pieces.split_mark.Goals as goal

pub split_at-requires : goal.split_at-requires
split_at-requires c =
    let found = position_from_yields_List is_mark c.position.new.self _ c.position.result c.position.ensures.ran (YieldsList-from_bytes c.args.text.now (cc)) (λ x b q k. search (rules, tests)) in
    mark_at c.args.text.now c.in-Some.place (sym found ∙ c.in-Some.is)

pub returns-in-Some-clause-plain : goal.returns-in-Some-clause-plain
returns-in-Some-clause-plain c =
    let found = position_from_yields_List is_mark c.position.new.self _ c.position.result c.position.ensures.ran (YieldsList-from_bytes c.args.text.now (cc)) (λ x b q k. search (rules, tests)) in
    rw c.split_at.ensures.front (plain_before c.args.text.now c.in-Some.place (sym found ∙ c.in-Some.is))

pub returns-in-None-clause-plain : goal.returns-in-None-clause-plain
returns-in-None-clause-plain c =
    let found = position_from_yields_List is_mark c.position.new.self _ c.position.result c.position.ensures.ran (YieldsList-from_bytes c.args.text.now (cc)) (λ x b q k. search (rules, tests)) in
    plain_all c.args.text.now (sym found ∙ c.in-None.is)

pub returns-in-Some-clause-whole : goal.returns-in-Some-clause-whole
returns-in-Some-clause-whole c = grind (arith, common_steps)
