use Rattle.std.proofs.Common.{◌∙◌, sym, subst, refl, Option, List, ℕ, Bor, arith}
use Rattle.std.proofs.lemmas.Bool.Decides.{nat_tests}
use Rattle.ical_lines.proofs.FirstLineLemmas.{IsBefore, before_start, before_step, before_end}
use Rattle.ical_lines.proofs.first_line.first_line_end.Goals as goal

pub loop-left-init : goal.loop-left-init
loop-left-init c =
    before_start c.args.octets.now c.without_mark.result.now c.split_line.result.0.now c.split_line.result.1 _ c.without_mark.ensures c.split_line.ensures.lines c.split_line.ensures.rest (grind (arith, nat_tests))

pub returns-then-is_ended-clause-found : goal.returns-then-is_ended-clause-found
returns-then-is_ended-clause-found c =
    before_end c.args.octets.now c.loop-left.filled c.in-Some.rest _ (subst (λ (o : Option (Bor (List ℕ))). IsBefore c.args.octets.now c.loop-left.filled o) c.in-Some.is c.loop-left.invariant) (sym c.is_ended.ensures ∙ c.if-is_ended.true) refl

pub loop-left-preserved : goal.loop-left-preserved
loop-left-preserved c =
    before_step c.args.octets.now c.loop-left.filled _ c.in-Some.rest c.split_line-in-Some.result.0.now c.split_line-in-Some.result.1 (subst (λ (o : Option (Bor (List ℕ))). IsBefore c.args.octets.now c.loop-left.filled o) c.in-Some.is c.loop-left.invariant) (sym c.is_ended.ensures ∙ c.if-is_ended.false) c.split_line-in-Some.ensures.lines c.split_line-in-Some.ensures.rest c.is_filled_with-filled.ensures
