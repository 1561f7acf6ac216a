use Rattle.std.proofs.Common.{◌≡◌, ◌∙◌, ap, sym, subst, rules, of_z, to_z, to_z-of_z, w64, FitsSigned}
use Rattle.profile.specs.events.Spans.{IsWidthOf}
use Rattle.clash_check.specs.Singles.{week}
use Rattle.clash_check.proofs.SingleLemmas.{lasts_at, no_width}
use Rattle.clash_check.proofs.ResidueLemmas.{around_of, not_reached}
use Rattle.clash_check.proofs.SweepLemmas.{series_there}
use Rattle.clash_check.proofs.singles.meets.Goals as goal

pub returns-then-width-eq0-clause-meets : goal.returns-then-width-eq0-clause-meets
returns-then-width-eq0-clause-meets g c = λ a there.
    let fits : FitsSigned w64 c.width-width.result = search rules in
    no_width a c.width-width.result c.args.span.start c.args.span.end
    (lasts_at (g.D.Drawn.calendar c.args.drawn.now) c.is_drawable.ensures c.args.i a c.width-width.result there (c.width-width.ensures.width a there)) (sym (to_z-of_z fits) ∙ ap (to_z w64) c.if-width-eq0.true)

pub reaches-requires-clause-residues : goal.reaches-requires-clause-residues
reaches-requires-clause-residues g c =
    let (a, there) = series_there (g.D.Drawn.calendar c.args.drawn.now) c.args.i c.requires.place in
    around_of a week c.args.residues.now (c.requires.residues a there)

pub returns-then-not-reaches-clause-meets : goal.returns-then-not-reaches-clause-meets
returns-then-not-reaches-clause-meets g c = λ a there.
    let all = g.D.Drawn.calendar c.args.drawn.now in
    let fits : FitsSigned w64 c.width-width.result = search rules in
    let same : to_z w64 (of_z w64 c.width-width.result) ≡ c.width-width.result = to_z-of_z fits in
    let starts : FitsSigned w64 c.args.span.start = search rules in
    let ends : FitsSigned w64 c.args.span.end = search rules in
    let start : to_z w64 (of_z w64 c.args.span.start) ≡ c.args.span.start = to_z-of_z starts in
    let end : to_z w64 (of_z w64 c.args.span.end) ≡ c.args.span.end = to_z-of_z ends in
    not_reached all c.is_drawable.ensures c.args.i a there c.args.residues.now (c.requires.residues a there) c.width-width.result
    (lasts_at all c.is_drawable.ensures c.args.i a c.width-width.result there (c.width-width.ensures.width a there)) c.args.span.start c.args.span.end
    ((rw (same, start, end) at c.reaches.ensures) c.if-not-reaches.true)

pub meets_near-requires-clause-of : goal.meets_near-requires-clause-of
meets_near-requires-clause-of g c = λ a there.
    let fits : FitsSigned w64 c.width-width.result = search rules in
    subst (IsWidthOf a) (sym (to_z-of_z fits)) (c.width-width.ensures.width a there)
