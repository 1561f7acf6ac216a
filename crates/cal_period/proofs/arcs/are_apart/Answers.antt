use Rattle.std.proofs.Common.{◌≡◌, ◌∙◌, sym, arith, to_z, of_z, w64, to_z-of_z, refl}
use Rattle.std.proofs.lemmas.Bool.{false≢true}
use Rattle.std.proofs.lemmas.List.Elements.{Contains-get_or}
use Rattle.cal_period.proofs.AroundLemmas.{one_more_none, all_none, at_none}
use Rattle.cal_period.proofs.arcs.are_apart.Goals as goal

pub meets_none-requires-clause-residue : goal.meets_none-requires-clause-residue
meets_none-requires-clause-residue c = c.requires.first.below _ (Contains-get_or c.args.first.now c.loop-residue.residue-index 0 c.loop-residue-test.true)

pub returns-then-not-meets_none : goal.returns-then-not-meets_none
returns-then-not-meets_none c =
    let width : to_z w64 (of_z w64 c.args.width) ≡ c.args.width = to_z-of_z c.ranges.width in
    let other : to_z w64 (of_z w64 c.args.other) ≡ c.args.other = to_z-of_z c.ranges.other in
    let told = rw (width, other) at c.meets_none.ensures in (
      (λ e. absurd (false≢true e)),
      λ apart. sym c.if-not-meets_none.true ∙ told.1 (at_none c.args.m c.args.first.now c.args.width c.args.second.now c.args.other c.loop-residue.residue-index c.loop-residue-test.true apart),
    )

pub loop-residue-preserved : goal.loop-residue-preserved
loop-residue-preserved c =
    one_more_none c.args.m c.args.first.now (to_z w64 (of_z w64 c.args.width)) c.args.second.now (to_z w64 (of_z w64 c.args.other)) c.loop-residue.residue-index c.loop-residue.invariant
    (c.meets_none.ensures.0 c.if-not-meets_none.false)

pub returns : goal.returns
returns c =
    let width : to_z w64 (of_z w64 c.args.width) ≡ c.args.width = to_z-of_z c.ranges.width in
    let other : to_z w64 (of_z w64 c.args.other) ≡ c.args.other = to_z-of_z c.ranges.other in
    let before = rw (width, other) at c.loop-residue.invariant in
    ((λ e. all_none c.args.m c.args.first.now c.args.width c.args.second.now c.args.other (λ k less. before k (omega (arith, less, c.loop-residue-test.false)))), λ apart. refl)
