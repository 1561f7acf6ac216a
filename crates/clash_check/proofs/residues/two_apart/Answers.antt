use Rattle.std.proofs.Common.{◌≡◌, sym, subst, rules, to_z, of_z, to_z-of_z, w64, FitsSigned}
use Rattle.profile.specs.events.Residues.{AreResidues}
use Rattle.clash_check.proofs.ResidueLemmas.{around_of, modulus_range, tells_two}
use Rattle.clash_check.proofs.SweepLemmas.{series_there}
use Rattle.clash_check.proofs.residues.two_apart.Goals as goal

pub are_apart-requires-clause-modulus : goal.are_apart-requires-clause-modulus
are_apart-requires-clause-modulus g c = (modulus_range c.args.m c.requires.modulus).2

pub are_apart-requires-clause-first : goal.are_apart-requires-clause-first
are_apart-requires-clause-first g c =
    let (a, at) = series_there (g.D.Drawn.calendar c.args.drawn.now) c.args.i c.requires.first in
    around_of a c.args.m _ (subst (AreResidues a c.args.m) (sym c.deref.ensures.value) (c.in_ok-first.ensures a at))

pub are_apart-requires-clause-second : goal.are_apart-requires-clause-second
are_apart-requires-clause-second g c =
    let (b, at) = series_there (g.D.Drawn.calendar c.args.drawn.now) c.args.j c.requires.second in
    around_of b c.args.m _ (subst (AreResidues b c.args.m) (sym c.deref-2.ensures.value) (c.in_ok-second.ensures b at))

pub returns : goal.returns
returns g c = λ a b here there.
    let fits : FitsSigned w64 c.width.result = search rules in
    let same : to_z w64 (of_z w64 c.width.result) ≡ c.width.result = to_z-of_z fits in
    let other : FitsSigned w64 c.width-2.result = search rules in
    let alike : to_z w64 (of_z w64 c.width-2.result) ≡ c.width-2.result = to_z-of_z other in
    tells_two a b c.args.m c.deref.result.now c.deref-2.result.now c.width.result c.width-2.result c.are_apart.result
    (subst (AreResidues a c.args.m) (sym c.deref.ensures.value) (c.in_ok-first.ensures a here)) (subst (AreResidues b c.args.m) (sym c.deref-2.ensures.value) (c.in_ok-second.ensures b there))
    (c.width.ensures.width a here) (c.width-2.ensures.width b there) (rw (same, alike) at c.are_apart.ensures)
