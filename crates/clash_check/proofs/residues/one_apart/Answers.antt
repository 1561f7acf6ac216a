use Rattle.std.proofs.Common.{◌≡◌, sym, subst, rules, to_z, of_z, to_z-of_z, w64, FitsSigned}
use Rattle.profile.specs.events.Residues.{AreResidues}
use Rattle.clash_check.proofs.ResidueLemmas.{around_of, modulus_range, tells_one}
use Rattle.clash_check.proofs.SweepLemmas.{series_there}
use Rattle.clash_check.proofs.residues.one_apart.Goals as goal

pub is_apart-requires-clause-modulus : goal.is_apart-requires-clause-modulus
is_apart-requires-clause-modulus g c = (modulus_range c.args.m c.requires.modulus).2

pub is_apart-requires-clause-all : goal.is_apart-requires-clause-all
is_apart-requires-clause-all g c =
    let (a, at) = series_there (g.D.Drawn.calendar c.args.drawn.now) c.args.i c.requires.place in
    around_of a c.args.m _ (subst (AreResidues a c.args.m) (sym c.deref.ensures.value) (c.in_ok-all.ensures a at))

pub returns : goal.returns
returns g c = λ a at.
    let fits : FitsSigned w64 c.width.result = search rules in
    let same : to_z w64 (of_z w64 c.width.result) ≡ c.width.result = to_z-of_z fits in
    tells_one a c.args.m c.deref.result.now c.width.result c.is_apart.result (subst (AreResidues a c.args.m) (sym c.deref.ensures.value) (c.in_ok-all.ensures a at)) (c.width.ensures.width a at)
    (rw same at c.is_apart.ensures)
