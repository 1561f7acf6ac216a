use Rattle.std.proofs.Common.{sym, subst}
use Rattle.profile.specs.events.Residues.{AreResidues}
use Rattle.clash_check.specs.Singles.{week}
use Rattle.clash_check.proofs.ResidueLemmas.{week_is}
use Rattle.clash_check.proofs.singles.series_meets.Goals as goal

pub residues-requires-clause-modulus : goal.residues-requires-clause-modulus
residues-requires-clause-modulus g c = week_is

pub meets_one-requires-clause-residues : goal.meets_one-requires-clause-residues
meets_one-requires-clause-residues g c = λ a at. subst (AreResidues a week) (sym c.deref.ensures.value) (c.in_ok-residues.ensures a at)
