use Rattle.clash_check.proofs.ResidueLemmas.{modulus_days}
use Rattle.clash_check.proofs.residues.is_modulus.Goals as goal

pub returns-then-m-day-eq0 : goal.returns-then-m-day-eq0
returns-then-m-day-eq0 c = modulus_days c.args.m c.is_few.result c.if-m-day-eq0.true c.is_few.ensures
