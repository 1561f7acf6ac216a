use Rattle.std.proofs.Common.{map}
use Rattle.profile.specs.checker.Certificates.{OfPair}
use Rattle.clash_cert.specs.Texts.{pair_said}
use Rattle.clash_check.proofs.StatementLemmas.{AreHeldTo}
use Rattle.clash_check.proofs.statements.first_failing_pair.Given as goal

abbrev pub invariant-loop-pair : goal.invariant-loop-pair
invariant-loop-pair g l =
    AreHeldTo (g.D.Drawn.calendar l.fn.drawn) (map OfPair (map pair_said l.pairs)) l.pair-index (g.D.Drawn.calendar l.drawn) (g.D.Drawn.count l.fn.drawn) (g.D.Drawn.count l.drawn)
