use Rattle.std.proofs.Common.{map}
use Rattle.profile.specs.checker.Certificates.{OfGroup}
use Rattle.clash_cert.specs.Texts.{group_said}
use Rattle.clash_check.proofs.StatementLemmas.{AreHeldTo}
use Rattle.clash_check.proofs.statements.first_failing_group.Given as goal

abbrev pub invariant-loop-group : goal.invariant-loop-group
invariant-loop-group g l =
    AreHeldTo (g.D.Drawn.calendar l.fn.drawn) (map OfGroup (map group_said l.groups)) l.group-index (g.D.Drawn.calendar l.drawn) (g.D.Drawn.count l.fn.drawn) (g.D.Drawn.count l.drawn)
