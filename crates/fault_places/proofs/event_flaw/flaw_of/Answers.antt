use Rattle.std.proofs.Common.{◌≡◌, arith}
use Rattle.std.proofs.lemmas.Bool.Decides.{nat_tests}
use Rattle.ical_tree.specs.Tree.{component_lines}
use Rattle.cal_events.specs.Component.{method_said}
use Rattle.fault_places.proofs.FlawLemmas.{free_of_61, if_none}
use Rattle.fault_places.proofs.event_flaw.flaw_of.Goals as goal

pub returns-clause-none : goal.returns-clause-none
returns-clause-none c =
    let other : c.args.number ≡ 63 → ⊥ = λ is. grind (arith, nat_tests) in
    if_none c.beside.result _ _ (free_of_61 (method_said c.args.method) c.args.number (component_lines c.args.event.now) other c.in_default.ensures.none) c.beside.ensures.none
