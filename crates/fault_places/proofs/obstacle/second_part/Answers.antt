use Rattle.fault_places.proofs.ObstacleLemmas.{second_of}
use Rattle.fault_places.proofs.obstacle.second_part.Goals as goal

pub returns-clause-found : goal.returns-clause-found
returns-clause-found c =
    second_of c.args.zone.now c.args.name.now c.children.result.now c.children-2.result.now _ c.in_ok-first.first.place c.in_ok-first.first.component.now c.in_ok-second.second.component.now
    c.children.ensures c.children-2.ensures c.in_ok-first.ensures.found c.in_ok-second.ensures.found
