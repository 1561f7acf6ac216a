use Rattle.fault_places.proofs.CauseLemmas.{close_there}
use Rattle.fault_places.proofs.obstacle.close_cause.Goals as goal

pub returns : goal.returns
returns c = close_there c.args.zone.now c.in_ok-part.part.component.now c.itself.result c.in_ok-part.ensures.found c.itself.ensures.component c.itself.ensures.obstacle c.itself.ensures.line
