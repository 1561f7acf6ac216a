use Rattle.std.proofs.Common.{arith}
use Rattle.std.proofs.lemmas.Int.{ints}
use Rattle.cal_events.proofs.component.EventComponent.end.Goals as goal

pub returns : goal.returns
returns c = grind (arith, ints)
