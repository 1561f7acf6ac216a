use Rattle.std.proofs.Common.{arith, drop}
use Rattle.std.proofs.lemmas.Grind.{common_steps}
use Rattle.sched_devices.proofs.InputLemmas.{lent_taken}
use Rattle.sched_doors.proofs.door.DoorInput.consume.Goals as goal

pub returns-clause-rest : goal.returns-clause-rest
returns-clause-rest g c = grind (arith, common_steps)

pub returns-clause-taken : goal.returns-clause-taken
returns-clause-taken g c = λ within. lent_taken (drop c.args.self.now.consumed c.args.self.now.octets.items) _ c.args.self.now.ended c.args.count within (returns-clause-rest g c)
