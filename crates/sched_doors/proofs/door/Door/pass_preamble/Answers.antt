use Rattle.sched_doors.proofs.Passing.{lends_preamble}
use Rattle.sched_doors.proofs.door.Door.pass_preamble.Goals as goal

pub returns-clause-lends : goal.returns-clause-lends
returns-clause-lends g c = lends_preamble _ _ _ _ _ _ _ _ c.place_after-self.ensures c.requires.all c.in_ok-next.ensures.takes
