use Rattle.std.proofs.Common.{refl, arith}
use Rattle.sched_doors.proofs.Passing.{lends_front, lends_long}
use Rattle.sched_doors.proofs.door.Door.pass_front.Goals as goal

pub returns-then-len-gt-MOST_OCTETS-clause-lends : goal.returns-then-len-gt-MOST_OCTETS-clause-lends
returns-then-len-gt-MOST_OCTETS-clause-lends g c = lends_long _ _ _ _ _ _ _ _ refl (omega arith) c.requires.all c.in_ok-front.ensures.takes

pub returns-clause-lends : goal.returns-clause-lends
returns-clause-lends g c = lends_front _ _ _ _ _ _ _ _ refl c.requires.all c.in_ok-front.ensures.takes
