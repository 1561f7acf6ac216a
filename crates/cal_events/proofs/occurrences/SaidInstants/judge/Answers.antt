use Rattle.std.proofs.Common.{ap}
use Rattle.std.specs.Prelude.{is_some}
use Rattle.profile.specs.events.Occurrences.{additions_out}
use Rattle.cal_events.proofs.occurrences.SaidInstants.judge.Goals as goal

pub returns-in-Some-clause-fault : goal.returns-in-Some-clause-fault
returns-in-Some-clause-fault c object lines a added fixed = let out = a.outside (ap is_some c.in-Some.is) in rw c.at.ensures (additions_out out.0 out.1 out.2)
