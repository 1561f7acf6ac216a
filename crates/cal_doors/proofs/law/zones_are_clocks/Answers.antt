use Rattle.profile.proofs.ZoneClocks.{same_rules, same_starts, same_days}
use Rattle.cal_doors.proofs.law.zones_are_clocks.Goals as goal

pub returns-clause-rules : goal.returns-clause-rules
returns-clause-rules c = same_rules

pub returns-clause-starts : goal.returns-clause-starts
returns-clause-starts c = same_starts

pub returns-clause-days : goal.returns-clause-days
returns-clause-days c = same_days
