use Rattle.ical_values.proofs.Exits.{refusal_exit}
use Rattle.ical_tree.specs.Own.{own_lines}
use Rattle.profile.specs.events.EventComponents.{EventComponentFault, in_presence, may_lack_start}
use Rattle.cal_events.specs.Component.{method_read}
use Rattle.cal_events.specs.Zones.{object_of}
use Rattle.cal_events.proofs.event_times.SaidTimes.read.Goals as goal

pub returns-in_err-line-clause-fault : goal.returns-in_err-line-clause-fault
returns-in_err-line-clause-fault c =
    refusal_exit _ (EventComponentFault (object_of c.args.zones.now) (method_read c.args.method) (own_lines c.args.properties.now)) _ c.from_residual.ensures.1 (in_presence c.in_err-line.ensures.fault)

pub returns-in-Some-clause-said : goal.returns-in-Some-clause-said
returns-in-Some-clause-said c = c.from_start.ensures.said (may_lack_start (method_read c.args.method))
