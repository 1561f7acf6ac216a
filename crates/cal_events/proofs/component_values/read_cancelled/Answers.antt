use Rattle.profile.specs.events.EventComponents.{EventComponentFault, in_presence}
use Rattle.ical_tree.specs.Own.{own_lines}
use Rattle.ical_values.proofs.Exits.{refusal_exit}
use Rattle.cal_events.specs.Component.{method_read}
use Rattle.cal_events.proofs.component_values.read_cancelled.Goals as goal

pub returns-in_err-line-clause-fault : goal.returns-in_err-line-clause-fault
returns-in_err-line-clause-fault c object =
    refusal_exit _ (EventComponentFault object (method_read c.args.method) (own_lines c.args.properties.now)) _ c.from_residual.ensures.1 (in_presence c.in_err-line.ensures.fault)
