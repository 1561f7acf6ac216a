use Rattle.std.proofs.Common.{◌∙◌, sym}
use Rattle.cal_events.specs.Component.{component_of}
use Rattle.itip_messages.proofs.message_component_lemmas.RoomInstances.{made_once}
use Rattle.itip_messages.proofs.message_component.instances_for.Goals as goal

pub returns : goal.returns
returns c to said is =
    made_once said (component_of c.args.event) c.in_ok-singles.singles.items c.in_ok-series.series is (sym c.is_all_fixed.ensures ∙ c.if-not-is_all_fixed.false)
    c.requires.instants c.in_ok-singles.ensures.apart c.in_ok-series.ensures
