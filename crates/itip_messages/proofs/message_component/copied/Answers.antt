use Rattle.std.proofs.Common.{subst}
use Rattle.cal_events.specs.InRoom.{AreInstancesOf}
use Rattle.itip_messages.proofs.message_component_lemmas.RoomInstances.{copied_series}
use Rattle.itip_messages.proofs.message_component.copied.Goals as goal

pub returns-in_ok-copy-in-Some : goal.returns-in_ok-copy-in-Some
returns-in_ok-copy-in-Some c event own are =
    copied_series event own c.in-Some.series c.in_ok-copy-in-Some.field-0 (subst (AreInstancesOf event own) c.in-Some.is are) c.in_ok-copy-in-Some.ensures
