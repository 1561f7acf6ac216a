-- Kept, or made for the room.
use Rattle.std.proofs.Common.{◌∙◌, ap, ◌++◌}
use Rattle.std.proofs.lemmas.Result.{IfOk-weaker}
use Rattle.profile.specs.events.EventComponents.{EventComponent as SaidComponent}
use Rattle.cal_zones.specs.RoomZones.{room_of}
use Rattle.cal_events.specs.Component.{component_of}
use Rattle.cal_events.specs.InRoom.{AreInstancesIn}
use Rattle.itip_messages.specs.Components.{HasInstances, SaysComponent}
use Rattle.itip_messages.proofs.message_component_lemmas.RoomInstances.{instances_here, instances_there}
use Rattle.itip_messages.proofs.message_component.MessageComponent.instances_in.Goals as goal

pub returns-in-Some : goal.returns-in-Some
returns-in-Some c =
    let zone = room_of c.args.zone.now in
    let component = c.args.self.now in
    let kept = c.in-Some.event in
    IfOk-weaker c.instances_in.result (λ found. AreInstancesIn zone (component_of kept) found.0.items found.1)
    (λ found. (event : SaidComponent) → SaysComponent event component → HasInstances event component → AreInstancesIn zone event found.0.items found.1)
    (λ found are event says has. instances_here zone event component.singles.items found.0.items component.series found.1 component.by_room kept has c.in-Some.is are)
    c.instances_in.ensures

pub returns : goal.returns
returns c event says has =
    let component = c.args.self.now in
    instances_there (room_of c.args.zone.now) event component.singles.items c.extend_from_slice.new.self.items component.series c.in_ok-series.series component.by_room says.ready.timely has c.in_default.is
    (c.in_ok-extend_from_slice.ensures.items ∙ ap (λ l. l ++ c.deref.result.now) c.new-singles.ensures.items ∙ c.deref.ensures.value) (c.in_ok-series.ensures event component.singles.items)
