use Rattle.std.proofs.Common.{Option, Some, sym, ap, subst, to_z-of_z, w64, rules}
use Rattle.std.specs.Prelude.{option_map}
use Rattle.profile.specs.events.Placed.{IsAt}
use Rattle.profile.specs.events.Properties.{BothOrNeither}
use Rattle.profile.specs.rooms.Revisions.{At}
use Rattle.cal_zones.specs.RoomZones.{room_of}
use Rattle.cal_events.specs.Component.{time_of}
use Rattle.cal_events.specs.declared.time.Time.{Time}
use Rattle.itip_messages.proofs.message_component.MessageComponent.slot_in.Goals as goal

pub returns-in-Some : goal.returns-in-Some
returns-in-Some c =
    let instant = c.instant_in.result in (
      Some instant,
      subst (λ (time : Option Time). BothOrNeither (IsAt (room_of c.args.zone.now)) (option_map time_of time) (Some instant)) (sym c.in-Some.is) c.instant_in.ensures,
      ap At (to_z-of_z {w = w64} (search rules)),
    )
