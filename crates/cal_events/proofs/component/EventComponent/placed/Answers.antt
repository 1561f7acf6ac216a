use Rattle.std.proofs.Common.{refl}
use Rattle.cal_events.specs.Component.{component_of}
use Rattle.cal_zones.specs.RoomZones.{words_of, room_of}
use Rattle.cal_events.proofs.component_lemmas.PlacedTimes.{times_placed, times_steady, times_named, times_said}
use Rattle.cal_events.proofs.component.EventComponent.placed.Goals as goal

pub invariant_of-result : goal.invariant_of-result
invariant_of-result c =
    let event = component_of c.args.self in
    let words = words_of c.args.room.now in
    let room = room_of c.args.room.now in
    let t = c.in_ok-times.field-0 in
    record {
      steady = times_steady words room c.words_mean.ensures event t c.in_ok-times.ensures c.args.self.steady;
      named = times_named words room c.words_mean.ensures event t c.in_ok-times.ensures c.requires;
      said = times_said words room c.words_mean.ensures event t c.in_ok-times.ensures c.requires;
    }

pub returns : goal.returns
returns c = (times_placed (room_of c.args.room.now) (component_of c.args.self) c.in_ok-times.field-0 c.in_ok-times.ensures, refl)
