use Rattle.std.proofs.Common.{◌≡◌}
use Rattle.std.proofs.lemmas.Result.{IfOk-weaker}
use Rattle.ical_values.specs.Octets.{address_octets}
use Rattle.cal_zones.specs.RoomZones.{room_of}
use Rattle.itip_order.specs.Parts.{part_of, slot_of}
use Rattle.itip_messages.specs.Message.{IsPartFor, part_for}
use Rattle.itip_messages.proofs.message.Message.part.Goals as goal

pub returns : goal.returns
returns c =
    let room = address_octets c.args.room.now in
    let message = c.args.self.now in
    let component = c.args.component.now in
    let slot = slot_of c.slot_in.result in
    IfOk-weaker c.part_at.result (λ part. part_of part ≡ part_for room message component slot) (λ part. IsPartFor room (room_of c.args.zone.now) message component (part_of part))
    (λ part is. (slot, c.slot_in.ensures, is)) c.part_at.ensures
