use Rattle.std.proofs.Common.{filter, take}
use Rattle.std.specs.List.{AllZip}
use Rattle.ical_values.specs.Octets.{address_octets}
use Rattle.cal_zones.specs.RoomZones.{room_of}
use Rattle.itip_order.specs.Parts.{part_of}
use Rattle.itip_messages.specs.Message.{IsPartFor, has_part}
use Rattle.itip_messages.proofs.message.Message.all_parts.Given as goal

-- those so far are parts
abbrev pub invariant-loop-component : goal.invariant-loop-component
invariant-loop-component l =
    AllZip (λ component one. IsPartFor (address_octets l.room) (room_of l.zone) l.self component (part_of one.0))
    (filter (has_part (address_octets l.room) l.self) (take l.component-index l.self.components.items)) l.all.items
