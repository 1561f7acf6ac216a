use Rattle.std.proofs.Common.{take}
use Rattle.std.specs.List.{AllZip, filter}
use Rattle.cal_zones.specs.RoomZones.{room_of}
use Rattle.itip_messages.specs.Message.{has_part}
use Rattle.ical_values.specs.Octets.{address_octets}
use Rattle.room_books.specs.Claims.{IsAskingIn}
use Rattle.room_books.proofs.claims.all_asked.Given as goal

abbrev pub invariant-loop-component : goal.invariant-loop-component
invariant-loop-component l = AllZip (IsAskingIn (address_octets l.room) (room_of l.zone) l.message) (filter (has_part (address_octets l.room) l.message) (take l.component-index l.message.components.items)) l.all.items
