-- Without any message the book is empty.
use Rattle.std.proofs.Common.{rules}
use Rattle.ical_values.specs.Octets.{address_octets}
use Rattle.cal_zones.specs.RoomZones.{room_of}
use Rattle.profile.specs.rooms.Rooms.{empty_book}
use Rattle.room_books.proofs.room_lemmas.Reaching.{reached_empty}
use Rattle.room_books.proofs.room.Room.new.Goals as goal

pub invariant_of-result : goal.invariant_of-result
invariant_of-result c = record {
  timed = search rules;
  counted = search rules;
  clear = search rules;
  apart = search rules;
  recurs = search rules;
  series_counted = search rules;
  series_few = search rules;
  series_clear = search rules;
  reached = ∣ record { book = empty_book; reached = reached_empty (address_octets c.args.address) (room_of c.args.zone); represents = search rules } ∣₁;
}
