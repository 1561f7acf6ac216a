use Rattle.ical_values.specs.Octets.{address_octets}
use Rattle.cal_zones.specs.RoomZones.{room_of, words_of}
use Rattle.room_books.proofs.room.Room.calendar_text.Goals as goal

pub returns-clause-passes : goal.returns-clause-passes
returns-clause-passes c book reached st =
    let zone = c.args.self.now.zone in
    c.kept_texts_pass.ensures (address_octets c.args.self.now.address) (words_of zone) (room_of zone) book c.in_ok-text.text.items c.words_mean.ensures reached (c.in_ok-text.ensures book st)
