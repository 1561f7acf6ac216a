-- The kept calendar reads back: some messages led to a book that the room represents, and what it keeps spells a calendar.
use Rattle.std.proofs.Common.{subst}
use Rattle.std.proofs.Math.Logic.{∥∥₁_elim}
use Rattle.ical_lines.specs.Fault.{RefusesBy}
use Rattle.ical_values.specs.Octets.{address_octets}
use Rattle.cal_zones.specs.RoomZones.{room_of, words_of}
use Rattle.profile.specs.checker.Calendars.{CalendarTextFault}
use Rattle.room_books.proofs.room.Room.certificate_for.Goals as goal

pub unreachable-requires : goal.unreachable-requires
unreachable-requires c =
    let room = address_octets c.args.self.now.address in
    let zone = c.args.self.now.zone in
    let octets = c.args.calendar.now in
    let fault = subst (RefusesBy (CalendarTextFault octets)) c.in-Err-Refused.field-0-is c.in-Err-Refused.ensures.fault in
    ∥∥₁_elim c.args.self.now.reached (λ x y. absurd x) (λ was.
    let s = c.kept_texts_spell.ensures room (words_of zone) (room_of zone) was.reached.deliveries was.book octets c.words_mean.ensures was.reached.delivered was.reached.runs (c.requires.kept was.book was.represents) in
    c.one_calendar_text.ensures.or_a_fault room octets s.0 c.in-Err-Refused.field-0-0.number s.1 fault)
