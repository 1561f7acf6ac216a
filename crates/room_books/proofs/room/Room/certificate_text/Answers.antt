-- What is the kept calendar of each book that the room represents is the text for which the certificate was made.
use Rattle.std.proofs.Common.{ℕ, List, subst}
use Rattle.ical_values.specs.Octets.{address_octets}
use Rattle.cal_zones.specs.RoomZones.{room_of, words_of}
use Rattle.profile.specs.Headline.{KeptTextsPass}
use Rattle.profile.specs.rooms.Kept.{IsKeptCertificate}
use Rattle.room_books.proofs.room_lemmas.OneText.{one_text}
use Rattle.room_books.proofs.room.Room.certificate_text.Goals as goal

pub returns-clause-made : goal.returns-clause-made
returns-clause-made c calendar kept =
    let room = address_octets c.args.self.now.address in
    let zone = c.args.self.now.zone in
    let same = one_text c.one_kept_calendar.ensures room (words_of zone) (room_of zone) c.args.self.now.meetings.entries c.in_ok-texts.texts.calendar.items calendar c.args.self.now.reached c.in_ok-texts.ensures.calendar kept in
    subst (λ (octets : List ℕ). IsKeptCertificate room octets c.in_ok-texts.texts.certificate.items) same c.in_ok-texts.ensures.certificate

pub returns-clause-passes : goal.returns-clause-passes
returns-clause-passes c calendar kept =
    let room = address_octets c.args.self.now.address in
    let zone = c.args.self.now.zone in
    let same = one_text c.one_kept_calendar.ensures room (words_of zone) (room_of zone) c.args.self.now.meetings.entries c.in_ok-texts.texts.calendar.items calendar c.args.self.now.reached c.in_ok-texts.ensures.calendar kept in
    subst (λ (octets : List ℕ). KeptTextsPass room octets c.in_ok-texts.texts.certificate.items) same c.in_ok-texts.ensures.passes
