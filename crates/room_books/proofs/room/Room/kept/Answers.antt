-- What holds of the calendar for the certificate of each book holds for the one that is kept.
use Rattle.std.proofs.Common.{subst, List, ℕ}
use Rattle.std.proofs.Math.Logic.{∥∥₁_map}
use Rattle.ical_values.specs.Octets.{address_octets}
use Rattle.cal_zones.specs.RoomZones.{room_of, words_of}
use Rattle.profile.specs.rooms.Kept.{IsKeptCertificate}
use Rattle.room_books.proofs.room.Room.kept.Goals as goal

pub returns-clause-passes : goal.returns-clause-passes
returns-clause-passes c = ∥∥₁_map c.args.self.now.reached (λ was.
    c.in_ok-calendar.ensures.passes was.book was.reached was.represents c.in_ok-certificate.certificate.items
    (subst (λ (octets : List ℕ). IsKeptCertificate (address_octets c.args.self.now.address) octets c.in_ok-certificate.certificate.items) c.deref.ensures.value c.in_ok-certificate.ensures))

pub returns-clause-spells_each : goal.returns-clause-spells_each
returns-clause-spells_each c book reached st =
    let zone = c.args.self.now.zone in
    let s = c.kept_texts_spell.ensures (address_octets c.args.self.now.address) (words_of zone) (room_of zone) reached.deliveries book c.in_ok-calendar.calendar.items c.words_mean.ensures reached.delivered reached.runs (c.in_ok-calendar.ensures.kept book st) in
    record { all = s.0; spells = s.1; singles = s.2; series = s.3; exact = s.4 }

pub returns-clause-spells : goal.returns-clause-spells
returns-clause-spells c = ∥∥₁_map c.args.self.now.reached (λ was. record {
  book = was.book;
  reached = was.reached;
  represents = was.represents;
  spells = returns-clause-spells_each c was.book was.reached was.represents;
})
