use Rattle.std.proofs.Common.{ap}
use Rattle.std.proofs.lemmas.Result.{IfOk-weaker}
use Rattle.std.proofs.Common.{◌≡◌, map}
use Rattle.ical_values.specs.Octets.{address_octets}
use Rattle.profile.specs.rooms.Messages.{AreParts}
use Rattle.profile.specs.events.Messages.{Message}
use Rattle.cal_zones.specs.RoomZones.{room_of}
use Rattle.itip_order.specs.Parts.{part_of, parts_of}
use Rattle.itip_messages.specs.Message.{RepresentsMessage}
use Rattle.itip_messages.proofs.shared_lemmas.MessageLemmas.{no_parts, all_parts}
use Rattle.itip_messages.proofs.message.Message.parts.Goals as goal

pub returns-then-not-is_addressed_to : goal.returns-then-not-is_addressed_to
returns-then-not-is_addressed_to c = λ said s.
    no_parts (address_octets c.args.room.now) c.args.self.now said s (room_of c.args.zone.now) _ _ c.is_addressed_to.ensures c.if-not-is_addressed_to.true (ap parts_of c.new.ensures.items)

pub returns : goal.returns
returns c =
    let room = address_octets c.args.room.now in
    let zone = room_of c.args.zone.now in
    let message = c.args.self.now in
    IfOk-weaker c.firsts.result (λ parts. parts_of parts.items ≡ map (λ one. part_of one.0) c.in_ok-kept.kept.items)
    (λ parts. (said : Message) → RepresentsMessage message said → AreParts room zone said (parts_of parts.items))
    (λ parts are said s. all_parts room message said s zone _ c.in_ok-all.all.items c.in_ok-kept.kept.items _ c.is_addressed_to.ensures c.if-not-is_addressed_to.false c.in_ok-all.ensures c.in_ok-kept.ensures are) c.firsts.ensures
