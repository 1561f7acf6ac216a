use Rattle.std.proofs.Common.{◌∙◌, ap, subst}
use Rattle.std.proofs.Math.Seq.{map-set_same}
use Rattle.std.proofs.lemmas.Result.{IfOk-weaker}
use Rattle.ical_values.specs.Octets.{address_octets}
use Rattle.room_books.specs.declared.room.Room.{Room}
use Rattle.sched_box.specs.Answering.{RoomSends, sent_by}
use Rattle.sched_box.proofs.AnswerLemmas.{room_sends, sent_at}
use Rattle.sched_box.proofs.rooms.take_at.Goals as goal

pub returns-clause-sends : goal.returns-clause-sends
returns-clause-sends c =
    let message = c.args.message.now in
    let old = c.index_mut-room.result.now in
    let new = c.take.new.self in
    IfOk-weaker c.take.result _ _
    (λ answer steps.
    let sends = room_sends c.args.now message old new _ _ _ steps c.take.ensures.address c.take.ensures.zone in
    sent_at c.args.now message c.args.rooms.now.items c.args.place old new (sent_by answer) c.requires.for_rooms c.requires.within
    (subst (λ (room : Room). RoomSends c.args.now message room new (sent_by answer)) c.index_mut-room.ensures.value sends))
    c.take.ensures.steps

pub returns-clause-addresses : goal.returns-clause-addresses
returns-clause-addresses c =
    map-set_same (λ (room : Room). address_octets room.address) c.args.rooms.now.items c.args.place c.take.new.self c.index_mut-room.result.now
    (ap address_octets c.take.ensures.address ∙ ap (λ (room : Room). address_octets room.address) c.index_mut-room.ensures.value)
