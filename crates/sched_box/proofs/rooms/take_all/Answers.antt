use Rattle.std.proofs.Common.{◌≡◌, ◌<◌, ◌∙◌, length, length-set, set, ap, arith, rules}
use Rattle.std.proofs.Math.Seq.{map-set_same}
use Rattle.ical_values.specs.Octets.{address_octets}
use Rattle.room_books.specs.declared.room.Room.{Room}
use Rattle.sched_box.specs.Answering.{room_addresses}
use Rattle.sched_box.proofs.AskedLemmas.{off_at}
use Rattle.sched_box.proofs.AnswerLemmas.{addresses_sofar, taken_more, taken_left, put_back}
use Rattle.sched_box.proofs.rooms.take_all.Goals as goal
use Rattle.sched_box.proofs.rooms.take_all.Goals.{then-asked-place+in_ok-next, else-asked-place}

pub returns-in_err-next-clause-addresses : goal.returns-in_err-next-clause-addresses
returns-in_err-next-clause-addresses c =
    let items = c.loop-place.room-items in
    let new = c.take_next.new.room in
    let sized = length-set items c.loop-place.place new in
    let same : length (set items c.loop-place.place new) ≡ length c.args.rooms.now.items = sized ∙ c.loop-place.auto.room-items ∙ ap length c.deref_mut-room-items.ensures.value in
    let len : c.args.rooms.now.len ≡ length c.args.rooms.now.items = search rules in
    ap room_addresses (put_back c.args.rooms.now.len (set items c.loop-place.place new) c.args.rooms.now.items len same)
    ∙ map-set_same (λ (r : Room). address_octets r.address) items c.loop-place.place new c.room-item.result (ap address_octets c.take_next.ensures.address)
    ∙ addresses_sofar _ _ _ _ _ _ _ _ c.loop-place.invariant

pub loop-place-preserved : goal.loop-place-preserved
loop-place-preserved c =
    let l : c.loop-place.place < length c.loop-place.room-items = omega (arith, c.loop-place-test.true, c.loop-place.auto.room-items) in
    elim c.if-asked-place.branch [
      | then-asked-place+in_ok-next w ↦
          let (more, kind, is, takes, adds) = w.in_ok-next.ensures.takes in
          rw (w.room-items-is, w.answers-is, w.effects-is) (taken_more _ _ _ c.loop-place.room-items c.loop-place.place _ _ _ c.room-item.result w.take_next.new.room more kind _ _ c.loop-place.invariant l w.in_ok-next.ensures.address takes is adds)
      | else-asked-place w ↦
          rw (w.room-items-is, w.answers-is, w.effects-is) (taken_left _ _ _ c.loop-place.room-items c.loop-place.place _ _ c.room-item.result _ c.loop-place.invariant l (c.requires.out c.loop-place.place (off_at c.args.asked.now c.loop-place.place (omega (arith, c.requires.long, c.loop-place-test.true, c.deref_mut-room-items.ensures.len)) w.if-asked-place.false)))
    ]

pub returns-clause-addresses : goal.returns-clause-addresses
returns-clause-addresses c =
    let same : length c.loop-place.room-items ≡ length c.args.rooms.now.items = c.loop-place.auto.room-items ∙ ap length c.deref_mut-room-items.ensures.value in
    let len : c.args.rooms.now.len ≡ length c.args.rooms.now.items = search rules in
    ap room_addresses (put_back c.args.rooms.now.len c.loop-place.room-items c.args.rooms.now.items len same) ∙ addresses_sofar _ _ _ _ _ _ _ _ c.loop-place.invariant
