use Rattle.std.proofs.Common.{◌∙◌, ◌+◌, List, take, arith, sym, ap, subst}
use Rattle.std.specs.List.{AllZip, filter}
use Rattle.cal_zones.specs.RoomZones.{room_of}
use Rattle.ical_values.specs.Octets.{address_octets}
use Rattle.itip_messages.specs.Message.{has_part}
use Rattle.itip_order.specs.declared.part.Part.{Part}
use Rattle.room_books.specs.declared.claims.Asked.{Asked}
use Rattle.room_books.specs.Claims.{IsAskingIn}
use Rattle.room_books.proofs.shared_lemmas.Claiming.{zip_some, zip_skip}
use Rattle.room_books.proofs.claims.all_asked.Goals as goal
use Rattle.room_books.proofs.claims.all_asked.Goals.{then-has_part+in_ok-part+in_ok-asked+in_ok-push, else-has_part}

pub loop-component-preserved : goal.loop-component-preserved
loop-component-preserved c =
    let room = address_octets c.args.room.now in
    let message = c.args.message.now in
    let R = IsAskingIn room (room_of c.args.zone.now) message in
    let p = has_part room message in
    let items = c.components-component-items.result.now in
    let all = message.components.items in
    let i = c.loop-component.component-index in
    let x = c.component-item.result in
    let old = c.loop-component.all.items in
    let new = c.if-has_part.all.items in
    elim c.if-has_part.branch [
      | then-has_part+in_ok-part+in_ok-asked+in_ok-push w ↦
          zip_some R p items all i x old new (w.in_ok-part.part, w.in_ok-asked.asked) c.components-component-items.ensures (omega arith) c.component-item.is (sym w.if-has_part.ensures)
          (ap (λ v. v.items) w.all-is ∙ w.in_ok-push.ensures.items) c.loop-component.invariant (record { part = w.in_ok-part.ensures; asks = w.in_ok-asked.ensures })
      | else-has_part w ↦
          subst (λ (l : List (Part × Asked)). AllZip R (filter p (take (i + 1) all)) l) (sym (ap (λ v. v.items) w.all-is))
          (zip_skip R p items all i x old c.components-component-items.ensures (omega arith) c.component-item.is (sym w.if-has_part.ensures) c.loop-component.invariant)
    ]
