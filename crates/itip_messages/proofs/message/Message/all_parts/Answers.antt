-- One more is a part, or isn't.
use Rattle.std.proofs.Common.{◌≡◌, ◌<◌, ◌∙◌, List, length, get_or, filter, take, ◌+◌, sym, ap, subst, arith}
use Rattle.std.specs.List.{AllZip}
use Rattle.ical_values.specs.Octets.{address_octets}
use Rattle.cal_zones.specs.RoomZones.{room_of}
use Rattle.itip_order.specs.Parts.{part_of}
use Rattle.itip_messages.specs.Message.{IsPartFor, has_part}
use Rattle.itip_messages.specs.declared.message_component.MessageComponent.{MessageComponent}
use Rattle.itip_messages.proofs.shared_lemmas.MessageLemmas.{part_less, part_more}
use Rattle.itip_messages.proofs.message.Message.all_parts.Goals as goal
use Rattle.itip_messages.proofs.message.Message.all_parts.Goals.{then-has_part+in_ok-part+in_ok-push, else-has_part}

pub loop-component-preserved : goal.loop-component-preserved
loop-component-preserved c =
    let room = address_octets c.args.room.now in
    let zone = room_of c.args.zone.now in
    let message = c.args.self.now in
    let items = message.components.items in
    let i = c.loop-component.component-index in
    let x = c.component-item.result in
    let same = c.components-component-items.ensures in
    let old = c.loop-component.all.items in
    let within = subst (λ (l : List MessageComponent). i < length l) same (omega (arith, c.loop-component-test.true)) in
    let at = subst (λ (l : List MessageComponent). x ≡ get_or l i x) same c.component-item.is in
    elim c.if-has_part.branch [
      | then-has_part+in_ok-part+in_ok-push w ↦
          part_more room zone message items i x old c.if-has_part.all.items (w.in_ok-part.field-0, tt) within at (sym c.has_part.ensures ∙ w.if-has_part.true) c.loop-component.invariant w.in_ok-part.ensures
          (ap (λ v. v.items) w.all-is ∙ w.in_ok-push.ensures.items)
      | else-has_part w ↦
          subst (λ v. AllZip (λ component one. IsPartFor room zone message component (part_of one.0)) (filter (has_part room message) (take (i + 1) items)) v.items) (sym w.all-is)
          (part_less room zone message items i x old within at (sym c.has_part.ensures ∙ w.if-has_part.false) c.loop-component.invariant)
    ]
