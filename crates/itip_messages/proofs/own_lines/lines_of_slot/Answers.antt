use Rattle.std.proofs.Common.{◌∙◌, Bor, length, sym}
use Rattle.ical_tree.specs.Tree.{component_lines}
use Rattle.ical_tree.specs.declared.component.Component.{Component}
use Rattle.cal_events.specs.Component.{vevents_of}
use Rattle.itip_order.specs.Parts.{slot_of}
use Rattle.itip_messages.proofs.own_lines_lemmas.LinesBySlot.{line_at, slot_missing, slot_there}
use Rattle.itip_messages.proofs.own_lines.lines_of_slot.Goals as goal

pub returns-in_default : goal.returns-in_default
returns-in_default c = slot_missing c.args.events.now (slot_of c.args.slot) (sym c.place_of.ensures ∙ c.in_default.is)

pub returns : goal.returns
returns c =
    let place = c.in-Some.place in
    let at = slot_there c.args.events.now (slot_of c.args.slot) place (sym c.place_of.ensures ∙ c.in-Some.is) in (
      place,
      at.1,
      line_at (λ (vevent : Bor Component). component_lines vevent.now) c.in_ok-vevents.vevents.items (vevents_of c.args.object.now) (length c.args.events.now) place c.index.result.now _
          c.in_ok-vevents.ensures c.requires at.0 c.index.ensures c.in_ok-lines.ensures,
    )
