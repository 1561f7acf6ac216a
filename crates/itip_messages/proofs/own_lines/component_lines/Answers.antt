use Rattle.std.proofs.Common.{◌≡◌, ◌≢◌, ◌∙◌, ℕ, List, Some, true, ap, length, map, subst}
use Rattle.std.specs.Prelude.{MatchOption, slice_get, string_bytes}
use Rattle.ical_tree.specs.Tree.{IsObjectOf}
use Rattle.ical_tree.proofs.RefusalLemmas.{text_refuses, tree_refuses}
use Rattle.cal_events.specs.Component.{vevents_of}
use Rattle.cal_events.specs.declared.component.EventComponent.{EventComponent}
use Rattle.itip_order.specs.Parts.{slot_of}
use Rattle.itip_messages.specs.Message.{event_slot}
use Rattle.itip_messages.proofs.message_lemmas.TreeLemmas.{object_refused, octets_refused}
use Rattle.itip_messages.proofs.own_lines_lemmas.LinesBySlot.{lines_found, one_for_each}
use Rattle.itip_messages.proofs.own_lines.component_lines.Goals as goal

pub returns-in_err-text-clause-fault : goal.returns-in_err-text-clause-fault
returns-in_err-text-clause-fault c =
    octets_refused c.from_residual.result c.args.octets.now c.in_err-text.field-0.0 c.from_residual.ensures.1 (text_refuses true c.args.octets.now _ c.in_err-text.ensures.fault)

pub returns-in_err-object-clause-fault : goal.returns-in_err-object-clause-fault
returns-in_err-object-clause-fault c =
    octets_refused c.from_residual-in_err-object.result c.args.octets.now c.in_err-object.field-0.0 c.from_residual-in_err-object.ensures.1 (tree_refuses true c.args.octets.now _ _ c.in_ok-text.ensures.lines c.in_err-object.ensures.fault)

pub returns-in_err-events-clause-fault : goal.returns-in_err-events-clause-fault
returns-in_err-events-clause-fault c =
    let is = subst (λ (ls : List (List ℕ)). IsObjectOf true c.in_ok-object.object.calendar ls) c.in_ok-text.ensures.lines c.in_ok-object.ensures.spelled in
    object_refused c.from_residual-in_err-events.result c.args.octets.now c.in_ok-object.object.calendar _ is c.from_residual-in_err-events.ensures.1 c.in_err-events.ensures.fault

pub read_events-requires : goal.read_events-requires
read_events-requires c = c.in_ok-object.ensures.own

pub lines_of_slot-requires : goal.lines_of_slot-requires
lines_of_slot-requires c =
    ap (λ (l : List EventComponent). length l) c.deref.ensures.value ∙ one_for_each c.in_ok-object.object.calendar _ c.in_ok-events.events.items c.in_ok-events.ensures.says

pub returns-clause-finds : goal.returns-clause-finds
returns-clause-finds c =
    let object = c.in_ok-object.object.calendar in
    let is = subst (λ (ls : List (List ℕ)). IsObjectOf true object ls) c.in_ok-text.ensures.lines c.in_ok-object.ensures.spelled in
    let slot = slot_of c.args.slot in
    let found = c.in_ok-lines_of_slot.field-0 in
    lines_found object _ c.in_ok-events.events.items c.in_ok-events.ensures.says slot (λ lines. map string_bytes lines.items) found c.args.octets.now c.in_ok-text.ensures.reads is
    (subst (λ (l : List EventComponent). MatchOption found ((place : ℕ) → slice_get (map event_slot l) place ≢ Some slot)
    (λ lines. (place : ℕ) × (slice_get (map event_slot l) place ≡ Some slot) × (slice_get (vevents_of object) place ≡ Some (map string_bytes lines.items))))
    c.deref.ensures.value c.in_ok-lines_of_slot.ensures)
