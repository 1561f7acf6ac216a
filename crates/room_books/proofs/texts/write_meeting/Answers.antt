-- One more part, and at the end all of them.
use Rattle.std.proofs.Common.{◌≡◌, ◌++◌, ◌∷◌, [], List, Bool, sym, ap, ◌∙◌, subst, append-nil}
use Rattle.std.specs.List.{flat_map}
use Rattle.std.specs.Ordering.{is_eq}
use Rattle.std.proofs.lemmas.List.Sorted.{list_any-IsPermutation}
use Rattle.ical_values.specs.Octets.{address_octets}
use Rattle.itip_order.specs.Parts.{part_of, slot_of}
use Rattle.itip_order.specs.Registers.{shown}
use Rattle.profile.specs.rooms.Revisions as revisions
use Rattle.profile.specs.rooms.Revisions.{Part, Whole, slot_cmp}
use Rattle.room_books.specs.Texts.{WritesEntries, accepted_slots, kept_entry_of, has_slot, is_hiding}
use Rattle.room_books.proofs.shared_lemmas.Loops.{walked}
use Rattle.room_books.proofs.texts_lemmas.Writing.{part_written}
use Rattle.room_books.proofs.texts.write_meeting.Goals as goal

pub loop-part-preserved : goal.loop-part-preserved
loop-part-preserved c =
    let i = c.loop-part.invariant in
    let part = part_of c.in-Some.part.now in
    let slots = c.put_in_order.new.slots.items in
    let hides = c.is_touched-hides.result in
    let among : c.is_touched-shown.result ≡ has_slot slots part.slot = c.is_touched-shown.ensures ∙ ap (λ l. has_slot l part.slot) c.deref-in-loop-part.ensures.value in (
      i.0 ++ part ∷ [],
      walked i.0 c.loop-part.part-iterator c.next.new.self (shown c.args.meeting.now.held) part c.in-Some.ensures.steps i.1,
      part_written (λ p. kept_entry_of hides (has_slot slots p.slot) p) (address_octets c.args.room.now) i.0 part c.args.zones.now c.loop-part.zones c.write_kept.new.zones c.args.object.now c.loop-part.object c.write_kept.new.object i.2
          (subst (λ (s : Bool). WritesEntries (address_octets c.args.room.now) (kept_entry_of hides s part) c.loop-part.zones c.write_kept.new.zones c.loop-part.object c.write_kept.new.object) among c.in_ok-write_kept.ensures),
    )

pub returns : goal.returns
returns c =
    let i = c.loop-part.invariant in
    let held = c.args.meeting.now.held in
    let slots = c.put_in_order.new.slots.items in
    let accepted = accepted_slots c.args.meeting.now.answers.items in
    let given = c.in_ok-accepted.ensures ∙ ap accepted_slots c.deref.ensures.value in
    let same : (slot : revisions.Slot) → has_slot slots slot ≡ has_slot accepted slot = λ slot.
    sym (list_any-IsPermutation (λ own. is_eq (slot_cmp (slot_of own) slot)) _ slots c.put_in_order.ensures.same) ∙ ap (λ l. has_slot l slot) given in
    let hides : c.is_touched-hides.result ≡ is_hiding c.args.meeting.now = c.is_touched-hides.ensures ∙ ap (λ l. has_slot l Whole) c.deref-2.ensures.value ∙ same Whole in
    let all : i.0 ≡ shown held = sym (append-nil i.0) ∙ ap (λ l. i.0 ++ l) (sym c.in-None.ensures.steps.0) ∙ i.1 in
    subst (λ (l : List (Bool × Part)). WritesEntries (address_octets c.args.room.now) l c.args.zones.now c.loop-part.zones c.args.object.now c.loop-part.object)
    (ap (flat_map (λ p. kept_entry_of c.is_touched-hides.result (has_slot slots p.slot) p)) all ∙ (λ j. flat_map (λ p. kept_entry_of (hides j) (same p.slot j) p) (shown held))) i.2
