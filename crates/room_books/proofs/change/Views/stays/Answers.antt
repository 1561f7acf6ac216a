use Rattle.std.proofs.Common.{◌∙◌, List, filter, sym, ap, subst, refl}
use Rattle.std.specs.List.{Contains}
use Rattle.itip_order.specs.Parts.{part_of, slot_of}
use Rattle.itip_order.specs.Registers.{at_slot, RepresentsHistory}
use Rattle.itip_order.proofs.Lists.{filter_from}
use Rattle.profile.specs.rooms.Revisions as revisions
use Rattle.profile.specs.rooms.Revisions.{Part}
use Rattle.room_books.specs.declared.meeting.PartAnswer.{PartAnswer}
use Rattle.room_books.specs.Slots.{is_at}
use Rattle.room_books.specs.Taking.{IsViewed, LeavesAll}
use Rattle.room_books.proofs.shared_lemmas.AcceptedSlots.{slot_from}
use Rattle.room_books.proofs.change.Views.stays.Goals as goal

pub returns : goal.returns
returns c = λ all given among same.
    let own = part_of c.in-Some.stayed.now in
    let viewed : IsViewed c.args.before.now.held (at_slot (part_of c.args.self.now.part.now) (slot_of c.args.slot)) own = c.in-Some.ensures.found in
    let here = subst (λ (l : List PartAnswer). Contains l given) (sym (c.answers_of.ensures ∙ ap (filter (is_at (slot_of c.args.slot))) c.deref.ensures.value)) (filter_from (is_at (slot_of c.args.slot)) c.args.before.now.answers.items given among (slot_from (slot_of given.slot) (slot_of c.args.slot) same)) in
    let leaves : (history : List Part) → RepresentsHistory c.args.self.now.after.now history → LeavesAll c.args.self.now.slots.now history own given = λ history represented. c.leaves_each.ensures all history represented given here in (
      own,
      subst (λ (s : revisions.Slot). IsViewed c.args.before.now.held (at_slot (part_of c.args.self.now.part.now) s) own) (sym same) viewed,
      λ history represented. sym (c.shows.ensures history represented) ∙ c.if-not-shows.false,
      record {
        slot = refl;
        moment = refl;
        outcome = refl;
        singles = λ history represented. (leaves history represented).singles;
        series = λ history represented. (leaves history represented).series;
      },
    )
