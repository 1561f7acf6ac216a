-- There is room for what comes, so that nothing fails once the parts are taken.
use Rattle.std.proofs.Common.{◌≡◌, ◌∙◌, ◌+◌, ◌<◌, ◌++◌, List, length, sym, subst, arith, vec_len, vec_capacity}
use Rattle.room_books.specs.declared.meeting.PartAnswer.{PartAnswer}
use Rattle.room_books.specs.Slots.{AreAnswersBySlot, Reordered, left_without}
use Rattle.room_books.proofs.shared_lemmas.SlotPlaces.{ok_of}
use Rattle.room_books.proofs.kept.Meeting.take.Goals as goal

pub take_out-requires : goal.take_out-requires
take_out-requires c = subst AreAnswersBySlot (sym (c.move_into.ensures (length c.deref.result.now) c.in_ok-larger.ensures).0) c.args.self.now.by_slot

pub invariant_of-self-2 : goal.invariant_of-self-2
invariant_of-self-2 c =
    let moved = c.move_into.ensures (length c.deref.result.now) c.in_ok-larger.ensures in
    let room = moved.1 in let len = c.take_out.ensures.len in let capacity = c.take_out.ensures.capacity in let n = c.deref.ensures.len in
    record {
      by_slot = ok_of c.put_all.result (AreAnswersBySlot c.put_all.new.answers.items) (vec_capacity c.take_out.new.answers < vec_len c.take_out.new.answers + vec_len c.args.changes.new) c.put_all.ensures.by_slot c.put_all.ensures.full
          (λ full. omega (arith, room, len, capacity, n, full));
    }

pub returns-clause-made : goal.returns-clause-made
returns-clause-made c =
    let moved = c.move_into.ensures (length c.deref.result.now) c.in_ok-larger.ensures in
    let room = moved.1 in let len = c.take_out.ensures.len in let capacity = c.take_out.ensures.capacity in let n = c.deref.ensures.len in
    let old = c.args.self.now.answers.items in let changes = c.args.changes in
    let out = c.take_out.ensures.items in
    let put = ok_of c.put_all.result (Reordered (c.take_out.new.answers.items ++ changes.new.items) c.put_all.new.answers.items) (vec_capacity c.take_out.new.answers < vec_len c.take_out.new.answers + vec_len changes.new) c.put_all.ensures.put c.put_all.ensures.full
    (λ full. omega (arith, room, len, capacity, n, full)) in
    let is : c.take_out.new.answers.items ≡ left_without changes.lost.items old = out ∙ (λ i. left_without (c.deref-2.ensures.value i) (moved.0 i)) in
    record {
      held_is = c.in_ok-take_all.ensures.together;
      answers_are = subst (λ (l : List PartAnswer). Reordered (l ++ changes.new.items) c.put_all.new.answers.items) is put;
    }
