use Rattle.std.proofs.Common.{◌≡◌, ◌≤◌, take, vec_len, vec_capacity}
use Rattle.room_books.specs.Slots.{AreAnswersBySlot, left_without}
use Rattle.room_books.proofs.kept.take_out.Given as goal

abbrev pub invariant-loop-slot : goal.invariant-loop-slot
invariant-loop-slot l =
    (l.answers.items ≡ left_without (take l.slot-index l.slots) l.fn.answers.items) × AreAnswersBySlot l.answers.items × (vec_len l.answers ≤ vec_len l.fn.answers) × (vec_capacity l.answers ≡ vec_capacity l.fn.answers)
