use Rattle.std.proofs.Common.{◌≡◌, ◌+◌, ◌≤◌, ◌++◌, length, vec_len, vec_capacity}
use Rattle.room_books.specs.Slots.{AreAnswersBySlot, Reordered}
use Rattle.room_books.proofs.kept.put_all.Given as goal

abbrev pub invariant-loop-given : goal.invariant-loop-given
invariant-loop-given l =
    Reordered (l.fn.answers.items ++ l.yielded) l.answers.items × AreAnswersBySlot l.answers.items × (vec_len l.answers ≡ vec_len l.fn.answers + length l.yielded) × (vec_capacity l.fn.answers ≤ vec_capacity l.answers)
