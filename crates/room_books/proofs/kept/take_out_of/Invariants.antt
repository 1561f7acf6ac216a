-- Those up to the place are out.
use Rattle.std.proofs.Common.{◌≡◌, ◌+◌, ◌≤◌, ◌++◌, take, drop, vec_len, vec_capacity}
use Rattle.room_books.proofs.kept.take_out_of.Given as goal

abbrev pub invariant-loop-place : goal.invariant-loop-place
invariant-loop-place l =
    (l.answers.items ≡ take l.from l.fn.answers.items ++ drop l._place l.fn.answers.items) × (vec_len l.answers + l._place ≡ vec_len l.fn.answers + l.from) × (vec_capacity l.answers ≡ vec_capacity l.fn.answers) × (l.from ≤ l._place)
