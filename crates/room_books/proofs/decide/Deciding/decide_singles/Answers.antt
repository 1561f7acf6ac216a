-- What is kept is what the meeting had confirmed less what is gone.
use Rattle.std.proofs.Common.{arith}
use Rattle.std.specs.Map.{lookup}
use Rattle.room_books.specs.Meeting.{same_key, singles_by}
use Rattle.room_books.proofs.shared_lemmas.Leaving.{parted_length}
use Rattle.room_books.proofs.shared_lemmas.Places.{others_count}
use Rattle.room_books.proofs.decide.Deciding.decide_singles.Goals as goal

pub overflow_sub-beside : goal.overflow_sub-beside
overflow_sub-beside c =
    let k = c.args.self.now.key.now in let es = c.args.self.now.room.now.meetings.entries in
    let n = others_count k es c.keys_differ.ensures in
    let b = parted_length (singles_by (lookup (same_key k) es)) c.args.self.now.gone.now c.requires.parted.0 c.requires.parted.1 in
    let counted = c.args.self.now.room.now.counted in let r = c.confirmed.ensures in
    omega (arith, n, b, r, counted)

pub returns : goal.returns
returns c = λ kept parted.
    let k = c.args.self.now.key.now in let es = c.args.self.now.room.now.meetings.entries in
    let n = others_count k es c.keys_differ.ensures in
    let b = parted_length (singles_by (lookup (same_key k) es)) c.args.self.now.gone.now kept parted in
    let counted = c.args.self.now.room.now.counted in let r = c.confirmed.ensures in
    c.in_ok-outcome.ensures kept parted (omega (arith, n, b, r, counted))
