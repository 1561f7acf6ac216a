use Rattle.std.proofs.Common.{◌≡◌, ◌++◌, length, take}
use Rattle.std.specs.List.{flat_map}
use Rattle.ical_values.proofs.append.append_all.Given as goal

abbrev pub invariant-loop-piece : goal.invariant-loop-piece
invariant-loop-piece l =
    (l.start ≡ length l.fn.out.items)
    × (l.out.items ≡ l.fn.out.items ++ flat_map (λ piece. piece.now) (take l.piece-index l.pieces))
