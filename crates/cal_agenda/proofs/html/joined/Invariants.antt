use Rattle.std.proofs.Common.{◌≡◌, take}
use Rattle.std.specs.List.{flat_map}
use Rattle.cal_agenda.proofs.html.joined.Given as goal

-- the pieces so far
abbrev pub invariant-loop-piece : goal.invariant-loop-piece
invariant-loop-piece l = l.octets.items ≡ flat_map (λ piece. piece.now) (take l.piece-index l.pieces)
