use Rattle.std.proofs.Common.{◌≤◌, take, length, sym, subst, rules}
use Rattle.sched_doors.specs.Pieces.{TakesDoorPiece}
use Rattle.sched_doors.proofs.Taking.{taken_of, taken_piece}
use Rattle.sched_doors.proofs.piece.take_piece.Goals as goal

pub returns-clause-takes : goal.returns-clause-takes
returns-clause-takes g c =
    let lent = c.buffer-lent.result.now in
    let cut = c.cut-cut in
    let count = cut.result.count in
    let within : count ≤ length (take c.min.result lent) = cut.ensures.within in
    let shown : count ≤ length lent = search rules in
    let takes = taken_of _ _ _ _ lent count c.buffer-lent.ensures.lent c.lend.ensures.keeps c.buffer-lent.ensures.front c.in-Ok.ensures.end c.consume.ensures.takes shown in
    subst (TakesDoorPiece _ _ _ _ _ _) (sym c.piece.ensures)
    (taken_piece _ _ lent c.min.result count c.min.ensures within takes _ _ _ _ cut.result.ended c.in_ok-extend_from_slice.ensures.items cut.ensures.leads cut.ensures.some cut.ensures.before cut.ensures.ended cut.ensures.all)
