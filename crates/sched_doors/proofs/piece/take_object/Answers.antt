use Rattle.std.proofs.Common.{◌∙◌, ◌+◌, [], refl, sym, subst, arith, append-nil}
use Rattle.std.proofs.KnownBytes.{Consumes-nil}
use Rattle.sched_doors.specs.Pieces.{TakesDoorPiece}
use Rattle.sched_doors.proofs.Leading.{leads_nowhere}
use Rattle.sched_doors.proofs.Taking.{ended_taken, goes_more, last_taken, long_taken, taken_more}
use Rattle.sched_doors.proofs.piece.take_object.Goals as goal

pub loop-reader-init : goal.loop-reader-init
loop-reader-init g c = (record { taken = []; consumed = Consumes-nil _; added = sym (append-nil _); leads = leads_nowhere _ }, refl)

pub loop-reader-preserved : goal.loop-reader-preserved
loop-reader-preserved g c =
    let t = c.in_ok-take_piece.ensures.takes in
    let i = c.loop-reader.invariant in (
      taken_more _ _ _ _ _ _ _ _ _ _ i.0 t,
      c.in_ok-take_piece.ensures.mark ∙ i.1,
    )

pub loop-reader-smaller : goal.loop-reader-smaller
loop-reader-smaller g c = goes_more _ _ _ _ _ _ _ (c.max-most.result + 1) c.in-Goes.is c.in_ok-take_piece.ensures.takes (omega arith)

pub returns-in-Ended-clause-takes : goal.returns-in-Ended-clause-takes
returns-in-Ended-clause-takes g c =
    ended_taken _ _ _ _ _ _ _ _ _ c.requires.goes_on c.loop-reader.invariant.0 (subst (TakesDoorPiece _ _ _ _ _ _) c.in-Ended.is c.in_ok-take_piece.ensures.takes)

pub returns-in-End-clause-takes : goal.returns-in-End-clause-takes
returns-in-End-clause-takes g c =
    last_taken _ _ _ _ _ _ _ _ _ c.loop-reader.invariant.0 (subst (TakesDoorPiece _ _ _ _ _ _) c.in-End.is c.in_ok-take_piece.ensures.takes)

pub returns-clause-takes : goal.returns-clause-takes
returns-clause-takes g c = long_taken _ _ _ _ _ _ c.loop-reader.invariant.0 (omega arith) (omega arith)
