use Rattle.std.proofs.Common.{[]}
use Rattle.ical_values.proofs.AllOrNone.{all_of_them, one_more}
use Rattle.cal_agenda.proofs.html.joined.Goals as goal

pub loop-piece-preserved : goal.loop-piece-preserved
loop-piece-preserved c = one_more (λ piece. piece.now) c.args.pieces.now c.loop-piece.piece-index _ [] c.loop-piece.octets.items _ c.loop-piece-test.true c.loop-piece.invariant c.in_ok-extend_from_slice.ensures.items

pub returns : goal.returns
returns c = all_of_them (λ piece. piece.now) c.args.pieces.now c.loop-piece.piece-index [] _ c.loop-piece-test.false c.loop-piece.invariant
