use Rattle.ical_lines.proofs.PieceLemmas.{pieces_step, shorter}
use Rattle.ical_lines.proofs.pieces.PiecesIterator.next.Goals as goal

pub returns-in-Some-clause-steps : goal.returns-in-Some-clause-steps
returns-in-Some-clause-steps c = rw c.in-Some.is (pieces_step _ _ _ _ c.split_outside.ensures.front c.split_outside.ensures.back)

pub returns-in-Some-clause-goes : goal.returns-in-Some-clause-goes
returns-in-Some-clause-goes c = record {
  on = λ _. (tt, tt, rw c.in-Some.is (shorter _ _ _ (pieces_step _ _ _ _ c.split_outside.ensures.front c.split_outside.ensures.back)));
  keeps = tt;
  rests = λ _. tt;
}
