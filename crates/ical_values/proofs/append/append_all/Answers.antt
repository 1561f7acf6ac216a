use Rattle.std.proofs.Common.{◌∙◌, sym}
use Rattle.ical_values.proofs.AllOrNone.{all_of_them, chosen_err, chosen_ok, one_more, taken_back}
use Rattle.ical_values.proofs.append.append_all.Goals as goal

pub loop-piece-preserved : goal.loop-piece-preserved
loop-piece-preserved c =
    let added = chosen_ok c.extend_from_slice.result c.extend_from_slice.new.self.items _ _ (sym c.is_err.ensures.value ∙ c.if-is_err.false) c.extend_from_slice.ensures.items in
    (c.loop-piece.invariant.0, one_more (λ piece. piece.now) c.args.pieces.now c.loop-piece.piece-index _ c.args.out.now.items c.loop-piece.out.items _ c.loop-piece-test.true c.loop-piece.invariant.1 added)

pub returns-then-is_err-clause-err : goal.returns-then-is_err-clause-err
returns-then-is_err-clause-err c =
    let kept = chosen_err c.extend_from_slice.result c.extend_from_slice.new.self.items _ _ (sym c.is_err.ensures.value ∙ c.if-is_err.true) c.extend_from_slice.ensures.items in
    taken_back c.args.out.now.items _ c.loop-piece.out.items _ _ c.len-start.result c.loop-piece.invariant.0 c.loop-piece.invariant.1 kept c.truncate.ensures.items

pub returns-clause-ok : goal.returns-clause-ok
returns-clause-ok c = all_of_them (λ piece. piece.now) c.args.pieces.now c.loop-piece.piece-index c.args.out.now.items _ c.loop-piece-test.false c.loop-piece.invariant.1
