use Rattle.std.proofs.Common.{◌∙◌, refl}
use Rattle.sched_cli.proofs.HandedBack.{no_piece, one_more}
use Rattle.sched_cli.proofs.returned.return_all.Goals as goal

pub loop-left-init : goal.loop-left-init
loop-left-init g c = (no_piece _ _ _, refl)

pub loop-left-preserved : goal.loop-left-preserved
loop-left-preserved g c =
    let i = c.loop-left.invariant in
    let p = c.in_ok-return_piece.ensures in
    let parts = c.split_at.ensures in
    (one_more _ _ _ _ _ c.piece_length.result _ _ _ i.0 parts.front parts.back c.piece_length.ensures.rest p.returns, p.mark ∙ i.1)
