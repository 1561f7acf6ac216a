use Rattle.std.proofs.Common.{None, pos}
use Rattle.room_books.specs.Recurring.{IsBesideOne}
use Rattle.room_books.proofs.shared_lemmas.Recurrings.{holds_all, holds_more}
use Rattle.room_books.proofs.recurring.single_beside.Goals as goal

pub loop-single-preserved : goal.loop-single-preserved
loop-single-preserved c =
    holds_more (λ single. IsBesideOne single c.args.all.now None) c.args.singles.now c.loop-single.single-index (record { slot = pos 0; span = record { start = pos 0; end = pos 0 } })
    c.loop-single-test.true c.in_default.ensures c.loop-single.invariant

pub returns : goal.returns
returns c = holds_all (λ single. IsBesideOne single c.args.all.now None) c.args.singles.now c.loop-single.single-index c.loop-single-test.false c.loop-single.invariant
