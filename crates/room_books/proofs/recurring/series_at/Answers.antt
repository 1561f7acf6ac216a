use Rattle.std.proofs.Common.{refl, subst, sym}
use Rattle.room_books.proofs.shared_lemmas.Recurrings.{IsFreeOf, first_shared, holds_all, holds_more, none_shared}
use Rattle.room_books.proofs.recurring.series_at.Goals as goal

pub returns-in-Some : goal.returns-in-Some
returns-in-Some c =
    let r = c.recurring-item.result in
    let f = first_shared r.series.now c.args.single.span c.first_sharer.result c.in-Some.instance c.as_single.result c.first_sharer.ensures c.in-Some.is
    c.as_single.ensures.slot c.as_single.ensures.start c.as_single.ensures.end in
    (record { recurring = r; among = (c.loop-recurring.recurring-index, c.loop-recurring-test.true, sym c.recurring-item.is); of = refl; is = f.0 }, f.1)

pub loop-recurring-preserved : goal.loop-recurring-preserved
loop-recurring-preserved c =
    let r = c.recurring-item.result in
    holds_more (IsFreeOf c.args.single) c.args.all.now c.loop-recurring.recurring-index r c.loop-recurring-test.true
    (subst (IsFreeOf c.args.single) c.recurring-item.is (none_shared r.series.now c.args.single.span c.first_sharer.result c.first_sharer.ensures c.in_default.is)) c.loop-recurring.invariant

pub returns : goal.returns
returns c = λ r other t among. holds_all (IsFreeOf c.args.single) c.args.all.now c.loop-recurring.recurring-index c.loop-recurring-test.false c.loop-recurring.invariant r among other t
