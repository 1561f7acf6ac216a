use Rattle.std.proofs.Common.{◌∙◌, ◌++◌, ap, sym, arith}
use Rattle.std.proofs.lemmas.List.{append-nil}
use Rattle.ical_values.proofs.AllOrNone.{one_more, all_of_them}
use Rattle.sched_box.proofs.books.append_each.Goals as goal

pub loop-object-init : goal.loop-object-init
loop-object-init c = sym (append-nil _)

pub loop-object-preserved : goal.loop-object-preserved
loop-object-preserved c =
    let here = c.as_slice.ensures.value ∙ ap (λ object. object.items) c.object-item.is in
    one_more (λ object. object.items) c.args.objects.now c.loop-object.object-index c.object-item.result _ _ _ c.loop-object-test.true c.loop-object.invariant
    (c.in_ok-extend_from_slice.ensures.items ∙ ap (λ z. c.loop-object.answers.items ++ z) here)

pub returns : goal.returns
returns c = all_of_them (λ object. object.items) c.args.objects.now c.loop-object.object-index _ _ (omega (arith, c.loop-object-test.false)) c.loop-object.invariant
