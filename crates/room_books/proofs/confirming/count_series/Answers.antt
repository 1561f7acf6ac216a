use Rattle.std.proofs.Common.{◌∙◌, List, length, take, ap, arith}
use Rattle.std.proofs.lemmas.List.{length-take-le, take_all}
use Rattle.room_books.specs.declared.meeting.PartAnswer.{PartAnswer}
use Rattle.room_books.specs.Meeting.{all_series}
use Rattle.room_books.proofs.confirming_lemmas.WholeAlone.{few_series, whole_series}
use Rattle.room_books.proofs.confirming.count_series.Goals as goal

pub overflow_add-count : goal.overflow_add-count
overflow_add-count c =
    let own = c.answers_of-given-items.result.now in
    let i = c.loop-given.given-index in
    let few = few_series (take i own) in
    let inside = c.loop-given-test.true in
    let long = length-take-le i own (omega (arith, inside)) in
    let is = c.loop-given.invariant in
    omega (arith, few, long, is, inside)

pub returns : goal.returns
returns c =
    let own = c.answers_of-given-items.result.now in
    c.loop-given.invariant ∙ ap (λ (l : List PartAnswer). length (all_series l)) (take_all c.loop-given.given-index own (omega arith) ∙ c.answers_of-given-items.ensures) ∙ ap length (whole_series c.args.answers.now)
