use Rattle.std.proofs.Common.{true, false, [], sym, subst, arith, Option}
use Rattle.std.specs.Option.{option_to_list}
use Rattle.std.proofs.lemmas.Int.{ints}
use Rattle.cal_events.specs.Calendar.{instance_of}
use Rattle.cal_events.specs.declared.series.Series.{Series}
use Rattle.room_books.specs.Meeting.{SaysLoss}
use Rattle.room_books.proofs.shared_lemmas.Losses.{has_none, has_one}
use Rattle.room_books.proofs.hidden.has_instance.Goals as goal

pub returns-in-Some-next : goal.returns-in-Some-next
returns-in-Some-next c =
    let series = c.in-Some.series in
    let first = instance_of c.in-Some-next.field-0 in
    subst (λ (o : Option Series). SaysLoss true (option_to_list o) []) (sym c.in-Some.is) (has_one series first ((c.starts.ensures.left first).0 c.in-Some-next.ensures.steps.1.0).0)

pub returns-in-None : goal.returns-in-None
returns-in-None c =
    let series = c.in-Some.series in
    subst (λ (o : Option Series). SaysLoss false (option_to_list o) []) (sym c.in-Some.is)
    (has_none series (λ b inside.
    let dates = ((c.known_by_start.ensures series).dates b inside).0 in
    c.in-None.ensures.steps.1.0 b ((c.starts.ensures.left b).1 (inside, omega (arith, ints, dates)))))
