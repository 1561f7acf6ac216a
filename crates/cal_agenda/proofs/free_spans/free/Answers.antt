use Rattle.std.proofs.Common.{List, map, sym, subst}
use Rattle.std.proofs.lemmas.Result.{IfOk-weaker}
use Rattle.profile.specs.checker.Agendas.{AreInSpan, AreFreeSpans}
use Rattle.profile.specs.events.Confirmed.{Confirmed, IsOneOf}
use Rattle.cal_events.specs.Calendar.{instance_of}
use Rattle.cal_events.specs.declared.instance.Instance.{Instance}
use Rattle.cal_agenda.specs.Gaps.{ends_of}
use Rattle.cal_agenda.proofs.free_spans.free.Goals as goal

pub returns : goal.returns
returns c =
    let all = c.args.calendar.now in
    let from = c.args.span.start in
    let until = c.args.span.end in
    let agenda : AreInSpan (IsOneOf all) from until (map instance_of c.deref.result.now) = subst (λ (l : List Instance). AreInSpan (IsOneOf all) from until (map instance_of l)) (sym c.deref.ensures.value) c.in_ok-instances.ensures in
    IfOk-weaker c.free_by.result
    (λ spans. (calendar : Confirmed) → AreInSpan (IsOneOf calendar) from until (map instance_of c.deref.result.now) → AreFreeSpans (IsOneOf calendar) from until (map ends_of spans.items))
    (λ spans. AreFreeSpans (IsOneOf all) from until (map ends_of spans.items)) (λ spans are. are all agenda) c.free_by.ensures
