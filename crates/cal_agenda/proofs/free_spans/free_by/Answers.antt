use Rattle.std.proofs.Common.{◌≡◌, map, sym, subst}
use Rattle.std.proofs.lemmas.Result.{IfOk-weaker}
use Rattle.profile.specs.checker.Agendas.{AreInSpan, AreFreeSpans}
use Rattle.profile.specs.events.Confirmed.{Confirmed, IsOneOf}
use Rattle.cal_events.specs.Calendar.{instance_of}
use Rattle.cal_agenda.specs.Gaps.{ends_of, gaps}
use Rattle.cal_agenda.proofs.GapLemmas.{in_turn, gaps_are_free, free_by_agenda}
use Rattle.cal_agenda.proofs.free_spans.free_by.Goals as goal

pub returns : goal.returns
returns c =
    let from = c.args.span.start in
    let until = c.args.span.end in
    let instances = map instance_of c.args.instances.now in
    IfOk-weaker c.left_by.result (λ spans. map ends_of spans.items ≡ gaps from until instances)
    (λ spans. (calendar : Confirmed) → AreInSpan (IsOneOf calendar) from until instances → AreFreeSpans (IsOneOf calendar) from until (map ends_of spans.items))
    (λ spans is calendar agenda. subst (AreFreeSpans (IsOneOf calendar) from until) (sym is)
    (free_by_agenda (IsOneOf calendar) from until instances agenda (gaps from until instances) (gaps_are_free until from instances (in_turn (IsOneOf calendar) from until instances agenda))))
    c.left_by.ensures
