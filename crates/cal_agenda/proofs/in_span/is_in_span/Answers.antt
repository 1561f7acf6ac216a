use Rattle.cal_events.specs.Calendar.{instance_of}
use Rattle.cal_agenda.proofs.Gathering.{in_span_where}
use Rattle.cal_agenda.proofs.in_span.is_in_span.Goals as goal

pub returns : goal.returns
returns c =
    let both = c.common.result in
    let where_both = in_span_where c.args.span.start c.args.span.end both.start both.end (instance_of c.args.instance.now) c.common.ensures.start c.common.ensures.end in
    let some = c.has_instant.ensures in
    ((λ is. where_both.0 (some.0 is)), λ within. some.1 (where_both.1 within))
