use Rattle.cal_agenda.specs.PageDays.{day_said}
use Rattle.cal_agenda.proofs.DayLemmas.{touched_where}
use Rattle.cal_agenda.proofs.days.is_touched.Goals as goal

pub returns : goal.returns
returns c =
    let both = c.common.result in
    let where_both = touched_where c.args.span.start c.args.span.end both.start both.end (day_said c.args.day.now) c.common.ensures.start c.common.ensures.end in
    let some = c.has_instant.ensures in
    ((λ is. where_both.0 (some.0 is)), λ within. some.1 (where_both.1 within))
