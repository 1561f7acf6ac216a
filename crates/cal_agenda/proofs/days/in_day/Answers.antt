use Rattle.std.proofs.Common.{◌≡◌, rules}
use Rattle.std.specs.Int.{int_max, int_min}
use Rattle.cal_agenda.specs.Pages.{IsWellWithin}
use Rattle.cal_agenda.proofs.DayLemmas.{well_within}
use Rattle.cal_agenda.proofs.HtmlLemmas.{wide}
use Rattle.cal_agenda.proofs.days.in_day.Goals as goal

pub returns-clause-range : goal.returns-clause-range
returns-clause-range c =
    let day = c.args.day.now in
    let value : c.max.result ≡ int_max day.start (int_min c.args.instant day.end) = search rules in
    let within : IsWellWithin c.max.result = well_within day.start day.end c.args.instant c.max.result day.within.0 day.within.1 value in
    rw (wide c.max.result within) within
