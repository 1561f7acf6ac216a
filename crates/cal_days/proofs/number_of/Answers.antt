use Rattle.std.proofs.Common.{rules, ◌∙◌, ap, rules}
use Rattle.jiff_core.specs.Date.{epoch_day}
use Rattle.cal_days.proofs.Bridge.{number_found, number_low}
use Rattle.cal_days.proofs.number_of.Goals as goal

pub returns-in-Ok-clause-value : goal.returns-in-Ok-clause-value
returns-in-Ok-clause-value c =
    let same = c.to_unix_epoch_day.ensures.value ∙ ap epoch_day c.to_plain.ensures in
    number_found c.in-Ok.date c.args.year c.to_unix_epoch_day.result c.args.month c.args.day c.requires.low c.requires.high (search rules) (search rules) c.in-Ok.ensures.value same c.to_unix_epoch_day.ensures.bound

pub returns-in-Ok-clause-low : goal.returns-in-Ok-clause-low
returns-in-Ok-clause-low c =
    let same = c.to_unix_epoch_day.ensures.value ∙ ap epoch_day c.to_plain.ensures in
    rw (number_found c.in-Ok.date c.args.year c.to_unix_epoch_day.result c.args.month c.args.day c.requires.low c.requires.high (search rules) (search rules) c.in-Ok.ensures.value same c.to_unix_epoch_day.ensures.bound) (number_low c.args.year c.args.month c.args.day c.requires.low)
