use Rattle.std.proofs.Common.{to_z-of_z}
use Rattle.cal_days.proofs.Bridge.{can_add, date_from, year_widens}
use Rattle.cal_days.proofs.date_of.Goals as goal

pub unwrap-date-requires : goal.unwrap-date-requires
unwrap-date-requires c =
    c.checked_add.ensures.succeeds.1 (rw (to_z-of_z c.ranges.number, c.to_plain-epoch.ensures) (can_add c.date.result c.args.number c.date.ensures c.requires.low c.requires.high))

pub returns-clause-low : goal.returns-clause-low
returns-clause-low c =
    rw (year_widens c.unwrap-date.result.year c.unwrap-date.result.year_in) (date_from c.date.result c.to_plain-epoch.result c.unwrap-date.result c.args.number c.checked_add.result c.date.ensures c.to_plain-epoch.ensures c.requires.low c.ranges.number c.checked_add.ensures.value c.unwrap-date.ensures).0

pub returns-clause-number : goal.returns-clause-number
returns-clause-number c =
    rw (year_widens c.unwrap-date.result.year c.unwrap-date.result.year_in) (date_from c.date.result c.to_plain-epoch.result c.unwrap-date.result c.args.number c.checked_add.result c.date.ensures c.to_plain-epoch.ensures c.requires.low c.ranges.number c.checked_add.ensures.value c.unwrap-date.ensures).2
