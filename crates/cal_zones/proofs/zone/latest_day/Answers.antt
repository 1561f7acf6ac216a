use Rattle.std.proofs.Common.{rules}
use Rattle.std.proofs.lemmas.Int.{ints}
use Rattle.std.proofs.Common.{◌≤◌, refl, arith}
use Rattle.profile.specs.series.Days.{day_index}
use Rattle.cal_zones.proofs.Lasts.{clock_day, later_day, later_second}
use Rattle.cal_zones.proofs.zone.latest_day.Goals as goal

pub returns-then-time-second-clause-past : goal.returns-then-time-second-clause-past
returns-then-time-second-clause-past c other h k =
    let split = c.day_and_second-day in
    let reached : c.index.result ≤ other = omega (arith, h, c.index.ensures.range) in
    rw (clock_day c.args.until c.args.offset c.saturating_add.result c.in-Some.local split.result.0 split.result.1 c.ranges.until (record { sfits = c.saturating_add.type_inv }) c.requires.offset c.saturating_add.ensures (c.in-Some.ensures.found.0 refl) c.in-Some.ensures.value split.ensures.sum split.ensures.second split.ensures.day)
    (later_second (day_index split.result.0) other split.result.1 c.args.second c.if-time-second.true (rw c.index.ensures.value at reached))

pub returns-clause-past : goal.returns-clause-past
returns-clause-past c other h k =
    let split = c.day_and_second-day in
    rw (clock_day c.args.until c.args.offset c.saturating_add.result c.in-Some.local split.result.0 split.result.1 c.ranges.until (record { sfits = c.saturating_add.type_inv }) c.requires.offset c.saturating_add.ensures (c.in-Some.ensures.found.0 refl) c.in-Some.ensures.value split.ensures.sum split.ensures.second split.ensures.day)
    (later_day (day_index split.result.0) other split.result.1 c.args.second split.ensures.second (rw c.index-2.ensures.value at h))

pub returns-in_default-clause-range : goal.returns-in_default-clause-range
returns-in_default-clause-range c = search (ints, rules)

pub returns-in_default-clause-past : goal.returns-in_default-clause-past
returns-in_default-clause-past c = search (ints, rules)

pub returns-clause-range : goal.returns-clause-range
returns-clause-range c = search (ints, rules)
