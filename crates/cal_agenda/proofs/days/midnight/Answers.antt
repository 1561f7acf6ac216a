use Rattle.std.proofs.Common.{◌≡◌, ◌∙◌, arith, to_z, of_z, w64, rules}
use Rattle.std.proofs.lemmas.Int.{ints}
use Rattle.profile.specs.series.Days.{IsDayNumber, day_index}
use Rattle.profile.specs.series.Zones.{Means, local_time}
use Rattle.cal_zones.specs.Kinds.{zone_of}
use Rattle.cal_zones.proofs.Lasts.{local_of_day}
use Rattle.cal_agenda.proofs.DayLemmas.{near_meaning}
use Rattle.cal_agenda.proofs.days.midnight.Goals as goal

means : (c : goal.After-resolve) → Means (zone_of c.args.zone.now) (local_time c.args.index 0) c.resolve.result
means c =
    let there : day_index c.unwrap-day.result ≡ c.args.index = rw c.unwrap-day.ensures at c.at_index.ensures.value in
    let number : IsDayNumber c.unwrap-day.result = search rules in
    let start : c.unwrap-local.result ≡ local_time (day_index c.unwrap-day.result) 0 = (rw c.unwrap-local.ensures at c.of_day.ensures.value) ∙ local_of_day c.unwrap-day.result 0 number in
    rw (start, there) at c.resolve.ensures.meaning

pub returns-clause-meaning : goal.returns-clause-meaning
returns-clause-meaning c =
    let cast : to_z w64 (of_z w64 c.resolve.result) ≡ c.resolve.result = omega (arith, ints, c.resolve.ensures.range) in
    rw cast (means c)

pub returns-clause-near : goal.returns-clause-near
returns-clause-near c =
    let cast : to_z w64 (of_z w64 c.resolve.result) ≡ c.resolve.result = omega (arith, ints, c.resolve.ensures.range) in
    let bounds = c.offsets.ensures in
    rw cast (near_meaning (zone_of c.args.zone.now) c.offsets.result.0 c.offsets.result.1 (local_time c.args.index 0) c.resolve.result bounds.bounds bounds.range.0 bounds.range.1 (means c))
