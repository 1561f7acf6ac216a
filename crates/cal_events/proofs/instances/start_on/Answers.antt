use Rattle.std.proofs.Common.{◌≡◌, ◌∙◌, subst, arith, to_z, of_z, w64, ℤ, rules}
use Rattle.std.proofs.lemmas.Int.{ints}
use Rattle.profile.specs.series.Days.{IsDayNumber, day_index}
use Rattle.profile.specs.series.Zones.{Zone, Means, local_time}
use Rattle.profile.specs.events.ZonedTimes.{clock_of}
use Rattle.cal_events.specs.Component.{zone_said}
use Rattle.cal_zones.proofs.Lasts.{local_of_day}
use Rattle.cal_events.proofs.instances.start_on.Goals as goal

pub returns-clause-meaning : goal.returns-clause-meaning
returns-clause-meaning c =
    let day = c.args.day in
    let number : IsDayNumber day = search rules in
    let same : to_z w64 (of_z w64 c.resolve.result) ≡ c.resolve.result = omega (arith, ints, c.resolve.ensures.range) in
    let local : c.unwrap-local.result ≡ local_time (day_index day) c.args.second = (rw c.unwrap-local.ensures at c.of_day.ensures.value) ∙ local_of_day day c.args.second number in
    let meant = subst (λ (z : Zone). Means z c.unwrap-local.result c.resolve.result) c.clock.ensures c.resolve.ensures.meaning in
    rw same (subst (λ (l : ℤ). Means (clock_of (zone_said c.args.time.now)) l c.resolve.result) local meant)
