use Rattle.std.proofs.Common.{◌≡◌, ◌∙◌, subst, arith, to_z, of_z, w64, ℤ, rules}
use Rattle.std.proofs.lemmas.Int.{ints}
use Rattle.profile.specs.series.Days.{IsDayNumber, day_index}
use Rattle.profile.specs.series.Zones.{Means, local_time}
use Rattle.cal_zones.specs.Kinds.{zone_of}
use Rattle.cal_zones.proofs.Lasts.{local_of_day}
use Rattle.cal_events.proofs.instances.start_by.Goals as goal

pub returns-clause-meaning : goal.returns-clause-meaning
returns-clause-meaning c =
    let day = c.args.day in
    let number : IsDayNumber day = search rules in
    let same : to_z w64 (of_z w64 c.resolve.result) ≡ c.resolve.result = omega (arith, ints, c.resolve.ensures.range) in
    let local : c.unwrap-local.result ≡ local_time (day_index day) c.args.second = (rw c.unwrap-local.ensures at c.of_day.ensures.value) ∙ local_of_day day c.args.second number in
    rw same (subst (λ (l : ℤ). Means (zone_of c.args.clock.now.zone) l c.resolve.result) local c.resolve.ensures.meaning)
