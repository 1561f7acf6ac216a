use Rattle.std.proofs.Common.{◌≡◌, ◌∙◌, sym, subst, to_z, of_z, w64, rules, FitsSigned, to_z-of_z}
use Rattle.profile.specs.series.Days.{IsDayNumber, day_index}
use Rattle.profile.specs.series.Zones.{Zone, Means, local_time}
use Rattle.profile.specs.events.ZonedTimes.{clock_of}
use Rattle.cal_rules.specs.LastDays.{IsLastDayTo}
use Rattle.cal_events.specs.Component.{zone_said}
use Rattle.cal_zones.proofs.Lasts.{local_of_day}
use Rattle.cal_events.proofs.regular.last_start_to.Goals as goal

pub returns : goal.returns
returns c =
    let t = c.resolve.result in
    let day = c.in-Some.day in
    let split = c.day_and_second-second in
    let second = split.result.1 in
    let fits : FitsSigned w64 t = search rules in
    let cast : to_z w64 (of_z w64 t) ≡ t = to_z-of_z fits in
    let number : IsDayNumber day = search rules in
    let first : IsDayNumber split.result.0 = search rules in
    let at : c.unwrap-local.result ≡ local_time (day_index day) second = (rw c.unwrap-local.ensures at c.of_day.ensures.value) ∙ local_of_day day second number in
    let seconds = c.seconds.result in
    let fits_seconds : FitsSigned w64 seconds = search rules in
    let cast_seconds : to_z w64 (of_z w64 seconds) ≡ seconds = to_z-of_z fits_seconds in
    let local : to_z w64 (of_z w64 seconds) ≡ local_time (day_index day) second = cast_seconds ∙ c.seconds.ensures.value ∙ at in
    let meant = subst (λ (z : Zone). Means z (to_z w64 (of_z w64 seconds)) t) c.clock.ensures c.resolve.ensures.meaning in
    let near = rw local at c.resolve.ensures.near.1 in
    let to : day_index c.unwrap.result ≡ c.args.to = rw c.unwrap.ensures at c.at_index.ensures.value in
    rw cast (record {
      first = day_index split.result.0;
      second = second;
      on = (split.ensures.second, sym c.local.ensures ∙ split.ensures.sum ∙ local_of_day split.result.0 second first);
      day = day_index day;
      is = subst (λ n. IsLastDayTo c.args.rule.now n (day_index day)) to c.in-Some.ensures;
      means = subst (λ l. Means (clock_of (zone_said c.args.times.now.start)) l t) local meant;
      near = near;
    })
