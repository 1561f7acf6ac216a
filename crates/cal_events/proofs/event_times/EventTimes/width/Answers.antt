use Rattle.std.proofs.Common.{inr, subst, arith}
use Rattle.std.proofs.lemmas.Bool.Decides.{nat_tests}
use Rattle.std.proofs.lemmas.Int.{ints}
use Rattle.profile.specs.series.Zones.{Zone, IsBounds}
use Rattle.cal_events.specs.Component.{times_of}
use Rattle.cal_events.proofs.shared_lemmas.Overlaps.{lasts}
use Rattle.cal_events.proofs.event_times.EventTimes.width.Goals as goal

pub returns-clause-width : goal.returns-clause-width
returns-clause-width c =
    let b = c.offsets-least in
    let bounds = subst (λ (z : Zone). IsBounds z b.result.0 b.result.1) c.clock.ensures b.ensures.bounds in
    let days = c.if-self-eq0.false in
    inr (grind (arith, nat_tests, days), (b.result.0, b.result.1, bounds, omega (arith, ints, c.seconds_of-seconds.ensures.value, c.seconds_of-seconds.ensures.range, b.ensures.range, c.from.ensures)))

pub returns-clause-bound : goal.returns-clause-bound
returns-clause-bound c =
    let b = c.offsets-least in
    lasts (times_of c.args.self.now) b.result.0 b.result.1 _ (subst (λ (z : Zone). IsBounds z b.result.0 b.result.1) c.clock.ensures b.ensures.bounds)
    (omega (arith, ints, c.seconds_of-seconds.ensures.value, c.seconds_of-seconds.ensures.range, b.ensures.range, c.from.ensures))
