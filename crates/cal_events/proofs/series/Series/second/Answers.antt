use Rattle.std.proofs.Common.{arith}
use Rattle.std.proofs.lemmas.Int.{ints}
use Rattle.profile.specs.series.Days.{day_index}
use Rattle.profile.specs.events.EventRules.{IsOnDay}
use Rattle.cal_events.specs.Component.{times_of}
use Rattle.cal_events.specs.Recurrence.{master_of}
use Rattle.cal_events.proofs.series.Series.second.Goals as goal

pub returns : goal.returns
returns c =
    let split = c.day_and_second-second in
    let d = split.result in
    let on : IsOnDay (times_of c.recurrence.result.now.times).local (day_index d.0) d.1 = (split.ensures.second, omega (arith, ints, split.ensures.sum, split.type_inv)) in
    (master_of c.args.self.now.event.value.name c.recurrence.result.now, c.recurrence.ensures.master, day_index d.0, on)
