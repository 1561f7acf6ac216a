use Rattle.cal_events.specs.Series.{series_said}
use Rattle.cal_period.proofs.Members.{series_recurs}
use Rattle.cal_period.proofs.recurs.SeriesRecurs.recurs.Goals as goal

pub returns : goal.returns
returns c =
    let a = series_said c.args.self.now in
    series_recurs a (c.series_are_said.ensures c.args.self.now) (λ from days. c.series_repeat.ensures.earlier a from days) (λ from days. c.series_repeat.ensures.later a from days)
