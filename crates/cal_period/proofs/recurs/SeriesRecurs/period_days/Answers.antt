use Rattle.cal_events.specs.Series.{series_said}
use Rattle.cal_period.proofs.Members.{series_periods}
use Rattle.cal_period.proofs.recurs.SeriesRecurs.period_days.Goals as goal

pub returns : goal.returns
returns c = series_periods (series_said c.args.self.now) c.period_days.result c.period_days.ensures
