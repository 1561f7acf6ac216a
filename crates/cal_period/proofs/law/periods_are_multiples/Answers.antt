use Rattle.cal_period.proofs.Multiples.{series_multiples}
use Rattle.cal_period.proofs.law.periods_are_multiples.Goals as goal

pub returns : goal.returns
returns c = series_multiples
