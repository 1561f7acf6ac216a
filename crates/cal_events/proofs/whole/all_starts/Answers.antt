use Rattle.cal_events.specs.Series.{series_said}
use Rattle.cal_events.proofs.shared_lemmas.SeriesLemmas.{one_start}
use Rattle.cal_events.proofs.shared_lemmas.WholeLists.{all_given}
use Rattle.cal_events.proofs.whole.all_starts.Goals as goal

pub returns : goal.returns
returns c = λ series from instances all of begins given.
    all_given (series_said series) (one_start series.event.value series.ruled) from instances all of begins given
