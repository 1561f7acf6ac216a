use Rattle.cal_events.proofs.whole.series_are_said.Goals as goal

pub returns : goal.returns
returns c = λ series. series.said
