use Rattle.cal_events.specs.Series.{series_said}
use Rattle.cal_events.proofs.whole_lemmas.Lasting.{said_lasts, merely_lasts, said_lasts_a_third, merely_lasts_a_third}
use Rattle.cal_events.proofs.whole.instances_last.Goals as goal

pub returns-clause-said : goal.returns-clause-said
returns-clause-said c = said_lasts

pub returns-clause-said_third : goal.returns-clause-said_third
returns-clause-said_third c = said_lasts_a_third c.zones_repeat.ensures.said c.zones_repeat.ensures.bounds

pub returns-clause-series : goal.returns-clause-series
returns-clause-series c = λ series width b w h. merely_lasts (series_said series) width b series.said w h

pub returns-clause-series_third : goal.returns-clause-series_third
returns-clause-series_third c = λ series width b w h. merely_lasts_a_third c.zones_repeat.ensures.said c.zones_repeat.ensures.bounds (series_said series) width b series.said w h
