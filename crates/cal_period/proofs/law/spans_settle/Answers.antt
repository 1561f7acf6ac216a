use Rattle.cal_period.proofs.Settling.{spans_clear}
use Rattle.cal_period.proofs.law.spans_settle.Goals as goal

pub returns : goal.returns
returns c = spans_clear (record { last = c.instances_last.ensures.said; repeat = c.series_repeat.ensures.earlier; zones = c.zones_repeat.ensures.said })
