use Rattle.cal_events.specs.Series.{series_said}
use Rattle.cal_period.proofs.Turning.{from_stride, to_stride}
use Rattle.cal_period.proofs.residue.stride.Goals as goal

pub returns : goal.returns
returns c = λ n.
    let a = series_said c.args.series.now in
    let s = c.second.ensures in
    let recurs = c.rule.ensures s.0 s.1 in
    let law = c.form_days_repeat.ensures.strides in
    (from_stride law a s.0 s.1 c.rule.result.now recurs c.stride.result c.stride.ensures.least n, to_stride law a s.0 s.1 c.rule.result.now recurs c.stride.result c.stride.ensures.least n)
