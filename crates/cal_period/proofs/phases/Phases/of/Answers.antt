use Rattle.cal_events.specs.Series.{series_said}
use Rattle.cal_period.proofs.PhasesOf.{are_phases}
use Rattle.cal_period.proofs.phases.Phases.of.Goals as goal

pub returns : goal.returns
returns c =
    let s = c.second.ensures in
    let rule = c.rule.ensures s.0 s.1 in
    let offsets = c.offsets.ensures.is_offset in
    rw (c.new.ensures.rule, c.new.ensures.second, c.new.ensures.offsets.0, c.new.ensures.offsets.1)
    (are_phases (series_said c.args.series.now) s.0 s.1 c.rule.result.now rule s.2 c.second.result s.3 c.offsets.result.0 c.offsets.result.1 (rw (c.zone.ensures s.0 s.1) at offsets))
