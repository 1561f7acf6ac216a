use Rattle.cal_period.proofs.SeriesLaw.{repeats_earlier, repeats_later}
use Rattle.cal_period.proofs.law.series_repeat.Goals as goal

pub returns-clause-earlier : goal.returns-clause-earlier
returns-clause-earlier c =
    let z = c.zones_repeat.ensures in
    repeats_earlier c.rule_days_repeat.ensures.down c.rule_days_repeat.ensures.up (record { said = z.said; repeat = z.repeat; bounds = z.bounds })

pub returns-clause-later : goal.returns-clause-later
returns-clause-later c =
    let z = c.zones_repeat.ensures in
    repeats_later c.rule_days_repeat.ensures.down c.rule_days_repeat.ensures.up (record { said = z.said; repeat = z.repeat; bounds = z.bounds })
