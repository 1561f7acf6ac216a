use Rattle.profile.specs.series.Days.{day_index}
use Rattle.cal_rules.specs.Views.{pattern_of}
use Rattle.cal_rules.proofs.Strides.{step_of_one, step_here}
use Rattle.cal_rules.proofs.listing.periods_to_step.Goals as goal

pub returns-then-interval-eq1-clause-here : goal.returns-then-interval-eq1-clause-here
returns-then-interval-eq1-clause-here c =
    λ _. step_of_one (pattern_of c.args.written.now c.args.start.index) (day_index c.args.day) c.if-interval-eq1.true

pub returns-clause-here : goal.returns-clause-here
returns-clause-here c =
    λ none. step_here (pattern_of c.args.written.now c.args.start.index) (day_index c.args.day)
    (rw (c.number.ensures, c.period.ensures, c.number-2.ensures, c.period-2.ensures, c.day.ensures) at (c.periods_ahead.ensures.none_left none))

pub returns-clause-none_sooner : goal.returns-clause-none_sooner
returns-clause-none_sooner c =
    rw (c.number.ensures, c.period.ensures, c.number-2.ensures, c.period-2.ensures, c.day.ensures) at c.periods_ahead.ensures.none_sooner
