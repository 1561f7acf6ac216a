use Rattle.std.proofs.Common.{◌∙◌, sym, arith}
use Rattle.std.proofs.lemmas.Int.{ints}
use Rattle.cal_events.specs.Component.{part_of_day, lasts_long}
use Rattle.cal_events.specs.declared.when.Form.TheVariants.{WholeDay}
use Rattle.cal_events.proofs.event_times_lemmas.TimesLemmas.{same_form}
use Rattle.cal_events.proofs.event_times.judge_duration.Goals as goal

pub returns-then-duration-gt0-clause-fault : goal.returns-then-duration-gt0-clause-fault
returns-then-duration-gt0-clause-fault c =
    part_of_day c.args.duration (same_form c.args.form WholeDay (sym c.eq.ensures ∙ c.if-eq.true)) c.if-duration-gt0.true

pub returns-then-seconds_of-gt-LONGEST-clause-fault : goal.returns-then-seconds_of-gt-LONGEST-clause-fault
returns-then-seconds_of-gt-LONGEST-clause-fault c = lasts_long c.args.duration (omega (arith, ints))
