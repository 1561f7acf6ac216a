use Rattle.std.proofs.Common.{◌≡◌, to_z, of_z, w64, to_z-of_z, ◌∙◌}
use Rattle.std.specs.Prelude.{None}
use Rattle.profile.specs.series.Days.{day_index}
use Rattle.cal_events.proofs.shared_lemmas.Walks.{walked_from, walked_without}
use Rattle.cal_events.proofs.instances.days_of.Goals as goal

pub returns-in-Some : goal.returns-in-Some
returns-in-Some c = λ master overrides times rule.
    let same : to_z w64 (of_z w64 c.args.from) ≡ c.args.from = to_z-of_z c.ranges.from in
    walked_from master overrides (record { start = c.args.from; slot = None }) c.in-Some.rule c.of.result (day_index c.first_day.result) (rule ∙ c.in-Some.is) c.of.ensures.days c.of.ensures.from c.of.ensures.first
    ((rw same at c.first_day.ensures) master overrides times (rule ∙ c.in-Some.is))

pub returns-in-None : goal.returns-in-None
returns-in-None c = λ master overrides times rule. walked_without master overrides (record { start = c.args.from; slot = None }) c.none.result (rule ∙ c.in-None.is) c.none.ensures
