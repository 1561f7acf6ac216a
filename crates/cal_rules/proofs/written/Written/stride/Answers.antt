use Rattle.std.proofs.Common.{◌≡◌, ◌∙◌, ap, sym, subst, inl, inr, ◌⊎◌, true, false, ◌==◌}
use Rattle.profile.specs.series.Rules.{is_missing}
use Rattle.profile.specs.series.Periods.{IsLeastMultiple}
use Rattle.cal_days.specs.Views.{frequency_of}
use Rattle.cal_rules.specs.Views.{pattern_of, weekday_number_of}
use Rattle.cal_rules.proofs.FormParts.{daily_stride, missing}
use Rattle.cal_rules.proofs.written.Written.stride.Goals as goal
use Rattle.cal_rules.proofs.written.Written.stride.Goals.{then-is_empty, else-is_empty}

pub returns-in-Daily-clause-least : goal.returns-in-Daily-clause-least
returns-in-Daily-clause-least c = λ start.
    let p = pattern_of c.args.self.now start in
    let same = ap (λ n. n == 0) (sym c.args.self.now.weekdays.ok.0) in
    let weeks : ((is_missing p.weekdays ≡ true) × (c.if-is_empty.weeks ≡ 1)) ⊎ ((is_missing p.weekdays ≡ false) × (c.if-is_empty.weeks ≡ 7)) = elim c.if-is_empty.branch [
      | then-is_empty w ↦ inl (missing weekday_number_of c.args.self.now.weekdays.items true (same ∙ (sym c.is_empty.ensures ∙ w.if-is_empty.true)), w.weeks-is)
      | else-is_empty w ↦ inr (missing weekday_number_of c.args.self.now.weekdays.items false (same ∙ (sym c.is_empty.ensures ∙ w.if-is_empty.false)), w.weeks-is)
    ] in
    daily_stride p c.if-is_empty.weeks c.least_multiple.result (ap frequency_of c.in-Daily.is) weeks (subst (λ i. IsLeastMultiple i c.if-is_empty.weeks c.least_multiple.result) c.from-interval.ensures c.least_multiple.ensures.least)
