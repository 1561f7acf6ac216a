use Rattle.std.proofs.Common.{◌≡◌, ◌∙◌, ap, sym, inl, inr, ◌⊎◌, not, true, Some, arith}
use Rattle.profile.specs.series.Rules.{is_missing, weekdays_meant}
use Rattle.profile.specs.series.Residues.{is_on_weekday}
use Rattle.cal_rules.specs.Forms.{form_day}
use Rattle.cal_rules.specs.Views.{pattern_of}
use Rattle.cal_rules.proofs.FormParts.{not_meant, not_on_weekday, listed}
use Rattle.cal_rules.proofs.written.Written.form_day.Goals as goal
use Rattle.cal_rules.proofs.written.Written.form_day.Goals.{else-number-gt0-via-then-number-gt0+else-not-means_weekday, else-number-gt0-via-else-number-gt0}

pub returns-then-not-means_weekday-clause-day : goal.returns-then-not-means_weekday-clause-day
returns-then-not-means_weekday-clause-day c =
    not_meant (pattern_of c.args.self.now c.args.start) c.args.number c.if-number-gt0.true (sym (c.means_weekday.ensures c.args.start) ∙ c.if-not-means_weekday.true)

pub returns-then-not-is_on_weekday-clause-day : goal.returns-then-not-is_on_weekday-clause-day
returns-then-not-is_on_weekday-clause-day c =
    let p = pattern_of c.args.self.now c.args.start in
    not_on_weekday p c.args.number (ap (is_on_weekday p) (sym c.step_day-day.ensures.day) ∙ (sym c.is_on_weekday.ensures ∙ c.if-not-is_on_weekday.true))

pub returns-clause-day : goal.returns-clause-day
returns-clause-day c =
    let p = pattern_of c.args.self.now c.args.start in
    let on : is_on_weekday p (form_day p c.args.number) ≡ true = ap (is_on_weekday p) (sym c.step_day-day.ensures.day) ∙ (sym c.is_on_weekday.ensures ∙ c.if-not-is_on_weekday.false) in
    let stands : (c.args.number ≡ 0) ⊎ (not (is_missing (weekdays_meant p)) ≡ true) = elim c.else-number-gt0.branch [
      | else-number-gt0-via-then-number-gt0+else-not-means_weekday w ↦ inr (sym (w.means_weekday.ensures c.args.start) ∙ w.if-not-means_weekday.false)
      | else-number-gt0-via-else-number-gt0 w ↦ let none = w.if-number-gt0.false in inl (omega (arith, none))
    ] in
    ap Some c.step_day-day.ensures.day ∙ listed p c.args.number c.requires.interval.0 c.requires.week c.requires.number stands on
