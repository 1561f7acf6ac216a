-- The rule of one day a year that a rule's text names.
use Rattle.std.proofs.Common.{◌≡◌, subst, sym, ℕ, true, ◌&&◌, ◌==◌}
use Rattle.std.specs.Prelude.{Option, Some, None, IfSome, IfNone, IsSome, ◌↔◌}
use Rattle.std.proofs.lemmas.Bool.{and_from, false≢true}
use Rattle.profile.specs.series.Rules.{RuleText}
use Rattle.profile.specs.series.ZoneTexts.{YearRule, are_only, names_days, is_each_year, is_plain_yearly, is_one_day}
use Rattle.cal_zones.specs.Shapes.{days_of, rule_named, occurs_yearly}
use Rattle.cal_zones.specs.declared.yearly.MonthDays.{MonthDays}
use Rattle.cal_zones.specs.declared.yearly.Yearly.{Yearly}
use Rattle.cal_zones.proofs.Named.{each_of}

one_day_from : (rule : RuleText) (month : ℕ) (days : MonthDays) (y : Yearly) → is_plain_yearly rule ≡ true → are_only (λ x. x == month) rule.months ≡ true
    → names_days (days_of days) rule.month_days rule.weekdays ≡ true → (y.month ≡ month) × (y.days ≡ days) → is_one_day rule (rule_named y.month y.days) ≡ true
one_day_from rule month days y p m d e =
    let months : are_only (λ x. x == y.month) rule.months ≡ true = subst (λ (n : ℕ). are_only (λ x. x == n) rule.months ≡ true) (sym e.0) m in
    let named : names_days (days_of y.days) rule.month_days rule.weekdays ≡ true = subst (λ (z : MonthDays). names_days (days_of z) rule.month_days rule.weekdays ≡ true) (sym e.1) d in
    and_from (is_plain_yearly rule && are_only (λ x. x == y.month) rule.months && names_days (days_of y.days) rule.month_days rule.weekdays) (is_each_year y.month (days_of y.days))
    (and_from (is_plain_yearly rule && are_only (λ x. x == y.month) rule.months) (names_days (days_of y.days) rule.month_days rule.weekdays)
    (and_from (is_plain_yearly rule) (are_only (λ x. x == y.month) rule.months) p months) named)
    y.yearly

pub year_found : (r : Option Yearly) (rule : RuleText) (month : ℕ) (days : MonthDays) → is_plain_yearly rule ≡ true → are_only (λ x. x == month) rule.months ≡ true
    → names_days (days_of days) rule.month_days rule.weekdays ≡ true → IfSome r (λ y. (y.month ≡ month) × (y.days ≡ days))
    → IfSome r (λ y. is_one_day rule (rule_named y.month y.days) ≡ true)
year_found None rule month days p m d h = tt
year_found (Some y) rule month days p m d h = one_day_from rule month days y p m d h

pub year_none : (r : Option Yearly) (rule : RuleText) (month : ℕ) (days : MonthDays) → are_only (λ x. x == month) rule.months ≡ true
    → names_days (days_of days) rule.month_days rule.weekdays ≡ true → IsSome r ↔ (occurs_yearly month days ≡ true)
    → IfNone r ((q : YearRule) → is_one_day rule q ≡ true → ⊥)
year_none (Some y) rule month days m d h = tt
year_none None rule month days m d h = λ q o. false≢true (h.1 (each_of rule month (days_of days) q m d o))
