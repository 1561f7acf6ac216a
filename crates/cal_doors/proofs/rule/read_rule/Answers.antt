use Rattle.std.proofs.Common.{◌≡◌, ◌∙◌, ap, subst, refl}
use Rattle.std.specs.Prelude.{Option, Some, None, IfSome, IfNone}
use Rattle.std.specs.Result.{result_ok}
use Rattle.ical_lines.specs.Fault.{RefusesBy}
use Rattle.ical_values.proofs.Exits.{err_exit}
use Rattle.cal_rules.proofs.Taking.{missing_number}
use Rattle.profile.specs.series.Days.{day_index}
use Rattle.profile.specs.series.GeneralZones as general
use Rattle.profile.specs.series.GeneralZoneTexts.{IsEndOf}
use Rattle.cal_doors.specs.Ends.{end_of}
use Rattle.cal_doors.specs.Reading.{SpellsNoRuleOf, AreNoDaysTo, AreDaysTo, ending_of}
use Rattle.cal_doors.specs.declared.end.End as rust
use Rattle.cal_doors.proofs.RuleDays.{rule_read, ending_said, no_end, no_day, days_to_last, no_days_to_last}
use Rattle.cal_doors.proofs.rule.read_rule.Goals as goal

pub returns-in_err-end-clause-fault : goal.returns-in_err-end-clause-fault
returns-in_err-end-clause-fault c =
    let first = c.day_and_second-first in
    let rule = c.in_ok-rule-in-Ok.rule in
    let is = rule_read c.args.start c.args.from c.args.text.now first.result.0 first.result.1 rule c.in-Ok.rule c.one_rule.ensures.reading c.in-Ok.ensures.reads c.in_ok-rule-in-Ok.ensures first.ensures.second first.ensures.sum in
    let there : c.rule_end.result ≡ None = c.ok_or.ensures.ok_part ∙ ap result_ok c.in_err-end.was in
    let none = subst (λ (x : Option rust.End). IfNone x ((end : general.End) → IsEndOf c.args.from rule.count rule.until end → ⊥)) there c.rule_end.ensures.none in
    let number = missing_number c.ok_or.result c.rule_end.result _ _ c.ok_or.ensures.value c.in_err-end.was there in
    err_exit _ (RefusesBy (λ n. (n ≡ 40) × SpellsNoRuleOf c.args.start c.args.from c.args.text.now)) _ c.from_residual-in_err-end.ensures.1
    (number, λ o has. no_end c.args.start c.args.from c.args.text.now (day_index first.result.0) rule is o has none)

pub returns-in-Some-clause-says : goal.returns-in-Some-clause-says
returns-in-Some-clause-says c =
    let first = c.day_and_second-first in
    let rule = c.in_ok-rule-in-Ok.rule in
    let is = rule_read c.args.start c.args.from c.args.text.now first.result.0 first.result.1 rule c.in-Ok.rule c.one_rule.ensures.reading c.in-Ok.ensures.reads c.in_ok-rule-in-Ok.ensures first.ensures.second first.ensures.sum in
    let there : c.rule_end.result ≡ Some c.in_ok-end.end = c.ok_or.ensures.ok_part ∙ ap result_ok c.in_ok-end.was in
    let ends = subst (λ (x : Option rust.End). IfSome x (λ e. IsEndOf c.args.from rule.count rule.until (end_of e))) there c.rule_end.ensures.found in
    λ o has. ending_said c.args.start c.args.from c.args.text.now (day_index first.result.0) rule is o (ending_of (record { day = c.in-Some.day; end = c.in_ok-end.end })) has c.in-Some.ensures.found ends

pub returns-in_default-2-clause-fault : goal.returns-in_default-2-clause-fault
returns-in_default-2-clause-fault c =
    let first = c.day_and_second-first in
    let rule = c.in_ok-rule-in-Ok.rule in
    let is = rule_read c.args.start c.args.from c.args.text.now first.result.0 first.result.1 rule c.in-Ok.rule c.one_rule.ensures.reading c.in-Ok.ensures.reads c.in_ok-rule-in-Ok.ensures first.ensures.second first.ensures.sum in
    let there : c.rule_end.result ≡ Some c.in_ok-end.end = c.ok_or.ensures.ok_part ∙ ap result_ok c.in_ok-end.was in
    let ends = subst (λ (x : Option rust.End). IfSome x (λ e. IsEndOf c.args.from rule.count rule.until (end_of e))) there c.rule_end.ensures.found in
    let none : AreNoDaysTo rule (day_index first.result.0) c.last_day.result = rw c.in_default-2.is at c.in_ok-days.ensures in (
      refl,
      λ o has. (
        no_day c.args.start c.args.from c.args.text.now (day_index first.result.0) rule is o has c.in_default.ensures.none,
        no_days_to_last c.args.start c.args.from c.args.text.now (day_index first.result.0) rule is o (end_of c.in_ok-end.end) c.last_day.result has ends c.last_day.ensures none,
      ),
    )

pub returns-clause-says : goal.returns-clause-says
returns-clause-says c =
    let first = c.day_and_second-first in
    let rule = c.in_ok-rule-in-Ok.rule in
    let is = rule_read c.args.start c.args.from c.args.text.now first.result.0 first.result.1 rule c.in-Ok.rule c.one_rule.ensures.reading c.in-Ok.ensures.reads c.in_ok-rule-in-Ok.ensures first.ensures.second first.ensures.sum in
    let there : c.rule_end.result ≡ Some c.in_ok-end.end = c.ok_or.ensures.ok_part ∙ ap result_ok c.in_ok-end.was in
    let ends = subst (λ (x : Option rust.End). IfSome x (λ e. IsEndOf c.args.from rule.count rule.until (end_of e))) there c.rule_end.ensures.found in
    let are : AreDaysTo rule (day_index first.result.0) c.last_day.result _ = rw c.in-Some-2.is at c.in_ok-days.ensures in
    λ o has. days_to_last c.args.start c.args.from c.args.text.now (day_index first.result.0) rule is o (end_of c.in_ok-end.end) c.last_day.result _ has ends c.last_day.ensures c.in_default.ensures.none are
