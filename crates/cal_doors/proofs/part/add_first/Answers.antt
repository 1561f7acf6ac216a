use Rattle.std.proofs.Common.{◌≡◌, codes, map, sym, subst, refl, ℕ, List, Some}
use Rattle.ical_lines.specs.Fault.{RefusesBy}
use Rattle.ical_lines.specs.Text.{line_text}
use Rattle.ical_tree.specs.Own.{own_lines}
use Rattle.profile.specs.text.Values.{IsClockSeconds}
use Rattle.profile.specs.series.Days.{day_index}
use Rattle.profile.specs.events.Properties.{OccursAtMostOnce, IsMissing}
use Rattle.profile.specs.series.GeneralZoneTexts.{RunsFault, two_rules}
use Rattle.ical_values.proofs.Exits.{err_exit}
use Rattle.cal_zones.proofs.Reading.{fault_exit}
use Rattle.cal_doors.specs.Runs.{runs_in}
use Rattle.cal_doors.specs.Reading.{SpellsRuleOf, SpellsNoRuleOf}
use Rattle.cal_doors.specs.declared.rule.PartRule.TheVariants.{Yearly, Listed}
use Rattle.cal_doors.proofs.PartSays.{once_first, yearly_first, listed_first, each_year, days_bound, rule_fault, with_offsets}
use Rattle.cal_doors.proofs.part.add_first.Goals as goal

pub returns-in_err-line-clause-fault : goal.returns-in_err-line-clause-fault
returns-in_err-line-clause-fault c =
    let lines = own_lines c.args.properties.now in
    err_exit _ (RefusesBy (RunsFault lines)) _ c.from_residual.ensures.1
    (subst (RunsFault lines) (sym c.in_err-line.ensures.refuses) (two_rules c.in_err-line.ensures.twice))

pub returns-in_default-clause-adds : goal.returns-in_default-clause-adds
returns-in_default-clause-adds c =
    let lines = own_lines c.args.properties.now in
    let t = c.args.times.now in
    let none : IsMissing (codes "RRULE") lines = rw c.in_default.is at c.in_ok-line.ensures.found in
    once_first lines t.start t.from t.to c.args.runs.now.items c.push.new.self.items c.once.result (c.once.ensures.run (with_offsets t.from t.to) refl refl) none c.in_ok-push.ensures.items

pub returns-in_err-rule-clause-fault : goal.returns-in_err-rule-clause-fault
returns-in_err-rule-clause-fault c =
    let lines = own_lines c.args.properties.now in
    let t = c.args.times.now in
    let line = line_text c.in-Some.line in
    let range = subst IsClockSeconds c.seconds.ensures.value c.seconds.ensures.range in
    let there : OccursAtMostOnce (codes "RRULE") lines (Some line) = rw c.in-Some.is at c.in_ok-line.ensures.found in
    fault_exit _ (RunsFault lines) (λ n. (n ≡ 40) × SpellsNoRuleOf t.start t.from c.value.result.now) _
    (λ n h. subst (RunsFault lines) (sym h.0) (rule_fault lines t.start t.from t.to line range c.requires there (subst (SpellsNoRuleOf t.start t.from) c.value.ensures h.1)))
    c.from_residual-in_err-rule.ensures.1 c.in_err-rule.ensures.fault

pub add_yearly-requires : goal.add_yearly-requires
add_yearly-requires c =
    let t = c.args.times.now in
    let range = subst IsClockSeconds c.seconds.ensures.value c.seconds.ensures.range in
    each_year (own_lines c.args.properties.now) t.start t.from t.to c.value.result.now c.in-Yearly.rule range (rw c.in-Yearly.is at c.in_ok-rule.ensures.says)

pub add_days-requires : goal.add_days-requires
add_days-requires c =
    let t = c.args.times.now in
    let range = subst IsClockSeconds c.seconds.ensures.value c.seconds.ensures.range in
    rw c.as_slice.ensures.value (days_bound (own_lines c.args.properties.now) t.start t.from t.to c.value.result.now (map day_index c.in-Listed.days.items) range (rw c.in-Listed.is at c.in_ok-rule.ensures.says))

pub returns-in_ok-add_yearly-in-Yearly-clause-adds : goal.returns-in_ok-add_yearly-in-Yearly-clause-adds
returns-in_ok-add_yearly-in-Yearly-clause-adds c =
    let lines = own_lines c.args.properties.now in
    let t = c.args.times.now in
    let line = line_text c.in-Some.line in
    let there : OccursAtMostOnce (codes "RRULE") lines (Some line) = rw c.in-Some.is at c.in_ok-line.ensures.found in
    let says = subst (λ (text : List ℕ). SpellsRuleOf t.start t.from text (Yearly c.in-Yearly.rule)) c.value.ensures (rw c.in-Yearly.is at c.in_ok-rule.ensures.says) in
    yearly_first lines t.start t.from t.to line c.in-Yearly.rule (runs_in c.args.runs.now.items) (runs_in c.add_yearly.new.runs.items) there says c.in_ok-add_yearly-in-Yearly.ensures

pub returns-in_ok-add_days-in-Listed-clause-adds : goal.returns-in_ok-add_days-in-Listed-clause-adds
returns-in_ok-add_days-in-Listed-clause-adds c =
    let lines = own_lines c.args.properties.now in
    let t = c.args.times.now in
    let line = line_text c.in-Some.line in
    let range = subst IsClockSeconds c.seconds.ensures.value c.seconds.ensures.range in
    let there : OccursAtMostOnce (codes "RRULE") lines (Some line) = rw c.in-Some.is at c.in_ok-line.ensures.found in
    let says = subst (λ (text : List ℕ). SpellsRuleOf t.start t.from text (Listed c.in-Listed.days)) c.value.ensures (rw c.in-Listed.is at c.in_ok-rule.ensures.says) in
    listed_first lines t.start t.from t.to line (map day_index c.in-Listed.days.items) (runs_in c.args.runs.now.items) (runs_in c.add_days.new.runs.items) range there says
    (rw c.as_slice.ensures.value at c.in_ok-add_days-in-Listed.ensures)
