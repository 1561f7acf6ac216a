use Rattle.std.proofs.Common.{rules}
use Rattle.std.proofs.Common.{◌≡◌, ap, codes, refl, subst, inl, inr, List, ℕ}
use Rattle.ical_lines.specs.Fault.{RefusesBy, RefusesWhere}
use Rattle.ical_lines.specs.Text.{line_text}
use Rattle.ical_lines.proofs.FaultLemmas.{fault_where}
use Rattle.ical_tree.proofs.OneLine.{the_line}
use Rattle.std.proofs.lemmas.Result.{IfOk-at_ok}
use Rattle.ical_tree.specs.Own.{own_lines, numbered_own}
use Rattle.profile.specs.series.ZoneBlame.{PartBlame, is_shape_fault}
use Rattle.cal_zones.proofs.Blamed.{not_once, once_blame, own_part, shape_blame, by_where, where_exit}
use Rattle.ical_tree.specs.Tree.{component_lines, numbered_of}
use Rattle.std.specs.Prelude.{Some, true}
use Rattle.profile.specs.events.Properties.{Says}
use Rattle.profile.specs.series.ZoneTexts.{HasNoYearRule, IsYearLine, SpellsYear, SpellsNoYear}
use Rattle.cal_zones.specs.Shapes.{rule_named}
use Rattle.cal_zones.specs.Onsets.{observance_of}
use Rattle.cal_zones.specs.Read.{YearlyFault}
use Rattle.cal_zones.proofs.Reading.{said, no_rule_there, same_times}
use Rattle.ical_values.proofs.Exits.{err_exit}
use Rattle.cal_zones.proofs.read.read_yearly.Goals as goal

pub returns-in_err-observance-clause-fault : goal.returns-in_err-observance-clause-fault
returns-in_err-observance-clause-fault c =
    err_exit _ (RefusesBy (YearlyFault (component_lines c.args.part.now))) _ c.from_residual-in_err-observance.ensures.1
    (inl (rw c.in_ok-properties.ensures.lines at c.in_err-observance.ensures.fault))

pub returns-in_err-line-clause-fault : goal.returns-in_err-line-clause-fault
returns-in_err-line-clause-fault c =
    err_exit _ (RefusesBy (YearlyFault (component_lines c.args.part.now))) _ c.from_residual-in_err-line.ensures.1
    (inr (c.in_err-line.ensures.refuses, subst HasNoYearRule c.in_ok-properties.ensures.lines (no_rule_there (own_lines c.in_ok-properties.properties) (not_once c.in_err-line.ensures.faulty))))

pub returns-in_err-line-clause-at : goal.returns-in_err-line-clause-at
returns-in_err-line-clause-at c =
    let own = c.in_ok-properties.properties in
    let e = c.in_err-line.field-0.0 in
    err_exit _ (RefusesWhere (PartBlame (numbered_of c.args.part.now))) _ c.from_residual-in_err-line.ensures.1
    (subst (λ part. PartBlame part e.number e.line) (own_part own c.args.part.now c.in_ok-properties.ensures.numbered c.in_ok-properties.ensures.begun)
    (once_blame (numbered_own own) (codes "RRULE") _ _ c.in_err-line.ensures.refuses c.in_err-line.ensures.faulty))

pub returns-in_err-rule-clause-fault : goal.returns-in_err-rule-clause-fault
returns-in_err-rule-clause-fault c =
    let own = own_lines c.in_ok-properties.properties in
    let line = line_text c.in_ok-line.line in
    let e = c.in_err-rule.field-0.0 in
    err_exit _ (RefusesBy (YearlyFault (component_lines c.args.part.now))) e c.from_residual-in_err-rule.ensures.1
    (by_where _ _ e (λ n at h. inr (h.0.0, subst HasNoYearRule c.in_ok-properties.ensures.lines (inr (inr (line, the_line (codes "RRULE") own line c.in_ok-line.ensures.found, subst SpellsNoYear c.value.ensures h.0.1)))))
    (fault_where (λ n. (n ≡ 40) × SpellsNoYear c.value.result.now) c.in_ok-line.line.number c.read_year.result e c.in_err-rule.ensures c.read_year.ensures.fault))

pub returns-in_err-rule-clause-at : goal.returns-in_err-rule-clause-at
returns-in_err-rule-clause-at c =
    let own = c.in_ok-properties.properties in
    let line = c.in_ok-line.line in
    let e = c.in_err-rule.field-0.0 in
    where_exit _ (PartBlame (numbered_of c.args.part.now)) _ e
    (λ n at h. subst (λ part. PartBlame part n at) (own_part own c.args.part.now c.in_ok-properties.ensures.numbered c.in_ok-properties.ensures.begun)
    (shape_blame (numbered_own own) line.number line.text.now n at c.in_ok-line.ensures.among h.1 (ap is_shape_fault h.0.0))) c.from_residual-in_err-rule.ensures.1
    (fault_where (λ n. (n ≡ 40) × SpellsNoYear c.value.result.now) line.number c.read_year.result e c.in_err-rule.ensures c.read_year.ensures.fault)

pub returns-clause-says : goal.returns-clause-says
returns-clause-says c =
    let lines = component_lines c.args.part.now in
    let rule = c.in_ok-rule.rule in
    record {
      times = same_times lines (observance_of c.in_ok-observance.observance) _ refl refl refl refl (rw c.in_ok-properties.ensures.lines at c.in_ok-observance.ensures.says);
      each = rule_named rule.month rule.days;
      rule = subst (λ (ls : List (List ℕ)). Says (codes "RRULE") true IsYearLine ls (Some (rule_named rule.month rule.days))) c.in_ok-properties.ensures.lines (said IsYearLine (codes "RRULE") (own_lines c.in_ok-properties.properties) (line_text c.in_ok-line.line) (rule_named rule.month rule.days) c.in_ok-line.ensures.found (subst (λ (s : List ℕ). SpellsYear s (rule_named rule.month rule.days)) c.value.ensures (IfOk-at_ok (λ r. SpellsYear c.value.result.now (rule_named r.month r.days)) c.in_ok-rule.ensures c.read_year.ensures.says)));
      is = refl;
    }

pub invariant_of-observance : goal.invariant_of-observance
invariant_of-observance c = search rules

pub returns-clause-has_rule : goal.returns-clause-has_rule
returns-clause-has_rule c = search rules

pub returns-clause-fault : goal.returns-clause-fault
returns-clause-fault c = search rules
