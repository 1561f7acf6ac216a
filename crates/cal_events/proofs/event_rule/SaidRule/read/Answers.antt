use Rattle.std.proofs.Common.{◌∙◌, codes, ap, subst, option_map}
use Rattle.std.specs.Option.{option_to_list}
use Rattle.ical_lines.specs.Fault.{RefusesBy, RefusesWhere}
use Rattle.ical_lines.specs.Text.{line_text}
use Rattle.ical_lines.specs.declared.line.Line.{Line}
use Rattle.ical_tree.specs.Own.{own_lines, numbered_own}
use Rattle.std.specs.Prelude.{IfSome}
use Rattle.profile.specs.events.EventBlame.{EventBlame}
use Rattle.cal_events.specs.Property.{IsLineOf}
use Rattle.cal_events.specs.declared.property.Property.TheVariants.{Rrule}
use Rattle.cal_events.proofs.shared_lemmas.LineBlame.{fault_blamed, fault_number}
use Rattle.profile.specs.text.Lines.{line_value}
use Rattle.profile.specs.series.RuleTexts.{IsLeastRuleFault}
use Rattle.profile.specs.events.EventComponents.{EventComponentFault, in_presence, in_rule}
use Rattle.profile.specs.events.EventRules.{bad_rule}
use Rattle.ical_values.proofs.Exits.{err_exit}
use Rattle.cal_events.specs.Component.{method_read}
use Rattle.cal_events.proofs.shared_lemmas.EventLemmas.{some_line}
use Rattle.cal_events.proofs.shared_lemmas.ZonedLemmas.{weaker_fault}
use Rattle.cal_events.proofs.event_rule.SaidRule.read.Goals as goal

pub returns-in_err-line-clause-fault : goal.returns-in_err-line-clause-fault
returns-in_err-line-clause-fault c object =
    err_exit _ (RefusesBy (EventComponentFault object (method_read c.args.method) (own_lines c.args.properties.now))) _ c.from_residual.ensures.1 (in_presence c.in_err-line.ensures.fault)

pub returns-in_err-text-clause-fault : goal.returns-in_err-text-clause-fault
returns-in_err-text-clause-fault c object =
    let lines = own_lines c.args.properties.now in
    let P = EventComponentFault object (method_read c.args.method) lines in
    let line = c.in-Some.line in
    let value = line_value (line_text line) in
    let once = c.in_ok-line.ensures.found ∙ ap (λ l. option_to_list (option_map line_text l)) c.in-Some.is in
    let least = rw c.value.ensures at (c.read.ensures.refuses) in
    err_exit _ (RefusesBy P) _ c.from_residual-in_err-text.ensures.1
    (weaker_fault _ (IsLeastRuleFault value) P
    (λ n h. in_rule (bad_rule (some_line (codes "RRULE") (λ l. IsLeastRuleFault (line_value l) n) lines (line_text line) once h)))
    (fault_number (IsLeastRuleFault value) line.number _ _ c.in_err-text.ensures least))

pub returns-in_err-text-clause-at : goal.returns-in_err-text-clause-at
returns-in_err-text-clause-at c zones =
    let m = method_read c.args.method in
    let event = numbered_own c.args.properties.now in
    let line = c.in-Some.line in
    let is = subst (λ found. IfSome found (λ (l : Line). IsLineOf Rrule event l)) c.in-Some.is c.in_ok-line.ensures.among in
    let least = rw c.value.ensures at (c.read.ensures.refuses) in
    err_exit _ (RefusesWhere (EventBlame m zones event)) _ c.from_residual-in_err-text.ensures.1
    (fault_blamed m zones Rrule event line is _ _ c.in_err-text.ensures least)
