use Rattle.std.proofs.Common.{codes, sym, ap, subst, ◌∙◌}
use Rattle.std.specs.Prelude.{option_map, IfSome}
use Rattle.ical_lines.specs.declared.fault.Refusal.{Refusal}
use Rattle.ical_lines.proofs.FaultLemmas.{placed_where}
use Rattle.std.specs.Option.{option_to_list}
use Rattle.ical_lines.specs.Text.{line_text}
use Rattle.profile.specs.text.Lines.{line_value}
use Rattle.profile.specs.events.EventComponents.{EventComponentFault}
use Rattle.profile.specs.events.Properties.{IsNoStamp}
use Rattle.profile.specs.events.EventComponents.{in_presence, bad_stamp}
use Rattle.ical_tree.specs.Own.{own_lines, numbered_own}
use Rattle.cal_events.specs.Component.{method_read}
use Rattle.cal_events.proofs.shared_lemmas.EventLemmas.{some_line}
use Rattle.ical_values.proofs.Exits.{err_exit, refusal_exit}
use Rattle.profile.specs.events.EventBlame.{EventBlame}
use Rattle.cal_events.specs.Property.{IsLineOf}
use Rattle.cal_events.specs.declared.property.Property.TheVariants.{Dtstamp}
use Rattle.cal_events.proofs.shared_lemmas.LineBlame.{placed_blamed, number_wrong}
use Rattle.cal_events.proofs.component_values.read_stamp.Goals as goal

pub returns-in_err-line-clause-fault : goal.returns-in_err-line-clause-fault
returns-in_err-line-clause-fault c object =
    refusal_exit _ (EventComponentFault object (method_read c.args.method) (own_lines c.args.properties.now)) _ c.from_residual.ensures.1 (in_presence c.in_err-line.ensures.fault)

pub returns-in_err-placed-in-Some-clause-fault : goal.returns-in_err-placed-in-Some-clause-fault
returns-in_err-placed-in-Some-clause-fault c object =
    let P = EventComponentFault object (method_read c.args.method) (own_lines c.args.properties.now) in
    let line = line_text c.in-Some.line in
    let once = c.in_ok-line.ensures.found ∙ ap (λ l. option_to_list (option_map line_text l)) c.in-Some.is in
    let wrong = number_wrong 10 IsNoStamp c.read.result _ (line_text c.in-Some.line) c.value.ensures c.read.ensures.refuses c.read.ensures.none in
    let placed = placed_where _ c.in-Some.line.number c.read.result c.in_err-placed-in-Some.field-0.0 c.in_err-placed-in-Some.ensures wrong in
    refusal_exit _ P _ c.from_residual-in_err-placed-in-Some.ensures.1
    (subst P (sym placed.0.0) (bad_stamp (some_line (codes "DTSTAMP") (λ line. IsNoStamp (line_value line)) (own_lines c.args.properties.now) line once placed.0.1)))

pub returns-in_err-placed-in-Some-clause-at : goal.returns-in_err-placed-in-Some-clause-at
returns-in_err-placed-in-Some-clause-at c zones =
    let m = method_read c.args.method in
    let event = numbered_own c.args.properties.now in
    let wrong = number_wrong 10 IsNoStamp c.read.result _ (line_text c.in-Some.line) c.value.ensures c.read.ensures.refuses c.read.ensures.none in
    let is = subst (λ found. IfSome found (IsLineOf Dtstamp event)) c.in-Some.is c.in_ok-line.ensures.among in
    err_exit _ (λ (e : Refusal). EventBlame m zones event e.number e.line) _ c.from_residual-in_err-placed-in-Some.ensures.1
    (placed_blamed m zones Dtstamp event c.in-Some.line is c.read.result _ c.in_err-placed-in-Some.ensures wrong)
