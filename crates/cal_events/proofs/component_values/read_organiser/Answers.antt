use Rattle.std.proofs.Common.{codes, sym, ap, subst, ◌∙◌}
use Rattle.ical_lines.specs.Fault.{RefusesBy, RefusesOnly, RefusesWhere}
use Rattle.std.specs.Prelude.{option_map, IfErr, IfSome}
use Rattle.std.specs.Option.{option_to_list}
use Rattle.ical_lines.specs.Text.{line_text}
use Rattle.profile.specs.text.Values.{IsAddress}
use Rattle.profile.specs.events.EventComponents.{EventComponentFault}
use Rattle.profile.specs.events.Properties.{IsNoAddress}
use Rattle.profile.specs.events.EventComponents.{in_presence, bad_organiser}
use Rattle.ical_tree.specs.Own.{own_lines, numbered_own}
use Rattle.cal_events.specs.Component.{method_read}
use Rattle.cal_events.proofs.shared_lemmas.EventLemmas.{by_number, some_line}
use Rattle.ical_values.specs.Refused.{IfRefused}
use Rattle.ical_values.proofs.Exits.{err_both, err_exit}
use Rattle.profile.specs.faults.Faults.{is_address_fault}
use Rattle.profile.specs.text.Lines.{line_value}
use Rattle.profile.specs.events.EventBlame.{EventBlame}
use Rattle.cal_events.specs.Property.{IsLineOf}
use Rattle.cal_events.specs.declared.property.Property.TheVariants.{Organizer}
use Rattle.cal_events.proofs.shared_lemmas.LineBlame.{fault_number, fault_blamed, value_wrong}
use Rattle.cal_events.proofs.component_values.read_organiser.Goals as goal

pub returns-in_err-line-clause-fault : goal.returns-in_err-line-clause-fault
returns-in_err-line-clause-fault c object =
    err_exit _ (RefusesBy (EventComponentFault object (method_read c.args.method) (own_lines c.args.properties.now))) _ c.from_residual.ensures.1 (in_presence c.in_err-line.ensures.fault)

pub returns-in_err-placed_fault-in-Some-clause-fault : goal.returns-in_err-placed_fault-in-Some-clause-fault
returns-in_err-placed_fault-in-Some-clause-fault c object =
    let P = EventComponentFault object (method_read c.args.method) (own_lines c.args.properties.now) in
    let once = c.in_ok-line.ensures.found ∙ ap (λ l. option_to_list (option_map line_text l)) c.in-Some.is in
    let read = err_both c.read.result (RefusesOnly is_address_fault) (IfRefused (¬ (IsAddress c.value.result.now))) (RefusesBy P)
    (λ f t none. by_number f P _ 15
    (λ no. bad_organiser (some_line (codes "ORGANIZER") IsNoAddress (own_lines c.args.properties.now) (line_text c.in-Some.line) once (λ h. no (subst IsAddress (sym c.value.ensures) h))))
    t none)
    c.read.ensures.refuses c.read.ensures.none in
    err_exit _ (RefusesBy P) _ c.from_residual-in_err-placed_fault-in-Some.ensures.1
    (fault_number P c.in-Some.line.number c.read.result _ c.in_err-placed_fault-in-Some.ensures read)

pub returns-in_err-placed_fault-in-Some-clause-at : goal.returns-in_err-placed_fault-in-Some-clause-at
returns-in_err-placed_fault-in-Some-clause-at c zones =
    let m = method_read c.args.method in
    let event = numbered_own c.args.properties.now in
    let line = c.in-Some.line in
    let none = subst (λ v. IfErr c.read.result (IfRefused (¬ (IsAddress v)))) c.value.ensures c.read.ensures.none in
    let wrong = value_wrong is_address_fault (¬ (IsAddress (line_value (line_text line)))) c.read.result c.read.ensures.refuses none in
    let is = subst (λ found. IfSome found (IsLineOf Organizer event)) c.in-Some.is c.in_ok-line.ensures.among in
    err_exit _ (RefusesWhere (EventBlame m zones event)) _ c.from_residual-in_err-placed_fault-in-Some.ensures.1
    (fault_blamed m zones Organizer event line is c.read.result _ c.in_err-placed_fault-in-Some.ensures wrong)
