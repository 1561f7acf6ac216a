use Rattle.std.proofs.Common.{◌∙◌, ap, codes, sym, subst}
use Rattle.ical_lines.specs.Text.{line_text}
use Rattle.ical_lines.specs.Fault.{RefusesOnly, RefusesBy, RefusesWhere, IsFaultAt}
use Rattle.ical_lines.specs.declared.fault.Fault.{Fault}
use Rattle.ical_values.specs.Refused.{IfRefused}
use Rattle.ical_values.proofs.Exits.{err_exit, err_both}
use Rattle.profile.specs.faults.Faults.{is_uid_fault}
use Rattle.profile.specs.text.Lines.{line_value}
use Rattle.profile.specs.text.Values.{IsUid, unescaped}
use Rattle.profile.specs.events.EventComponents.{EventComponentFault}
use Rattle.profile.specs.events.EventComponents.{in_presence, bad_uid}
use Rattle.std.specs.Prelude.{option_map, IfErr, IfSome}
use Rattle.std.specs.Option.{option_to_list}
use Rattle.ical_tree.specs.Own.{own_lines, numbered_own}
use Rattle.cal_events.specs.Component.{method_read}
use Rattle.cal_events.proofs.shared_lemmas.EventLemmas.{by_number, some_line, uid_said}
use Rattle.profile.specs.events.EventBlame.{EventBlame}
use Rattle.cal_events.specs.Property.{IsLineOf}
use Rattle.cal_events.specs.declared.property.Property.TheVariants.{Uid}
use Rattle.cal_events.proofs.shared_lemmas.LineBlame.{ok_placed, if_err, fault_number, fault_blamed, value_wrong}
use Rattle.cal_events.proofs.component_values.read_uid.Goals as goal

pub returns-in_err-line-clause-fault : goal.returns-in_err-line-clause-fault
returns-in_err-line-clause-fault c object =
    err_exit _ (RefusesBy (EventComponentFault object (method_read c.args.method) (own_lines c.args.properties.now))) _ c.from_residual.ensures.1 (in_presence c.in_err-line.ensures.fault)

pub returns-clause-reads : goal.returns-clause-reads
returns-clause-reads c =
    let once = c.in_ok-line.ensures.found ∙ ap (λ l. option_to_list (option_map line_text l)) c.in-Some.is in
    ok_placed _ c.placed_fault.result c.read_uid.result _ c.placed_fault.ensures
    (uid_said _ _ (line_text c.in-Some.line) _ once c.value.ensures c.read_uid.ensures.reads c.read_uid.ensures.uid)

pub returns-clause-fault : goal.returns-clause-fault
returns-clause-fault c object =
    let P = EventComponentFault object (method_read c.args.method) (own_lines c.args.properties.now) in
    let value = c.value.result.now in
    let line = line_text c.in-Some.line in
    let once = c.in_ok-line.ensures.found ∙ ap (λ l. option_to_list (option_map line_text l)) c.in-Some.is in
    let read = err_both c.read_uid.result (RefusesOnly is_uid_fault) (IfRefused (¬ (IsUid (unescaped value)))) (RefusesBy P)
    (λ f t no. by_number f P _ 14
    (λ h. bad_uid (some_line (codes "UID") (λ l. ¬ (IsUid (unescaped (line_value l)))) (own_lines c.args.properties.now) line once (λ u. h (subst (λ t. IsUid (unescaped t)) (sym c.value.ensures) u))))
    t no)
    c.read_uid.ensures.refuses c.read_uid.ensures.none in
    if_err _ (IsFaultAt c.in-Some.line.number c.read_uid.result) (RefusesBy P) c.placed_fault.result c.placed_fault.ensures
    (λ (f : Fault) so. fault_number P c.in-Some.line.number c.read_uid.result f so read)

pub returns-clause-at : goal.returns-clause-at
returns-clause-at c zones =
    let m = method_read c.args.method in
    let event = numbered_own c.args.properties.now in
    let line = c.in-Some.line in
    let none = subst (λ v. IfErr c.read_uid.result (IfRefused (¬ (IsUid (unescaped v))))) c.value.ensures c.read_uid.ensures.none in
    let wrong = value_wrong is_uid_fault (¬ (IsUid (unescaped (line_value (line_text line))))) c.read_uid.result c.read_uid.ensures.refuses none in
    let is = subst (λ found. IfSome found (IsLineOf Uid event)) c.in-Some.is c.in_ok-line.ensures.among in
    if_err _ (IsFaultAt line.number c.read_uid.result) (RefusesWhere (EventBlame m zones event)) c.placed_fault.result c.placed_fault.ensures
    (λ (f : Fault) so. fault_blamed m zones Uid event line is c.read_uid.result f so wrong)
