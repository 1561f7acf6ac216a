use Rattle.std.proofs.Common.{◌≡◌, false, ap, subst, List, [], ℕ, codes}
use Rattle.ical_lines.specs.Fault.{RefusesBy, RefusesOnly}
use Rattle.ical_lines.specs.declared.fault.Fault.TheVariants.{Refused}
use Rattle.ical_tree.specs.Tree.{IsObjectOf}
use Rattle.ical_tree.proofs.RefusalLemmas.{text_refuses, tree_refuses}
use Rattle.ical_values.proofs.Exits.{err_exit}
use Rattle.profile.specs.faults.Faults.{is_calendar_fault}
use Rattle.profile.specs.events.Properties.{lines_named}
use Rattle.cal_events.specs.WithZone.{WithZoneFault, HasZoneLine}
use Rattle.cal_events.proofs.with_zone_lemmas.Places.{no_text, line_object, named_object, unnamed_object}
use Rattle.cal_events.proofs.with_zone.zone_place.Goals as goal

pub returns-in_err-text-clause-fault : goal.returns-in_err-text-clause-fault
returns-in_err-text-clause-fault c =
    let octets = c.args.bytes.now in
    err_exit c.from_residual.result (RefusesBy (WithZoneFault octets)) c.in_err-text.field-0.0 c.from_residual.ensures.1 (no_text octets c.in_err-text.field-0.0 (text_refuses false octets _ c.in_err-text.ensures.fault) (line_object c.in_err-text.field-0.0 c.in_err-text.ensures.refuses))

pub returns-in_err-object-clause-fault : goal.returns-in_err-object-clause-fault
returns-in_err-object-clause-fault c =
    let octets = c.args.bytes.now in
    err_exit c.from_residual-in_err-object.result (RefusesBy (WithZoneFault octets)) c.in_err-object.field-0.0 c.from_residual-in_err-object.ensures.1
    (no_text octets c.in_err-object.field-0.0 (tree_refuses false octets _ _ c.in_ok-text.ensures.lines c.in_err-object.ensures.fault) c.in_err-object.ensures.refuses)

pub returns-in_err-judge_unnamed-clause-fault : goal.returns-in_err-judge_unnamed-clause-fault
returns-in_err-judge_unnamed-clause-fault c =
    let octets = c.args.bytes.now in
    let calendar = c.in_ok-object.object.calendar in
    let refusal = c.in_err-judge_unnamed.field-0.0 in
    let object = subst (λ (ls : List (List ℕ)). IsObjectOf false calendar ls) c.in_ok-text.ensures.lines c.in_ok-object.ensures.spelled in
    let named = subst (λ (own : List (List ℕ)). (refusal.number ≡ 44) × HasZoneLine own) c.in_ok-object.ensures.own c.in_err-judge_unnamed.ensures.fault in
    err_exit c.from_residual-in_err-judge_unnamed.result (RefusesBy (WithZoneFault octets)) _ c.from_residual-in_err-judge_unnamed.ensures.1
    (named_object octets calendar (Refused refusal) object named)

pub returns-in_err-judge_unnamed-clause-refuses : goal.returns-in_err-judge_unnamed-clause-refuses
returns-in_err-judge_unnamed-clause-refuses c =
    err_exit c.from_residual-in_err-judge_unnamed.result (RefusesOnly is_calendar_fault) _ c.from_residual-in_err-judge_unnamed.ensures.1
    (ap is_calendar_fault c.in_err-judge_unnamed.ensures.fault.0)

pub returns-clause-unnamed : goal.returns-clause-unnamed
returns-clause-unnamed c =
    let calendar = c.in_ok-object.object.calendar in
    let object = subst (λ (ls : List (List ℕ)). IsObjectOf false calendar ls) c.in_ok-text.ensures.lines c.in_ok-object.ensures.spelled in
    let none = subst (λ (own : List (List ℕ)). lines_named (codes "X-ROOM-ZONE") own ≡ []) c.in_ok-object.ensures.own c.in_ok-judge_unnamed.ensures.unnamed in
    unnamed_object c.one_tree.ensures.one c.args.bytes.now calendar object none
