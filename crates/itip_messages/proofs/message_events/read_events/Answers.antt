use Rattle.std.proofs.Common.{◌≡◌, ◌∙◌, ℕ, List, Some, true, map, subst, sym}
use Rattle.std.specs.List.{list_all}
use Rattle.std.specs.Prelude.{Contains}
use Rattle.ical_lines.specs.Fault.{RefusesBy, RefusesWhere}
use Rattle.ical_tree.specs.Own.{own_lines, own_numbered}
use Rattle.cal_events.specs.Begins.{begins_of}
use Rattle.itip_messages.specs.Blame.{MessageBlame}
use Rattle.itip_messages.proofs.message_events_lemmas.Blamed.{attendee_blamed, events_blamed, method_blamed}
use Rattle.ical_tree.specs.Tree.{tree_of}
use Rattle.ical_tree.proofs.TreeOfLemmas.{tree_of-own}
use Rattle.ical_values.proofs.Exits.{err_exit}
use Rattle.profile.specs.events.Messages.{MethodFault, MessageFault, NamesMethod, has_one_attendee, in_method}
use Rattle.profile.specs.events.EventComponents.{ATTENDEE, is_of_one, presence}
use Rattle.cal_events.specs.Component.{component_of, method_said}
use Rattle.cal_events.specs.declared.component.EventComponent.{EventComponent}
use Rattle.itip_messages.specs.Message.{IsNotOneEach}
use Rattle.itip_messages.proofs.message_events_lemmas.EventsRead.{attendee_wrong, meeting_wrong, says_events}
use Rattle.itip_messages.proofs.message_events.read_events.Goals as goal

pub returns-in_err-method-clause-fault : goal.returns-in_err-method-clause-fault
returns-in_err-method-clause-fault c =
    let object = c.args.object.now in
    let own = subst (λ (ls : List (List ℕ)). MethodFault ls c.in_err-method.field-0.0.number) (c.requires ∙ sym (tree_of-own object)) c.in_err-method.ensures.fault in
    err_exit _ (RefusesBy (MessageFault (tree_of object))) _ c.from_residual.ensures.1 (in_method own)

pub returns-in_err-events-clause-fault : goal.returns-in_err-events-clause-fault
returns-in_err-events-clause-fault c =
    let object = c.args.object.now in
    let method = method_said c.in_ok-method.method in
    let named = subst (λ (ls : List (List ℕ)). NamesMethod ls method) (c.requires ∙ sym (tree_of-own object)) c.in_ok-method.ensures.named in
    err_exit _ (RefusesBy (MessageFault (tree_of object))) _ c.from_residual-in_err-events.ensures.1 (meeting_wrong object method named _ c.in_err-events.ensures.fault)

pub returns-in_err-judge_attendees-clause-fault : goal.returns-in_err-judge_attendees-clause-fault
returns-in_err-judge_attendees-clause-fault c =
    let object = c.args.object.now in
    let method = method_said c.in_ok-method.method in
    let named = subst (λ (ls : List (List ℕ)). NamesMethod ls method) (c.requires ∙ sym (tree_of-own object)) c.in_ok-method.ensures.named in
    let number = c.in_err-judge_attendees.field-0.0.number in
    let wrong = subst (λ (l : List EventComponent). IsNotOneEach method (map component_of l) number) c.deref.ensures.value c.in_err-judge_attendees.ensures.fault in
    err_exit _ (RefusesBy (MessageFault (tree_of object))) _ c.from_residual-in_err-judge_attendees.ensures.1
    (attendee_wrong object method named (map component_of c.in_ok-events.events.items) c.in_ok-events.ensures.says number wrong)

pub returns-clause-says : goal.returns-clause-says
returns-clause-says c =
    let object = c.args.object.now in
    let method = method_said c.in_ok-method.method in
    let named = subst (λ (ls : List (List ℕ)). NamesMethod ls method) (c.requires ∙ sym (tree_of-own object)) c.in_ok-method.ensures.named in
    let one_each = subst (λ (l : List EventComponent). is_of_one (presence ATTENDEE (Some method)) ≡ true → list_all has_one_attendee (map component_of l) ≡ true) c.deref.ensures.value c.in_ok-judge_attendees.ensures.each in
    says_events object method named (map component_of c.in_ok-events.events.items) c.in_ok-events.ensures.says one_each

pub returns-in_err-method-clause-at : goal.returns-in_err-method-clause-at
returns-in_err-method-clause-at c = λ same.
    err_exit _ (RefusesWhere (MessageBlame c.args.object.now)) _ c.from_residual.ensures.1
    (method_blamed c.args.object.now (own_lines c.args.own.now) (own_numbered c.args.own.now) c.in_err-method.field-0.0 same c.in_err-method.ensures.fault c.in_err-method.ensures.at)

pub returns-in_err-events-clause-at : goal.returns-in_err-events-clause-at
returns-in_err-events-clause-at c = λ same.
    let method = method_said c.in_ok-method.method in
    let named = subst (λ (ls : List (List ℕ)). NamesMethod ls method) c.requires c.in_ok-method.ensures.named in
    err_exit _ (RefusesWhere (MessageBlame c.args.object.now)) _ c.from_residual-in_err-events.ensures.1 (events_blamed c.args.object.now method named _ c.in_err-events.ensures.at)

pub returns-in_err-judge_attendees-clause-at : goal.returns-in_err-judge_attendees-clause-at
returns-in_err-judge_attendees-clause-at c = λ same.
    let among = subst (λ (l : List EventComponent). Contains (begins_of l) c.in_err-judge_attendees.field-0.0.line) c.deref.ensures.value c.in_err-judge_attendees.ensures.at in
    err_exit _ (RefusesWhere (MessageBlame c.args.object.now)) _ c.from_residual-in_err-judge_attendees.ensures.1
    (attendee_blamed c.args.object.now (begins_of c.in_ok-events.events.items) c.in_err-judge_attendees.field-0.0 c.in_ok-events.ensures.begun c.in_err-judge_attendees.ensures.fault.0 among)
