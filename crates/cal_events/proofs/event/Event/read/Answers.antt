use Rattle.std.proofs.Common.{true, subst, List, ℕ}
use Rattle.std.specs.Prelude.{None}
use Rattle.std.proofs.lemmas.Result.{IfErr-weaker}
use Rattle.ical_lines.specs.Fault.{RefusesBy}
use Rattle.ical_tree.specs.Tree.{IsObjectOf, tree_of}
use Rattle.ical_tree.proofs.RefusalLemmas.{text_refuses, tree_refuses}
use Rattle.profile.specs.events.Events.{EventFault, EventTextFault}
use Rattle.cal_zones.specs.RoomZones.{room_of}
use Rattle.cal_events.proofs.shared_lemmas.MeetingLemmas.{meeting_spelled, fault_there, object_refused}
use Rattle.cal_events.proofs.event.Event.read.Goals as goal

pub returns-in_err-text-clause-fault : goal.returns-in_err-text-clause-fault
returns-in_err-text-clause-fault c =
    object_refused c.from_residual.result (room_of c.args.room.now) c.args.bytes.now c.in_err-text.field-0.0 c.from_residual.ensures.1 (text_refuses true c.args.bytes.now _ c.in_err-text.ensures.fault)

pub returns-in_err-object-clause-fault : goal.returns-in_err-object-clause-fault
returns-in_err-object-clause-fault c =
    object_refused c.from_residual-in_err-object.result (room_of c.args.room.now) c.args.bytes.now c.in_err-object.field-0.0 c.from_residual-in_err-object.ensures.1 (tree_refuses true c.args.bytes.now _ _ c.in_ok-text.ensures.lines c.in_err-object.ensures.fault)

pub returns-clause-spells : goal.returns-clause-spells
returns-clause-spells c =
    let object = subst (λ (ls : List (List ℕ)). IsObjectOf true c.in_ok-object.object ls) c.in_ok-text.ensures.lines c.in_ok-object.ensures.spelled in
    meeting_spelled _ (room_of c.args.room.now) c.args.bytes.now c.in_ok-object.object c.in_ok-text.ensures.reads object c.of_object.ensures.says

pub returns-clause-fault : goal.returns-clause-fault
returns-clause-fault c =
    let object = subst (λ (ls : List (List ℕ)). IsObjectOf true c.in_ok-object.object ls) c.in_ok-text.ensures.lines c.in_ok-object.ensures.spelled in
    IfErr-weaker _ (RefusesBy (EventFault (room_of c.args.room.now) (tree_of c.in_ok-object.object) None)) (RefusesBy (EventTextFault (room_of c.args.room.now) c.args.bytes.now))
    (fault_there (room_of c.args.room.now) c.args.bytes.now c.in_ok-object.object object) c.of_object.ensures.fault
