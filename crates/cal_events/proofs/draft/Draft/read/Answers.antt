use Rattle.std.proofs.Common.{false, subst, List, ℕ}
use Rattle.ical_values.specs.Octets.{address_octets}
use Rattle.ical_tree.specs.Tree.{IsObjectOf}
use Rattle.ical_tree.proofs.RefusalLemmas.{text_refuses, tree_refuses}
use Rattle.cal_events.proofs.shared_lemmas.TreeLemmas.{draft_spelled, faults_there, object_refused}
use Rattle.cal_events.proofs.draft.Draft.read.Goals as goal

pub returns-in_err-text-clause-fault : goal.returns-in_err-text-clause-fault
returns-in_err-text-clause-fault c =
    object_refused c.from_residual.result c.args.bytes.now c.in_err-text.field-0.0 c.from_residual.ensures.1 (text_refuses false c.args.bytes.now _ c.in_err-text.ensures.fault)

pub returns-in_err-object-clause-fault : goal.returns-in_err-object-clause-fault
returns-in_err-object-clause-fault c =
    object_refused c.from_residual-in_err-object.result c.args.bytes.now c.in_err-object.field-0.0 c.from_residual-in_err-object.ensures.1 (tree_refuses false c.args.bytes.now _ _ c.in_ok-text.ensures.lines c.in_err-object.ensures.fault)

pub of_object-requires : goal.of_object-requires
of_object-requires c = c.in_ok-object.ensures.own

pub returns-clause-spells : goal.returns-clause-spells
returns-clause-spells c =
    let object = subst (λ (ls : List (List ℕ)). IsObjectOf false c.in_ok-object.object.calendar ls) c.in_ok-text.ensures.lines c.in_ok-object.ensures.spelled in
    draft_spelled _ (address_octets c.args.room.now) c.args.bytes.now c.in_ok-object.object.calendar c.in_ok-text.ensures.reads object c.of_object.ensures.says

pub returns-clause-fault : goal.returns-clause-fault
returns-clause-fault c =
    let object = subst (λ (ls : List (List ℕ)). IsObjectOf false c.in_ok-object.object.calendar ls) c.in_ok-text.ensures.lines c.in_ok-object.ensures.spelled in
    faults_there _ c.args.bytes.now c.in_ok-object.object.calendar object c.of_object.ensures.fault
