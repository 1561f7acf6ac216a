use Rattle.std.proofs.Common.{true, subst, List, ℕ}
use Rattle.std.specs.List.{enumerate_from}
use Rattle.ical_lines.specs.Fault.{RefusesWhere}
use Rattle.ical_tree.specs.Tree.{ArePlaced, IsObjectOf, tree_of}
use Rattle.ical_values.proofs.Exits.{err_exit}
use Rattle.itip_messages.specs.Blame.{MessageTextBlame}
use Rattle.itip_messages.proofs.message_events_lemmas.Blamed.{lines_blamed, object_blamed, tree_blamed}
use Rattle.ical_tree.proofs.TreeOfLemmas.{object_tree}
use Rattle.profile.specs.text.Lines.{logical_lines}
use Rattle.ical_tree.proofs.RefusalLemmas.{text_refuses, tree_refuses}
use Rattle.itip_messages.proofs.message_lemmas.TreeLemmas.{message_spelled, faults_there, octets_refused}
use Rattle.itip_messages.proofs.message.Message.read.Goals as goal

pub returns-in_err-text-clause-fault : goal.returns-in_err-text-clause-fault
returns-in_err-text-clause-fault c =
    octets_refused c.from_residual.result c.args.bytes.now c.in_err-text.field-0.0 c.from_residual.ensures.1 (text_refuses true c.args.bytes.now _ c.in_err-text.ensures.fault)

pub returns-in_err-object-clause-fault : goal.returns-in_err-object-clause-fault
returns-in_err-object-clause-fault c =
    octets_refused c.from_residual-in_err-object.result c.args.bytes.now c.in_err-object.field-0.0 c.from_residual-in_err-object.ensures.1 (tree_refuses true c.args.bytes.now _ _ c.in_ok-text.ensures.lines c.in_err-object.ensures.fault)

pub of_object-requires : goal.of_object-requires
of_object-requires c =
    let object = subst (λ (ls : List (List ℕ)). IsObjectOf true c.in_ok-object.object.calendar ls) c.in_ok-text.ensures.lines c.in_ok-object.ensures.spelled in
    record {
      own = c.in_ok-object.ensures.own;
      spelled = λ said says.
          (c.args.bytes.now, record { lines = c.in_ok-text.ensures.reads; tree = tree_of c.in_ok-object.object.calendar; object = object_tree true c.in_ok-object.object.calendar (logical_lines c.args.bytes.now) object; says = says });
    }

pub returns-clause-spells : goal.returns-clause-spells
returns-clause-spells c =
    let object = subst (λ (ls : List (List ℕ)). IsObjectOf true c.in_ok-object.object.calendar ls) c.in_ok-text.ensures.lines c.in_ok-object.ensures.spelled in
    message_spelled _ c.args.bytes.now c.in_ok-object.object.calendar c.in_ok-text.ensures.reads object c.of_object.ensures.says

pub returns-clause-fault : goal.returns-clause-fault
returns-clause-fault c =
    let object = subst (λ (ls : List (List ℕ)). IsObjectOf true c.in_ok-object.object.calendar ls) c.in_ok-text.ensures.lines c.in_ok-object.ensures.spelled in
    faults_there _ c.args.bytes.now c.in_ok-object.object.calendar object c.of_object.ensures.fault

pub returns-in_err-text-clause-at : goal.returns-in_err-text-clause-at
returns-in_err-text-clause-at c =
    err_exit _ (RefusesWhere (MessageTextBlame c.args.bytes.now)) _ c.from_residual.ensures.1 (lines_blamed c.args.bytes.now _ c.in_err-text.ensures.first c.in_err-text.ensures.at)

pub returns-in_err-object-clause-at : goal.returns-in_err-object-clause-at
returns-in_err-object-clause-at c =
    err_exit _ (RefusesWhere (MessageTextBlame c.args.bytes.now)) _ c.from_residual-in_err-object.ensures.1 (tree_blamed c.args.bytes.now _ _ c.in_ok-text.ensures.lines c.in_err-object.ensures.at)

pub returns-clause-at : goal.returns-clause-at
returns-clause-at c =
    let object = subst (λ (ls : List (List ℕ)). IsObjectOf true c.in_ok-object.object.calendar ls) c.in_ok-text.ensures.lines c.in_ok-object.ensures.spelled in
    let placed = subst (λ (ls : List (List ℕ)). ArePlaced (enumerate_from 1 ls) c.in_ok-object.object.calendar) c.in_ok-text.ensures.lines c.in_ok-object.ensures.placed in
    object_blamed c.args.bytes.now c.in_ok-object.object.calendar _ object placed (c.of_object.ensures.at c.in_ok-object.ensures.numbered)
