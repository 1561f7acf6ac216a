use Rattle.std.proofs.Common.{◌≡◌, List, ℕ, sym, subst, true}
use Rattle.std.specs.Prelude.{IfOk, IfErr, codes}
use Rattle.ical_lines.specs.Text.{line_text}
use Rattle.ical_tree.specs.Own.{own_lines, own_numbered}
use Rattle.profile.specs.faults.Blame.{IsAt}
use Rattle.profile.specs.events.Messages.{MethodFault, two_methods}
use Rattle.profile.specs.events.Properties.{is_of}
use Rattle.ical_lines.proofs.FaultLemmas.{placed_ok, placed_number, placed_line}
use Rattle.ical_values.proofs.Exits.{err_exit, refusal_exit}
use Rattle.itip_messages.proofs.shared_lemmas.MessageLemmas.{word_refuses}
use Rattle.itip_messages.specs.Message.{IsMethodWord, WordFault}
use Rattle.ical_lines.specs.declared.fault.Refusal.{Refusal}
use Rattle.profile.specs.text.Lines.{line_value}
use Rattle.itip_messages.proofs.message_events_lemmas.Blamed.{method_line, method_lines}
use Rattle.itip_messages.proofs.message_events_lemmas.EventsRead.{word_names}
use Rattle.itip_messages.proofs.message_events.method_of.Goals as goal

pub returns-in_err-line-clause-fault : goal.returns-in_err-line-clause-fault
returns-in_err-line-clause-fault c =
    let P = MethodFault (own_lines c.args.properties.now) in
    refusal_exit _ P _ c.from_residual.ensures.1 (subst P (sym c.in_err-line.ensures.refuses) (two_methods c.in_err-line.ensures.twice))

pub returns-in_err-line-clause-at : goal.returns-in_err-line-clause-at
returns-in_err-line-clause-at c =
    let P = λ (e : Refusal). IsAt (own_numbered c.args.properties.now) e.line (λ line. is_of (codes "METHOD") line ≡ true) in
    err_exit _ P _ c.from_residual.ensures.1 (method_lines _ _ c.in_err-line.ensures.second)

pub returns-in-Some-clause-named : goal.returns-in-Some-clause-named
returns-in-Some-clause-named c =
    let once = rw c.in-Some.is at c.in_ok-line.ensures.found in
    let word = subst (λ (word : List ℕ). IfOk c.method_named.result (IsMethodWord word)) c.value.ensures c.method_named.ensures.named in
    word_names _ (own_lines c.args.properties.now) (line_text c.in-Some.line) once (placed_ok _ _ c.method_named.result c.placed.result c.placed.ensures word)

pub returns-in-Some-clause-fault : goal.returns-in-Some-clause-fault
returns-in-Some-clause-fault c =
    let once = rw c.in-Some.is at c.in_ok-line.ensures.found in
    let word = subst (λ (word : List ℕ). IfErr c.method_named.result (λ e. WordFault word e.number)) c.value.ensures c.method_named.ensures.fault in
    word_refuses _ (own_lines c.args.properties.now) (line_text c.in-Some.line) once (placed_number (WordFault (line_value (line_text c.in-Some.line))) c.in-Some.line.number c.method_named.result c.placed.result c.placed.ensures word)

pub returns-in-Some-clause-at : goal.returns-in-Some-clause-at
returns-in-Some-clause-at c =
    let once = rw c.in-Some.is at c.in_ok-line.ensures.found in
    let among = rw c.in-Some.is at c.in_ok-line.ensures.among in
    method_line (own_numbered c.args.properties.now) (own_lines c.args.properties.now) c.in-Some.line c.placed.result once among (placed_line c.in-Some.line.number c.method_named.result c.placed.result c.placed.ensures)
