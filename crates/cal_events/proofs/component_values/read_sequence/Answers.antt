use Rattle.std.proofs.Common.{ℕ, List, codes, sym, ap, subst, ◌∙◌}
use Rattle.std.specs.Prelude.{option_map, IfSome}
use Rattle.ical_lines.specs.Fault.{IsPlacedAt}
use Rattle.ical_lines.proofs.FaultLemmas.{placed_where}
use Rattle.std.specs.Option.{option_to_list}
use Rattle.ical_lines.specs.Text.{line_text}
use Rattle.ical_lines.specs.declared.fault.Refusal.{Refusal}
use Rattle.profile.specs.text.Values.{SpellsSequence}
use Rattle.profile.specs.events.EventComponents.{EventComponentFault}
use Rattle.profile.specs.events.Properties.{IsNoSequence}
use Rattle.profile.specs.events.EventComponents.{in_presence, bad_sequence}
use Rattle.ical_tree.specs.Own.{own_lines, numbered_own}
use Rattle.cal_events.specs.Component.{method_read}
use Rattle.cal_events.proofs.shared_lemmas.EventLemmas.{some_line, sequence_said}
use Rattle.ical_values.proofs.Exits.{refusal_exit}
use Rattle.profile.specs.events.EventBlame.{EventBlame}
use Rattle.cal_events.specs.Property.{IsLineOf}
use Rattle.cal_events.specs.declared.property.Property.TheVariants.{Sequence}
use Rattle.cal_events.proofs.shared_lemmas.LineBlame.{ok_placed, if_err, placed_blamed, number_wrong}
use Rattle.cal_events.proofs.component_values.read_sequence.Goals as goal

pub returns-in_err-line-clause-fault : goal.returns-in_err-line-clause-fault
returns-in_err-line-clause-fault c object =
    refusal_exit _ (EventComponentFault object (method_read c.args.method) (own_lines c.args.properties.now)) _ c.from_residual.ensures.1 (in_presence c.in_err-line.ensures.fault)

-- the text spells no sequence number
abbrev IsNone : List ℕ → Type 0
IsNone text = (n : ℕ) → SpellsSequence text n → ⊥

pub returns-in-Some-clause-reads : goal.returns-in-Some-clause-reads
returns-in-Some-clause-reads c =
    ok_placed _ c.placed.result c.read.result _ c.placed.ensures
    (sequence_said _ _ (line_text c.in-Some.line) _ (c.in_ok-line.ensures.found ∙ ap (λ l. option_to_list (option_map line_text l)) c.in-Some.is) c.value.ensures c.read.ensures.reads)

pub returns-in-Some-clause-fault : goal.returns-in-Some-clause-fault
returns-in-Some-clause-fault c object =
    let P = EventComponentFault object (method_read c.args.method) (own_lines c.args.properties.now) in
    let line = c.in-Some.line in
    let once = c.in_ok-line.ensures.found ∙ ap (λ l. option_to_list (option_map line_text l)) c.in-Some.is in
    let wrong = number_wrong 16 IsNone c.read.result _ (line_text line) c.value.ensures c.read.ensures.refuses c.read.ensures.none in
    if_err _ (IsPlacedAt line.number c.read.result) (λ (e : Refusal). P e.number) c.placed.result c.placed.ensures
    (λ (e : Refusal) so.
    let placed = placed_where _ line.number c.read.result e so wrong in
    subst P (sym placed.0.0) (bad_sequence (some_line (codes "SEQUENCE") IsNoSequence (own_lines c.args.properties.now) (line_text line) once placed.0.1)))

pub returns-in-Some-clause-at : goal.returns-in-Some-clause-at
returns-in-Some-clause-at c zones =
    let m = method_read c.args.method in
    let event = numbered_own c.args.properties.now in
    let line = c.in-Some.line in
    let wrong = number_wrong 16 IsNone c.read.result _ (line_text line) c.value.ensures c.read.ensures.refuses c.read.ensures.none in
    let is = subst (λ found. IfSome found (IsLineOf Sequence event)) c.in-Some.is c.in_ok-line.ensures.among in
    if_err _ (IsPlacedAt line.number c.read.result) (λ (e : Refusal). EventBlame m zones event e.number e.line) c.placed.result c.placed.ensures
    (λ (e : Refusal) so. placed_blamed m zones Sequence event line is c.read.result e so wrong)
