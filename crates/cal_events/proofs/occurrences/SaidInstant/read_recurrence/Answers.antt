use Rattle.std.proofs.Common.{◌≡◌, ◌∙◌, codes, sym, ap, subst, inl, inr, true, List, ℕ}
use Rattle.std.specs.Prelude.{option_map, IfSome}
use Rattle.std.specs.Option.{option_to_list}
use Rattle.ical_lines.specs.Text.{line_text, numbered}
use Rattle.ical_lines.specs.declared.fault.Refusal.{Refusal}
use Rattle.ical_lines.specs.declared.line.Line.{Line}
use Rattle.ical_tree.specs.Own.{own_lines, numbered_own}
use Rattle.profile.specs.text.Lines.{line_value}
use Rattle.profile.specs.events.EventBlame.{EventBlame}
use Rattle.cal_events.specs.Blame.{TextBlame, zones_of}
use Rattle.cal_events.specs.Property.{IsLineOf}
use Rattle.cal_events.specs.declared.property.Property.TheVariants.{RecurrenceId}
use Rattle.cal_events.proofs.shared_lemmas.BlameLemmas.{text_blamed}
use Rattle.cal_events.proofs.shared_lemmas.LineBlame.{alone_blamed}
use Rattle.profile.specs.events.ZonedTimes.{ZonedTimeFault, ZonedTextFault}
use Rattle.profile.specs.events.Occurrences.{has_range, ranged, bad_recurrence}
use Rattle.profile.specs.events.EventComponents.{EventComponentFault, in_occurrences, in_presence}
use Rattle.cal_events.specs.Component.{method_read}
use Rattle.ical_values.proofs.Exits.{err_exit, refusal_exit}
use Rattle.cal_events.specs.Zones.{object_of}
use Rattle.cal_events.proofs.shared_lemmas.EventLemmas.{some_line}
use Rattle.cal_events.proofs.occurrences_lemmas.RecurrenceLemmas.{shows_range}
use Rattle.cal_events.proofs.occurrences.SaidInstant.read_recurrence.Goals as goal

pub returns-in_err-line-clause-fault : goal.returns-in_err-line-clause-fault
returns-in_err-line-clause-fault c =
    refusal_exit _ (EventComponentFault (object_of c.args.zones.now) (method_read c.args.method) (own_lines c.args.properties.now)) _ c.from_residual.ensures.1 (in_presence c.in_err-line.ensures.fault)

pub returns-then-is_some-clause-fault : goal.returns-then-is_some-clause-fault
returns-then-is_some-clause-fault c =
    let lines = own_lines c.args.properties.now in
    let line = line_text c.in-Some.line in
    let once = c.in_ok-line.ensures.found ∙ ap (λ l. option_to_list (option_map line_text l)) c.in-Some.is in
    rw c.at.ensures
    (in_occurrences (ranged (some_line (codes "RECURRENCE-ID") (λ l. has_range l ≡ true) lines line once (shows_range line c.param.result c.param.ensures (sym c.is_some.ensures ∙ c.if-is_some.true)))))

pub returns-then-is_some-clause-at : goal.returns-then-is_some-clause-at
returns-then-is_some-clause-at c =
    let event = numbered_own c.args.properties.now in
    let line = c.in-Some.line in
    let is = subst (λ found. IfSome found (λ (l : Line). IsLineOf RecurrenceId event l)) c.in-Some.is c.in_ok-line.ensures.among in
    alone_blamed (method_read c.args.method) (zones_of c.args.zones.now) RecurrenceId event line is c.at.result
    (inl (ap (λ (e : Refusal). e.number) c.at.ensures, shows_range (line_text line) c.param.result c.param.ensures (sym c.is_some.ensures ∙ c.if-is_some.true)))
    (ap (λ (e : Refusal). e.line) c.at.ensures ∙ c.number.ensures)

pub returns-in_err-read-clause-fault : goal.returns-in_err-read-clause-fault
returns-in_err-read-clause-fault c =
    let object = object_of c.args.zones.now in
    let lines = own_lines c.args.properties.now in
    let line = line_text c.in-Some.line in
    let once = c.in_ok-line.ensures.found ∙ ap (λ l. option_to_list (option_map line_text l)) c.in-Some.is in
    let n = c.in_err-read.field-0.0.number in
    refusal_exit _ (EventComponentFault object (method_read c.args.method) lines) _ c.from_residual-in_err-read.ensures.1
    (in_occurrences (bad_recurrence (some_line (codes "RECURRENCE-ID") (λ l. ZonedTimeFault object l n) lines line once
    (subst (λ (text : List ℕ). ZonedTextFault object line text n) c.value.ensures c.in_err-read.ensures.fault))))

pub returns-in_err-read-clause-at : goal.returns-in_err-read-clause-at
returns-in_err-read-clause-at c =
    let m = method_read c.args.method in
    let zones = zones_of c.args.zones.now in
    let event = numbered_own c.args.properties.now in
    let line = c.in-Some.line in
    let is = subst (λ found. IfSome found (λ (l : Line). IsLineOf RecurrenceId event l)) c.in-Some.is c.in_ok-line.ensures.among in
    let refusal = c.in_err-read.field-0.0 in
    let blame = subst (λ (text : List ℕ). TextBlame zones (numbered line) text refusal.number refusal.line) c.value.ensures c.in_err-read.ensures.at in
    err_exit _ (λ (e : Refusal). EventBlame m zones event e.number e.line) _ c.from_residual-in_err-read.ensures.1
    (text_blamed m zones RecurrenceId event line is (line_value (line_text line)) refusal (λ time. inr time) blame)
