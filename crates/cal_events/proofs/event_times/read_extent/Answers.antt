use Rattle.std.proofs.Common.{◌≡◌, codes, ap, subst, ◌∙◌, to_z, of_z, w64, arith}
use Rattle.std.specs.Prelude.{option_map, IfSome}
use Rattle.std.specs.Option.{option_to_list}
use Rattle.std.proofs.lemmas.Int.{ints}
use Rattle.ical_lines.specs.Text.{line_text}
use Rattle.ical_lines.specs.declared.fault.Refusal.{Refusal}
use Rattle.ical_lines.specs.declared.line.Line.{Line}
use Rattle.ical_tree.specs.Own.{own_lines, numbered_own}
use Rattle.profile.specs.text.Lines.{line_value}
use Rattle.profile.specs.events.EventBlame.{EventBlame}
use Rattle.cal_events.specs.Blame.{zones_of}
use Rattle.cal_events.specs.Property.{IsLineOf}
use Rattle.cal_events.specs.declared.property.Property.TheVariants.{Dtend, Duration}
use Rattle.cal_events.proofs.shared_lemmas.BlameLemmas.{text_blamed}
use Rattle.cal_events.proofs.shared_lemmas.LineBlame.{alone_blamed}
use Rattle.ical_lines.proofs.FaultLemmas.{placed_where}
use Rattle.profile.specs.events.ZonedTimes.{ZonedTimeFault, bad_end, end_and_duration}
use Rattle.profile.specs.events.EventComponents.{EventComponentFault, in_presence, in_times}
use Rattle.cal_events.specs.Component.{method_read}
use Rattle.ical_values.proofs.Exits.{err_exit, refusal_exit}
use Rattle.cal_events.specs.Zones.{object_of}
use Rattle.cal_events.proofs.shared_lemmas.EventLemmas.{some_line}
use Rattle.cal_events.proofs.event_times_lemmas.TimesLemmas.{IsBadDuration, bad_text, both_blamed, duration_fault, later_is, wrong_duration}
use Rattle.cal_events.proofs.event_times.read_extent.Goals as goal

pub returns-in_err-end-clause-fault : goal.returns-in_err-end-clause-fault
returns-in_err-end-clause-fault c =
    refusal_exit _ (EventComponentFault (object_of c.args.zones.now) (method_read c.args.method) (own_lines c.args.properties.now)) _ c.from_residual.ensures.1 (in_presence c.in_err-end.ensures.fault)

pub returns-in_err-duration-clause-fault : goal.returns-in_err-duration-clause-fault
returns-in_err-duration-clause-fault c =
    refusal_exit _ (EventComponentFault (object_of c.args.zones.now) (method_read c.args.method) (own_lines c.args.properties.now)) _ c.from_residual-in_err-duration.ensures.1 (in_presence c.in_err-duration.ensures.fault)

pub returns-in_err-read_end-in-Some-None-clause-fault : goal.returns-in_err-read_end-in-Some-None-clause-fault
returns-in_err-read_end-in-Some-None-clause-fault c =
    let object = object_of c.args.zones.now in
    let lines = own_lines c.args.properties.now in
    let P = EventComponentFault object (method_read c.args.method) lines in
    let line = line_text c.in-Some-None.line in
    let once = c.in_ok-end.ensures.found ∙ ap (λ l. option_to_list (option_map line_text l)) c.in-Some-None.is-0 in
    refusal_exit _ P _ c.from_residual-in_err-read_end-in-Some-None.ensures.1
    (in_times (bad_end (some_line (codes "DTEND") (λ l. ZonedTimeFault object l _) lines line once c.in_err-read_end-in-Some-None.ensures.fault)))

pub returns-in_err-read_end-in-Some-None-clause-at : goal.returns-in_err-read_end-in-Some-None-clause-at
returns-in_err-read_end-in-Some-None-clause-at c =
    let m = method_read c.args.method in
    let zones = zones_of c.args.zones.now in
    let event = numbered_own c.args.properties.now in
    let line = c.in-Some-None.line in
    let is = subst (λ found. IfSome found (λ (l : Line). IsLineOf Dtend event l)) c.in-Some-None.is-0 c.in_ok-end.ensures.among in
    err_exit _ (λ (e : Refusal). EventBlame m zones event e.number e.line) _ c.from_residual-in_err-read_end-in-Some-None.ensures.1
    (text_blamed m zones Dtend event line is (line_value (line_text line)) _ (λ time. time) c.in_err-read_end-in-Some-None.ensures.at)

pub returns-in_err-duration-in-None-Some-clause-fault : goal.returns-in_err-duration-in-None-Some-clause-fault
returns-in_err-duration-in-None-Some-clause-fault c =
    let object = object_of c.args.zones.now in
    let lines = own_lines c.args.properties.now in
    let line = c.in-None-Some.line in
    let once = c.in_ok-duration.ensures.found ∙ ap (λ l. option_to_list (option_map line_text l)) c.in-None-Some.is-1 in
    let read = c.read.ensures in
    let P = IsBadDuration (line_value (line_text line)) in
    let bad = rw c.value.ensures at (bad_text c.value.result.now c.read.result read.refuses read.none read.not_negative read.range) in
    refusal_exit _ (EventComponentFault object (method_read c.args.method) lines) _ c.from_residual-in_err-duration-in-None-Some.ensures.1
    (in_times (duration_fault object lines (line_text line) _ once (placed_where P line.number _ _ c.in_err-duration-in-None-Some.ensures bad).0))

pub returns-in_err-duration-in-None-Some-clause-at : goal.returns-in_err-duration-in-None-Some-clause-at
returns-in_err-duration-in-None-Some-clause-at c =
    let m = method_read c.args.method in
    let zones = zones_of c.args.zones.now in
    let event = numbered_own c.args.properties.now in
    let line = c.in-None-Some.line in
    let is = subst (λ found. IfSome found (λ (l : Line). IsLineOf Duration event l)) c.in-None-Some.is-1 c.in_ok-duration.ensures.among in
    let read = c.read.ensures in
    let P = IsBadDuration (line_value (line_text line)) in
    let bad = rw c.value.ensures at (bad_text c.value.result.now c.read.result read.refuses read.none read.not_negative read.range) in
    let placed = placed_where P line.number _ _ c.in_err-duration-in-None-Some.ensures bad in
    err_exit _ (λ (e : Refusal). EventBlame m zones event e.number e.line) _ c.from_residual-in_err-duration-in-None-Some.ensures.1
    (alone_blamed m zones Duration event line is _ (wrong_duration (line_text line) _ placed.0) placed.1)

pub returns-in-Some-Some-clause-at : goal.returns-in-Some-Some-clause-at
returns-in-Some-Some-clause-at c =
    let event = numbered_own c.args.properties.now in
    let end = c.in-Some-Some.end in
    let duration = c.in-Some-Some.duration in
    let first = subst (λ found. IfSome found (λ (l : Line). IsLineOf Dtend event l)) c.in-Some-Some.is-0 c.in_ok-end.ensures.among in
    let second = subst (λ found. IfSome found (λ (l : Line). IsLineOf Duration event l)) c.in-Some-Some.is-1 c.in_ok-duration.ensures.among in
    let later = rw (c.number.ensures, c.number-in-Some-Some.ensures) at (later_is c.number.result c.number-in-Some-Some.result) in
    rw (c.at.ensures, c.max-later.ensures, c.number.ensures, c.number-in-Some-Some.ensures)
    (both_blamed (method_read c.args.method) (zones_of c.args.zones.now) event end duration first second _ later)

pub returns-in-Some-Some-clause-fault : goal.returns-in-Some-Some-clause-fault
returns-in-Some-Some-clause-fault c =
    let lines = own_lines c.args.properties.now in
    let end_once = c.in_ok-end.ensures.found ∙ ap (λ l. option_to_list (option_map line_text l)) c.in-Some-Some.is-0 in
    let once = c.in_ok-duration.ensures.found ∙ ap (λ l. option_to_list (option_map line_text l)) c.in-Some-Some.is-1 in
    rw c.at.ensures (in_times (end_and_duration
    (some_line (codes "DTEND") (λ _. Unit {0}) lines (line_text c.in-Some-Some.end) end_once tt)
    (some_line (codes "DURATION") (λ _. Unit {0}) lines (line_text c.in-Some-Some.duration) once tt)))

pub returns-in_ok-read_end-in-Some-None-clause-reads : goal.returns-in_ok-read_end-in-Some-None-clause-reads
returns-in_ok-read_end-in-Some-None-clause-reads c =
    let once = c.in_ok-end.ensures.found ∙ ap (λ l. option_to_list (option_map line_text l)) c.in-Some-None.is-0 in
    let none = c.in_ok-duration.ensures.found ∙ ap (λ l. option_to_list (option_map line_text l)) c.in-Some-None.is-1 in
    let same : to_z w64 (of_z w64 c.args.start) ≡ c.args.start = omega (arith, ints, c.requires) in
    (line_text c.in-Some-None.line, once, none, rw same at (c.in_ok-read_end-in-Some-None.ensures.says))
