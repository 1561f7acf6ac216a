use Rattle.std.proofs.Common.{◌≡◌, Bool, false, codes, sym, subst, arith, to_z, of_z, w64, ℤ}
use Rattle.std.proofs.lemmas.Int.{ints}
use Rattle.profile.specs.series.Zones.{Means}
use Rattle.ical_lines.specs.Text.{line_text}
use Rattle.ical_lines.specs.declared.fault.Refusal.{Refusal}
use Rattle.ical_tree.specs.Own.{own_lines, numbered_own}
use Rattle.profile.specs.text.Lines.{line_value}
use Rattle.profile.specs.events.EventBlame.{EventBlame}
use Rattle.cal_events.specs.Blame.{zones_of}
use Rattle.cal_events.specs.declared.property.Property.TheVariants.{Dtstart}
use Rattle.cal_events.proofs.shared_lemmas.BlameLemmas.{text_blamed}
use Rattle.profile.specs.events.ZonedTimes.{ZonedTimeFault, bad_start}
use Rattle.profile.specs.events.EventComponents.{EventComponentFault, in_times}
use Rattle.ical_values.proofs.Exits.{err_exit, refusal_exit}
use Rattle.cal_events.proofs.shared_lemmas.EventLemmas.{some_line}
use Rattle.std.specs.Prelude.{◌↔◌, IsTrue}
use Rattle.profile.specs.events.ZonedTimes.{IsInDates, clock_of}
use Rattle.cal_events.specs.Zones.{object_of}
use Rattle.cal_events.specs.Component.{method_read, form_said, zone_said, local_said}
use Rattle.cal_events.proofs.event_times.SaidTimes.from_start.Goals as goal

pub returns-in_err-start-clause-fault : goal.returns-in_err-start-clause-fault
returns-in_err-start-clause-fault c =
    let object = object_of c.args.zones.now in
    let lines = own_lines c.args.properties.now in
    let line = line_text c.args.line in
    let P = EventComponentFault object (method_read c.args.method) lines in
    refusal_exit _ P _ c.from_residual.ensures.1
    (in_times (bad_start (some_line (codes "DTSTART") (λ l. ZonedTimeFault object l _) lines line c.requires.once c.in_err-start.ensures.fault)))

pub returns-in_err-start-clause-at : goal.returns-in_err-start-clause-at
returns-in_err-start-clause-at c =
    let m = method_read c.args.method in
    let zones = zones_of c.args.zones.now in
    let event = numbered_own c.args.properties.now in
    let line = c.args.line in
    err_exit _ (λ (e : Refusal). EventBlame m zones event e.number e.line) _ c.from_residual.ensures.1
    (text_blamed m zones Dtstart event line c.requires.among (line_value (line_text line)) _ (λ time. time) c.in_err-start.ensures.at)

pub returns-clause-lines : goal.returns-clause-lines
returns-clause-lines c =
    (rw c.number.ensures (record { line = line_text c.args.line; among = c.requires.among.0; holds = c.requires.among.1 }), c.in_ok-extent.ensures.line)

pub returns-in_err-extent-clause-fault : goal.returns-in_err-extent-clause-fault
returns-in_err-extent-clause-fault c =
    refusal_exit _ (EventComponentFault (object_of c.args.zones.now) (method_read c.args.method) (own_lines c.args.properties.now)) _ c.from_residual-in_err-extent.ensures.1 c.in_err-extent.ensures.fault

pub returns-clause-said : goal.returns-clause-said
returns-clause-said c may =
    let start = c.in_ok-start.start in
    let same : to_z w64 (of_z w64 c.instant-instant.result) ≡ c.instant-instant.result = omega (arith, ints, c.instant-instant.ensures.range) in
    let P : Bool → Type 0 = λ b. IsTrue c.is_in_dates-in_dates.result ↔ IsInDates false (form_said start) b (local_said start) (to_z w64 (of_z w64 c.instant-instant.result)) in
    record {
      line = line_text c.args.line;
      once = c.requires.once;
      start_said = record {
        says = c.in_ok-start.ensures.says;
        means = subst (λ (x : ℤ). Means (clock_of (zone_said start)) (local_said start) x) (sym same) c.instant-instant.ensures.meaning;
        dates = subst P c.is_in_zone.ensures c.is_in_dates-in_dates.ensures;
      };
      extent_in = c.in_ok-extent.ensures.reads;
    }
