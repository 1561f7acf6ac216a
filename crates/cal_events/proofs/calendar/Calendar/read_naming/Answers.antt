use Rattle.ical_values.specs.Octets.{address_octets}
use Rattle.ical_lines.specs.Fault.{RefusesBy}
use Rattle.ical_values.proofs.Exits.{err_exit}
use Rattle.profile.specs.checker.Calendars.{CalendarTextFault}
use Rattle.cal_events.proofs.shared_lemmas.DraftLemmas.{text_refused_by}
use Rattle.cal_events.proofs.calendar.Calendar.read_naming.Goals as goal

pub returns-clause-spells : goal.returns-clause-spells
returns-clause-spells c =
    let room = address_octets c.args.room.now in
    let d = c.in_ok-draft.ensures.spells in
    let masters = c.in_ok-calendar.ensures.masters room d.of.events d.of.is in
    let are = c.in_ok-calendar.ensures.are room d.of.events d.of.is in (
      record {
        lines = d.lines;
        tree = d.tree;
        object = d.object;
        says = record { events = d.of.events; says = d.of.says; masters = masters.0; overrides = masters.1; are = are };
      },
      d.of.is.naming,
    )

pub returns-in_err-calendar-clause-fault : goal.returns-in_err-calendar-clause-fault
returns-in_err-calendar-clause-fault c =
    let room = address_octets c.args.room.now in
    let d = c.in_ok-draft.ensures.spells in
    err_exit _ (RefusesBy (CalendarTextFault c.args.bytes.now)) _ c.from_residual-in_err-calendar.ensures.1
    (text_refused_by room c.args.bytes.now c.in_ok-draft.draft d _ (c.in_err-calendar.ensures.fault room d.of.events d.of.is))
