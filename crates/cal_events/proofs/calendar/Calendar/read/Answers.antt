use Rattle.ical_values.specs.Octets.{address_octets}
use Rattle.cal_events.proofs.shared_lemmas.DraftLemmas.{text_refused}
use Rattle.cal_events.proofs.calendar.Calendar.read.Goals as goal

pub returns-clause-fault : goal.returns-clause-fault
returns-clause-fault c =
    let room = address_octets c.args.room.now in
    let d = c.in_ok-draft.ensures.spells in
    text_refused room c.args.bytes.now c.in_ok-draft.draft d c.into_calendar.result (c.into_calendar.ensures.fault room d.of.events d.of.is)
