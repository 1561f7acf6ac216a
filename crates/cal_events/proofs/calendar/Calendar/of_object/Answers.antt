use Rattle.ical_values.specs.Octets.{address_octets}
use Rattle.std.proofs.Common.{None}
use Rattle.std.proofs.lemmas.Result.{IfErr-weaker}
use Rattle.ical_lines.specs.Fault.{RefusesWhere}
use Rattle.ical_lines.specs.declared.fault.Fault.{Fault}
use Rattle.ical_values.proofs.Exits.{err_exit}
use Rattle.ical_tree.specs.Tree.{events_in, tree_of, zones_in}
use Rattle.cal_events.specs.Begins.{BetweenBlame}
use Rattle.cal_events.specs.Blame.{CalendarBlame}
use Rattle.cal_events.proofs.shared_lemmas.LaterLemmas.{between_blamed}
use Rattle.cal_events.proofs.shared_lemmas.ReadingLemmas.{events_blamed}
use Rattle.cal_events.proofs.shared_lemmas.DraftLemmas.{calendar_refused}
use Rattle.cal_events.proofs.calendar.Calendar.of_object.Goals as goal

pub returns-clause-fault : goal.returns-clause-fault
returns-clause-fault c =
    let d = c.in_ok-draft.ensures.says in
    calendar_refused (tree_of c.args.object.now) d.events c.into_calendar.result d.says (c.into_calendar.ensures.fault (address_octets c.args.room.now) d.events d.is)

pub returns-clause-at : goal.returns-clause-at
returns-clause-at c =
    let object = c.args.object.now in
    let begins = c.in_ok-draft.draft.begins.items in
    IfErr-weaker c.into_calendar.result (RefusesWhere (BetweenBlame begins)) (RefusesWhere (CalendarBlame object))
    (λ (f : Fault) h. events_blamed object f (between_blamed None (zones_in object) (events_in object) begins f c.in_ok-draft.ensures.begun h)) c.into_calendar.ensures.at

pub returns-in_err-draft-clause-at : goal.returns-in_err-draft-clause-at
returns-in_err-draft-clause-at c =
    err_exit _ (RefusesWhere (CalendarBlame c.args.object.now)) _ c.from_residual-in_err-draft.ensures.1 (c.in_err-draft.ensures.at c.in_ok-own.ensures.numbered)
