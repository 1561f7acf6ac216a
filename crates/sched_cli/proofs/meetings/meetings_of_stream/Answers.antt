use Rattle.ical_values.specs.Octets.{address_octets}
use Rattle.ical_values.proofs.Exits.{err_exit}
use Rattle.sched_cli.specs.Meetings.{ShowsNone}
use Rattle.sched_cli.proofs.Showing.{unopened, unshown, shown_after, shown_taken}
use Rattle.sched_cli.proofs.meetings.meetings_of_stream.Goals as goal

pub returns-in_err-config-clause-none : goal.returns-in_err-config-clause-none
returns-in_err-config-clause-none g c =
    let input = g.R.Input.remaining c.args.reader.now in
    let left = g.R.Input.remaining c.read_preamble.new.reader in
    let organiser = address_octets c.args.organiser.now in
    err_exit _ (ShowsNone input left organiser) _ c.from_residual.ensures.1
    (unopened input left organiser _ c.in_err-config.ensures.refuses c.in_err-config.ensures.faults c.in_err-config.ensures.none c.in_err-config.ensures.stops)

pub returns-clause-none : goal.returns-clause-none
returns-clause-none g c =
    unshown c.shown_meetings.result (g.R.Input.remaining c.args.reader.now) _ (g.R.Input.remaining c.shown_meetings.new.reader) (address_octets c.args.organiser.now) _ _
    c.in_ok-config.ensures.opens c.shown_meetings.ensures.refuses c.shown_meetings.ensures.none c.shown_meetings.ensures.bound c.shown_meetings.ensures.unhosted

pub returns-clause-shows : goal.returns-clause-shows
returns-clause-shows g c =
    shown_after c.shown_meetings.result (λ k. k.items) (g.R.Input.remaining c.args.reader.now) _ (g.R.Input.remaining c.shown_meetings.new.reader)
    (address_octets c.args.organiser.now) _ _ c.in_ok-config.ensures.opens c.shown_meetings.ensures.keeps

pub returns-clause-taken : goal.returns-clause-taken
returns-clause-taken g c =
    shown_taken g.R.Input.takes g.R.Input.lent g.R.Input.has_ended c.args.reader.now c.read_preamble.new.reader c.shown_meetings.new.reader c.shown_meetings.result (λ k. k.items) (address_octets c.args.organiser.now) _ _
    g.met.R.Input.takes_more g.met.R.Input.takes_follows c.in_ok-config.ensures.taken c.shown_meetings.ensures.taken
