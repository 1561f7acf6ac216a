use Rattle.sched_cli.proofs.agenda.agenda_text.Goals as goal

pub returns-clause-of_room : goal.returns-clause-of_room
returns-clause-of_room c =
    let read = c.in_ok-calendar.ensures.read in
    record { confirmed = c.in_ok-calendar.calendar; spelled = read.spelled; of_room = read.of_room; counted = read.counted }
