use Rattle.std.proofs.Common.{◌∙◌, ap, sym, refl, true, false}
use Rattle.profile.specs.events.EventComponents.{is_of_one}
use Rattle.itip_messages.proofs.message_events_lemmas.EventsRead.{mapped_one_each}
use Rattle.itip_messages.proofs.message_events.judge_attendees.Goals as goal

pub returns-in-Some-clause-fault : goal.returns-in-Some-clause-fault
returns-in-Some-clause-fault c =
    rw c.at.ensures (refl, sym (c.if-not-is_of_one.ensures ∙ ap is_of_one c.presence-attendees.ensures), sym (mapped_one_each c.args.events.now false c.in-Some.ensures.none))

pub returns-in-None-clause-each : goal.returns-in-None-clause-each
returns-in-None-clause-each c = λ speaks. sym (mapped_one_each c.args.events.now true c.in-None.ensures.none)
