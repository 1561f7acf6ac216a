use Rattle.std.proofs.Common.{map}
use Rattle.profile.specs.events.Events.{AreOfOne}
use Rattle.cal_events.specs.Component.{component_of}
use Rattle.cal_events.specs.Recurrence.{AreNamed}
use Rattle.cal_events.proofs.event_lemmas.Alike.{first_in, named_first, named_of}
use Rattle.cal_events.proofs.event.first_name.Goals as goal

pub returns-in-Some : goal.returns-in-Some
returns-in-Some c =
    let first = c.in-Some.first.now in
    let all = c.args.overrides.now in
    named_of c.name.result (component_of first) c.name.ensures.organiser c.name.ensures.uid (λ name. AreOfOne (map component_of all) → AreNamed name all)
    (λ name same one. named_first name first all (first_in all first c.in-Some.ensures.value) one same)
