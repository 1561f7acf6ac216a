use Rattle.std.proofs.Common.{map}
use Rattle.ical_values.specs.Octets.{text_octets}
use Rattle.profile.specs.checker.Blamed.{of_uid}
use Rattle.cal_events.specs.Component.{component_of}
use Rattle.cal_events.proofs.shared_lemmas.BlamedLemmas.{masters_twins, overrides_twins}
use Rattle.cal_events.proofs.blamed.are_twins.Goals as goal

pub returns-in-53 : goal.returns-in-53
returns-in-53 c =
    masters_twins c.in_ok-entries.entries (of_uid (text_octets c.args.uid.now) (map component_of c.args.events.now)) c.in_ok-entries.ensures c.args.number c.in-53.is c.have_twin_masters.result c.have_twin_masters.ensures

pub returns-in-54 : goal.returns-in-54
returns-in-54 c =
    overrides_twins c.in_ok-entries.entries (of_uid (text_octets c.args.uid.now) (map component_of c.args.events.now)) c.in_ok-entries.ensures c.args.number c.in-54.is c.have_twin_overrides.result c.have_twin_overrides.ensures
