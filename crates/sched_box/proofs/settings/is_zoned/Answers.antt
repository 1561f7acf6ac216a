use Rattle.std.proofs.Common.{◌∙◌, ap, sym, map}
use Rattle.std.specs.Option.{is_some}
use Rattle.ical_values.specs.Octets.{address_octets}
use Rattle.sched_box.specs.Settings.{zoned_room}
use Rattle.sched_box.proofs.ZoneLemmas.{is_some_map, some_contains, contains_some}
use Rattle.sched_box.proofs.settings.is_zoned.Goals as goal

pub returns : goal.returns
returns c =
    let zones = map zoned_room c.args.zones.now in
    let a = address_octets c.args.address.now in
    let found = c.is_some.ensures ∙ sym (is_some_map _ c.zone_among.result) ∙ ap is_some c.zone_among.ensures in
    (λ t. some_contains a zones (sym found ∙ t), λ there. found ∙ contains_some a zones there)
