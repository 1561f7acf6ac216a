use Rattle.std.proofs.Common.{map, sym, ◌∙◌}
use Rattle.ical_values.specs.Octets.{address_octets}
use Rattle.sched_box.proofs.ZoneLemmas.{among, any_map, found_any}
use Rattle.sched_box.proofs.settings.contains.Goals as goal

pub returns : goal.returns
returns c =
    let hosts = c.args.hosts.now in
    let a = address_octets c.args.address.now in (
      λ t. among (map address_octets hosts) a (any_map hosts a ∙ sym c.has_address.ensures ∙ t),
      λ in'. c.has_address.ensures ∙ sym (any_map hosts a) ∙ found_any (map address_octets hosts) a in',
    )
