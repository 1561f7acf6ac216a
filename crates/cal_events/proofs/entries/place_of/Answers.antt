use Rattle.std.proofs.Common.{◌∙◌, ◌∷◌, [], map, ap}
use Rattle.std.proofs.lemmas.List.{map-append}
use Rattle.ical_values.specs.Octets.{address_octets}
use Rattle.cal_events.proofs.entries.place_of.Goals as goal

pub returns-clause-keeps : goal.returns-clause-keeps
returns-clause-keeps c =
    let address = c.in_ok-address_of.field-0 in
    (address_octets address ∷ [], ap (map address_octets) c.in_ok-push.ensures.items ∙ map-append address_octets c.args.organisers.now.items (address ∷ []))
