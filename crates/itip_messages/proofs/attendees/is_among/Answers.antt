use Rattle.std.proofs.Common.{rules, ◌∙◌}
use Rattle.std.proofs.lemmas.Fn.{always_returns_same}
use Rattle.std.specs.Ordering.{nat_cmp}
use Rattle.std.specs.Cmp.Lexicographic.{slice_cmp}
use Rattle.ical_values.specs.Octets.{address_octets}
use Rattle.itip_messages.proofs.attendees_lemmas.AttendeeSearch.{found}
use Rattle.itip_messages.proofs.attendees.is_among.Goals as goal

pub returns : goal.returns
returns c =
    let facts = c.binary_search_by.ensures in
    let address = address_octets c.args.address.now in
    let by_address = facts.position (λ a. slice_cmp nat_cmp (address_octets a) address) (always_returns_same _ _ _ (λ a r g called. (search rules, search rules))) in
    c.is_ok.ensures.value ∙ found c.args.sorted.now address c.binary_search_by.result c.requires facts.bound by_address
