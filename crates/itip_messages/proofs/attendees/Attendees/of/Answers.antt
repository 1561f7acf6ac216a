use Rattle.std.proofs.Common.{ap, map, subst, ◌∙◌, List, ℕ}
use Rattle.std.specs.List.Sorted.{IsPermutation}
use Rattle.std.proofs.lemmas.List.Sorted.{IsPermutation-map}
use Rattle.ical_values.specs.Octets.{address_octets}
use Rattle.itip_messages.specs.Attendees.{octets_of}
use Rattle.itip_messages.proofs.attendees.Attendees.of.Goals as goal

pub invariant_of-result : goal.invariant_of-result
invariant_of-result c = (
  c.sort_addresses.ensures.rises,
  subst (λ (octets : List (List ℕ)). IsPermutation octets (map address_octets c.sort_addresses.new.addresses.items))
      (c.in_ok-sorted.ensures ∙ ap (map octets_of) c.deref.ensures.value) (IsPermutation-map address_octets _ _ c.sort_addresses.ensures.same),
)
