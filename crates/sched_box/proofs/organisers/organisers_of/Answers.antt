use Rattle.std.proofs.Common.{◌∙◌, ap, sym, arith}
use Rattle.ical_values.specs.Octets.{address_octets}
use Rattle.organiser_books.specs.Representation.{address_of}
use Rattle.sched_box.specs.Organising.{IsKeptBy, nothing_kept}
use Rattle.sched_box.proofs.HostLemmas.{none_made, made_more, all_made}
use Rattle.sched_box.proofs.organisers.organisers_of.Goals as goal

pub loop-address-init : goal.loop-address-init
loop-address-init c = none_made address_of IsKeptBy nothing_kept _ _ c.new-organisers.ensures.items

pub loop-address-preserved : goal.loop-address-preserved
loop-address-preserved c =
    let same = c.in_ok-organiser.ensures.address ∙ ap address_octets c.address-item.is in
    made_more address_of IsKeptBy nothing_kept _ c.loop-address.address-index _ _ c.in_ok-organiser.organiser c.address-item.result c.loop-address.invariant (omega arith) c.in_ok-push.ensures.items same
    (record { at = sym same; keeps = c.in_ok-organiser.ensures.empty })

pub returns-clause-addresses : goal.returns-clause-addresses
returns-clause-addresses c = (all_made address_of IsKeptBy nothing_kept _ _ _ c.loop-address.invariant (omega arith)).0

pub returns-clause-kept : goal.returns-clause-kept
returns-clause-kept c = (all_made address_of IsKeptBy nothing_kept _ _ _ c.loop-address.invariant (omega arith)).1
