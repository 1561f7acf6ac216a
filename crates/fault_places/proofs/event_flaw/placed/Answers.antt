use Rattle.std.proofs.Common.{◌∙◌, ◌++◌, IfSome, ap, refl, subst}
use Rattle.fault_places.specs.Places.{IsSpotOf}
use Rattle.fault_places.specs.Obstacles.{text_of}
use Rattle.fault_places.proofs.event_flaw.placed.Goals as goal

pub returns : goal.returns
returns c =
    let found = c.args.found in
    record {
      kind = refl;
      property = c.in_ok-extend_from_slice-2.ensures.items ∙ ap (λ z. z ++ c.as_bytes-2.result.now) c.new-property.ensures.items ∙ c.as_bytes-2.ensures.value;
      event = c.in_ok-extend_from_slice.ensures.items ∙ ap (λ z. z ++ c.as_bytes.result.now) c.new-event.ensures.items ∙ c.as_bytes.ensures.value ∙ c.name.ensures;
      spot = subst (λ o. IfSome o (IsSpotOf c.args.octets.now found.event.now (text_of found.flaw.line))) c.in-Some.is c.in_ok-spot.ensures;
    }
