use Rattle.std.proofs.Common.{◌∙◌, ◌++◌, IfSome, ap, refl, subst}
use Rattle.fault_places.specs.Places.{IsSpotOf}
use Rattle.fault_places.specs.Obstacles.{text_of}
use Rattle.fault_places.proofs.refused_zone.placed.Goals as goal

pub returns : goal.returns
returns c =
    let found = c.args.found in
    record {
      obstacle = refl;
      part = c.in_ok-extend_from_slice.ensures.items ∙ ap (λ z. z ++ c.as_bytes.result.now) c.new-part.ensures.items ∙ c.as_bytes.ensures.value ∙ c.name.ensures;
      spot = subst (λ o. IfSome o (IsSpotOf c.args.octets.now found.component.now (text_of found.cause.line))) c.in-Some.is c.in_ok-spot.ensures;
    }
