use Rattle.std.proofs.Common.{[], IfSome, append-nil, inl, inr, refl, subst, sym}
use Rattle.std.specs.Prelude.{IfNone}
use Rattle.sched_cli.specs.Diagnosis.{place_text}
use Rattle.fault_places.specs.Places.{HasNoLine, IsPlaceOf}
use Rattle.fault_places.proofs.PlaceLemmas.{on_ok}
use Rattle.sched_cli.proofs.diagnosis.append_blamed.Goals as goal

pub returns-in_default : goal.returns-in_default
returns-in_default c =
    let none = subst (λ o. IfNone o (HasNoLine c.args.octets.now c.args.line)) c.in_default.is c.in_ok-place.ensures.none in
    ([], inl (refl, none), sym (append-nil c.args.text.now.items))

pub returns : goal.returns
returns c =
    let place = c.in-Some.place in
    let is = subst (λ o. IfSome o (λ p. IsPlaceOf c.args.octets.now c.args.line p.line p.property.items)) c.in-Some.is c.in_ok-place.ensures.found in
    on_ok c.append_place.result _ _ (λ e. (place_text place.line place.property.items, inr (place.line, place.property.items, is, refl), e)) c.append_place.ensures
