use Rattle.std.proofs.Common.{inl, inr}
use Rattle.std.proofs.lemmas.Option.{IfSome_then}
use Rattle.fault_places.proofs.CauseLemmas.{far_there, unmatched_there}
use Rattle.fault_places.proofs.obstacle.offsets_cause.Goals as goal

pub returns-in_default : goal.returns-in_default
returns-in_default c =
    let part = c.in_ok-first_part in
    IfSome_then c.far_cause.result c.far_cause.ensures (λ found is. far_there c.args.zone.now part.field-0.component.now found (inr part.ensures.found) is)

pub returns-in_default-first_part : goal.returns-in_default-first_part
returns-in_default-first_part c =
    let part = c.in-Some in
    let far = c.far_cause-in_default-first_part in
    IfSome_then far.result far.ensures (λ found is. far_there c.args.zone.now part.standard.component.now found (inl part.ensures.found) is)

pub returns-in-Some-unmatched_cause : goal.returns-in-Some-unmatched_cause
returns-in-Some-unmatched_cause c =
    let standard = c.in-Some in
    let daylight = c.in-Some-first_part in
    let found = c.in-Some-unmatched_cause in
    unmatched_there c.args.zone.now standard.standard.component.now daylight.daylight.component.now found.found (inl (standard.ensures.found, daylight.ensures.found)) found.ensures

pub returns-in-Some-unmatched_cause-2 : goal.returns-in-Some-unmatched_cause-2
returns-in-Some-unmatched_cause-2 c =
    let standard = c.in-Some in
    let daylight = c.in-Some-first_part in
    let found = c.in-Some-unmatched_cause-2 in
    unmatched_there c.args.zone.now daylight.daylight.component.now standard.standard.component.now found.found (inr (daylight.ensures.found, standard.ensures.found)) found.ensures

pub returns : goal.returns
returns c =
    let part = c.in-Some in
    IfSome_then c.far_cause-2.result c.far_cause-2.ensures (λ found is. far_there c.args.zone.now part.standard.component.now found (inl part.ensures.found) is)
