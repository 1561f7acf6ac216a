use Rattle.std.proofs.lemmas.Option.{IfSome_then}
use Rattle.std.proofs.lemmas.Result.{IfOk-weaker}
use Rattle.fault_places.proofs.CauseLemmas.{lonely_daylight, lonely_standard, rules_there, second_daylight, second_standard}
use Rattle.fault_places.proofs.obstacle.shape_cause.Goals as goal

pub returns-in-Some-second_part : goal.returns-in-Some-second_part
returns-in-Some-second_part c =
    let part = c.in-Some-second_part in
    second_standard c.args.zone.now part.part.component.now c.itself.result c.requires c.in_default.ensures.none part.ensures.found c.itself.ensures.component c.itself.ensures.obstacle c.itself.ensures.line

pub returns-in-Some-second_part-2 : goal.returns-in-Some-second_part-2
returns-in-Some-second_part-2 c =
    let part = c.in-Some-second_part-2 in
    let is = c.itself-in-Some-second_part-2 in
    second_daylight c.args.zone.now part.part.component.now is.result c.requires c.in_default.ensures.none part.ensures.found is.ensures.component is.ensures.obstacle is.ensures.line

pub returns-in_default-first_part : goal.returns-in_default-first_part
returns-in_default-first_part c =
    IfSome_then c.lonely_cause.result c.lonely_cause.ensures
    (λ found is. lonely_daylight c.args.zone.now found c.requires c.in_default.ensures.none c.in_default-second_part-2.ensures.none c.in_default-first_part.ensures.none is)

pub returns-in_default-first_part-2 : goal.returns-in_default-first_part-2
returns-in_default-first_part-2 c =
    IfSome_then c.lonely_cause-in_default-first_part-2.result c.lonely_cause-in_default-first_part-2.ensures
    (λ found is. lonely_standard c.args.zone.now found c.requires c.in_default.ensures.none c.in_default-second_part.ensures.none c.in_default-first_part-2.ensures.none is)

pub returns : goal.returns
returns c =
    let standard = c.in-Some-first_part in
    let daylight = c.in-Some-first_part-2 in
    IfOk-weaker c.rules_cause.result _ _
    (λ o h. IfSome_then o h
    (λ found is. rules_there c.args.zone.now standard.standard.component.now daylight.daylight.component.now found c.requires c.in_default.ensures.none standard.ensures.found c.in_default-second_part.ensures.none
    daylight.ensures.found c.in_default-second_part-2.ensures.none is))
    c.rules_cause.ensures
