use Rattle.std.proofs.Common.{rules, ◌≡◌, refl, subst, pos, ◌-ℤ◌, to_z, of_z, w64}
use Rattle.std.specs.Prelude.{IfSome}
use Rattle.std.proofs.lemmas.Option.{IfSome_then}
use Rattle.std.proofs.lemmas.Result.{IfOk-weaker}
use Rattle.cal_zones.specs.Kinds.{zone_of}
use Rattle.profile.specs.series.GeneralZones.{IsSameFrom}
use Rattle.profile.specs.doors.Adapting.{SetsBack, always}
use Rattle.cal_doors.specs.Found.{general_of}
use Rattle.cal_doors.specs.Between.{LastsAsLong}
use Rattle.cal_doors.proofs.UpTo.{lasts_as_long, goes_on_beyond}
use Rattle.cal_doors.proofs.choice.choose.Goals as goal

pub returns-then-ends_before-clause-same : goal.returns-then-ends_before-clause-same
returns-then-ends_before-clause-same c =
    let from : to_z w64 (of_z w64 c.in-Some.from) ≡ c.args.times.first -ℤ pos 86_399 = search rules in
    IfOk-weaker c.beyond.result _ _ (λ found h. IfSome_then found h (λ choice g.
    goes_on_beyond (general_of c.args.general.now) (zone_of choice.zone) choice.goes_on c.args.times.first _ c.args.times.last from g)) c.beyond.ensures

pub returns-in-Some-from_instant-clause-same : goal.returns-in-Some-from_instant-clause-same
returns-in-Some-from_instant-clause-same c =
    let from : to_z w64 (of_z w64 c.in-Some.from) ≡ c.args.times.first -ℤ pos 86_399 = search rules in
    always refl (c.ends_before.ensures.no c.if-ends_before.false) (subst (λ f. IsSameFrom (general_of c.args.general.now) (zone_of c.in-Some-from_instant.zone) f) from c.in-Some-from_instant.ensures.same)

pub returns-in-Some-2-clause-same : goal.returns-in-Some-2-clause-same
returns-in-Some-2-clause-same c =
    let from : to_z w64 (of_z w64 c.in-Some.from) ≡ c.args.times.first -ℤ pos 86_399 = search rules in
    lasts_as_long (general_of c.args.general.now) (zone_of c.in-Some-2.zone) c.args.times.first (to_z w64 (of_z w64 c.in-Some.from)) c.args.times.last from
    (subst (λ o. IfSome o (λ zone. LastsAsLong (general_of c.args.general.now) (zone_of zone) (to_z w64 (of_z w64 c.in-Some.from)) c.args.times.last)) c.in-Some-2.is c.in_ok-zone.ensures.same)

pub returns-clause-same : goal.returns-clause-same
returns-clause-same c =
    let from : to_z w64 (of_z w64 c.in-Some.from) ≡ c.args.times.first -ℤ pos 86_399 = search rules in
    IfOk-weaker c.beyond-2.result _ _ (λ found h. IfSome_then found h (λ choice g.
    goes_on_beyond (general_of c.args.general.now) (zone_of choice.zone) choice.goes_on c.args.times.first _ c.args.times.last from g)) c.beyond-2.ensures

pub returns-then-ends_before-clause-sides : goal.returns-then-ends_before-clause-sides
returns-then-ends_before-clause-sides c =
    IfOk-weaker c.beyond.result _ _ (λ found h. IfSome_then found h (λ choice g. let on = g.3 in on.sides)) c.beyond.ensures

pub returns-in-Some-2-clause-sides : goal.returns-in-Some-2-clause-sides
returns-in-Some-2-clause-sides c =
    subst (λ o. IfSome o (λ zone. SetsBack (zone_of zone))) c.in-Some-2.is c.in_ok-zone.ensures.sides

pub returns-clause-sides : goal.returns-clause-sides
returns-clause-sides c =
    IfOk-weaker c.beyond-2.result _ _ (λ found h. IfSome_then found h (λ choice g. let on = g.3 in on.sides)) c.beyond-2.ensures
