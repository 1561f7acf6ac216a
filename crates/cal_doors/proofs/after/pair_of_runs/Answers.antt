use Rattle.std.proofs.Common.{◌≡◌, subst, arith, to_z, of_z, w32, to_z-of_z}
use Rattle.std.specs.Int.Signed.{◌<ℤ◌}
use Rattle.jiff_core.proofs.SignedLemmas.{signed_arith}
use Rattle.profile.specs.text.Values.{IsOffset}
use Rattle.cal_zones.specs.Kinds.{zone_of, pair_of}
use Rattle.cal_zones.specs.Onsets.{observance_of}
use Rattle.cal_zones.proofs.Casts.{narrow}
use Rattle.cal_doors.specs.Runs.{runs_in}
use Rattle.cal_doors.specs.After.{HasOnsetsAfter}
use Rattle.cal_doors.proofs.Afterwards.{two_rules, turned, some_map, of_ok}
use Rattle.cal_doors.proofs.after.pair_of_runs.Goals as goal

pub returns-then-other : goal.returns-then-other
returns-then-other c =
    let zone = runs_in c.args.runs.now in
    let run = c.args.other.now in
    let a = c.args.one.now.observance in
    let b = run.observance in
    let instant = to_z-of_z c.ranges.instant in
    let ends : to_z w32 (of_z w32 run.offset_from) ≡ run.offset_from = narrow run.offset_from (subst IsOffset run.before b.from) in
    let sets : to_z w32 (of_z w32 run.offset_to) ≡ run.offset_to = narrow run.offset_to (subst IsOffset run.after b.to) in
    let back : (observance_of b).offset_to <ℤ (observance_of b).offset_from = omega (arith, signed_arith, ends, sets, run.before, run.after, c.if-other.true) in
    let all = rw instant at (c.all_hold.ensures c.if-not-all_hold.false) in
    some_map c.ok-then-other.result (λ z. zone_of z ≡ pair_of b a) (λ z. HasOnsetsAfter zone c.args.instant (zone_of z))
    (λ z e. two_rules zone c.args.instant (observance_of b) (observance_of a) (zone_of z) e (turned zone c.args.instant (observance_of a) (observance_of b) all)
    (rw instant at (c.covers-else-not-covers.ensures c.if-not-covers-2.false)) (rw instant at (c.covers.ensures c.if-not-covers.false)) back)
    (of_ok c.pair-then-other.result c.ok-then-other.result (λ z. zone_of z ≡ pair_of b a) c.ok-then-other.ensures.value c.pair-then-other.ensures.ok)

pub returns-then-one : goal.returns-then-one
returns-then-one c =
    let zone = runs_in c.args.runs.now in
    let run = c.args.one.now in
    let a = run.observance in
    let b = c.args.other.now.observance in
    let instant = to_z-of_z c.ranges.instant in
    let ends : to_z w32 (of_z w32 run.offset_from) ≡ run.offset_from = narrow run.offset_from (subst IsOffset run.before a.from) in
    let sets : to_z w32 (of_z w32 run.offset_to) ≡ run.offset_to = narrow run.offset_to (subst IsOffset run.after a.to) in
    let back : (observance_of a).offset_to <ℤ (observance_of a).offset_from = omega (arith, signed_arith, ends, sets, run.before, run.after, c.if-one.true) in
    let all = rw instant at (c.all_hold.ensures c.if-not-all_hold.false) in
    some_map c.ok.result (λ z. zone_of z ≡ pair_of a b) (λ z. HasOnsetsAfter zone c.args.instant (zone_of z))
    (λ z e. two_rules zone c.args.instant (observance_of a) (observance_of b) (zone_of z) e all
    (rw instant at (c.covers.ensures c.if-not-covers.false)) (rw instant at (c.covers-else-not-covers.ensures c.if-not-covers-2.false)) back)
    (of_ok c.pair.result c.ok.result (λ z. zone_of z ≡ pair_of a b) c.ok.ensures.value c.pair.ensures.ok)
