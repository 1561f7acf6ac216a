use Rattle.std.proofs.Common.{rules, ◌≡◌, refl, subst, to_z, of_z, w32, w64, to_z-of_z}
use Rattle.profile.specs.text.Values.{IsOffset}
use Rattle.profile.specs.series.Zones.{onset_at}
use Rattle.cal_zones.specs.Kinds.{zone_of}
use Rattle.cal_zones.specs.Onsets.{observance_of}
use Rattle.cal_zones.proofs.Casts.{narrow}
use Rattle.cal_doors.specs.Runs.{run_of, runs_in}
use Rattle.cal_doors.specs.After.{IsOnceAt, HasOnsetsAfter}
use Rattle.cal_doors.proofs.Left.{at_index}
use Rattle.cal_doors.proofs.Afterwards.{one_onset, some_map}
use Rattle.cal_doors.proofs.after.single_after.Goals as goal

pub returns : goal.returns
returns c =
    let run = c.in_ok-run.run'.now in
    let only = c.in_ok-only.only in
    let zone = runs_in c.args.runs.now in
    let cast : to_z w64 (of_z w64 only) ≡ only = to_z-of_z {w = w64} (search rules) in
    let ends : to_z w32 (of_z w32 run.offset_from) ≡ run.offset_from = narrow run.offset_from (subst IsOffset run.before run.observance.from) in
    let sets : to_z w32 (of_z w32 run.offset_to) ≡ run.offset_to = narrow run.offset_to (subst IsOffset run.after run.observance.to) in
    let all = rw (cast, ends, sets, to_z-of_z c.ranges.instant) at (c.all_hold.ensures c.if-not-all_hold.false) in
    some_map c.once_at.result (λ z. IsOnceAt only run.offset_from run.offset_to (zone_of z)) (λ z. HasOnsetsAfter zone c.args.instant (zone_of z))
    (λ z once. one_onset zone c.args.instant only run.offset_from run.offset_to (zone_of z) (onset_at (observance_of run.observance) only)
    (run_of run, at_index c.args.runs.now c.args.place run c.in_ok-run.ensures.lookup.3.0 c.in_ok-run.ensures.lookup.1, rw cast at (c.begins_at.ensures c.if-not-begins_at.false)) refl run.before run.after all once)
    (rw (cast, ends, sets) at c.once_at.ensures)
