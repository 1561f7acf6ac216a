use Rattle.std.proofs.Common.{◌≡◌, refl, subst, arith, ◌<ℤ◌, to_z, of_z, w32, w64, to_z-of_z}
use Rattle.jiff_core.proofs.SignedLemmas.{signed_arith}
use Rattle.profile.specs.text.Values.{IsOffset}
use Rattle.profile.specs.series.Zones.{onset_at}
use Rattle.cal_zones.specs.Onsets.{observance_of}
use Rattle.cal_zones.proofs.Casts.{narrow}
use Rattle.cal_doors.specs.Runs.{run_of, runs_in}
use Rattle.cal_doors.proofs.Left.{at_index}
use Rattle.cal_doors.proofs.Offsets.{by_first}
use Rattle.cal_doors.proofs.after.offset_until.Goals as goal

pub returns : goal.returns
returns c =
    let run = c.in_ok-run.run'.now in
    let first = c.first_bound-first.result in
    let cast : to_z w64 (of_z w64 first) ≡ first = to_z-of_z {w = w64} (record { sfits = c.first_bound-first.type_inv }) in
    let ends : to_z w32 (of_z w32 run.offset_from) ≡ run.offset_from = narrow run.offset_from (subst IsOffset run.before run.observance.from) in
    let instant = to_z-of_z c.ranges.instant in
    let ahead : c.args.instant <ℤ first = omega (arith, signed_arith, cast, instant, c.if-first-instant.false) in
    rw ends (by_first (runs_in c.args.runs.now) c.args.instant first run.offset_from (onset_at (observance_of run.observance) first)
    (run_of run, at_index c.args.runs.now c.args.place run c.in_ok-run.ensures.lookup.3.0 c.in_ok-run.ensures.lookup.1, rw cast at (c.begins_at.ensures c.if-not-begins_at.false)) refl run.before ahead
    (rw (cast, ends) at (c.all_hold.ensures c.if-not-all_hold.false)))
