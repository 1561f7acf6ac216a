use Rattle.std.proofs.Common.{rules, ◌≡◌, refl, subst, arith, ◌≤ℤ◌, to_z, of_z, w32, w64, to_z-of_z}
use Rattle.jiff_core.proofs.SignedLemmas.{signed_arith}
use Rattle.profile.specs.text.Values.{IsOffset}
use Rattle.profile.specs.series.Zones.{onset_at}
use Rattle.cal_zones.specs.Onsets.{observance_of}
use Rattle.cal_zones.proofs.Casts.{narrow}
use Rattle.cal_doors.specs.Runs.{run_of, runs_in}
use Rattle.cal_doors.proofs.Left.{at_index}
use Rattle.cal_doors.proofs.Offsets.{by_latest}
use Rattle.cal_doors.proofs.after.offset_since.Goals as goal

pub returns : goal.returns
returns c =
    let run = c.in_ok-run.run'.now in
    let latest = c.in_ok-latest.latest in
    let cast : to_z w64 (of_z w64 latest) ≡ latest = to_z-of_z {w = w64} (search rules) in
    let sets : to_z w32 (of_z w32 run.offset_to) ≡ run.offset_to = narrow run.offset_to (subst IsOffset run.after run.observance.to) in
    let instant = to_z-of_z c.ranges.instant in
    let begun : latest ≤ℤ c.args.instant = omega (arith, signed_arith, cast, instant, c.if-instant-latest.false) in
    rw sets (by_latest (runs_in c.args.runs.now) c.args.instant latest run.offset_to (onset_at (observance_of run.observance) latest)
    (run_of run, at_index c.args.runs.now c.args.place run c.in_ok-run.ensures.lookup.3.0 c.in_ok-run.ensures.lookup.1, rw cast at (c.begins_at.ensures c.if-not-begins_at.false)) refl run.after begun
    (rw (cast, sets, instant) at (c.all_hold.ensures c.if-not-all_hold.false)))
