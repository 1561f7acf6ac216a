use Rattle.std.proofs.Common.{◌≡◌, to_z, of_z, w64, to_z-of_z}
use Rattle.cal_doors.specs.Runs.{run_of}
use Rattle.cal_doors.proofs.RunLemmas.{up_to}
use Rattle.cal_doors.proofs.run.Run.latest_bound.Goals as goal

pub returns : goal.returns
returns c =
    let cast : to_z w64 (of_z w64 c.bound.result) ≡ c.bound.result = to_z-of_z {w = w64} (record { sfits = c.bound.type_inv }) in
    up_to (run_of c.args.self.now) c.args.instant _ c.latest_onset.result (rw (to_z-of_z c.ranges.instant) at c.bound.ensures) (rw cast at c.latest_onset.ensures.latest)
