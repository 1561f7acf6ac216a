use Rattle.std.proofs.Common.{◌≡◌, arith, ◌≤ℤ◌, to_z, of_z, w64, to_z-of_z}
use Rattle.jiff_core.proofs.SignedLemmas.{signed_arith}
use Rattle.cal_zones.specs.Onsets.{observance_of}
use Rattle.cal_doors.specs.Runs.{run_of}
use Rattle.cal_doors.proofs.Reaches.{within}
use Rattle.cal_doors.proofs.run.Run.is_within.Goals as goal

pub returns : goal.returns
returns c = λ h.
    let a = c.args.self.now in
    let b = c.args.whole.now in
    let one : to_z w64 (of_z w64 c.seconds.result) ≡ c.seconds.result = to_z-of_z {w = w64} (record { sfits = c.seconds.type_inv }) in
    let other : to_z w64 (of_z w64 c.seconds-2.result) ≡ c.seconds-2.result = to_z-of_z {w = w64} (record { sfits = c.seconds-2.type_inv }) in
    let order : b.start ≤ℤ a.start = omega (arith, signed_arith, one, other, c.seconds.ensures.value, c.seconds-2.ensures.value, h) in
    within (run_of a) (observance_of b.observance) b.start a.start (c.is_alike.ensures c.if-not-is_alike.false) b.starts a.starts order
