use Rattle.std.proofs.Common.{◌≡◌, arith, to_z, of_z, w64, ◌≤ℤ◌}
use Rattle.jiff_core.proofs.SignedLemmas.{signed_arith}
use Rattle.cal_zones.specs.Onsets.{observance_of}
use Rattle.cal_zones.proofs.Casts.{narrow}
use Rattle.cal_zones.proofs.Zones.{left_first, right_first}
use Rattle.cal_zones.proofs.pair.Pair.offset_before_both.Goals as goal

pub returns-then-first_onset-clause-offset : goal.returns-then-first_onset-clause-offset
returns-then-first_onset-clause-offset c =
    let a = c.args.self.now.standard in
    let x : to_z w64 (of_z w64 c.first_onset.result) ≡ c.first_onset.result = omega (arith, signed_arith, c.first_onset.ensures.low, c.first_onset.ensures.high) in
    let y : to_z w64 (of_z w64 c.first_onset-2.result) ≡ c.first_onset-2.result = omega (arith, signed_arith, c.first_onset-2.ensures.low, c.first_onset-2.ensures.high) in
    let order : c.first_onset.result ≤ℤ c.first_onset-2.result = omega (arith, signed_arith, c.if-first_onset.true) in
    rw (narrow a.offset_from a.from) (left_first (observance_of a) (observance_of c.args.self.now.daylight) c.args.instant c.first_onset.result c.first_onset-2.result c.first_onset.ensures.first c.first_onset-2.ensures.first c.requires.standard order)

pub returns-else-first_onset-clause-offset : goal.returns-else-first_onset-clause-offset
returns-else-first_onset-clause-offset c =
    let b = c.args.self.now.daylight in
    let x : to_z w64 (of_z w64 c.first_onset.result) ≡ c.first_onset.result = omega (arith, signed_arith, c.first_onset.ensures.low, c.first_onset.ensures.high) in
    let y : to_z w64 (of_z w64 c.first_onset-2.result) ≡ c.first_onset-2.result = omega (arith, signed_arith, c.first_onset-2.ensures.low, c.first_onset-2.ensures.high) in
    let order : c.first_onset-2.result ≤ℤ c.first_onset.result = omega (arith, signed_arith, c.if-first_onset.false) in
    rw (narrow b.offset_from b.from) (right_first (observance_of c.args.self.now.standard) (observance_of b) c.args.instant c.first_onset.result c.first_onset-2.result c.first_onset.ensures.first c.first_onset-2.ensures.first c.requires.daylight order)
