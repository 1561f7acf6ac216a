use Rattle.std.proofs.Common.{◌≡◌, arith, pos, ◌+ℤ◌, to_z, of_z, w64}
use Rattle.std.proofs.lemmas.Int.{ints}
use Rattle.cal_zones.specs.Onsets.{observance_of}
use Rattle.cal_zones.proofs.Periods.{begun_from}
use Rattle.cal_zones.proofs.observance.Observance.begun_from.Goals as goal

pub returns : goal.returns
returns c =
    let first = c.first_onset.result in
    let low = c.first_onset.ensures.low in
    let high = c.first_onset.ensures.high in
    let e : to_z w64 (of_z w64 (to_z w64 (of_z w64 (to_z w64 (of_z w64 first) +ℤ pos 43_200)) +ℤ pos 1)) ≡ first +ℤ pos 43_201 = omega (arith, ints, low, high) in
    begun_from (observance_of c.args.self.now) first _ c.first_onset.ensures.first e
