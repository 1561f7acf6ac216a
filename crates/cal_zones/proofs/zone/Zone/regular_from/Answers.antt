use Rattle.std.proofs.Common.{◌≡◌, ◌∙◌, sym, subst, arith, to_z, of_z, w64}
use Rattle.std.proofs.lemmas.Int.{ints}
use Rattle.profile.specs.series.Zones.{Single}
use Rattle.cal_zones.specs.Onsets.{observance_of}
use Rattle.cal_zones.specs.Kinds.{pair_of}
use Rattle.cal_zones.specs.Repeats.{IsRegularFrom}
use Rattle.cal_zones.proofs.Periods.{single_begun, both_begun, past_from}
use Rattle.cal_zones.proofs.zone.Zone.regular_from.Goals as goal

single_from : (c : goal.After-begun_from) → IsRegularFrom (Single (observance_of c.in-Single.once.observance)) (to_z w64 (of_z w64 c.begun_from.result))
single_from c =
    let e : to_z w64 (of_z w64 c.begun_from.result) ≡ c.begun_from.result = omega (arith, ints, c.begun_from.type_inv) in
    let z = Single (observance_of c.in-Single.once.observance) in
    subst (IsRegularFrom z) (sym e) (single_begun (observance_of c.in-Single.once.observance) c.begun_from.result c.begun_from.ensures)

pair_from : (c : goal.After-max) → IsRegularFrom (pair_of c.in-Pair.pair.standard c.in-Pair.pair.daylight) (to_z w64 (of_z w64 c.max.result))
pair_from c =
    let x = c.begun_from-in-Pair.result in
    let y = c.begun_from-in-Pair-2.result in
    let ex : to_z w64 (of_z w64 x) ≡ x = omega (arith, ints, c.begun_from-in-Pair.type_inv) in
    let ey : to_z w64 (of_z w64 y) ≡ y = omega (arith, ints, c.begun_from-in-Pair-2.type_inv) in
    let e : to_z w64 (of_z w64 c.max.result) ≡ c.max.result = omega (arith, ints, c.max.type_inv) in
    both_begun (observance_of c.in-Pair.pair.standard) (observance_of c.in-Pair.pair.daylight) x y _ c.begun_from-in-Pair.ensures c.begun_from-in-Pair-2.ensures
    (e ∙ (rw (ex, ey) at c.max.ensures.value))

pub returns-in-Single-clause-past : goal.returns-in-Single-clause-past
returns-in-Single-clause-past c = rw c.in-Single.is (past_from (Single (observance_of c.in-Single.once.observance)) (to_z w64 (of_z w64 c.begun_from.result)) (single_from c))

pub returns-in-Single-clause-exact : goal.returns-in-Single-clause-exact
returns-in-Single-clause-exact c = rw c.in-Single.is (single_from c)

pub returns-in-Pair-clause-past : goal.returns-in-Pair-clause-past
returns-in-Pair-clause-past c = rw c.in-Pair.is (past_from (pair_of c.in-Pair.pair.standard c.in-Pair.pair.daylight) (to_z w64 (of_z w64 c.max.result)) (pair_from c))

pub returns-in-Pair-clause-exact : goal.returns-in-Pair-clause-exact
returns-in-Pair-clause-exact c = rw c.in-Pair.is (pair_from c)
