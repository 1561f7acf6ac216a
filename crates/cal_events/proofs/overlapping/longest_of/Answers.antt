use Rattle.std.proofs.Common.{◌≡◌, arith, pos, ◌≤ℤ◌, ◌<ℤ◌, ◌^◌, to_z, of_z, w64, FitsSigned, rules, to_z-of_z, inl, inr}
use Rattle.std.specs.Int.{int_max}
use Rattle.std.proofs.lemmas.Int.{ints}
use Rattle.cal_events.proofs.shared_lemmas.Overlaps.{last_more, last_whole, later_of}
use Rattle.cal_events.proofs.overlapping.longest_of.Goals as goal

pub loop-component-init : goal.loop-component-init
loop-component-init c = ((λ o h. absurd (omega (arith, h.1))), omega (arith, ints), omega (arith, ints))

pub loop-component-preserved : goal.loop-component-preserved
loop-component-preserved c =
    let r = c.max-longest.result in
    let n = c.width.result in
    let fits : FitsSigned w64 r = search rules in
    let cast : to_z w64 (of_z w64 r) ≡ r = to_z-of_z fits in
    let fits_n : FitsSigned w64 n = search rules in
    let cast_n : to_z w64 (of_z w64 n) ≡ n = to_z-of_z fits_n in
    let m = to_z w64 c.loop-component.longest-bits in
    let is : r ≡ int_max m n = rw cast_n at c.max-longest.ensures.value in
    let latest = later_of m n r is in
    let old : m ≤ℤ r = latest.0 in
    let new : n ≤ℤ r = latest.1 in
    let i = c.loop-component.invariant in
    let below : r <ℤ pos (2 ^ 50) = elim latest.2 [ inl e ↦ omega (arith, ints, e, i.2) | inr e ↦ omega (arith, ints, e, c.width.ensures.range) ] in
    rw cast
    (last_more c.args.overrides.now c.loop-component.component-index c.component-item.result m n r c.loop-component-test.true c.component-item.is i.0 c.width.ensures.bound old new, omega (arith, ints, i.1, old), below)

pub returns-clause-bound : goal.returns-clause-bound
returns-clause-bound c =
    last_whole c.args.overrides.now c.loop-component.component-index (to_z w64 c.loop-component.longest-bits) c.loop-component-test.false c.loop-component.invariant.0
