use Rattle.std.proofs.Common.{◌≡◌, ◌<◌, ◌≤◌, arith, to_z, of_z, w64}
use Rattle.std.proofs.lemmas.Bool.Decides.{nat_tests}
use Rattle.jiff_core.proofs.SignedLemmas.{signed_arith}
use Rattle.cal_zones.proofs.Spacing.{apart_by}
use Rattle.cal_zones.proofs.pair.is_apart.Goals as goal

pub returns-clause-apart : goal.returns-clause-apart
returns-clause-apart c h =
    let a = c.onset_on.ensures in
    let b = c.onset_on-2.ensures in
    let x : to_z w64 (of_z w64 c.onset_on.result) ≡ c.onset_on.result = omega (arith, signed_arith, a.low, a.high) in
    let y : to_z w64 (of_z w64 c.onset_on-2.result) ≡ c.onset_on-2.result = omega (arith, signed_arith, b.low, b.high) in
    let far : 172_800 ≤ c.abs_diff.result = grind (arith, nat_tests) in
    apart_by c.args.a.now c.args.b.now c.args.n c.args.m c.onset_on.result c.onset_on-2.result a.read b.read (rw (c.abs_diff.ensures, x, y) at far)

pub returns-clause-near : goal.returns-clause-near
returns-clause-near c h =
    let a = c.onset_on.ensures in
    let b = c.onset_on-2.ensures in
    let x : to_z w64 (of_z w64 c.onset_on.result) ≡ c.onset_on.result = omega (arith, signed_arith, a.low, a.high) in
    let y : to_z w64 (of_z w64 c.onset_on-2.result) ≡ c.onset_on-2.result = omega (arith, signed_arith, b.low, b.high) in
    let near : c.abs_diff.result < 172_800 = grind (arith, nat_tests) in
    (c.onset_on.result, c.onset_on-2.result, a.read, b.read, rw (c.abs_diff.ensures, x, y) at near)
