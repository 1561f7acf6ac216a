use Rattle.std.proofs.Common.{◌≡◌, ◌∙◌, ap, arith, pos, ◌<ℤ◌, ◌<◌, to_z, of_z, w64, to_z-of_z, unsigned_abs, ◌+◌, ◌*◌, ◌/◌}
use Rattle.std.proofs.lemmas.Int.{ints}
use Rattle.cal_period.proofs.Spanning.{next_is}
use Rattle.cal_period.proofs.span.next_midnight.Goals as goal

pub returns-clause-midnight : goal.returns-clause-midnight
returns-clause-midnight c =
    let t = c.args.instant in
    let n = c.unsigned_abs-seconds.result in
    let cast : to_z w64 (of_z w64 t) ≡ t = to_z-of_z c.ranges.instant in
    let before = c.requires in
    let past : pos 0 <ℤ t = let l = rw cast at c.if-instant-le0.false in grind (arith, ints, l) in
    let size : n ≡ unsigned_abs t = rw cast at c.unsigned_abs-seconds.ensures.value in
    let few : (n + 86_399) / 86_400 * 86_400 < 9_223_372_036_854_775_808 = omega (arith, ints, size, before, past) in
    let z : to_z w64 ((n + 86_399) / 86_400 * 86_400) ≡ pos ((n + 86_399) / 86_400 * 86_400) = omega (arith, ints, few) in
    next_is t _ past (z ∙ ap (λ k. pos ((k + 86_399) / 86_400 * 86_400)) size)
