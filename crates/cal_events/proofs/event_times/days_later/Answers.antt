use Rattle.std.proofs.Common.{◌≡◌, ◌*◌, ◌<◌, inr, arith, pos, ◌+ℤ◌, ◌*ℤ◌, to_z, of_z, w64, rules}
use Rattle.std.proofs.lemmas.Int.{ints}
use Rattle.cal_events.proofs.event_times.days_later.Goals as goal

pub returns-clause-later : goal.returns-clause-later
returns-clause-later c =
    let t = c.args.instant in
    let local = c.counted_from.result in
    let near = c.counted_from.ensures.near in
    let days = c.args.days in
    let same : to_z w64 (of_z w64 t) ≡ t = omega (arith, ints, c.requires) in
    let from = rw same at near in
    let fits : days < 4_294_967_296 = search rules in
    let sum : to_z w64 (of_z w64 (to_z w64 (of_z w64 local) +ℤ to_z w64 (of_z w64 (to_z w64 (of_z w64 c.from.result) *ℤ pos 86_400)))) ≡ local +ℤ pos (86_400 * days) =
    omega (arith, ints, c.from.ensures, c.requires, from.0, from.1, fits) in
    let kept : to_z w64 (of_z w64 c.resolve.result) ≡ c.resolve.result = omega (arith, ints) in
    let some : 0 < days = omega (arith, c.if-days-eq0.false) in
    rw kept (inr (some, (local, rw same at c.counted_from.ensures.counted, rw sum at c.resolve.ensures.meaning)))

pub returns-clause-range : goal.returns-clause-range
returns-clause-range c =
    let t = c.args.instant in
    let same : to_z w64 (of_z w64 t) ≡ t = omega (arith, ints, c.requires) in
    let from = rw same at c.counted_from.ensures.near in
    let near = c.resolve.ensures.near in
    let fits : c.args.days < 4_294_967_296 = search rules in
    (omega (arith, ints, c.from.ensures, c.requires, from.0, from.1, near.0, near.1, fits), omega (arith, ints, c.from.ensures, c.requires, from.0, from.1, near.0, near.1, fits))
