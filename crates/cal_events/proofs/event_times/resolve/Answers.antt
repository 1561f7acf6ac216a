use Rattle.std.proofs.Common.{◌≡◌, ap, arith, ◌+ℤ◌, ◌-ℤ◌, to_z, of_z, w32, w64}
use Rattle.std.proofs.lemmas.Int.{ints}
use Rattle.cal_zones.specs.Kinds.{zone_of}
use Rattle.cal_zones.proofs.Casts.{same_bits}
use Rattle.cal_zones.proofs.Once.{once}
use Rattle.cal_zones.proofs.Zones.{AreSides, means_early, means_late}
use Rattle.cal_events.proofs.event_times.resolve.Goals as goal

pub returns-then-offset-greatest-clause-meaning : goal.returns-then-offset-greatest-clause-meaning
returns-then-offset-greatest-clause-meaning c =
    let z = zone_of c.args.clock.now in
    let o = c.offsets-least.ensures in
    let least = c.offsets-least.result.0 in
    let greatest = c.offsets-least.result.1 in
    let s = c.args.local in
    let sides : AreSides z least greatest = record { ordered = o.bounds.ordered; sides = o.bounds.sides; one = o.bounds.one } in
    let f = c.from.ensures in
    let cast : to_z w64 (of_z w64 (to_z w64 (of_z w64 s) -ℤ to_z w64 (of_z w64 c.from.result))) ≡ s -ℤ greatest = omega (arith, ints, f, o.range.1, c.requires) in
    let shown = rw cast at c.offset.ensures.offset in
    let same = same_bits c.offset.result greatest c.offset.ensures.range o.range.1 c.if-offset-greatest.true in
    let sum : (s -ℤ greatest) +ℤ greatest ≡ s = omega (arith, ints) in
    rw cast (means_early z least greatest s (s -ℤ greatest) sides sum (rw same at shown))

pub returns-clause-meaning : goal.returns-clause-meaning
returns-clause-meaning c =
    let z = zone_of c.args.clock.now in
    let o = c.offsets-least.ensures in
    let least = c.offsets-least.result.0 in
    let greatest = c.offsets-least.result.1 in
    let s = c.args.local in
    let sides : AreSides z least greatest = record { ordered = o.bounds.ordered; sides = o.bounds.sides; one = o.bounds.one } in
    let cast : to_z w64 (of_z w64 (to_z w64 (of_z w64 s) -ℤ to_z w64 (of_z w64 c.from.result))) ≡ s -ℤ greatest = omega (arith, ints, c.from.ensures, o.range.1, c.requires) in
    let cast_late : to_z w64 (of_z w64 (to_z w64 (of_z w64 s) -ℤ to_z w64 (of_z w64 c.from-2.result))) ≡ s -ℤ least = omega (arith, ints, c.from-2.ensures, o.range.0, c.requires) in
    let shown = rw cast at c.offset.ensures.offset in
    let shown_late = rw cast_late at c.offset-2.ensures.offset in
    let sum : (s -ℤ greatest) +ℤ greatest ≡ s = omega (arith, ints) in
    let sum_late : (s -ℤ least) +ℤ least ≡ s = omega (arith, ints) in
    rw cast_late (means_late z least greatest s (s -ℤ greatest) (s -ℤ least) c.offset.result c.offset-2.result (once c.args.clock.now) sides sum sum_late shown (λ e. c.if-offset-greatest.false (ap (of_z w32) e)) shown_late)
