use Rattle.std.proofs.Common.{◌≡◌, arith, ◌+ℤ◌, to_z, of_z, w64}
use Rattle.std.proofs.lemmas.Int.{ints}
use Rattle.profile.specs.series.Zones.{Shows}
use Rattle.cal_zones.specs.Kinds.{zone_of}
use Rattle.cal_events.proofs.event_times.counted_from.Goals as goal

pub returns-in-Fixed-clause-counted : goal.returns-in-Fixed-clause-counted
returns-in-Fixed-clause-counted c =
    let t = c.args.instant in
    let same : to_z w64 (of_z w64 t) ≡ t = omega (arith, ints, c.requires) in
    let sum : t +ℤ c.offset.result ≡ to_z w64 (of_z w64 (to_z w64 (of_z w64 t) +ℤ to_z w64 (of_z w64 c.from.result))) = omega (arith, ints, c.from.ensures, c.requires, c.offset.ensures.range) in
    let shows : Shows (zone_of c.args.clock.now) t (to_z w64 (of_z w64 (to_z w64 (of_z w64 t) +ℤ to_z w64 (of_z w64 c.from.result)))) = (c.offset.result, rw same at c.offset.ensures.offset, sum) in
    rw c.in-Fixed.is shows

pub returns-in-Floating-clause-counted : goal.returns-in-Floating-clause-counted
returns-in-Floating-clause-counted c =
    let t = c.args.instant in
    let same : to_z w64 (of_z w64 t) ≡ t = omega (arith, ints, c.requires) in
    let sum : t +ℤ c.offset.result ≡ to_z w64 (of_z w64 (to_z w64 (of_z w64 t) +ℤ to_z w64 (of_z w64 c.from.result))) = omega (arith, ints, c.from.ensures, c.requires, c.offset.ensures.range) in
    let shows : Shows (zone_of c.args.clock.now) t (to_z w64 (of_z w64 (to_z w64 (of_z w64 t) +ℤ to_z w64 (of_z w64 c.from.result)))) = (c.offset.result, rw same at c.offset.ensures.offset, sum) in
    rw c.in-Floating.is shows

pub returns-in-WholeDay-clause-counted : goal.returns-in-WholeDay-clause-counted
returns-in-WholeDay-clause-counted c =
    let t = c.args.instant in
    let same : to_z w64 (of_z w64 t) ≡ t = omega (arith, ints, c.requires) in
    let near = c.day_from.ensures.near in
    let kept : to_z w64 (of_z w64 c.day_from.result) ≡ c.day_from.result = omega (arith, ints, c.from.ensures, c.requires, c.offset.ensures.range, near.0, near.1) in
    rw (c.in-WholeDay.is, kept) (rw same at c.day_from.ensures.counted)

pub returns-in-WholeDay-clause-near : goal.returns-in-WholeDay-clause-near
returns-in-WholeDay-clause-near c =
    let near = c.day_from.ensures.near in (
      omega (arith, ints, c.from.ensures, c.requires, c.offset.ensures.range, near.0, near.1),
      omega (arith, ints, c.from.ensures, c.requires, c.offset.ensures.range, near.0, near.1),
    )
