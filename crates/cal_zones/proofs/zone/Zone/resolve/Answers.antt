use Rattle.std.proofs.Common.{rules}
use Rattle.std.proofs.lemmas.Int.{ints}
use Rattle.std.proofs.Common.{◌≡◌, ap, arith, ◌+ℤ◌, ◌-ℤ◌, of_z, w32}
use Rattle.jiff_core.proofs.SignedLemmas.{signed_arith}
use Rattle.cal_zones.specs.Kinds.{zone_of}
use Rattle.cal_zones.proofs.Casts.{read_with, same_bits}
use Rattle.cal_zones.proofs.Once.{once}
use Rattle.cal_zones.proofs.Zones.{sides_of, means_early, means_late}
use Rattle.cal_zones.proofs.zone.Zone.resolve.Goals as goal

pub returns-then-offset-greatest-clause-meaning : goal.returns-then-offset-greatest-clause-meaning
returns-then-offset-greatest-clause-meaning c =
    let z = zone_of c.args.self.now in
    let least = c.ends-least.result.0 in
    let greatest = c.ends-least.result.1 in
    let s = c.seconds-seconds.result in
    let o = c.ends-least.ensures in
    let cast = read_with s greatest c.seconds-seconds.ensures.range o.range.1 in
    let shown = rw cast at c.offset.ensures.offset in
    let same = same_bits c.offset.result greatest c.offset.ensures.range o.range.1 c.if-offset-greatest.true in
    let sum : (s -ℤ greatest) +ℤ greatest ≡ c.args.local = omega (arith, signed_arith, c.seconds-seconds.ensures.value) in
    rw cast (means_early z least greatest c.args.local (s -ℤ greatest) (sides_of z least greatest o.ends) sum (rw same at shown))

pub returns-clause-meaning : goal.returns-clause-meaning
returns-clause-meaning c =
    let z = zone_of c.args.self.now in
    let least = c.ends-least.result.0 in
    let greatest = c.ends-least.result.1 in
    let s = c.seconds-seconds.result in
    let o = c.ends-least.ensures in
    let cast = read_with s greatest c.seconds-seconds.ensures.range o.range.1 in
    let cast_late = read_with s least c.seconds-seconds.ensures.range o.range.0 in
    let shown = rw cast at c.offset.ensures.offset in
    let shown_late = rw cast_late at c.offset-2.ensures.offset in
    let sum : (s -ℤ greatest) +ℤ greatest ≡ c.args.local = omega (arith, signed_arith, c.seconds-seconds.ensures.value) in
    let sum_late : (s -ℤ least) +ℤ least ≡ c.args.local = omega (arith, signed_arith, c.seconds-seconds.ensures.value) in
    rw cast_late (means_late z least greatest c.args.local (s -ℤ greatest) (s -ℤ least) c.offset.result c.offset-2.result (once c.args.self.now) (sides_of z least greatest o.ends) sum sum_late shown (λ e. c.if-offset-greatest.false (ap (of_z w32) e)) shown_late)

pub returns-clause-range : goal.returns-clause-range
returns-clause-range c = search (ints, rules)
