use Rattle.std.proofs.Common.{◌≡◌, ◌∙◌, ◌+◌, ◌-◌, ◌≤ℤ◌, arith, to_z, of_z, w64, to_z-of_z}
use Rattle.std.specs.Int.Signed.{◌<ℤ◌}
use Rattle.jiff_core.proofs.SignedLemmas.{signed_arith}
use Rattle.profile.specs.series.Days.{IsDayNumber, day_index}
use Rattle.profile.specs.series.Zones.{local_time}
use Rattle.cal_zones.specs.Kinds.{zone_of}
use Rattle.cal_zones.proofs.Casts.{narrow}
use Rattle.cal_zones.proofs.Lasts.{local_of_day, none_past, none_more}
use Rattle.cal_zones.proofs.Zones.{sides_of}
use Rattle.cal_zones.proofs.zone.Zone.last_day_at.Goals as goal

pub loop-index-init : goal.loop-index-init
loop-index-init c =
    let o = c.ends-greatest.result in
    (omega (arith, c.latest_day-index.ensures.range), none_past (zone_of c.args.self.now) o.0 o.1 _ c.args.second c.latest_day-index.result (sides_of (zone_of c.args.self.now) o.0 o.1 c.ends-greatest.ensures.ends) (rw (narrow o.1 c.ends-greatest.ensures.range.1) at c.latest_day-index.ensures.past))

pub returns-then-resolve-until : goal.returns-then-resolve-until
returns-then-resolve-until c =
    let there : day_index c.unwrap-day.result ≡ c.loop-index.index = rw c.unwrap-day.ensures at c.at_index.ensures.value in
    let w = c.unwrap-day.type_inv in
    let number : IsDayNumber c.unwrap-day.result = (omega (arith, signed_arith, w), omega (arith, signed_arith, w)) in
    let start : c.unwrap-start.result ≡ local_time (day_index c.unwrap-day.result) c.args.second = (rw c.unwrap-start.ensures at c.of_day.ensures.value) ∙ local_of_day c.unwrap-day.result c.args.second number in
    let until : to_z w64 (of_z w64 c.args.until) ≡ c.args.until = to_z-of_z c.ranges.until in
    let cast : to_z w64 (of_z w64 c.resolve.result) ≡ c.resolve.result = omega (arith, signed_arith, c.resolve.ensures.range) in
    let order : c.resolve.result ≤ℤ c.args.until = omega (arith, signed_arith, c.if-resolve-until.true) in
    record {
      to_9999 = rw there (c.loop-index.invariant.0);
      start = c.resolve.result;
      means = rw start at c.resolve.ensures.meaning;
      not_past = order;
      last = rw there (rw until at c.loop-index.invariant.1);
    }

pub loop-index-preserved : goal.loop-index-preserved
loop-index-preserved c =
    let there : day_index c.unwrap-day.result ≡ c.loop-index.index = rw c.unwrap-day.ensures at c.at_index.ensures.value in
    let w = c.unwrap-day.type_inv in
    let number : IsDayNumber c.unwrap-day.result = (omega (arith, signed_arith, w), omega (arith, signed_arith, w)) in
    let start : c.unwrap-start.result ≡ local_time (day_index c.unwrap-day.result) c.args.second = (rw c.unwrap-start.ensures at c.of_day.ensures.value) ∙ local_of_day c.unwrap-day.result c.args.second number in
    let until : to_z w64 (of_z w64 c.args.until) ≡ c.args.until = to_z-of_z c.ranges.until in
    let cast : to_z w64 (of_z w64 c.resolve.result) ≡ c.resolve.result = omega (arith, signed_arith, c.resolve.ensures.range) in
    let order : c.args.until <ℤ c.resolve.result = omega (arith, signed_arith, c.if-resolve-until.false) in
    let o = c.ends-greatest.result in
    let back : c.loop-index.index - 1 + 1 ≡ c.loop-index.index = omega arith in
    (omega (arith, c.loop-index.invariant.0), rw (back, until) (none_more (zone_of c.args.self.now) o.0 o.1 c.args.until c.resolve.result c.args.second c.loop-index.index (sides_of (zone_of c.args.self.now) o.0 o.1 c.ends-greatest.ensures.ends) (rw until at c.loop-index.invariant.1) (rw (start, there) at c.resolve.ensures.meaning) order))

pub returns : goal.returns
returns c other from = rw (to_z-of_z c.ranges.until) at (c.loop-index.invariant.1 other (omega arith))
