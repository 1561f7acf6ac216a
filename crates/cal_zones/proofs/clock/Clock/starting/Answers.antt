use Rattle.std.proofs.Common.{◌≡◌, ◌∙◌, arith, to_z, of_z, w32, w64, to_z-of_z}
use Rattle.jiff_core.proofs.SignedLemmas.{signed_arith}
use Rattle.ical_values.proofs.Facts.{wide_clock}
use Rattle.cal_zones.specs.Kinds.{zone_of}
use Rattle.cal_zones.proofs.Casts.{narrow, wide_offset}
use Rattle.cal_zones.proofs.Once.{once}
use Rattle.cal_zones.proofs.Zones.{sides_of}
use Rattle.cal_zones.proofs.Spans.{span_between}
use Rattle.cal_zones.proofs.clock.Clock.starting.Goals as goal

pub invariant_of-result : goal.invariant_of-result
invariant_of-result c =
    let z = zone_of c.args.zone in
    let s = c.seconds-from in
    let ends = c.ends-greatest in
    let k = c.offset-offset in
    let sum = c.saturating_add-to in
    let k_is = narrow k.result k.ensures.range in
    let whole : to_z w64 (of_z w64 sum.result) ≡ sum.result = to_z-of_z {w = w64} {z = sum.result} (record { sfits = sum.type_inv }) in
    let quiet_wide : to_z w64 (of_z w64 c.quiet_until.result) ≡ c.quiet_until.result = to_z-of_z {w = w64} {z = c.quiet_until.result} (record { sfits = c.quiet_until.type_inv }) in
    let k_wide : to_z w64 (of_z w64 (to_z w32 (of_z w32 k.result))) ≡ k.result = rw k_is (wide_offset k.result k.ensures.range) in
    let span = span_between z ends.result.0 ends.result.1 _ c.quiet_until.result k.result s.result _ (once c.args.zone) (sides_of z ends.result.0 ends.result.1 ends.ensures.ends) c.quiet_until.ensures k.ensures.offset s.ensures.range
    (omega (arith, signed_arith, s.ensures.range, ends.ensures.range.0, ends.ensures.range.1)) (omega (arith, signed_arith, quiet_wide, k_wide)) in
    record {
      span = rw (wide_clock s.result s.ensures.range, whole ∙ sum.ensures, k_is) span;
      range = rw k_is k.ensures.range;
      width = (rw (wide_clock s.result s.ensures.range) (record { sfits = s.type_inv }), rw whole (record { sfits = sum.type_inv }));
    }
