use Rattle.std.proofs.Common.{rules, ◌≡◌, ◌∙◌, ap, to_z, of_z, w64, to_z-of_z, ◌+ℤ◌}
use Rattle.profile.specs.series.Zones.{Single}
use Rattle.cal_zones.specs.Kinds.{zone_of}
use Rattle.cal_zones.specs.Onsets.{observance_of, yearly_rule}
use Rattle.cal_zones.proofs.Casts.{narrow, wide_offset}
use Rattle.cal_doors.specs.After.{IsOnceAt}
use Rattle.cal_doors.proofs.Afterwards.{some_map, of_ok}
use Rattle.cal_doors.proofs.after.once_at.Goals as goal

pub returns : goal.returns
returns c =
    let o = observance_of c.new.result in
    let s = c.seconds.result in
    let range = c.seconds.ensures.range in
    let sum = c.in_ok-checked_add.field-0 in
    let from = c.in_ok-from.ensures.value ∙ to_z-of_z c.ranges.from in
    let added : sum ≡ c.args.only +ℤ s = rw (to_z-of_z c.ranges.only, narrow s range, wide_offset s range) at c.in_ok-checked_add.ensures.1 in
    let cast : to_z w64 (of_z w64 sum) ≡ sum = to_z-of_z {w = w64} (search rules) in
    some_map c.ok.result (λ z. zone_of z ≡ Single o) (λ z. IsOnceAt c.args.only c.args.from c.args.to (zone_of z))
    (λ z e. record {
      o = o;
      is = e;
      no_rule = ap (yearly_rule c.new.result.day) c.new.ensures.rule;
      local = c.new.ensures.start ∙ ((rw cast at c.in_ok-local.ensures.value) ∙ (added ∙ ap (λ x. c.args.only +ℤ x) (c.seconds.ensures.value ∙ from)));
      before = c.new.ensures.from ∙ from;
      after = c.new.ensures.to ∙ (c.in_ok-to.ensures.value ∙ to_z-of_z c.ranges.to);
    })
    (of_ok c.single.result c.ok.result (λ z. zone_of z ≡ Single o) c.ok.ensures.value c.single.ensures.ok)
