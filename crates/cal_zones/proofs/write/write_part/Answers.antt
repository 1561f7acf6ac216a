use Rattle.cal_zones.specs.Onsets.{observance_of}
use Rattle.cal_zones.proofs.WrittenLines.{part_written, line_written}
use Rattle.cal_zones.proofs.write.write_part.Goals as goal
use Rattle.std.proofs.Common.{◌++◌, ◌∷◌, [], refl, subst, codes, ℤ}
use Rattle.profile.specs.text.Values.{WritesOffset}
use Rattle.cal_zones.proofs.Casts.{narrow}
use Rattle.profile.specs.written.WrittenZones.{rule_lines, lines_around}

pub returns : goal.returns
returns c =
    let part = c.args.part.now in
    let o = observance_of part in
    let start = c.in_ok-write_start.ensures in
    let from = c.in_ok-write_offset.ensures in
    let to = c.in_ok-write_offset-2.ensures in
    let own = (codes "DTSTART:" ++ start.1.0) ∷ (rule_lines o.rule ++ ((codes "TZOFFSETFROM:" ++ from.1.0) ∷ (codes "TZOFFSETTO:" ++ to.1.0) ∷ [])) in (
      lines_around c.args.kind.now own,
      (own, record { start = start.1.0; from = from.1.0; to = to.1.0; writes_start = start.1.1; writes_from = subst (λ (z : ℤ). WritesOffset from.1.0 z) (narrow part.offset_from part.from) from.1.1; writes_to = subst (λ (z : ℤ). WritesOffset to.1.0 z) (narrow part.offset_to part.to) to.1.1; is = refl }, refl),
      part_written _ _ _ _ _ _ _ (codes "BEGIN:" ++ c.args.kind.now) (codes "DTSTART:" ++ start.1.0) (codes "TZOFFSETFROM:" ++ from.1.0) (codes "TZOFFSETTO:" ++ to.1.0) (codes "END:" ++ c.args.kind.now) (rule_lines o.rule)
          c.in_ok-write_property.ensures.written (line_written _ _ _ _ start.2 start.1.2) c.in_ok-write_rule.ensures (line_written _ _ _ _ from.2 from.1.2) (line_written _ _ _ _ to.2 to.1.2) c.in_ok-write_property-2.ensures.written,
    )
