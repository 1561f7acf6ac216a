use Rattle.std.proofs.Common.{refl, ◌++◌, ◌∷◌, codes}
use Rattle.profile.specs.text.Values.{escaped}
use Rattle.profile.specs.written.WrittenZones.{lines_around}
use Rattle.cal_zones.proofs.WrittenLines.{zone_written}
use Rattle.cal_zones.proofs.write.write_zone.Goals as goal

pub returns : goal.returns
returns c =
    let parts = c.in_ok-write_parts.ensures in
    let name = codes "TZID:" ++ escaped c.args.name.now in (
      lines_around (codes "VTIMEZONE") (name ∷ parts.0),
      (parts.0, parts.1, refl),
      zone_written _ _ _ _ _ (codes "BEGIN:VTIMEZONE") name (codes "END:VTIMEZONE") parts.0 c.in_ok-write_line.ensures.written c.in_ok-write_name.ensures parts.2 c.in_ok-write_line-2.ensures.written,
    )
