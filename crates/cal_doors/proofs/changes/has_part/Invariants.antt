use Rattle.std.proofs.Common.{◌≡◌, drop}
use Rattle.ical_tree.specs.Tree.{component_children}
use Rattle.profile.specs.series.ZoneTexts.{is_part}
use Rattle.cal_zones.specs.Read.{parts_in}
use Rattle.cal_doors.proofs.changes.has_part.Given as goal

-- all parts are left
abbrev pub invariant-loop-child : goal.invariant-loop-child
invariant-loop-child l = parts_in is_part (component_children l.zone) ≡ parts_in is_part (drop l.child-index (component_children l.zone))
