use Rattle.std.proofs.Common.{drop}
use Rattle.ical_tree.specs.Tree.{component_children}
use Rattle.profile.specs.series.ZoneTexts.{is_part}
use Rattle.cal_zones.specs.Read.{parts_in, zone_parts}
use Rattle.fault_places.proofs.ObstacleLemmas.{AreRight}
use Rattle.fault_places.proofs.obstacle.first_times_cause.Given as goal

-- where the parts that are left are right, all are
abbrev pub invariant-loop-place : goal.invariant-loop-place
invariant-loop-place l = AreRight (parts_in is_part (drop l.place (component_children l.zone))) → AreRight (zone_parts l.zone)
