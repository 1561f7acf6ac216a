use Rattle.std.proofs.Common.{drop}
use Rattle.ical_tree.specs.Tree.{component_children}
use Rattle.profile.specs.series.ZoneTexts.{is_part}
use Rattle.cal_zones.specs.Read.{parts_in, zone_parts}
use Rattle.cal_doors.specs.Runs.{runs_in}
use Rattle.cal_doors.proofs.PartSays.{PartsAdded}
use Rattle.cal_doors.proofs.read.read_runs.Given as goal

-- the runs of the parts so far were added
abbrev pub invariant-loop-child : goal.invariant-loop-child
invariant-loop-child l = PartsAdded (zone_parts l.zone) (parts_in is_part (drop l.child-index (component_children l.zone))) l.has_part (runs_in l.runs.items)
