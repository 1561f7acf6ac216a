use Rattle.std.proofs.Common.{◌≡◌}
use Rattle.ical_tree.specs.Tree.{tree_of}
use Rattle.cal_doors.specs.Named.{AreNamed}
use Rattle.cal_doors.specs.Told.{AreZonesOf}
use Rattle.cal_doors.proofs.words.zones_of.Given as goal

-- the zones so far are zones of the object
abbrev pub invariant-loop-child : goal.invariant-loop-child
invariant-loop-child l = (l.named.object.now ≡ l.object) × AreNamed l.named × AreZonesOf (tree_of l.object) l.zones.entries
