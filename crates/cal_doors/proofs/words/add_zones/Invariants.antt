use Rattle.std.proofs.Common.{◌≡◌}
use Rattle.ical_tree.specs.Tree.{tree_of}
use Rattle.profile.specs.text.Trees.{Tree}
use Rattle.cal_doors.specs.Named.{AreNamed}
use Rattle.cal_doors.specs.Told.{AreZonesOf}
use Rattle.cal_doors.proofs.words.add_zones.Given as goal

-- the zones so far are zones of the object, if those before are
abbrev pub invariant-loop-line : goal.invariant-loop-line
invariant-loop-line l =
    AreNamed l.fn.named × ((object : Tree) → object ≡ tree_of l.fn.named.object.now → AreZonesOf object l.fn.zones.entries → AreZonesOf object l.zones.entries)
