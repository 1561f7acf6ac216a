use Rattle.std.proofs.Common.{ℕ, List, drop}
use Rattle.std.specs.Prelude.{Contains}
use Rattle.ical_tree.specs.Tree.{component_children}
use Rattle.profile.specs.series.ZoneTexts.{is_part, KeepsOffset}
use Rattle.cal_zones.specs.Read.{parts_in, zone_parts}
use Rattle.cal_zones.proofs.read.all_keep.Given as goal

-- where the parts that are left keep the offset, all do
abbrev pub invariant-loop-child : goal.invariant-loop-child
invariant-loop-child l =
    ((part : List (List ℕ)) → Contains (parts_in is_part (drop l.child-index (component_children l.zone))) part → KeepsOffset l.offset part)
    → (part : List (List ℕ)) → Contains (zone_parts l.zone) part → KeepsOffset l.offset part
