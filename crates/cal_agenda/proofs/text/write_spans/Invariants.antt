use Rattle.std.proofs.Common.{◌≡◌, ◌++◌, ℕ, List, map, option_map, take, length}
use Rattle.cal_zones.specs.Kinds.{zone_of}
use Rattle.cal_agenda.specs.Gaps.{ends_of}
use Rattle.cal_agenda.specs.Printing.{LinesOf, IsFreeLine}
use Rattle.cal_agenda.proofs.text.write_spans.Given as goal

-- the lines of those before
abbrev pub invariant-loop-span : goal.invariant-loop-span
invariant-loop-span l =
    (l.kept ≡ length l.fn.out.items)
    × ((text : List ℕ) × LinesOf (IsFreeLine (option_map zone_of l.fn.zone)) (map ends_of (take l.span-index l.spans)) text × (l.out.items ≡ l.fn.out.items ++ text))
