use Rattle.std.proofs.Common.{◌≡◌, ◌++◌, ℕ, List, map, option_map, take, length}
use Rattle.cal_zones.specs.Kinds.{zone_of}
use Rattle.cal_events.specs.Calendar.{instance_of}
use Rattle.cal_agenda.specs.Printing.{LinesOf, IsAgendaLine}
use Rattle.cal_agenda.proofs.text.write_agenda.Given as goal

-- the lines of those before
abbrev pub invariant-loop-instance : goal.invariant-loop-instance
invariant-loop-instance l =
    (l.start ≡ length l.fn.out.items)
    × ((text : List ℕ) × LinesOf (IsAgendaLine (option_map zone_of l.fn.zone)) (map instance_of (take l.instance-index l.instances)) text × (l.out.items ≡ l.fn.out.items ++ text))
