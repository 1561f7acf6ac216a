use Rattle.std.proofs.Common.{◌≡◌, ◌++◌, ℕ, List, map, take}
use Rattle.profile.specs.text.Lines.{written}
use Rattle.cal_events.specs.Calendar.{instance_of}
use Rattle.cal_agenda.specs.Published.{AreEvents}
use Rattle.cal_agenda.proofs.published.write_events.Given as goal

-- the VEVENTs of those before
abbrev pub invariant-loop-instance : goal.invariant-loop-instance
invariant-loop-instance l =
    (lines : List (List ℕ)) × AreEvents l.fn.moment (map instance_of (take l.instance-index l.instances)) lines × (l.out.items ≡ l.fn.out.items ++ written lines)
