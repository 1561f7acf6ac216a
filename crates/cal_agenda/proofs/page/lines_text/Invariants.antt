use Rattle.std.proofs.Common.{map, drop}
use Rattle.cal_zones.specs.Kinds.{zone_of}
use Rattle.cal_events.specs.Calendar.{instance_of}
use Rattle.cal_agenda.specs.Blocks.{woven}
use Rattle.cal_agenda.specs.PageDays.{day_said}
use Rattle.cal_agenda.specs.Pages.{IsBlockLine}
use Rattle.cal_agenda.proofs.PageLemmas.{AreLinesSofar}
use Rattle.cal_agenda.proofs.page.lines_text.Given as goal

-- the lines of what comes before the instances that are left
abbrev pub invariant-loop-instance : goal.invariant-loop-instance
invariant-loop-instance l =
    AreLinesSofar (IsBlockLine (zone_of l.zone) (day_said l.day)) l.left l.day.end (map instance_of (drop l.instance-index l.instances))
    (woven l.day.start l.day.end (map instance_of l.instances)) l.lines.items
