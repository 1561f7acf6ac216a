use Rattle.std.proofs.Common.{◌≡◌, ◌++◌, map, drop}
use Rattle.cal_events.specs.Calendar.{instance_of}
use Rattle.cal_agenda.specs.Gaps.{ends_of, gaps}
use Rattle.cal_agenda.proofs.free_spans.left_by.Given as goal

-- what was left by those before, and what the others leave of the rest
abbrev pub invariant-loop-instance : goal.invariant-loop-instance
invariant-loop-instance l =
    map ends_of l.spans.items ++ gaps l.left.start l.left.end (map instance_of (drop l.instance-index l.instances))
    ≡ gaps l.fn.span.start l.fn.span.end (map instance_of l.instances)
