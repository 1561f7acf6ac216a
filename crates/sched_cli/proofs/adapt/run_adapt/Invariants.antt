use Rattle.std.proofs.Common.{◌≡◌, false}
use Rattle.cal_doors.specs.Adapted.{list_of}
use Rattle.sched_doors.specs.Streams.{HandsOnAll, at_door}
use Rattle.sched_cli.proofs.adapt.run_adapt.Given as goal

abbrev pub invariant-loop : goal.invariant-loop
invariant-loop g l =
    HandsOnAll (list_of l.fn.door.listed) (at_door l.fn.door.place l.fn.door.octets.items (g.R.Input.remaining l.fn.door.reader)) (at_door l.door.place l.door.octets.items (g.R.Input.remaining l.door.reader)) (g.W.Output.contents l.fn.writer) (g.W.Output.contents l.writer)
    × (g.R.Input.has_failed l.door.reader ≡ g.R.Input.has_failed l.fn.door.reader)
    × (g.W.Output.has_failed l.writer ≡ g.W.Output.has_failed l.fn.writer)
    × (l.door.listed ≡ l.fn.door.listed)
    × (l.report ≡ false → l.errors ≡ l.fn.errors)
