use Rattle.std.proofs.Common.{◌≡◌, ◌++◌, drop, map}
use Rattle.profile.specs.events.EventComponents.{instants_of}
use Rattle.cal_events.specs.Times.{time_of}
use Rattle.cal_events.proofs.occurrences.instants_of.Given as goal

-- the instants so far, and those that are left, are all
abbrev pub invariant-loop-time : goal.invariant-loop-time
invariant-loop-time l = instants_of (map time_of l.times) ≡ l.instants.items ++ instants_of (map time_of (drop l.time-index l.times))
