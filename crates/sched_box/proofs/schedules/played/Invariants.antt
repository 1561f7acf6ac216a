use Rattle.std.proofs.Common.{take}
use Rattle.sched_box.specs.Schedules.{IsPlayed}
use Rattle.sched_box.proofs.schedules.played.Given as goal

abbrev pub invariant-loop-step : goal.invariant-loop-step
invariant-loop-step l = IsPlayed l.rooms l.organisers (take l.step-index l.steps) l.world
