use Rattle.std.proofs.Common.{take}
use Rattle.cal_events.specs.Component.{component_of}
use Rattle.cal_events.proofs.single_starts_lemmas.SingleStartLemmas.{AreSoFar}
use Rattle.cal_events.proofs.single_starts.single_starts.Given as goal

abbrev pub invariant-loop-instant : goal.invariant-loop-instant
invariant-loop-instant l = AreSoFar (component_of l.master) (take l.instant-index l.instant-items) l.starts.items
