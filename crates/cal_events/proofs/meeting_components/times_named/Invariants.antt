use Rattle.std.proofs.Common.{take}
use Rattle.cal_events.proofs.meeting_components_lemmas.SlotLemmas.{AreNamed}
use Rattle.cal_events.proofs.meeting_components.times_named.Given as goal

-- those so far name these
abbrev pub invariant-loop-component : goal.invariant-loop-component
invariant-loop-component l = AreNamed (take l.component-index l.components) l.times.items
