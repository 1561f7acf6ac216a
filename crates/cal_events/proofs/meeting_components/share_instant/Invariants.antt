use Rattle.std.proofs.Common.{take}
use Rattle.cal_events.proofs.meeting_components_lemmas.SlotLemmas.{AreFor}
use Rattle.cal_events.proofs.meeting_components.share_instant.Given as goal

-- those so far are for these instants
abbrev pub invariant-loop-component : goal.invariant-loop-component
invariant-loop-component l = AreFor (take l.component-index l.components) l.instants.items
