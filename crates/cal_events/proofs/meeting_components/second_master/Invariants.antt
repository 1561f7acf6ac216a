use Rattle.std.proofs.Common.{◌≤◌, take}
use Rattle.cal_events.proofs.meeting_components_lemmas.SlotLemmas.{AreMasters}
use Rattle.cal_events.proofs.meeting_components.second_master.Given as goal

-- those so far are counted, and are one at most
abbrev pub invariant-loop-component : goal.invariant-loop-component
invariant-loop-component l = AreMasters (take l.component-index l.components) l.masters × (l.masters ≤ 1)
