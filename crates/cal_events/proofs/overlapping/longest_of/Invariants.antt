use Rattle.std.proofs.Common.{take, pos, ◌≤ℤ◌, ◌<ℤ◌, ◌^◌}
use Rattle.cal_events.proofs.shared_lemmas.Overlaps.{AllLast}
use Rattle.cal_events.proofs.overlapping.longest_of.Given as goal

-- of those before
abbrev pub invariant-loop-component : goal.invariant-loop-component
invariant-loop-component l = AllLast (take l.component-index l.overrides) l.longest × (pos 0 ≤ℤ l.longest) × (l.longest <ℤ pos (2 ^ 50))
