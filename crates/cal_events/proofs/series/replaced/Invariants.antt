use Rattle.std.proofs.Common.{◌≡◌, map, take}
use Rattle.cal_events.specs.declared.instance.InstanceKey.{InstanceKey}
use Rattle.cal_events.proofs.series.replaced.Given as goal

-- the slots of those so far
abbrev pub invariant-loop-key : goal.invariant-loop-key
invariant-loop-key l = l.slots.items ≡ map (λ (k : InstanceKey). k.slot) (take l.key-index l.key-items)
