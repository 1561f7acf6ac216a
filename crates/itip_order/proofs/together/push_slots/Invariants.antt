use Rattle.std.proofs.Common.{◌≡◌, ◌++◌, take, map}
use Rattle.itip_order.specs.Parts.{slot_of}
use Rattle.itip_order.proofs.SlotsOf.{slots_said}
use Rattle.itip_order.proofs.together.push_slots.Given as goal

abbrev pub invariant-loop-register : goal.invariant-loop-register
invariant-loop-register l = map slot_of l.slots.items ≡ map slot_of l.fn.slots.items ++ slots_said (take l.register-index l.registers)
