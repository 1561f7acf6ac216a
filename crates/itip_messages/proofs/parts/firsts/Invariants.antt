use Rattle.std.proofs.Common.{◌≡◌, ◌++◌, map}
use Rattle.itip_order.specs.Parts.{part_of, parts_of}
use Rattle.itip_messages.proofs.parts.firsts.Given as goal

-- those so far
abbrev pub invariant-loop-part : goal.invariant-loop-part
invariant-loop-part l = (l.fn.kept.items ≡ l.yielded ++ l.part-iterator.rest.items) × (parts_of l.parts.items ≡ map (λ one. part_of one.0) l.yielded)
