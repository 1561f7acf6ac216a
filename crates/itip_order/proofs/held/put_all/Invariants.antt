use Rattle.std.proofs.Common.{◌≡◌, ◌≤◌, ◌+◌, ◌++◌, length}
use Rattle.std.specs.Vec.{vec_len, vec_capacity}
use Rattle.itip_order.specs.Parts.{parts_of}
use Rattle.itip_order.specs.Registers.{together}
use Rattle.itip_order.proofs.held.put_all.Given as goal

-- there is room for those that are left
abbrev pub invariant-loop-part : goal.invariant-loop-part
invariant-loop-part l = record {
  all : l.fn.more.items ≡ l.yielded ++ l.part-iterator.rest.items;
  put : parts_of l.registers.items ≡ together (parts_of l.fn.registers.items) (parts_of l.yielded);
  room : vec_len l.registers + length l.part-iterator.rest.items ≤ vec_capacity l.registers;
}
