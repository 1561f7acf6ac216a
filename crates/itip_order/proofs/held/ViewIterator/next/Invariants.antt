use Rattle.std.proofs.Common.{◌≡◌, true, length}
use Rattle.itip_order.specs.Parts.{parts_of}
use Rattle.itip_order.specs.Registers.{is_ascending, allowed_by}
use Rattle.itip_order.proofs.held.ViewIterator.next.Given as goal

-- the parts that were passed over aren't in the view
abbrev pub invariant-loop-first : goal.invariant-loop-first
invariant-loop-first l = record {
  ascending : is_ascending (parts_of l.self-inside.registers.now) ≡ true;
  same : allowed_by (parts_of l.self-inside.registers.now) (parts_of l.self-inside.left.now) ≡ l.fn.self;
}

abbrev pub decreases-loop-first : goal.decreases-loop-first
decreases-loop-first l = length l.self-inside.left.now
