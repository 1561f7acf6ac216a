use Rattle.std.proofs.Common.{◌≡◌, ◌++◌}
use Rattle.profile.specs.rooms.Messages.{AreGreatest}
use Rattle.itip_order.specs.Parts.{part_of}
use Rattle.itip_order.proofs.greatest.last_by_slot.Given as goal

abbrev pub invariant-loop-one : goal.invariant-loop-one
invariant-loop-one g l = record {
  all : l.fn.sorted.items ≡ l.yielded ++ l.one-iterator.rest.items;
  kept : AreGreatest (λ one. part_of one.0) l.yielded l.kept.items;
}
