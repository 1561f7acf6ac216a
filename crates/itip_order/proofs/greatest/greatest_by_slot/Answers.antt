use Rattle.std.proofs.Common.{rules}
use Rattle.std.proofs.lemmas.Fn.{always_returns_same}
use Rattle.std.proofs.lemmas.List.Sorted.{ranks_by}
use Rattle.std.proofs.lemmas.Result.{IfOk-weaker}
use Rattle.std.specs.Ordering.{is_lt}
use Rattle.profile.specs.rooms.Messages.{AreGreatest}
use Rattle.itip_order.specs.Greatest.{slot_part_cmp}
use Rattle.itip_order.specs.Parts.{part_of}
use Rattle.itip_order.proofs.SlotEnds.{greatest_moved, slot_part_total}
use Rattle.itip_order.proofs.greatest.greatest_by_slot.Goals as goal

pub last_by_slot-requires : goal.last_by_slot-requires
last_by_slot-requires g c =
    c.sort_unstable_by.ensures.sorted (λ a b. is_lt (slot_part_cmp (part_of a.0) (part_of b.0))) (ranks_by slot_part_total (λ one. part_of one.0))
    (always_returns_same _ _ _ (λ a r g called. (search rules, search rules)))

pub returns : goal.returns
returns g c =
    IfOk-weaker c.last_by_slot.result (λ kept. AreGreatest (λ one. part_of one.0) c.sort_unstable_by.new.self.items kept.items) (λ kept. AreGreatest (λ one. part_of one.0) c.args.all.items kept.items)
    (λ kept are. greatest_moved (λ one. part_of one.0) c.args.all.items c.sort_unstable_by.new.self.items kept.items c.sort_unstable_by.ensures.permutation are)
    c.last_by_slot.ensures
