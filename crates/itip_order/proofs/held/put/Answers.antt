use Rattle.std.proofs.Common.{◌≡◌, sym, ◌∙◌, ap, rules}
use Rattle.std.specs.List.{insert}
use Rattle.std.specs.Ordering.{is_eq, is_gt}
use Rattle.itip_order.specs.Parts.{part_of, parts_of}
use Rattle.itip_order.proofs.Joined.{put_is, kept_is}
use Rattle.itip_order.proofs.Steps.{register_in, put_at, put_gap}
use Rattle.itip_order.proofs.Taking.{is_gt_true}
use Rattle.itip_order.proofs.held.put.Goals as goal

pub returns-then-is_gt-clause-put : goal.returns-then-is_gt-clause-put
returns-then-is_gt-clause-put c =
    let found = rw c.deref.ensures.value at c.in-Ok.ensures.found in
    let above = is_gt_true _ (ap is_gt (sym c.cmp_part.ensures) ∙ sym c.is_gt.ensures ∙ c.if-is_gt.true) in
    put_is (parts_of c.args.registers.now.items) _ (part_of c.args.part) c.requires.ascending (put_at c.args.registers.now.items c.args.part c.index.result.now c.in-Ok.at c.requires.ascending found c.index.ensures above)

pub returns-else-is_gt-clause-put : goal.returns-else-is_gt-clause-put
returns-else-is_gt-clause-put c =
    let found = rw c.deref.ensures.value at c.in-Ok.ensures.found in
    let r = register_in c.args.registers.now.items c.index.result.now (part_of c.args.part) c.in-Ok.at found c.index.ensures in
    kept_is (parts_of c.args.registers.now.items) (part_of c.args.part) (part_of c.index.result.now) c.requires.ascending r.0 (ap is_eq r.1) (ap is_gt (sym c.cmp_part.ensures) ∙ sym c.is_gt.ensures ∙ c.if-is_gt.false)

pub returns-in-Err-clause-put : goal.returns-in-Err-clause-put
returns-in-Err-clause-put c =
    let gap = rw c.deref.ensures.value at c.in-Err.ensures.absent in
    let put : c.insert.new.self.items ≡ insert c.args.registers.now.items c.in-Err.at c.args.part = search rules in
    ap parts_of put ∙ put_is (parts_of c.args.registers.now.items) _ (part_of c.args.part) c.requires.ascending (put_gap c.args.registers.now.items c.args.part c.in-Err.at c.requires.ascending gap)
