-- One more, of the slot of the last or of one above.
use Rattle.std.proofs.Common.{◌≡◌, ◌∙◌, ◌∷◌, [], ◌++◌, List, sym, ap, subst, length, arith, append_assoc, append-nil}
use Rattle.std.specs.List.Sorted.{IsSorted}
use Rattle.std.proofs.lemmas.List.{nil_from_length}
use Rattle.profile.specs.rooms.Messages.{AreGreatest}
use Rattle.itip_order.specs.declared.part.Part.{Part}
use Rattle.itip_order.specs.Greatest.{leaving, slot_part_cmp}
use Rattle.itip_order.specs.Parts.{part_of, slot_of}
use Rattle.itip_order.proofs.SlotEnds.{greatest_none, greatest_push, sorted_before}
use Rattle.itip_order.proofs.greatest.last_by_slot.Goals as goal

pub loop-one-init : goal.loop-one-init
loop-one-init g c = record {
  all = sym c.into_iter-one-iterator.ensures.into_iter_gives.0;
  kept = subst (AreGreatest (λ one. part_of one.0) []) (sym c.new-kept.ensures.items) (greatest_none (λ one. part_of one.0));
}

pub loop-one-preserved : goal.loop-one-preserved
loop-one-preserved g c =
    let done = c.loop-one.yielded in
    let one = c.in-Some.one in
    let rest = c.next.new.self.rest.items in
    let before = c.loop-one.kept.items in
    let all = c.loop-one.invariant.all ∙ ap (λ l. done ++ l) c.in-Some.ensures.steps.0 in
    let sorted = subst (IsSorted (λ a b. slot_part_cmp (part_of a.0) (part_of b.0))) all c.requires in
    let kept = greatest_push (λ one. part_of one.0) done before one c.loop-one.invariant.kept
    (λ a i. sorted_before (λ one. part_of one.0) done rest one a sorted (c.loop-one.invariant.kept.among a i)) in
    let is = c.in_ok-push.ensures.items ∙ ap (λ l. l ++ one ∷ []) c.leave_slot.ensures in
    record {
      all = all ∙ sym (append_assoc done (one ∷ []) rest);
      kept = subst (AreGreatest (λ one. part_of one.0) (done ++ one ∷ [])) (sym is) kept;
    }

pub returns : goal.returns
returns g c =
    let empty = c.in-None.ensures.steps.0 in
    let none = nil_from_length c.loop-one.one-iterator.rest.items (omega (arith, empty, c.loop-one.one-iterator.rest.ok.0, c.loop-one.one-iterator.rest.ok.1)) in
    let all = c.loop-one.invariant.all ∙ ap (λ l. c.loop-one.yielded ++ l) none ∙ append-nil c.loop-one.yielded in
    subst (λ l. AreGreatest (λ one. part_of one.0) l c.loop-one.kept.items) (sym all) c.loop-one.invariant.kept
