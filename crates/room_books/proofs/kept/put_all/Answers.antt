use Rattle.std.proofs.Common.{◌∷◌, [], List, sym, subst, arith, append-nil, length-append}
use Rattle.room_books.specs.declared.meeting.PartAnswer.{PartAnswer}
use Rattle.room_books.specs.Slots.{Reordered}
use Rattle.room_books.proofs.shared_lemmas.Reordering.{re_more_behind, re_same}
use Rattle.room_books.proofs.kept.put_all.Goals as goal

pub loop-given-init : goal.loop-given-init
loop-given-init c =
    let old = c.args.answers.now.items in (
      subst (λ (l : List PartAnswer). Reordered l old) (sym (append-nil old)) (re_same old),
      c.requires,
      omega arith,
      omega arith,
    )

pub loop-given-preserved : goal.loop-given-preserved
loop-given-preserved c =
    let old = c.args.answers.now.items in let done = c.loop-given.yielded in let mid = c.loop-given.answers.items in let given = c.in-Some.given in
    let before = c.loop-given.invariant in
    let capacity = c.put.ensures.capacity in let len = c.in_ok-put.ensures.len in let l2 = before.2 in let l3 = before.3 in (
      re_more_behind old done mid c.put.new.answers.items given before.0 c.in_ok-put.ensures.put,
      c.in_ok-put.ensures.by_slot,
      omega (arith, len, l2, length-append done (given ∷ [])),
      omega (arith, capacity, l3),
    )
