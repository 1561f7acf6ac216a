use Rattle.std.proofs.Common.{◌∙◌, ◌++◌, ◌∷◌, [], take, map, sym, ap, arith}
use Rattle.std.proofs.lemmas.List.{map-append, take_all}
use Rattle.room_books.specs.declared.claim.Claim.{Claim}
use Rattle.room_books.proofs.shared_lemmas.Loops.{one_more}
use Rattle.room_books.proofs.slots_lemmas.Touching.{all_touch}
use Rattle.room_books.proofs.slots.slots_of.Goals as goal

pub loop-claim-preserved : goal.loop-claim-preserved
loop-claim-preserved c =
    let claims = c.args.claims.now in
    let i = c.loop-claim.claim-index in
    c.in_ok-push.ensures.items ∙ ap (λ l. l ++ c.claim-item.result.part.slot ∷ []) c.loop-claim.invariant
    ∙ sym (map-append (λ (claim : Claim). claim.part.slot) (take i claims) (c.claim-item.result ∷ []))
    ∙ ap (map (λ (claim : Claim). claim.part.slot)) (sym (one_more claims i c.claim-item.result (omega arith) c.claim-item.is))

pub returns-clause-all : goal.returns-clause-all
returns-clause-all c =
    all_touch c.args.claims.now c.loop-claim.slots.items c.put_in_order.new.slots.items (c.loop-claim.invariant ∙ ap (map (λ (claim : Claim). claim.part.slot)) (take_all c.loop-claim.claim-index c.args.claims.now (omega arith))) c.put_in_order.ensures.same
