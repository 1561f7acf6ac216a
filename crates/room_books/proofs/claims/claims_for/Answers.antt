use Rattle.std.proofs.Common.{◌∙◌, ◌++◌, ◌∷◌, [], append_assoc, sym, ap, subst}
use Rattle.std.specs.List.{AllZip}
use Rattle.itip_order.specs.declared.part.Part.{Part}
use Rattle.room_books.specs.declared.claims.Asked.{Asked}
use Rattle.room_books.specs.Claims.{IsClaimOf}
use Rattle.room_books.proofs.shared_lemmas.Loops.{zip_push}
use Rattle.room_books.proofs.claims.claims_for.Goals as goal

pub loop-part-preserved : goal.loop-part-preserved
loop-part-preserved c =
    let done = c.loop-part.yielded in
    let one : Part × Asked = (c.in-Some.part, c.in-Some.asked) in
    let claim = c.claim_for.ensures in (
      c.loop-part.invariant.0 ∙ ap (λ l. done ++ l) c.in-Some.ensures.steps.0 ∙ sym (append_assoc done (one ∷ []) c.next.new.self.rest.items),
      subst (AllZip IsClaimOf (done ++ one ∷ [])) (sym c.in_ok-push.ensures.items)
          (zip_push IsClaimOf done c.loop-part.claims.items one c.claim_for.result c.loop-part.invariant.1 (record { part = claim.part; singles = claim.singles; series = claim.series })),
    )
