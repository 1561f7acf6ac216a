use Rattle.std.proofs.Common.{◌++◌, ◌∷◌, [], sym, subst, List, take, arith}
use Rattle.std.specs.List.{AllZip}
use denote.Ref.{Bor}
use Rattle.room_books.specs.declared.meeting.PartAnswer.{PartAnswer}
use Rattle.room_books.specs.declared.claim.Claim.{Claim}
use Rattle.room_books.specs.Taking.{IsAccepted}
use Rattle.room_books.proofs.shared_lemmas.Loops.{zip_push, one_more}
use Rattle.room_books.proofs.decide.candidates.Goals as goal

pub loop-claim-preserved : goal.loop-claim-preserved
loop-claim-preserved c =
    let R : Bor Claim → PartAnswer → Type 0 = λ claim given. IsAccepted c.args.held.now claim.now c.args.moment given in
    let asked = c.args.asked.now in
    let i = c.loop-claim.claim-index in
    let more = one_more asked i c.claim-item.result (omega arith) c.claim-item.is in
    subst (λ (l : List (Bor Claim)). AllZip R l c.push.new.self.items) (sym more)
    (subst (λ (l : List PartAnswer). AllZip R (take i asked ++ c.claim-item.result ∷ []) l) (sym c.in_ok-push.ensures.items)
    (zip_push R (take i asked) c.loop-claim.given.items c.claim-item.result c.in_ok-accepted.field-0 c.loop-claim.invariant c.in_ok-accepted.ensures))
