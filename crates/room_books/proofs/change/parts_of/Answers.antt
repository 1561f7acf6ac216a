use Rattle.std.proofs.Common.{◌≡◌, ◌∙◌, ◌++◌, ◌+◌, ◌∷◌, [], sym, ap, subst, List, take, arith, rules}
use Rattle.std.proofs.lemmas.List.{map-append}
use Rattle.itip_order.specs.Registers.{RepresentsHistory}
use Rattle.itip_order.specs.Parts.{part_of}
use Rattle.profile.specs.rooms.Revisions.{Part}
use Rattle.room_books.specs.declared.claim.Claim.{Claim}
use Rattle.room_books.specs.Taking.{parts_said}
use Rattle.room_books.proofs.shared_lemmas.Loops.{one_more}
use Rattle.room_books.proofs.change.parts_of.Goals as goal

pub loop-claim-preserved : goal.loop-claim-preserved
loop-claim-preserved c =
    let claims = c.args.claims.now in
    let i = c.loop-claim.claim-index in
    let part : Part = part_of c.claim-item.result.part in
    let copied : part_of c.in_ok-clone.field-0 ≡ part = search rules in
    let more : parts_said (take (i + 1) claims) ≡ parts_said (take i claims) ++ part ∷ [] =
    ap parts_said (one_more claims i c.claim-item.result (omega arith) c.claim-item.is) ∙ map-append (λ (x : Claim). part_of x.part) (take i claims) (c.claim-item.result ∷ []) in
    let now = c.in_ok-take.ensures.taken (parts_said (take i claims)) c.loop-claim.invariant in
    subst (λ (l : List Part). RepresentsHistory c.take.new.self l) (ap (λ (p : Part). parts_said (take i claims) ++ p ∷ []) copied ∙ sym more) now
