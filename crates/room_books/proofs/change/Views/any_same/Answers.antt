use Rattle.std.proofs.Common.{◌∙◌, sym, arith}
use Rattle.itip_order.specs.Parts.{part_of}
use Rattle.itip_order.proofs.Lists.{any_from}
use Rattle.profile.specs.rooms.Rooms.{is_same}
use Rattle.room_books.specs.declared.claim.Claim.{Claim}
use Rattle.room_books.specs.Taking.{parts_said}
use Rattle.room_books.proofs.shared_lemmas.Pairs.{map_from}
use Rattle.room_books.proofs.change.Views.any_same.Goals as goal

pub returns-then-is_same : goal.returns-then-is_same
returns-then-is_same c = λ before after b a.
    let claims = c.args.self.now.claims.now in
    let claim = c.claim-item.result in
    sym (any_from (is_same before after) (parts_said claims) (part_of claim.part) (map_from (λ (x : Claim). part_of x.part) claims claim (c.loop-claim.claim-index, omega arith, sym c.claim-item.is))
    (sym (c.is_same.ensures before after b a) ∙ c.if-is_same.true))
