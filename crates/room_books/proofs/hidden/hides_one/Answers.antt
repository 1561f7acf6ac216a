use Rattle.std.proofs.Common.{◌≡◌, ◌∙◌, FitsSigned, to_z, of_z, to_z-of_z, w64, sym, ap, subst, rules}
use Rattle.itip_order.specs.Parts.{part_of, slot_of}
use Rattle.profile.specs.rooms.Revisions.{At}
use Rattle.room_books.specs.Taking.{IsHiddenStart}
use Rattle.room_books.proofs.hidden.hides_one.Goals as goal

pub returns-in-Some-clause-one : goal.returns-in-Some-clause-one
returns-in-Some-clause-one c = λ is history s.
    let start = c.in-Some.start in
    let fits : FitsSigned w64 start = search rules in
    let same : to_z w64 (of_z w64 start) ≡ start = to_z-of_z fits in
    let found = c.has_start.ensures.one is in
    let at = subst (IsHiddenStart history (part_of c.args.part.now) (slot_of c.args.slot)) c.in-Some.is (c.hidden_start.ensures history s) in
    let slot = (c.known_by_start.ensures c.args.series.now).slots found.0 found.1 ∙ found.2 ∙ same in
    (found.0, found.1, at.0 ∙ ap At (sym slot), at.1 found.0 slot)
