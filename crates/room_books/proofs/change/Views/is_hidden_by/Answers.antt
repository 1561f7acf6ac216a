use Rattle.std.proofs.Common.{◌≡◌, ◌∙◌, ◌&&◌, Bool, ℤ, sym, ap, FitsSigned, to_z, of_z, w64, rules, arith}
use Rattle.std.proofs.lemmas.Int.{ints}
use Rattle.itip_order.specs.Parts.{part_of}
use Rattle.profile.specs.rooms.Revisions.{At}
use Rattle.profile.specs.rooms.Rooms as rooms
use Rattle.room_books.specs.Taking.{part_instance}
use Rattle.room_books.specs.Slots.{is_touched}
use Rattle.room_books.proofs.change.Views.is_hidden_by.Goals as goal

pub returns-then-is_touched : goal.returns-then-is_touched
returns-then-is_touched c = λ history s.
    let p = part_of c.args.part.now in let t = c.args.single.slot in
    let fits : FitsSigned w64 t = search rules in
    let same : to_z w64 (of_z w64 t) ≡ t = omega (arith, ints) in
    let hidden = rooms.is_hidden history p (part_instance p c.args.single) in
    c.is_hidden.ensures history s ∙ ap (λ (x : Bool). x && hidden) (sym c.if-is_touched.true ∙ c.is_touched.ensures ∙ ap (λ (u : ℤ). is_touched c.args.self.now.slots.now (At u)) same)

pub returns-else-is_touched : goal.returns-else-is_touched
returns-else-is_touched c = λ history s.
    let p = part_of c.args.part.now in let t = c.args.single.slot in
    let fits : FitsSigned w64 t = search rules in
    let same : to_z w64 (of_z w64 t) ≡ t = omega (arith, ints) in
    let hidden = rooms.is_hidden history p (part_instance p c.args.single) in
    c.if-is_touched.false ∙ ap (λ (x : Bool). x && hidden) (sym c.if-is_touched.false ∙ c.is_touched.ensures ∙ ap (λ (u : ℤ). is_touched c.args.self.now.slots.now (At u)) same)
