use Rattle.std.proofs.Common.{◌≡◌, ◌∙◌, ap, FitsSigned, to_z, of_z, w64, rules, arith}
use Rattle.std.proofs.lemmas.Int.{ints}
use Rattle.itip_order.specs.Parts.{part_of, slot_of}
use Rattle.room_books.proofs.change_lemmas.Hiding.{hidden_whole}
use Rattle.room_books.proofs.hidden.is_start_hidden.Goals as goal

pub returns-in-Whole : goal.returns-in-Whole
returns-in-Whole c = λ history s booked at.
    let t = c.args.start in
    let fits : FitsSigned w64 t = search rules in
    let same : t ≡ to_z w64 (of_z w64 t) = omega (arith, ints) in
    c.is_some.ensures ∙ hidden_whole c.args.held.now history s (part_of c.args.part.now) booked (to_z w64 (of_z w64 t)) (at ∙ same) (ap slot_of c.in-Whole.is) c.part_in.result c.part_in.ensures.found c.part_in.ensures.none
