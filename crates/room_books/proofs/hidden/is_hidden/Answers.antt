use Rattle.std.proofs.Common.{◌≡◌, FitsSigned, to_z, of_z, w64, rules, arith}
use Rattle.std.proofs.lemmas.Int.{ints}
use Rattle.itip_order.specs.Parts.{part_of}
use Rattle.room_books.specs.Taking.{part_instance}
use Rattle.room_books.proofs.hidden.is_hidden.Goals as goal

pub returns : goal.returns
returns c = λ history s.
    let t = c.args.single.slot in
    let fits : FitsSigned w64 t = search rules in
    let same : t ≡ to_z w64 (of_z w64 t) = omega (arith, ints) in
    c.is_start_hidden.ensures history s (part_instance (part_of c.args.part.now) c.args.single) same
