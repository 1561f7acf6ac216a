use Rattle.std.proofs.Common.{◌-◌, ◌∙◌, take, ap}
use Rattle.std.proofs.lemmas.List.{take_rest}
use Rattle.itip_order.specs.Parts.{slot_of}
use Rattle.room_books.proofs.shared_lemmas.SlotPlaces.{between_at, in_order}
use Rattle.room_books.proofs.slots.answers_of.Goals as goal

pub slice_bounds-result-count : goal.slice_bounds-result-count
slice_bounds-result-count c = in_order c.args.answers.now (slot_of c.args.slot) c.place_before-from.result c.place_past-to.result c.place_before-from.ensures c.place_past-to.ensures

pub returns : goal.returns
returns c =
    let answers = c.args.answers.now in
    let from = c.place_before-from.result in let to = c.place_past-to.result in
    ap (take (to - from)) (take_rest answers from) ∙ between_at answers (slot_of c.args.slot) from to c.place_before-from.ensures c.place_past-to.ensures
