use Rattle.std.proofs.Common.{◌∙◌, subst}
use Rattle.std.specs.List.Sorted.{IsBinarySearchResult}
use Rattle.itip_order.specs.Parts.{slot_of}
use Rattle.room_books.proofs.shared_lemmas.AcceptedSlots.{found, order_is}
use Rattle.room_books.proofs.slots.is_touched.Goals as goal

pub returns : goal.returns
returns c =
    let position = subst (λ order. IsBinarySearchResult order c.args.sorted.now c.binary_search.result) (λ i own. order_is own c.args.slot i) c.binary_search.ensures.position in
    c.is_ok.ensures.value ∙ found c.args.sorted.now (slot_of c.args.slot) c.binary_search.result c.requires c.binary_search.ensures.bound position
