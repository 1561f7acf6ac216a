use Rattle.std.proofs.Common.{rules}
use Rattle.std.proofs.lemmas.List.Sorted.{IsPartitionPoint-from_clause}
use Rattle.itip_order.specs.Parts.{slot_of}
use Rattle.room_books.specs.Slots.{is_up_to}
use Rattle.room_books.proofs.shared_lemmas.SlotPlaces.{up_to_parted, place_from}
use Rattle.room_books.proofs.slots.place_past.Goals as goal

pub returns : goal.returns
returns c =
    let answers = c.args.answers.now in let slot = slot_of c.args.slot in
    let point = IsPartitionPoint-from_clause (is_up_to slot) answers c.partition_point.result c.partition_point.ensures.partitioned (up_to_parted answers c.requires slot) (λ a r q k. search rules) in
    place_from (is_up_to slot) answers c.partition_point.result c.partition_point.ensures.bound point
