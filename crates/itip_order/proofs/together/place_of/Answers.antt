use Rattle.std.proofs.Common.{rules}
use Rattle.std.proofs.lemmas.Fn.{always_returns_same}
use Rattle.itip_order.specs.Parts.{part_of, slot_of}
use Rattle.itip_order.specs.Registers.{at_slot}
use Rattle.profile.specs.rooms.Revisions.{place_cmp}
use Rattle.itip_order.proofs.Search.{searched}
use Rattle.itip_order.proofs.together.place_of.Goals as goal

pub returns-clause-found : goal.returns-clause-found
returns-clause-found c =
    let facts = c.binary_search_by.ensures in
    let target = at_slot (part_of c.args.part.now) (slot_of c.args.slot) in
    let by_place = facts.position (λ register. place_cmp (part_of register) target) (always_returns_same _ _ _ (λ a r g called. (search rules, search rules))) in
    (searched part_of c.args.registers.now c.requires target _ facts.bound by_place).0

pub returns-clause-absent : goal.returns-clause-absent
returns-clause-absent c =
    let facts = c.binary_search_by.ensures in
    let target = at_slot (part_of c.args.part.now) (slot_of c.args.slot) in
    let by_place = facts.position (λ register. place_cmp (part_of register) target) (always_returns_same _ _ _ (λ a r g called. (search rules, search rules))) in
    (searched part_of c.args.registers.now c.requires target _ facts.bound by_place).1
