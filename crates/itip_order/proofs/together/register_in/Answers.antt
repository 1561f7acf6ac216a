use Rattle.itip_order.specs.Parts.{part_of, parts_of, slot_of}
use Rattle.itip_order.specs.Registers.{at_slot}
use Rattle.itip_order.proofs.Joined.{gap_is}
use Rattle.itip_order.proofs.Steps.{register_in}
use Rattle.itip_order.proofs.together.register_in.Goals as goal

pub returns-in_default-clause-none : goal.returns-in_default-clause-none
returns-in_default-clause-none c = gap_is (parts_of c.args.registers.now) (at_slot (part_of c.args.part.now) (slot_of c.args.slot)) c.in_default.field-0 c.in_default.ensures.absent

pub returns-clause-found : goal.returns-clause-found
returns-clause-found c = register_in c.args.registers.now c.index-registers-at.result (at_slot (part_of c.args.part.now) (slot_of c.args.slot)) c.in-Ok.at c.in-Ok.ensures.found c.index-registers-at.is
