use Rattle.std.proofs.Common.{List, sym, ap, ◌∙◌, subst}
use Rattle.std.specs.List.{insert}
use Rattle.profile.specs.rooms.Revisions as revisions
use Rattle.itip_order.specs.Parts.{part_of, parts_of}
use Rattle.itip_order.specs.Registers.{IsGap}
use Rattle.itip_order.proofs.Steps.{ascending_either, parts-insert}
use Rattle.itip_order.proofs.held.Held.put_first.Goals as goal

-- the part goes into the gap
pub invariant_of-self-2 : goal.invariant_of-self-2
invariant_of-self-2 c =
    let gap = subst (λ (R : List revisions.Part). IsGap R (part_of c.args.part) c.args.at) (sym c.self.view_is) c.requires in
    ascending_either _ c.self.inside.registers.items c.insert.new.self.items c.args.part c.args.at c.self.invariant gap c.insert.ensures.items

pub returns-clause-ok : goal.returns-clause-ok
returns-clause-ok c =
    ap parts_of c.in_ok-insert.ensures.items ∙ parts-insert c.self.inside.registers.items c.args.part c.args.at ∙ ap (λ (R : List revisions.Part). insert R c.args.at (part_of c.args.part)) c.self.view_is
