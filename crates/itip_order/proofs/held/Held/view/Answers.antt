use Rattle.std.proofs.Common.{◌<◌, ◌^◌, length, arith, List, sym, ◌∙◌, ap, subst}
use Rattle.profile.specs.rooms.Revisions as revisions
use Rattle.itip_order.specs.Parts.{part_of, parts_of}
use Rattle.itip_order.specs.Registers.{is_allowed_by, allowed_by, shown, IsView}
use Rattle.std.proofs.lemmas.List.{length-map}
use Rattle.itip_order.proofs.Lists.{filter_no_longer}
use Rattle.itip_order.proofs.Registers.{view_of_registers}
use Rattle.itip_order.proofs.held.Held.view.Goals as goal

pub returns-clause-exact : goal.returns-clause-exact
returns-clause-exact c = λ history s.
    let e = ap (λ items. allowed_by (parts_of items) (parts_of c.deref-2.result.now)) c.deref.ensures.value ∙ ap (λ items. allowed_by (parts_of c.self.inside.registers.items) (parts_of items)) c.deref-2.ensures.value ∙ ap shown c.self.view_is in
    subst (λ (parts : List revisions.Part). IsView parts history) (sym e) (view_of_registers _ history s)

pub returns-clause-few : goal.returns-clause-few
returns-clause-few c =
    let room : length c.self.inside.registers.items < 2 ^ 63 = omega (arith, c.self.inside.registers.small, c.self.inside.registers.ok.0, c.self.inside.registers.ok.1) in
    omega (arith, filter_no_longer (is_allowed_by (parts_of c.deref.result.now)) (parts_of c.deref-2.result.now), length-map c.deref-2.result.now part_of, ap length c.deref-2.ensures.value)
