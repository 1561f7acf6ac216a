use Rattle.std.proofs.Common.{◌∙◌, ap, sym, subst}
use denote.Ref.{Bor}
use Rattle.std.specs.Prelude.{Option, find, option_copied}
use Rattle.ical_tree.specs.Tree.{component_children}
use Rattle.ical_tree.specs.declared.component.Component.{Component}
use Rattle.profile.specs.events.Properties.{BothOrNeither}
use Rattle.cal_zones.specs.ZoneNames.{is_zone_called}
use Rattle.cal_zones.proofs.ZoneTables.{zone_among}
use Rattle.cal_doors.proofs.NamedTables.{IsThat, there, not_there}
use Rattle.cal_doors.proofs.named.NamedZones.named.Goals as goal

pub returns-in-Some : goal.returns-in-Some
returns-in-Some c =
    let name = c.args.name.now in
    let object = c.args.self.now.object.now in
    let f = find (is_zone_called name) (component_children object) in
    let h = subst (λ (o : Option (Bor Component)). BothOrNeither IsThat f o) (sym c.get.ensures.value ∙ ap option_copied c.in-Some.is) (c.requires name) in
    there f c.in-Some.zone.now h ∙ sym (zone_among name object)

pub returns-in-None : goal.returns-in-None
returns-in-None c =
    let name = c.args.name.now in
    let object = c.args.self.now.object.now in
    let f = find (is_zone_called name) (component_children object) in
    let h = subst (λ (o : Option (Bor Component)). BothOrNeither IsThat f o) (sym c.get.ensures.value ∙ ap option_copied c.in-None.is) (c.requires name) in
    not_there f h ∙ sym (zone_among name object)
