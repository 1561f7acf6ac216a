use Rattle.std.proofs.Common.{◌∙◌, ap, sym, subst}
use Rattle.std.specs.Prelude.{Option, Result, IfOk, IfErr, find, option_copied}
use Rattle.cal_zones.specs.Kinds.{zone_of}
use Rattle.cal_zones.specs.declared.zone.Zone.{Zone}
use Rattle.ical_lines.specs.declared.fault.Refusal.{Refusal}
use Rattle.ical_tree.specs.Tree.{component_children}
use Rattle.profile.specs.text.Trees.{Tree}
use Rattle.profile.specs.events.Properties.{BothOrNeither}
use Rattle.profile.specs.events.ZonedTimes.{SaysZoneOf, NamedFault}
use Rattle.cal_zones.specs.ZoneNames.{is_zone_called}
use Rattle.cal_zones.proofs.ZoneTables.{zone_among}
use Rattle.cal_events.specs.Zones.{IsZoneRead}
use Rattle.cal_events.proofs.shared_lemmas.BlameLemmas.{zone_blamed, no_zone_blamed}
use Rattle.cal_events.proofs.shared_lemmas.ZonedLemmas.{zone_read, no_zone_read}
use Rattle.cal_events.proofs.zones.ZonesOfObject.named.Goals as goal

pub returns-in-Some-clause-says : goal.returns-in-Some-clause-says
returns-in-Some-clause-says c =
    let name = c.args.name.now in
    let object = c.args.self.now.object.now in
    let f = find (is_zone_called name) (component_children object) in
    let h = subst (λ (o : Option (Result Zone Refusal)). BothOrNeither IsZoneRead f o) (sym c.get.ensures.value ∙ ap option_copied c.in-Some.is) (c.requires name) in
    subst (λ (t : Option Tree). IfOk c.in-Some.zone.now (λ z. SaysZoneOf t (zone_of z))) (sym (zone_among name object)) (zone_read f c.in-Some.zone.now h).0

pub returns-in-Some-clause-fault : goal.returns-in-Some-clause-fault
returns-in-Some-clause-fault c =
    let name = c.args.name.now in
    let object = c.args.self.now.object.now in
    let f = find (is_zone_called name) (component_children object) in
    let h = subst (λ (o : Option (Result Zone Refusal)). BothOrNeither IsZoneRead f o) (sym c.get.ensures.value ∙ ap option_copied c.in-Some.is) (c.requires name) in
    subst (λ (t : Option Tree). IfErr c.in-Some.zone.now (λ e. NamedFault t e.number)) (sym (zone_among name object)) (zone_read f c.in-Some.zone.now h).1

pub returns-in-Some-clause-at : goal.returns-in-Some-clause-at
returns-in-Some-clause-at c =
    let name = c.args.name.now in
    let object = c.args.self.now.object.now in
    let f = find (is_zone_called name) (component_children object) in
    let h = subst (λ (o : Option (Result Zone Refusal)). BothOrNeither IsZoneRead f o) (sym c.get.ensures.value ∙ ap option_copied c.in-Some.is) (c.requires name) in
    zone_blamed name object c.args.line c.in-Some.zone.now h

pub returns-in-None-clause-fault : goal.returns-in-None-clause-fault
returns-in-None-clause-fault c =
    let name = c.args.name.now in
    let object = c.args.self.now.object.now in
    let f = find (is_zone_called name) (component_children object) in
    let h = subst (λ (o : Option (Result Zone Refusal)). BothOrNeither IsZoneRead f o) (sym c.get.ensures.value ∙ ap option_copied c.in-None.is) (c.requires name) in
    rw c.at.ensures (subst (λ (t : Option Tree). NamedFault t 43) (sym (zone_among name object)) (no_zone_read f h))

pub returns-in-None-clause-at : goal.returns-in-None-clause-at
returns-in-None-clause-at c =
    let name = c.args.name.now in
    let object = c.args.self.now.object.now in
    let f = find (is_zone_called name) (component_children object) in
    let h = subst (λ (o : Option (Result Zone Refusal)). BothOrNeither IsZoneRead f o) (sym c.get.ensures.value ∙ ap option_copied c.in-None.is) (c.requires name) in
    rw c.at.ensures (no_zone_blamed name object c.args.line h)
