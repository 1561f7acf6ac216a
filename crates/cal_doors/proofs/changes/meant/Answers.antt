use Rattle.std.proofs.Common.{◌≡◌, ◌∙◌, Bor, ap, sym, subst}
use Rattle.std.specs.Prelude.{Option, option_map}
use Rattle.ical_tree.specs.Tree.{tree_of}
use Rattle.ical_tree.specs.declared.component.Component.{Component}
use Rattle.profile.specs.text.Trees.{Tree}
use Rattle.profile.specs.series.GeneralZoneTexts.{SaysGeneralZone}
use Rattle.profile.specs.events.ZonedTimes.{zone_named}
use Rattle.profile.specs.doors.Adapting.{SaysNothing}
use Rattle.cal_doors.specs.Adapted.{IsListOfZones, listed_of, IsMeantZone}
use Rattle.cal_doors.specs.Found.{general_of}
use Rattle.cal_doors.proofs.ChangesNamed.{tree_at, own_meant, listed_meant}
use Rattle.cal_doors.proofs.RightGiven.{when_found}
use Rattle.cal_doors.proofs.changes.meant.Goals as goal
use Rattle.cal_doors.proofs.changes.meant.Goals.{in-Some+else-has_part, in_default}

pub returns-then-has_part : goal.returns-then-has_part
returns-then-has_part c =
    when_found c.general_zone.result (λ g. SaysGeneralZone (tree_of c.in-Some.zone.now) (general_of g))
    (λ g. (object : Tree) → option_map tree_at c.args.own ≡ zone_named c.args.name.now object → IsMeantZone (listed_of c.args.listed) object c.args.name.now (general_of g))
    (λ g says. own_meant (listed_of c.args.listed) c.args.name.now c.args.own c.in-Some.zone (general_of g) c.in-Some.is (c.has_part.ensures.yes c.if-has_part.true) says)
    c.general_zone.ensures

pub named-requires : goal.named-requires
named-requires c = subst IsListOfZones c.in-Some-listed.is c.requires

pub returns : goal.returns
returns c =
    let nothing : SaysNothing (option_map tree_at c.args.own) =
    elim c.match-own.branch [
      | in-Some+else-has_part w ↦ subst (λ (o : Option (Bor Component)). SaysNothing (option_map tree_at o)) (sym w.in-Some.is) (w.has_part.ensures.no w.if-has_part.false)
      | in_default w ↦ subst (λ (o : Option (Bor Component)). SaysNothing (option_map tree_at o)) (sym w.in_default.is) tt
    ] in
    when_found c.general_zone-2.result (λ g. SaysGeneralZone (tree_of c.in-Some-named.zone.now) (general_of g))
    (λ g. (object : Tree) → option_map tree_at c.args.own ≡ zone_named c.args.name.now object → IsMeantZone (listed_of c.args.listed) object c.args.name.now (general_of g))
    (λ g says. listed_meant c.args.listed c.args.name.now c.args.own c.in-Some-listed.listed c.in-Some-named.zone (general_of g) c.in-Some-listed.is nothing
    (sym c.named.ensures ∙ ap (option_map tree_at) c.in-Some-named.is) says) c.general_zone-2.ensures
