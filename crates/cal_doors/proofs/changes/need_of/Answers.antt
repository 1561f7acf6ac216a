use Rattle.std.proofs.Common.{◌≡◌, subst}
use Rattle.std.specs.Prelude.{Option, IfSome, option_map}
use Rattle.ical_tree.specs.Tree.{tree_of}
use Rattle.profile.specs.text.Trees.{Tree}
use Rattle.profile.specs.events.ZonedTimes.{zone_named}
use Rattle.profile.specs.doors.Adapting.{IsSameFor, SetsBack}
use Rattle.cal_zones.specs.Kinds.{zone_of}
use Rattle.cal_doors.specs.Adapted.{listed_of, IsMeantZone}
use Rattle.cal_doors.specs.Found.{general_of}
use Rattle.cal_doors.specs.declared.choice.Choice.{Choice}
use Rattle.cal_doors.specs.declared.zone.GeneralZone.{GeneralZone}
use Rattle.cal_doors.proofs.ChangesNamed.{tree_at, nothing_needed, change_needed}
use Rattle.cal_doors.proofs.changes.need_of.Goals as goal

pub returns-then-branch : goal.returns-then-branch
returns-then-branch c =
    nothing_needed (listed_of c.args.listed) (tree_of c.args.zones.now.object.now) c.args.name.now c.named-own.result c.named-own.ensures (c.in_ok-is_read.ensures.yes c.if-branch.true)

pub returns-in-Some-2 : goal.returns-in-Some-2
returns-in-Some-2 c =
    let means = subst (λ (o : Option GeneralZone). IfSome o (λ g. (object : Tree) → option_map tree_at c.named-own.result ≡ zone_named c.args.name.now object
    → IsMeantZone (listed_of c.args.listed) object c.args.name.now (general_of g))) c.in-Some.is c.in_ok-general.ensures in
    let same = subst (λ (o : Option Choice). IfSome o (λ d. IsSameFor (general_of c.in-Some.general) (zone_of d.zone) d.goes_on c.args.times.first c.args.times.last)) c.in-Some-2.is
    c.in_ok-choice.ensures.same in
    let sides = subst (λ (o : Option Choice). IfSome o (λ d. SetsBack (zone_of d.zone))) c.in-Some-2.is c.in_ok-choice.ensures.sides in
    change_needed (listed_of c.args.listed) (tree_of c.args.zones.now.object.now) c.args.name.now c.named-own.result c.args.times (general_of c.in-Some.general) c.in-Some-2.choice
    c.named-own.ensures (c.in_ok-is_read.ensures.no c.if-branch.false) c.requires.times means same sides
