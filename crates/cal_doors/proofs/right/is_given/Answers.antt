use Rattle.std.proofs.Common.{◌≡◌, ◌∙◌, ap, sym, true}
use Rattle.std.specs.Prelude.{option_copied}
use Rattle.ical_tree.specs.Tree.{tree_of}
use Rattle.profile.specs.series.ZoneTexts.{SaysZone}
use Rattle.cal_zones.specs.Kinds.{zone_of}
use Rattle.cal_doors.specs.Used.{held}
use Rattle.cal_doors.specs.Adapted.{MeansNow}
use Rattle.cal_doors.proofs.RightGiven.{when_ok, change_means, same_means}
use Rattle.cal_doors.proofs.right.is_given.Goals as goal

pub named-requires : goal.named-requires
named-requires c = c.requires.now

pub named-requires-in-None : goal.named-requires-in-None
named-requires-in-None c = c.requires.before

pub returns-in-Some-get : goal.returns-in-Some-get
returns-in-Some-get c =
    let before = tree_of c.args.before.now.object.now in
    let after = tree_of c.args.now.now.object.now in
    let name = c.args.name.now in
    let change = held name c.args.changes.now.entries in
    when_ok c.says.result (λ s. s ≡ true → SaysZone (tree_of c.in-Some.zone.now) (zone_of c.in-Some-get.choice.now.zone)) (λ s. s ≡ true → MeansNow before after name change)
    (λ s f same. change_means before after name change c.in-Some-get.choice.now c.named.result c.in-Some.zone (sym c.get.ensures.value ∙ ap option_copied c.in-Some-get.is) c.in-Some.is
    c.named.ensures (f same)) c.says.ensures

pub returns-in-Some-named : goal.returns-in-Some-named
returns-in-Some-named c = λ same.
    let before = tree_of c.args.before.now.object.now in
    let after = tree_of c.args.now.now.object.now in
    let name = c.args.name.now in
    same_means before after name (held name c.args.changes.now.entries) c.named.result c.named-in-None.result c.in-Some.zone c.in-Some-named.earlier
    (sym c.get.ensures.value ∙ ap option_copied c.in-None.is) c.in-Some.is c.named.ensures c.in-Some-named.is c.named-in-None.ensures (c.is_same.ensures same)
