use Rattle.std.proofs.Common.{subst}
use Rattle.std.specs.Prelude.{Some}
use Rattle.ical_tree.specs.Tree.{tree_of}
use Rattle.ical_tree.specs.declared.component.Component.{Component}
use Rattle.cal_doors.specs.Adapted.{AreChanges}
use Rattle.cal_doors.proofs.RightGiven.{when_found}
use Rattle.cal_doors.proofs.readable.changes_listed.Goals as goal

pub changes_of-requires-clause-uses : goal.changes_of-requires-clause-uses
changes_of-requires-clause-uses c = c.requires.uses

pub changes_of-requires-clause-zones : goal.changes_of-requires-clause-zones
changes_of-requires-clause-zones c = c.requires.zones

pub changes_of-requires-clause-listed : goal.changes_of-requires-clause-listed
changes_of-requires-clause-listed c = c.in_ok-named.ensures.named

pub returns : goal.returns
returns c =
    let object = tree_of c.args.zones.now.object.now in
    let uses = c.args.uses.now.entries in
    when_found c.changes_of.result (λ m. AreChanges (Some (tree_of c.in_ok-named.named.object.now)) object uses m.entries) (λ m. AreChanges (Some (tree_of c.args.listed.now)) object uses m.entries)
    (λ m. subst (λ (o : Component). AreChanges (Some (tree_of o)) object uses m.entries) c.in_ok-named.ensures.object) c.changes_of.ensures
