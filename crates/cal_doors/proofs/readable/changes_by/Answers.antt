use Rattle.std.proofs.Common.{ap, sym, subst}
use Rattle.std.specs.Prelude.{Option, Some, None}
use Rattle.ical_tree.specs.Tree.{tree_of}
use Rattle.profile.specs.text.Trees.{Tree}
use Rattle.cal_doors.specs.Adapted.{list_of, AreChanges}
use Rattle.cal_doors.proofs.AdaptListed.{still_changes}
use Rattle.cal_doors.proofs.RightGiven.{of_some, when_found}
use Rattle.cal_doors.proofs.readable.changes_by.Goals as goal

pub changes_of-requires-clause-uses : goal.changes_of-requires-clause-uses
changes_of-requires-clause-uses c = c.requires.uses

pub changes_of-requires-clause-zones : goal.changes_of-requires-clause-zones
changes_of-requires-clause-zones c = c.requires.zones

pub changes_of-requires-clause-listed : goal.changes_of-requires-clause-listed
changes_of-requires-clause-listed c = tt

pub changes_listed-requires-clause-uses : goal.changes_listed-requires-clause-uses
changes_listed-requires-clause-uses c = c.requires.uses

pub changes_listed-requires-clause-zones : goal.changes_listed-requires-clause-zones
changes_listed-requires-clause-zones c = c.requires.zones

pub returns-in-Some : goal.returns-in-Some
returns-in-Some c =
    let object = tree_of c.args.zones.now.object.now in
    let uses = c.args.uses.now.entries in
    still_changes (list_of c.args.listed) object uses c.in-Some.changes.entries
    (of_some _ c.in-Some.changes (λ m. AreChanges None object uses m.entries) c.in-Some.is c.in_ok-changes.ensures)

pub returns : goal.returns
returns c =
    let object = tree_of c.args.zones.now.object.now in
    let uses = c.args.uses.now.entries in
    when_found c.changes_listed.result (λ m. AreChanges (Some (tree_of c.in-Some-listed.object.now)) object uses m.entries) (λ m. AreChanges (list_of c.args.listed) object uses m.entries)
    (λ m. subst (λ (l : Option Tree). AreChanges l object uses m.entries) (sym (ap list_of c.in-Some-listed.is))) c.changes_listed.ensures
