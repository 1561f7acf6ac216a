use Rattle.std.proofs.Common.{◌∙◌, ap, sym, subst, length, map}
use Rattle.std.specs.Prelude.{string_bytes}
use Rattle.std.proofs.lemmas.Bool.{true≢false}
use Rattle.ical_tree.specs.Tree.{tree_of}
use Rattle.ical_tree.specs.declared.component.Component.{Component}
use Rattle.profile.specs.doors.Adapting.{IsAdapted}
use Rattle.cal_doors.specs.Used.{AreUses}
use Rattle.cal_doors.specs.Adapted.{list_of, AreChanges, IsRightlyAdapted, AreGoingOn}
use Rattle.cal_doors.proofs.AdaptWhole.{is_adapted}
use Rattle.cal_doors.proofs.RightGiven.{of_some, when_both}
use Rattle.cal_doors.proofs.readable.adapt_object.Goals as goal

pub changes_by-requires-clause-uses : goal.changes_by-requires-clause-uses
changes_by-requires-clause-uses c = subst (λ (o : Component). AreUses (tree_of o) c.args.uses.now.entries) (sym c.in_ok-zones.ensures.object) c.requires.uses

pub changes_by-requires-clause-zones : goal.changes_by-requires-clause-zones
changes_by-requires-clause-zones c = c.in_ok-zones.ensures.named

pub with_changes-requires-clause-before : goal.with_changes-requires-clause-before
with_changes-requires-clause-before c = c.in_ok-zones.ensures.object

pub with_changes-requires-clause-named : goal.with_changes-requires-clause-named
with_changes-requires-clause-named c = c.in_ok-zones.ensures.named

pub returns : goal.returns
returns c =
    let octets = c.args.octets.now in
    let before = tree_of c.args.object.now in
    let uses = c.args.uses.now.entries in
    let changes = c.in-Some.changes in
    let listed = list_of c.args.listed in
    let changed = of_some _ changes (λ m. AreChanges listed (tree_of c.in_ok-zones.zones.object.now) uses m.entries) c.in-Some.is c.in_ok-changes.ensures in
    let are_changes = subst (λ (o : Component). AreChanges listed (tree_of o) uses changes.entries) c.in_ok-zones.ensures.object changed in
    when_both c.with_changes.result (λ a. IsRightlyAdapted before uses changes.entries a.octets.items) (λ a. AreGoingOn changes.entries (map string_bytes a.going_on.items))
    (λ a. IsAdapted listed octets (map string_bytes a.going_on.items) a.octets.items)
    (λ a right going_on. is_adapted listed octets a.octets.items before uses changes.entries (map string_bytes a.going_on.items) c.requires.uses are_changes right going_on c.requires.came
    (λ e. true≢false (sym (c.is_empty.ensures.1 (ap length e)) ∙ c.if-is_empty.false)))
    c.with_changes.ensures.right c.with_changes.ensures.going_on
