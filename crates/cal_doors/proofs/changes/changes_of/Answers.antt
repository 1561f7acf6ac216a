use Rattle.std.proofs.Common.{◌∙◌, sym, subst, ℕ, List}
use Rattle.ical_tree.specs.Tree.{tree_of}
use Rattle.cal_doors.specs.Adapted.{listed_of, IsUseFor, IsZoneReadable, IsNeeded}
use Rattle.cal_doors.specs.declared.changes.Need.TheVariants.{Change}
use Rattle.cal_doors.proofs.ChangesMade.{first_made, held_use, step_read, step_changed, end_made}
use Rattle.cal_doors.proofs.changes.changes_of.Goals as goal

pub loop-name-init : goal.loop-name-init
loop-name-init c =
    first_made (listed_of c.args.listed) (tree_of c.args.zones.now.object.now) c.args.uses.now.entries c.into_iter-name-iterator.result c.new-changes.result.entries
    (c.into_iter-name-iterator.ensures.into_iter_gives ∙ c.iter-name-items.ensures.rest) c.new-changes.ensures.empty c.iter-name-items.ensures.unique

pub need_of-requires-clause-times : goal.need_of-requires-clause-times
need_of-requires-clause-times c =
    subst (λ (n : List ℕ). IsUseFor (tree_of c.args.zones.now.object.now) n c.in-Some.times.now) (sym c.as_str.ensures.value)
    (held_use (listed_of c.args.listed) (tree_of c.args.zones.now.object.now) c.args.uses.now.entries c.loop-name.name-iterator c.in-Some.name.now c.in-Some.times.now c.next.new.self
    c.loop-name.changes.entries c.requires.uses c.in-Some.ensures.steps c.loop-name.invariant)

pub loop-name-preserved-in-Nothing : goal.loop-name-preserved-in-Nothing
loop-name-preserved-in-Nothing c =
    let listed = listed_of c.args.listed in
    let object = tree_of c.args.zones.now.object.now in
    let readable = subst (IsNeeded listed object c.as_str.result.now) c.in-Nothing.is c.in_ok-need_of.ensures in
    step_read listed object c.args.uses.now.entries c.loop-name.name-iterator c.in-Some.name.now c.in-Some.times.now c.next.new.self c.loop-name.changes.entries c.in-Some.ensures.steps
    (subst (IsZoneReadable object) c.as_str.ensures.value readable) c.loop-name.invariant

pub loop-name-preserved : goal.loop-name-preserved
loop-name-preserved c =
    let listed = listed_of c.args.listed in
    let object = tree_of c.args.zones.now.object.now in
    let needed = subst (λ (n : List ℕ). IsNeeded listed object n (Change c.in-Change.choice)) c.as_str.ensures.value
    (subst (IsNeeded listed object c.as_str.result.now) c.in-Change.is c.in_ok-need_of.ensures) in
    step_changed listed object c.args.uses.now.entries c.loop-name.name-iterator c.in-Some.name.now c.in-Some.times.now c.next.new.self c.loop-name.changes.entries
    c.insert.new.self.entries c.in_ok-name-in-Change.name c.in-Change.choice c.in-Some.ensures.steps c.in_ok-insert-in-Change.ensures.entries
    (c.in_ok-name-in-Change.ensures.ok ∙ c.as_str-in-Change.ensures.value) needed c.loop-name.invariant

pub returns : goal.returns
returns c =
    end_made (listed_of c.args.listed) (tree_of c.args.zones.now.object.now) c.args.uses.now.entries c.loop-name.name-iterator c.loop-name.changes.entries c.in-None.ensures.steps.0
    c.loop-name.invariant
