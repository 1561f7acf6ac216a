use Rattle.std.proofs.Common.{◌∙◌, ap, subst, inr, ℕ, List}
use Rattle.ical_tree.specs.Tree.{tree_of}
use Rattle.cal_doors.specs.Used.{held}
use Rattle.cal_doors.specs.Adapted.{MeansNow}
use Rattle.cal_doors.proofs.AdaptWhole.{GivenSofar, step_given, all_given}
use Rattle.cal_doors.proofs.right.are_given.Goals as goal

pub loop-name-init : goal.loop-name-init
loop-name-init c = λ name u e. inr (ap (held name) (c.into_iter-name-iterator.ensures.into_iter_gives ∙ c.iter-name-items.ensures.rest))

pub loop-name-preserved : goal.loop-name-preserved
loop-name-preserved c =
    let before = tree_of c.args.before.now.object.now in
    let after = tree_of c.args.now.now.object.now in
    let changes = c.args.changes.now.entries in
    step_given before after c.args.uses.now.entries changes c.loop-name.name-iterator c.in-Some.name.now _ c.next.new.self c.in-Some.ensures.steps
    (subst (λ (n : List ℕ). MeansNow before after n (held n changes)) c.as_str.ensures.value (c.in_ok-is_given.ensures c.if-not-branch.false)) c.loop-name.invariant

pub returns : goal.returns
returns c = λ _.
    let before = tree_of c.args.before.now.object.now in
    let after = tree_of c.args.now.now.object.now in
    all_given before after c.args.uses.now.entries c.args.changes.now.entries
    (subst (GivenSofar before after c.args.uses.now.entries c.args.changes.now.entries) c.in-None.ensures.steps.0 c.loop-name.invariant)
