use Rattle.std.proofs.Common.{◌≡◌, true}
use Rattle.ical_tree.specs.Tree.{tree_of}
use Rattle.profile.specs.text.Lines.{logical_lines, reads_as_lines}
use Rattle.profile.specs.text.Objects.{IsObject}
use Rattle.cal_doors.specs.Adapted.{IsRightlyAdapted, AllMeanNow}
use Rattle.cal_doors.proofs.RightGiven.{when_ok, of_some, is_of, judged}
use Rattle.cal_doors.proofs.right.is_right.Goals as goal

pub are_given-requires-clause-before : goal.are_given-requires-clause-before
are_given-requires-clause-before c = c.requires.named

pub returns : goal.returns
returns c =
    let before = c.args.before.now in
    let octets = c.args.octets.now in
    let text = c.in-Some.text in
    let after = c.in-Some-2.after in
    let zoned = c.args.zones.now.object.now in
    let now = c.in_ok-now.now in
    let uses = c.args.uses.now.entries in
    let changes = c.args.changes.now.entries in
    let read = of_some _ text (λ t. (t ≡ logical_lines octets) × (reads_as_lines true octets ≡ true)) c.in-Some.is c.in_ok-text.ensures in
    let spelled = of_some _ after (λ object. IsObject true (tree_of object) text) c.in-Some-2.is c.in_ok-after.ensures in
    when_ok c.are_given.result (λ g. g ≡ true → AllMeanNow (tree_of zoned) (tree_of now.object.now) uses changes) (λ g. g ≡ true → IsRightlyAdapted (tree_of before) uses changes octets)
    (λ g f given. judged before zoned after now.object.now uses changes octets c.requires.before c.in_ok-now.ensures.object
    (is_of octets text after read spelled) (c.are_same_but_zones.ensures.own c.if-not-are_same_but_zones.false)
    (c.are_same_but_zones.ensures.others c.if-not-are_same_but_zones.false) (f given)) c.are_given.ensures
