use Rattle.std.proofs.Common.{◌≡◌, sym, subst, true}
use Rattle.ical_tree.specs.Tree.{tree_of}
use Rattle.profile.specs.text.Lines.{logical_lines, reads_as_lines}
use Rattle.profile.specs.text.Objects.{IsObject}
use Rattle.cal_doors.specs.Told.{AreWordsOf, TellsAnswer}
use Rattle.cal_doors.proofs.RightGiven.{of_some}
use Rattle.cal_doors.proofs.ToldRight.{answered_right}
use Rattle.cal_doors.proofs.returning.answered.Goals as goal

pub is_told-requires-clause-words : goal.is_told-requires-clause-words
is_told-requires-clause-words c =
    subst (λ o. AreWordsOf (tree_of o) (tree_of c.in-Some-2.told) c.in_ok-words.words) (sym c.in_ok-read.ensures.object) c.in_ok-words.ensures

pub returns : goal.returns
returns c =
    let answer = c.args.answer.now in
    let asked = c.args.asked.now in
    let read = c.args.read.now in
    let text = c.in-Some.text in
    let told = c.in-Some-2.told in
    let octets = c.in-Some-3.given.items in
    let reads = of_some _ text (λ t. (t ≡ logical_lines answer) × (reads_as_lines true answer ≡ true)) c.in-Some.is c.in_ok-text.ensures in
    let spelled = of_some _ told (λ o. IsObject true (tree_of o) text) c.in-Some-2.is c.in_ok-told.ensures in
    let right = c.in_ok-is_told.ensures c.if-not-branch.false in
    let here = subst (λ o. TellsAnswer (tree_of asked) (tree_of o) (tree_of told) c.as_slice.result.now) c.in_ok-read.ensures.object
    (subst (λ o. TellsAnswer (tree_of o) (tree_of c.in_ok-read.read.object.now) (tree_of told) c.as_slice.result.now) c.in_ok-asked.ensures.object right) in
    answered_right (tree_of asked) (tree_of read) told answer octets text reads.0 reads.1 spelled
    (subst (TellsAnswer (tree_of asked) (tree_of read) (tree_of told)) c.as_slice.ensures.value here)
