use Rattle.std.proofs.Common.{◌≡◌, true}
use Rattle.ical_tree.specs.Tree.{tree_of}
use Rattle.profile.specs.text.Lines.{logical_lines, reads_as_lines}
use Rattle.profile.specs.text.Objects.{IsObject}
use Rattle.cal_doors.specs.Told.{IsAnswerTold, IsReturnedBy}
use Rattle.cal_doors.proofs.RightGiven.{of_some, when_found}
use Rattle.cal_doors.proofs.ToldRight.{returned_by}
use Rattle.cal_doors.proofs.returning.returned_by.Goals as goal

pub returns : goal.returns
returns c =
    let original = c.args.original.now in
    let readable = c.args.readable.now in
    let answer = c.args.answer.now in
    let text = c.in-Some.asked_text in
    let asked = c.in-Some-2.asked in
    let other = c.in-Some-3.read_text in
    let read = c.in-Some-4.read in
    let reads = of_some _ text (λ t. (t ≡ logical_lines original) × (reads_as_lines true original ≡ true)) c.in-Some.is c.in_ok-asked_text.ensures in
    let spelled = of_some _ asked (λ o. IsObject true (tree_of o) text) c.in-Some-2.is c.in_ok-asked.ensures in
    let reads_other = of_some _ other (λ t. (t ≡ logical_lines readable) × (reads_as_lines true readable ≡ true)) c.in-Some-3.is c.in_ok-read_text.ensures in
    let spelled_other = of_some _ read (λ o. IsObject true (tree_of o) other) c.in-Some-4.is c.in_ok-read.ensures in
    when_found c.answered.result (λ given. IsAnswerTold (tree_of asked) (tree_of read) answer given.items) (λ given. IsReturnedBy original readable answer given.items)
    (λ given. returned_by asked read original readable answer given.items text other reads.0 reads.1 spelled reads_other.0 reads_other.1 spelled_other) c.answered.ensures
