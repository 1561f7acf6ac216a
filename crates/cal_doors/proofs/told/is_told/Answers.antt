use Rattle.std.proofs.Common.{◌≡◌, sym, subst, true}
use Rattle.std.specs.Prelude.{Contains}
use Rattle.std.specs.List.{AllZip}
use Rattle.ical_tree.specs.Tree.{component_children, tree_of}
use Rattle.profile.specs.text.Lines.{logical_lines, reads_as_lines}
use Rattle.profile.specs.text.Objects.{IsObject}
use Rattle.profile.specs.doors.Returning.{TellsSame}
use Rattle.cal_doors.specs.Told.{events_among, HasItsZone}
use Rattle.cal_doors.proofs.RightGiven.{of_some}
use Rattle.cal_doors.proofs.ToldRight.{told_right}
use Rattle.cal_doors.proofs.told.is_told.Goals as goal

pub returns : goal.returns
returns c = λ right.
    let octets = c.args.octets.now in
    let told = c.args.told.now in
    let text = c.in-Some.text in
    let given = c.in-Some-2.given in
    let asked = tree_of c.args.asked.now.object.now in
    let read = tree_of c.args.read.now.object.now in
    let reads = of_some _ text (λ t. (t ≡ logical_lines octets) × (reads_as_lines true octets ≡ true)) c.in-Some.is c.in_ok-text.ensures in
    let spelled = of_some _ given (λ o. IsObject true (tree_of o) text) c.in-Some-2.is c.in_ok-given.ensures in
    let are = c.are_told.ensures c.if-not-are_told.false read (tree_of told) c.requires.words in
    let events = subst (λ cs. AllZip (AllZip (TellsSame read (tree_of told))) (events_among cs) (events_among (component_children given))) c.children.ensures
    (subst (λ cs. AllZip (AllZip (TellsSame read (tree_of told))) (events_among c.children.result.now) (events_among cs)) c.children-events.ensures are) in
    told_right asked read told given octets text reads.0 reads.1 spelled (c.has_same_lines.ensures c.if-not-has_same_lines.false) events
    (λ name line lines among is. subst (λ o. HasItsZone (tree_of o) asked read name) c.in_ok-zones.ensures.object
    (c.have_zones.ensures right name line lines (subst (λ cs. Contains (events_among cs) lines) (sym c.children-events.ensures) among) is))
