use Rattle.std.proofs.Common.{◌≡◌, true}
use Rattle.std.specs.List.{AllZip}
use Rattle.ical_tree.specs.Tree.{component_children, tree_of}
use Rattle.profile.specs.text.Lines.{logical_lines, reads_as_lines}
use Rattle.profile.specs.text.Objects.{IsObject}
use Rattle.cal_doors.specs.Told.{trees_among, IsSingleOf}
use Rattle.cal_doors.proofs.RightGiven.{of_some}
use Rattle.cal_doors.proofs.ToldRight.{split_right}
use Rattle.cal_doors.proofs.ToldEvents.{octets_each}
use Rattle.cal_doors.proofs.parting.split.Goals as goal

pub returns : goal.returns
returns c =
    let octets = c.args.octets.now in
    let text = c.in-Some.text in
    let whole = c.in-Some-2.whole in
    let parts = c.in-Some-3.parts in
    let reads = of_some _ text (λ t. (t ≡ logical_lines octets) × (reads_as_lines true octets ≡ true)) c.in-Some.is c.in_ok-text.ensures in
    let spelled = of_some _ whole (λ o. IsObject true (tree_of o) text) c.in-Some-2.is c.in_ok-whole.ensures in
    let each = of_some _ parts (λ ps. AllZip (IsSingleOf (tree_of whole)) (trees_among (component_children whole)) (octets_each ps.items)) c.in-Some-3.is c.in_ok-parts.ensures in
    split_right whole octets text (octets_each parts.items) reads.0 reads.1 spelled each
