use Rattle.std.proofs.Common.{◌≡◌, true}
use Rattle.ical_tree.specs.Tree.{tree_of}
use Rattle.profile.specs.text.Lines.{logical_lines, reads_as_lines}
use Rattle.profile.specs.text.Objects.{IsObject}
use Rattle.cal_doors.specs.Used.{AreUses}
use Rattle.cal_doors.proofs.RightGiven.{of_some, is_of}
use Rattle.cal_doors.proofs.readable.adapt.Goals as goal

pub adapt_object-requires-clause-came : goal.adapt_object-requires-clause-came
adapt_object-requires-clause-came c =
    let octets = c.args.octets.now in
    let text = c.in-Some.text in
    let object = c.in-Some-2.object in
    is_of octets text object (of_some _ text (λ t. (t ≡ logical_lines octets) × (reads_as_lines true octets ≡ true)) c.in-Some.is c.in_ok-text.ensures)
    (of_some _ object (λ o. IsObject true (tree_of o) text) c.in-Some-2.is c.in_ok-object.ensures)

pub adapt_object-requires-clause-uses : goal.adapt_object-requires-clause-uses
adapt_object-requires-clause-uses c =
    of_some _ c.in-Some-3.uses (λ u. AreUses (tree_of c.in-Some-2.object) u.entries) c.in-Some-3.is c.in_ok-uses.ensures

pub returns : goal.returns
returns c = c.adapt_object.ensures
