use Rattle.std.proofs.Common.{◌≡◌, ◌∷◌, [], sym, subst, true}
use Rattle.ical_tree.specs.Tree.{component_lines, tree_of}
use Rattle.profile.specs.text.Lines.{logical_lines, reads_as_lines}
use Rattle.profile.specs.text.Objects.{IsObject}
use Rattle.profile.specs.events.ZonedTimes.{zone_named}
use Rattle.profile.specs.doors.Uses.{IsLineIn}
use Rattle.cal_doors.specs.Told.{events_among}
use Rattle.cal_doors.specs.Adapted.{others_among}
use Rattle.cal_doors.proofs.RightGiven.{of_some}
use Rattle.cal_doors.proofs.ToldRight.{single_right}
use Rattle.cal_doors.proofs.parting.is_single.Goals as goal

pub returns : goal.returns
returns c = λ right.
    let octets = c.args.octets.now in
    let whole = c.args.whole.now in
    let event = c.args.event.now in
    let text = c.in-Some.text in
    let part = c.in-Some-2.part in
    let reads = of_some _ text (λ t. (t ≡ logical_lines octets) × (reads_as_lines true octets ≡ true)) c.in-Some.is c.in_ok-text.ensures in
    let spelled = of_some _ part (λ o. IsObject true (tree_of o) text) c.in-Some-2.is c.in_ok-part.ensures in
    let only = subst (λ cs. events_among cs ≡ component_lines event ∷ []) c.children.ensures (c.is_only_event.ensures c.if-not-is_only_event.false) in
    let others = subst (λ cs. others_among cs ≡ tree_of event ∷ []) c.children-2.ensures (c.is_only_other.ensures c.if-not-is_only_other.false) in
    single_right whole part event octets text reads.0 reads.1 spelled (c.has_same_lines.ensures c.if-not-has_same_lines.false) only others
    (λ name line is. subst (λ o. zone_named name (tree_of o) ≡ zone_named name (tree_of whole)) c.in_ok-its.ensures.object
    (subst (λ o. zone_named name (tree_of c.in_ok-its.its.object.now) ≡ zone_named name (tree_of o)) c.requires.whole
    (c.have_same_zones.ensures right name line (subst (λ ls. IsLineIn name ls line) (sym c.lines.ensures) is))))
