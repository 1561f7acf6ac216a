use Rattle.std.proofs.Common.{◌≡◌, ◌<◌, List, length, get_or, sym, ap, subst}
use Rattle.std.specs.Prelude.{Contains, IfSome}
use Rattle.ical_values.specs.Octets.{text_octets}
use Rattle.ical_tree.specs.Tree.{component_lines, component_children, tree_of}
use Rattle.ical_tree.specs.declared.component.Component.{Component}
use Rattle.profile.specs.checker.Blamed.{HasFaultWith, for_event}
use Rattle.cal_events.specs.Zones.{object_of}
use Rattle.cal_events.proofs.shared_lemmas.ReadingLemmas.{is_among}
use Rattle.cal_events.proofs.shared_lemmas.TreeLemmas.{vevents_tree}
use Rattle.cal_events.proofs.blamed.faulty_uid.Goals as goal

pub returns-in-Some : goal.returns-in-Some
returns-in-Some c =
    let object = c.args.object.now in
    let all = component_children object in
    let i = c.loop-component.component-index in
    let x = c.component-item.result in
    let same = c.children-component-items.ensures in
    let within = subst (λ (l : List Component). i < length l) same c.loop-component-test.true in
    let here = subst (λ (l : List Component). x ≡ get_or l i x) same c.component-item.is in
    let among = subst (λ vs. Contains vs (component_lines x)) (sym (vevents_tree object)) (is_among component_lines all i x within here (sym c.if-is_named.ensures)) in
    for_event (component_lines x) among (subst (λ t. HasFaultWith t (text_octets c.in-Some.uid) c.args.number (component_lines x)) (ap tree_of c.in_ok-zones.ensures.object)
    (subst (λ found. IfSome found (λ uid. HasFaultWith (object_of c.in_ok-zones.zones) (text_octets uid) c.args.number (component_lines x))) c.in-Some.is c.in_ok-uid.ensures))
