use Rattle.std.proofs.Common.{◌∙◌, ap, sym}
use Rattle.ical_tree.specs.Tree.{component_lines}
use Rattle.profile.specs.events.EventComponents.{is_single}
use Rattle.cal_events.specs.Component.{method_said}
use Rattle.cal_events.specs.Property.{property_said}
use Rattle.fault_places.proofs.FlawLemmas.{again_right, right_further, rightly}
use Rattle.fault_places.proofs.event_flaw.flaw_among.Goals as goal
use Rattle.fault_places.proofs.event_flaw.flaw_among.Goals.{then-is_single+in_default, else-is_single}

pub loop-property-preserved : goal.loop-property-preserved
loop-property-preserved c =
    let method = method_said c.args.method in
    let lines = component_lines c.args.event.now in
    let single = c.is_single.ensures ∙ ap is_single c.presence.ensures in
    elim c.if-is_single.branch [
      | then-is_single+in_default w ↦ right_further property_said method lines c.args.properties.now c.loop-property.property-index _ _ c.loop-property-test.true (rightly method lines _ w.is_needed-is_needed.result w.is_needed-is_needed.ensures w.in_default.ensures.none) c.loop-property.invariant
      | else-is_single w ↦ right_further property_said method lines c.args.properties.now c.loop-property.property-index _ _ c.loop-property-test.true (again_right method lines _ (sym single ∙ w.if-is_single.false)) c.loop-property.invariant
    ]
