use Rattle.std.proofs.Common.{◌≡◌, map, filter, take}
use Rattle.ical_tree.specs.Tree.{component_children, component_lines}
use Rattle.cal_events.specs.Component.{is_vevent}
use Rattle.itip_messages.proofs.own_lines.vevents_of.Given as goal

-- the VEVENTs so far
abbrev pub invariant-loop-child : goal.invariant-loop-child
invariant-loop-child l = map (λ vevent. component_lines vevent.now) l.vevents.items ≡ map component_lines (filter is_vevent (take l.child-index (component_children l.object)))
