use Rattle.std.proofs.Common.{◌≡◌, ◌<◌, ◌∙◌, sym, length, get_or, rules}
use Rattle.ical_tree.specs.Tree.{component_children}
use Rattle.cal_zones.specs.Read.{zone_parts}
use Rattle.fault_places.proofs.CauseLemmas.{times_at}
use Rattle.fault_places.proofs.ObstacleLemmas.{right_further, right_past}
use Rattle.fault_places.proofs.obstacle.first_times_cause.Goals as goal
use Rattle.fault_places.proofs.obstacle.first_times_cause.Goals.{then-is_part+in_default, else-is_part}

pub returns-in-Some-clause-found : goal.returns-in-Some-clause-found
returns-in-Some-clause-found c =
    let children = c.children-component-items.result.now in
    let part = c.component-item.result in
    let within : c.loop-place.place < length children = search rules in
    let here : part ≡ get_or children c.loop-place.place part = search rules in
    times_at c.args.zone.now children c.loop-place.place part c.with.result c.in-Some.cause c.children-component-items.ensures within here (sym c.is_part.ensures ∙ c.if-is_part.true) c.with.ensures.component c.with.ensures.cause c.in-Some.ensures.found

pub loop-place-preserved : goal.loop-place-preserved
loop-place-preserved c =
    let children = component_children c.args.zone.now in
    let part = c.component-item.result in
    let within : c.loop-place.place < length children = search rules in
    let here : part ≡ get_or children c.loop-place.place part = search rules in
    elim c.if-is_part.branch [
      | then-is_part+in_default w ↦ right_further children c.loop-place.place part (zone_parts c.args.zone.now) within here (sym c.is_part.ensures ∙ w.if-is_part.true) w.in_default.ensures.none c.loop-place.invariant
      | else-is_part w ↦ right_past children c.loop-place.place part (zone_parts c.args.zone.now) within here (sym c.is_part.ensures ∙ w.if-is_part.false) c.loop-place.invariant
    ]
