use Rattle.std.proofs.Common.{Bool, ◌≡◌, ◌+◌, ◌<◌, ◌≤◌, List, length, get_or, drop, ap, refl, sym, subst}
use Rattle.std.proofs.lemmas.List.{drop_all}
use Rattle.ical_tree.specs.Tree.{component_lines, component_children}
use Rattle.ical_tree.specs.declared.component.Component.{Component}
use Rattle.profile.specs.series.ZoneTexts.{is_part}
use Rattle.profile.specs.series.GeneralZoneTexts.{RunsFault, GeneralPartsFault, no_part, in_part}
use Rattle.cal_zones.specs.Read.{parts_in, zone_parts}
use Rattle.cal_zones.proofs.PartLemmas.{is_among, drop_other, drop_part}
use Rattle.cal_zones.proofs.Reading.{fault_exit}
use Rattle.cal_doors.specs.Runs.{runs_in}
use Rattle.cal_doors.proofs.PartSays.{PartsAdded, no_parts, next_part, parts_say, none_say}
use Rattle.cal_doors.proofs.read.read_runs.Goals as goal
use Rattle.cal_doors.proofs.read.read_runs.Goals.{then-is_part+in_ok-add_part, else-is_part}

pub loop-child-init : goal.loop-child-init
loop-child-init c = rw c.new-runs.ensures.items (no_parts (zone_parts c.args.zone.now) (zone_parts c.args.zone.now) refl)

pub returns-in_err-add_part-clause-fault : goal.returns-in_err-add_part-clause-fault
returns-in_err-add_part-clause-fault c =
    let all = component_children c.args.zone.now in
    let i = c.loop-child.child-index in
    let x = c.child-item.result in
    let same = c.children-child-items.ensures in
    let within = subst (λ (l : List Component). i < length l) same c.loop-child-test.true in
    let here = subst (λ (l : List Component). x ≡ get_or l i x) same c.child-item.is in
    fault_exit _ (GeneralPartsFault (zone_parts c.args.zone.now)) (RunsFault (component_lines x)) _
    (λ n h. in_part (component_lines x) (is_among is_part all i x within here (sym c.if-is_part.ensures)) h) c.from_residual.ensures.1 c.in_err-add_part.ensures.fault

pub loop-child-preserved : goal.loop-child-preserved
loop-child-preserved c =
    let parts = zone_parts c.args.zone.now in
    let all = component_children c.args.zone.now in
    let i = c.loop-child.child-index in
    let x = c.child-item.result in
    let mid = runs_in c.loop-child.runs.items in
    let same = c.children-child-items.ensures in
    let within = subst (λ (l : List Component). i < length l) same c.loop-child-test.true in
    let here = subst (λ (l : List Component). x ≡ get_or l i x) same c.child-item.is in
    let left = parts_in is_part (drop (i + 1) all) in
    elim c.if-is_part.branch [
      | then-is_part+in_ok-add_part w ↦
          subst (λ (b : Bool). PartsAdded parts left b (runs_in c.if-is_part.runs.items)) (sym w.has_part-is)
          (rw w.runs-is (next_part parts (parts_in is_part (drop i all)) left c.loop-child.has_part (component_lines x) mid _ c.loop-child.invariant
          (drop_part is_part all i x within here (sym w.if-is_part.ensures)) w.in_ok-add_part.ensures.adds))
      | else-is_part w ↦
          subst (λ (b : Bool). PartsAdded parts left b (runs_in c.if-is_part.runs.items)) (sym w.has_part-is)
          (rw w.runs-is (subst (λ ps. PartsAdded parts ps c.loop-child.has_part mid) (drop_other is_part all i x within here (sym w.if-is_part.ensures)) c.loop-child.invariant))
    ]

pub returns-then-not-has_part-clause-fault : goal.returns-then-not-has_part-clause-fault
returns-then-not-has_part-clause-fault c =
    let parts = zone_parts c.args.zone.now in
    let all = component_children c.args.zone.now in
    let i = c.loop-child.child-index in
    let done = subst (λ (l : List Component). length l ≤ i) c.children-child-items.ensures c.loop-child-test.false in
    no_part (none_say parts (parts_in is_part (drop i all)) (runs_in c.loop-child.runs.items)
    (subst (λ (b : Bool). PartsAdded parts (parts_in is_part (drop i all)) b (runs_in c.loop-child.runs.items)) c.if-not-has_part.true c.loop-child.invariant) (ap (parts_in is_part) (drop_all i all done)))

pub returns-clause-says : goal.returns-clause-says
returns-clause-says c =
    let parts = zone_parts c.args.zone.now in
    let all = component_children c.args.zone.now in
    let i = c.loop-child.child-index in
    let done = subst (λ (l : List Component). length l ≤ i) c.children-child-items.ensures c.loop-child-test.false in
    parts_say parts (parts_in is_part (drop i all)) (runs_in c.loop-child.runs.items)
    (subst (λ (b : Bool). PartsAdded parts (parts_in is_part (drop i all)) b (runs_in c.loop-child.runs.items)) c.if-not-has_part.false c.loop-child.invariant) (ap (parts_in is_part) (drop_all i all done))
