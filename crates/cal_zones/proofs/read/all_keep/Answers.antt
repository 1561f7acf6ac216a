use Rattle.std.proofs.Common.{◌≡◌, ◌<◌, ◌≤◌, ℕ, ℤ, List, length, get_or, sym, subst, to_z, of_z, w32, to_z-of_z}
use Rattle.std.specs.Prelude.{Contains}
use Rattle.ical_tree.specs.Tree.{component_lines, component_children, numbered_of, zone_of_component}
use Rattle.ical_tree.specs.declared.component.Component.{Component}
use Rattle.profile.specs.series.ZoneTexts.{is_part, KeepsOffset, Strays, TimesFault}
use Rattle.cal_zones.specs.Read.{SomeTimesFault, zone_parts}
use Rattle.cal_zones.proofs.PartLemmas.{is_among, drop_other, drop_part, all_left, none_left}
use Rattle.cal_zones.proofs.Blamed.{where_exit, in_part}
use Rattle.cal_zones.proofs.Reading.{fault_exit}
use Rattle.profile.specs.series.ZoneBlame.{PartBlame, ZoneBlame}
use Rattle.cal_zones.proofs.read.all_keep.Goals as goal
use Rattle.cal_zones.proofs.read.all_keep.Goals.{then-is_part+in_ok-keeps+else-not-branch, else-is_part}

pub returns-in_err-keeps-clause-fault : goal.returns-in_err-keeps-clause-fault
returns-in_err-keeps-clause-fault c =
    let all = component_children c.args.zone.now in
    let i = c.loop-child.child-index in
    let x = c.child-item.result in
    let same = c.children-child-items.ensures in
    let within = subst (λ (l : List Component). i < length l) same c.loop-child-test.true in
    let here = subst (λ (l : List Component). x ≡ get_or l i x) same c.child-item.is in
    fault_exit _ (SomeTimesFault (zone_parts c.args.zone.now)) (TimesFault (component_lines x)) _
    (λ n h. (component_lines x, is_among is_part all i x within here (sym c.if-is_part.ensures), h)) c.from_residual.ensures.1 c.in_err-keeps.ensures.fault

pub returns-in_err-keeps-clause-at : goal.returns-in_err-keeps-clause-at
returns-in_err-keeps-clause-at c =
    let i = c.loop-child.child-index in
    let x = c.child-item.result in
    let there : Contains (component_children c.args.zone.now) x = subst (λ (l : List Component). Contains l x) c.children-child-items.ensures (i, c.loop-child-test.true, sym c.child-item.is) in
    where_exit _ (ZoneBlame (zone_of_component c.args.zone.now)) (PartBlame (numbered_of x)) _ (λ n at h. in_part c.args.zone.now x n at there h) c.from_residual.ensures.1 c.in_err-keeps.ensures.at

pub returns-then-not-branch-clause-no : goal.returns-then-not-branch-clause-no
returns-then-not-branch-clause-no c h =
    let all = component_children c.args.zone.now in
    let i = c.loop-child.child-index in
    let x = c.child-item.result in
    let same = c.children-child-items.ensures in
    let within = subst (λ (l : List Component). i < length l) same c.loop-child-test.true in
    let here = subst (λ (l : List Component). x ≡ get_or l i x) same c.child-item.is in
    let strays = subst (λ (z : ℤ). Strays z (component_lines x)) (to_z-of_z c.ranges.offset) (c.in_ok-keeps.ensures.no c.if-not-branch.true) in
    (component_lines x, is_among is_part all i x within here (sym c.if-is_part.ensures), strays)

pub loop-child-preserved : goal.loop-child-preserved
loop-child-preserved c later =
    let all = component_children c.args.zone.now in
    let i = c.loop-child.child-index in
    let x = c.child-item.result in
    let same = c.children-child-items.ensures in
    let within = subst (λ (l : List Component). i < length l) same c.loop-child-test.true in
    let here = subst (λ (l : List Component). x ≡ get_or l i x) same c.child-item.is in
    let k : ℤ = to_z w32 (of_z w32 c.args.offset) in
    elim c.if-is_part.branch [
      | then-is_part+in_ok-keeps+else-not-branch w ↦
          c.loop-child.invariant (all_left (KeepsOffset k) (component_lines x) _ _ (drop_part is_part all i x within here (sym w.if-is_part.ensures)) (w.in_ok-keeps.ensures.yes w.if-not-branch.false) later)
      | else-is_part w ↦
          c.loop-child.invariant (subst (λ (l : List (List (List ℕ))). (part : List (List ℕ)) → Contains l part → KeepsOffset k part) (sym (drop_other is_part all i x within here (sym w.if-is_part.ensures))) later)
    ]

pub returns-clause-yes : goal.returns-clause-yes
returns-clause-yes c h =
    let all = component_children c.args.zone.now in
    let same = c.children-child-items.ensures in
    let done = subst (λ (l : List Component). length l ≤ c.loop-child.child-index) same c.loop-child-test.false in
    subst (λ (z : ℤ). (part : List (List ℕ)) → Contains (zone_parts c.args.zone.now) part → KeepsOffset z part) (to_z-of_z c.ranges.offset)
    (c.loop-child.invariant (λ part there. absurd (none_left is_part all c.loop-child.child-index part done there)))
