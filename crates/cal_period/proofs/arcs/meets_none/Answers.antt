use Rattle.std.proofs.Common.{◌≡◌, to_z, of_z, w64, to_z-of_z}
use Rattle.cal_period.proofs.AroundLemmas.{tells_none}
use Rattle.cal_period.proofs.arcs.meets_none.Goals as goal

pub arcs_meet-requires-clause-second : goal.arcs_meet-requires-clause-second
arcs_meet-requires-clause-second c = let near = c.in-Some.ensures in c.requires.others.below c.in-Some.before near.has_before

pub arcs_meet-requires-then-not-arcs_meet-clause-second : goal.arcs_meet-requires-then-not-arcs_meet-clause-second
arcs_meet-requires-then-not-arcs_meet-clause-second c = let near = c.in-Some.ensures in c.requires.others.below c.in-Some.next near.has_next

pub returns-then-not-arcs_meet : goal.returns-then-not-arcs_meet
returns-then-not-arcs_meet c =
    let width : to_z w64 (of_z w64 c.args.width) ≡ c.args.width = to_z-of_z c.ranges.width in
    let other : to_z w64 (of_z w64 c.args.other) ≡ c.args.other = to_z-of_z c.ranges.other in
    tells_none c.args.m c.args.residue c.args.width c.args.others.now c.args.other c.requires.residue c.requires.others c.in-Some.before c.in-Some.next
    c.arcs_meet.result c.arcs_meet-then-not-arcs_meet.result c.in-Some.ensures (rw (width, other) at c.arcs_meet.ensures) (rw (width, other) at c.arcs_meet-then-not-arcs_meet.ensures)
    c.if-not-arcs_meet.true
