use Rattle.std.proofs.Common.{◌≡◌, pos, ◌<ℤ◌, to_z, of_z, w64, to_z-of_z, FitsSigned, arith, rules}
use Rattle.std.proofs.lemmas.Int.{ints}
use Rattle.cal_period.proofs.AroundLemmas.{tells_meet}
use Rattle.cal_period.proofs.arcs.arcs_meet.Goals as goal

pub returns-then-min-gt0 : goal.returns-then-min-gt0
returns-then-min-gt0 c =
    let width : to_z w64 (of_z w64 c.args.width) ≡ c.args.width = to_z-of_z c.ranges.width in
    let other : to_z w64 (of_z w64 c.args.other) ≡ c.args.other = to_z-of_z c.ranges.other in
    let fits : FitsSigned w64 c.min.result = search rules in
    let least : to_z w64 (of_z w64 c.min.result) ≡ c.min.result = to_z-of_z fits in
    let some : pos 0 <ℤ c.min.result = search (rules, rw least at c.if-min-gt0.true) in
    let a = rw width at c.min.ensures.self_bound in
    let b = rw other at c.min.ensures.other_bound in
    tells_meet c.args.m c.args.first c.args.second c.args.width c.args.other c.are_over.result c.requires.first c.requires.second (omega (arith, ints, some, a)) (omega (arith, ints, some, b)) (rw (width, other) at c.are_over.ensures)
