use Rattle.std.proofs.Common.{◌≡◌, ◌+◌, suc, subst, arith}
use Rattle.clash_cert.specs.Walked.{IsNextFrom}
use Rattle.clash_cert.proofs.MemberLemmas.{next_in_row, next_row, none_after}
use Rattle.clash_cert.proofs.members.Members.pair_after.Goals as goal

pub returns-then-j-series : goal.returns-then-j-series
returns-then-j-series c groups of pair =
    let n = c.args.series in
    let i = c.args.i in
    let j = c.args.j in
    let next : j + 1 ≡ suc j = omega arith in
    next_in_row n i j groups c.pair_from.result
    (subst (λ m. IsNextFrom i m n groups c.pair_from.result) next (c.pair_from.ensures groups of pair.0 (omega (arith, pair.1))))

pub returns-then-i-series : goal.returns-then-i-series
returns-then-i-series c groups of pair =
    let n = c.args.series in
    let i = c.args.i in
    let next : i + 1 ≡ suc i = omega arith in
    next_row n i c.args.j groups c.pair_from-then-i-series.result (omega (arith, c.if-j-series.false))
    (subst (λ m. IsNextFrom m m n groups c.pair_from-then-i-series.result) next (c.pair_from-then-i-series.ensures groups of (omega arith) (omega arith)))

pub returns : goal.returns
returns c groups of pair =
    none_after c.args.series c.args.i c.args.j groups (omega (arith, c.if-i-series.false)) (omega (arith, c.if-j-series.false))
