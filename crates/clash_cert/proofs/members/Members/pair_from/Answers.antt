use Rattle.std.proofs.Common.{◌≡◌, ◌+◌, suc, subst, arith}
use Rattle.clash_cert.proofs.MemberLemmas.{AreSkipped, skip_start, found_here, row_done, none_left, none_there}
use Rattle.clash_cert.proofs.members.Members.pair_from.Goals as goal

pub returns-then-series-first : goal.returns-then-series-first
returns-then-series-first c groups of some least = none_there c.args.series groups c.args.first c.args.second c.if-series-first.true

pub returns-in-Some : goal.returns-in-Some
returns-in-Some c groups of some least =
    found_here c.args.series groups c.args.first c.args.second c.loop-place.i c.loop-place.j (c.loop-place.invariant.1 groups of some least) c.in-Some.place c.loop-place.invariant.0
    (c.in-Some.ensures groups of)

pub returns-then-i-series : goal.returns-then-i-series
returns-then-i-series c groups of some least =
    let n = c.args.series in
    let i = c.loop-place.i in
    let last = c.if-i-series.true in
    none_left n groups c.args.first c.args.second (suc i) (omega (arith, last))
    (row_done n groups c.args.first c.args.second i c.loop-place.j (c.loop-place.invariant.1 groups of some least) (c.in_default.ensures groups of))

pub loop-place-preserved : goal.loop-place-preserved
loop-place-preserved c =
    let n = c.args.series in
    let i = c.loop-place.i in
    let most = c.loop-place.invariant.0 in
    let other = c.if-i-series.false in (
      omega (arith, most, other),
      λ groups of some least.
          let next : suc i ≡ i + 1 = omega arith in
          subst (λ m. AreSkipped n groups c.args.first c.args.second m m) next
          (row_done n groups c.args.first c.args.second i c.loop-place.j (c.loop-place.invariant.1 groups of some least) (c.in_default.ensures groups of)),
    )

pub loop-place-init : goal.loop-place-init
loop-place-init c = (omega (arith, c.if-series-first.false), λ groups of some least. skip_start c.args.series groups c.args.first c.args.second some least)
