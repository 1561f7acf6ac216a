use Rattle.std.proofs.Common.{map, arith}
use Rattle.cal_events.specs.Series.{series_said}
use Rattle.cal_period.proofs.EveryPair.{said_at, at_alone, at_pair}
use Rattle.clash_cert.proofs.LookedLemmas.{looked_at}
use Rattle.clash_cert.proofs.looking.clash_at.Goals as goal

pub returns-then-i-j : goal.returns-then-i-j
returns-then-i-j c =
    let xs = c.args.series.now in
    let all = map series_said xs in
    let s = c.index-series-i.result in
    let at = said_at xs c.args.i s (omega (arith, c.requires.0, c.requires.1)) c.index-series-i.is in
    looked_at c.args.kept.now all c.args.i c.args.j c.clash_alone.result (at_alone all c.args.i c.args.j (series_said s) c.clash_alone.result at c.if-i-j.true c.clash_alone.ensures)

pub returns-else-i-j : goal.returns-else-i-j
returns-else-i-j c =
    let xs = c.args.series.now in
    let all = map series_said xs in
    let s = c.index-series-i-else-i-j.result in
    let u = c.index-series-j.result in
    let at_i = said_at xs c.args.i s (omega (arith, c.requires.0, c.requires.1)) c.index-series-i-else-i-j.is in
    let at_j = said_at xs c.args.j u c.requires.1 c.index-series-j.is in
    looked_at c.args.kept.now all c.args.i c.args.j c.clash_of_pair.result
    (at_pair all c.args.i c.args.j (series_said s) (series_said u) c.clash_of_pair.result at_i at_j c.if-i-j.false c.clash_of_pair.ensures)
