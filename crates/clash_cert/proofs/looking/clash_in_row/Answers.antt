use Rattle.std.proofs.Common.{map, arith}
use Rattle.std.proofs.lemmas.List.{length-map}
use Rattle.cal_events.specs.Series.{series_said}
use Rattle.clash_cert.proofs.LookedLemmas.{row_start, row_more, row_all}
use Rattle.clash_cert.proofs.looking.clash_in_row.Goals as goal

pub loop-j-init : goal.loop-j-init
loop-j-init c = row_start c.args.kept.now (map series_said c.args.series.now) c.args.i

pub loop-j-preserved : goal.loop-j-preserved
loop-j-preserved c = row_more c.args.kept.now (map series_said c.args.series.now) c.args.i c.loop-j.j c.loop-j.invariant c.in_default.ensures

pub returns : goal.returns
returns c =
    let xs = c.args.series.now in
    let past = c.loop-j-test.false in
    row_all c.args.kept.now (map series_said xs) c.args.i c.loop-j.j (omega (arith, past, length-map xs series_said)) c.loop-j.invariant
