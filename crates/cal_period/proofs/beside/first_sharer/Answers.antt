use Rattle.std.proofs.Common.{map, arith}
use Rattle.std.proofs.lemmas.List.{length-map}
use Rattle.cal_events.specs.Series.{series_said}
use Rattle.cal_period.proofs.EveryPair.{said_at}
use Rattle.cal_period.proofs.Sharers.{sharer_found, none_more, none_of_all}
use Rattle.cal_period.proofs.beside.first_sharer.Goals as goal

pub returns-in-Some : goal.returns-in-Some
returns-in-Some c =
    let xs = c.args.series.now in
    let s = c.index-series-place.result in
    let at = said_at xs c.loop-place.place s c.loop-place-test.true c.index-series-place.is in
    sharer_found (map series_said xs) c.args.span.start c.args.span.end c.loop-place.place (series_said s) at c.first_sharer.result c.in-Some.instance c.first_sharer.ensures c.in-Some.is

pub loop-place-preserved : goal.loop-place-preserved
loop-place-preserved c =
    let xs = c.args.series.now in
    let s = c.index-series-place.result in
    let at = said_at xs c.loop-place.place s c.loop-place-test.true c.index-series-place.is in
    none_more (map series_said xs) c.args.span.start c.args.span.end c.loop-place.place (series_said s) at c.first_sharer.result c.first_sharer.ensures c.in_default.is c.loop-place.invariant

pub returns : goal.returns
returns c =
    let xs = c.args.series.now in
    let past = c.loop-place-test.false in
    none_of_all (map series_said xs) c.args.span.start c.args.span.end c.loop-place.place (omega (arith, past, length-map xs series_said)) c.loop-place.invariant
