use Rattle.std.proofs.Common.{map, arith}
use Rattle.std.proofs.lemmas.List.{length-map}
use Rattle.cal_events.specs.Calendar.{instance_of, owned_key_of}
use Rattle.cal_events.specs.Series.{series_said}
use Rattle.cal_period.proofs.EveryPair.{said_at}
use Rattle.clash_check.proofs.ClashLemmas.{no_more, none_of_series, in_series}
use Rattle.clash_check.proofs.checking.of_series.Goals as goal

pub returns-in-Some-clause-found : goal.returns-in-Some-clause-found
returns-in-Some-clause-found c =
    let xs = c.args.series.now in
    let s = c.index-series-place.result in
    let at = said_at xs c.loop-place.place s c.loop-place-test.true c.index-series-place.is in
    let h = c.in-Some.ensures.found in
    (in_series (map series_said xs) c.loop-place.place (series_said s) (instance_of c.in-Some.instance) at h.0, h.1)

pub loop-place-preserved : goal.loop-place-preserved
loop-place-preserved c =
    let xs = c.args.series.now in
    let s = c.index-series-place.result in
    let at = said_at xs c.loop-place.place s c.loop-place-test.true c.index-series-place.is in
    no_more (map series_said xs) (owned_key_of c.args.key.now) c.loop-place.place (series_said s) at c.loop-place.invariant c.in_default.ensures.none

pub returns-clause-none : goal.returns-clause-none
returns-clause-none c =
    let xs = c.args.series.now in
    let past = c.loop-place-test.false in
    none_of_series (map series_said xs) (owned_key_of c.args.key.now) c.loop-place.place (omega (arith, past, length-map xs series_said)) c.loop-place.invariant
