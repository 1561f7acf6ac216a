use Rattle.std.proofs.Common.{rules, w64, FitsSigned}
use Rattle.std.proofs.lemmas.Int.{to_z-of_z}
use Rattle.clash_check.proofs.ClashLemmas.{never, no_first, no_second, one_key, decided, known_of}
use Rattle.clash_check.proofs.checking.check_clash.Goals as goal

pub returns-in_default : goal.returns-in_default
returns-in_default c = never c.args.calendar.now c.args.clash.now (no_first c.args.calendar.now c.args.clash.now c.in_default.ensures.none)

pub returns-in_default-confirmed_of : goal.returns-in_default-confirmed_of
returns-in_default-confirmed_of c = never c.args.calendar.now c.args.clash.now (no_second c.args.calendar.now c.args.clash.now c.in_default-confirmed_of.ensures.none)

pub returns-then-has_key : goal.returns-then-has_key
returns-then-has_key c =
    let all = c.args.calendar.now in
    let known = known_of c.series-series.result.now all.series c.series-series.ensures.are c.known_by_start.ensures in
    never all c.args.clash.now
    (one_key all c.singles-singles.ensures.keys c.series-series.ensures.keys known c.args.clash.now c.in-Some.first c.in-Some.ensures.found.1 (c.has_key.ensures.0 c.if-has_key.true))

pub returns : goal.returns
returns c =
    let all = c.args.calendar.now in
    let fits : FitsSigned w64 c.args.clash.now.instant = search rules in
    let known = known_of c.series-series.result.now all.series c.series-series.ensures.are c.known_by_start.ensures in
    decided all c.singles-singles.ensures.keys c.series-series.ensures.keys known c.args.clash.now c.in-Some.first c.in-Some-confirmed_of.second c.share.result c.has_key.result _
    c.in-Some.ensures.found c.in-Some-confirmed_of.ensures.found c.has_key.ensures c.if-has_key.false
    (to_z-of_z w64 c.args.clash.now.instant fits) c.share.ensures
