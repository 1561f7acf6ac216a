use Rattle.std.proofs.Common.{rules}
use Rattle.std.proofs.lemmas.Int.{ints}
use Rattle.std.proofs.Common.{◌≡◌, ◌<ℤ◌, arith, to_z, of_z, w64, to_z-of_z}
use Rattle.jiff_core.proofs.SignedLemmas.{signed_arith}
use Rattle.cal_zones.proofs.Onsets.{begins_is, latest_of, first_of}
use Rattle.cal_zones.proofs.observance.Observance.latest_onset.Goals as goal

pub latest_onset-requires-clause-on : goal.latest_onset-requires-clause-on
latest_onset-requires-clause-on c =
    (begins_is c.args.self.now c.in-Some.rule c.first_day-first_day.result c.in-Some.is c.first_day-first_day.ensures.first.begins).1

pub returns-in-Some-clause-latest : goal.returns-in-Some-clause-latest
returns-in-Some-clause-latest c =
    let same : to_z w64 (of_z w64 c.latest_onset.result) ≡ c.latest_onset.result = omega (arith, signed_arith, c.latest_onset.type_inv) in
    let first : to_z w64 (of_z w64 c.onset_on-first.result) ≡ c.onset_on-first.result = omega (arith, signed_arith, c.onset_on-first.ensures.low, c.onset_on-first.ensures.high) in
    rw same (latest_of c.args.self.now c.in-Some.rule c.first_day-first_day.result c.onset_on-first.result c.args.instant c.latest_onset.result c.in-Some.is c.first_day-first_day.ensures.first c.onset_on-first.ensures.read (rw (first, to_z-of_z c.ranges.instant) at c.latest_onset.ensures.latest))

pub returns-then-instant-first-clause-latest : goal.returns-then-instant-first-clause-latest
returns-then-instant-first-clause-latest c =
    let cast : to_z w64 (of_z w64 c.onset_on-first.result) ≡ c.onset_on-first.result = omega (arith, signed_arith, c.onset_on-first.ensures.low, c.onset_on-first.ensures.high) in
    let ahead : c.args.instant <ℤ c.onset_on-first.result = omega (arith, signed_arith, cast, to_z-of_z c.ranges.instant, c.if-instant-first.true) in
    (c.onset_on-first.result, first_of c.args.self.now c.first_day-first_day.result c.onset_on-first.result c.first_day-first_day.ensures.first c.onset_on-first.ensures.read, ahead)

pub returns-in-None-clause-low : goal.returns-in-None-clause-low
returns-in-None-clause-low c = search (ints, rules)

pub returns-in-None-clause-latest : goal.returns-in-None-clause-latest
returns-in-None-clause-latest c = search (ints, rules)

pub returns-in-Some-clause-low : goal.returns-in-Some-clause-low
returns-in-Some-clause-low c = search (ints, rules)
