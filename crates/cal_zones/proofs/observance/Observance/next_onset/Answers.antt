use Rattle.std.proofs.Common.{◌≡◌, ◌<ℤ◌, ◌≤ℤ◌, arith, to_z, of_z, w64, to_z-of_z}
use Rattle.jiff_core.proofs.SignedLemmas.{signed_arith}
use Rattle.cal_zones.proofs.Onsets.{next_first, none_again, next_or_of}
use Rattle.cal_zones.proofs.observance.Observance.next_onset.Goals as goal

pub next_onset-requires-clause-begun : goal.next_onset-requires-clause-begun
next_onset-requires-clause-begun c = omega (arith, signed_arith, c.if-after-first.false)

pub returns-then-after-first : goal.returns-then-after-first
returns-then-after-first c =
    let first = c.onset_on-first.result in
    let cast : to_z w64 (of_z w64 first) ≡ first = omega (arith, signed_arith, c.onset_on-first.ensures.low, c.onset_on-first.ensures.high) in
    let ahead : c.args.after <ℤ first = omega (arith, signed_arith, cast, to_z-of_z c.ranges.after, c.if-after-first.true) in
    rw cast (next_first c.args.self.now c.first_day-first_day.result first c.args.after c.first_day-first_day.ensures.first c.onset_on-first.ensures.read ahead)

pub returns-in-None : goal.returns-in-None
returns-in-None c =
    let first = c.onset_on-first.result in
    let cast : to_z w64 (of_z w64 first) ≡ first = omega (arith, signed_arith, c.onset_on-first.ensures.low, c.onset_on-first.ensures.high) in
    let begun : first ≤ℤ c.args.after = omega (arith, signed_arith, cast, to_z-of_z c.ranges.after, c.if-after-first.false) in
    none_again c.args.self.now c.first_day-first_day.result first c.args.after c.in-None.is c.first_day-first_day.ensures.first c.onset_on-first.ensures.read begun

pub returns-in-Some : goal.returns-in-Some
returns-in-Some c =
    let first = c.onset_on-first.result in
    let cast : to_z w64 (of_z w64 first) ≡ first = omega (arith, signed_arith, c.onset_on-first.ensures.low, c.onset_on-first.ensures.high) in
    next_or_of c.args.self.now c.in-Some.rule c.first_day-first_day.result first c.args.after c.next_onset.result c.in-Some.is c.first_day-first_day.ensures.first c.onset_on-first.ensures.read
    (rw (cast, to_z-of_z c.ranges.after) at c.next_onset.ensures)
