use Rattle.std.proofs.Common.{◌≡◌, rules, arith, to_z, of_z, w64, to_z-of_z}
use Rattle.std.proofs.lemmas.Int.{ints}
use Rattle.jiff_core.proofs.SignedLemmas.{signed_arith}
use Rattle.cal_doors.proofs.condition.is_latest.Goals as goal

pub returns-in_default : goal.returns-in_default
returns-in_default c = λ _ x is l.
    let q = (rw (to_z-of_z c.ranges.instant) at c.in_default.ensures) x is in
    absurd (omega (arith, ints, q, l))

pub returns-then-bound-latest : goal.returns-then-bound-latest
returns-then-bound-latest c = λ _ x is l.
    let cast : to_z w64 (of_z w64 c.in-Some.bound) ≡ c.in-Some.bound = to_z-of_z {w = w64} (search rules) in
    let latest = to_z-of_z c.ranges.latest in
    let q = (rw (to_z-of_z c.ranges.instant) at c.in-Some.ensures) x is l in
    (omega (arith, signed_arith, cast, latest, q, c.if-bound-latest.true), λ e. absurd (omega (arith, signed_arith, cast, latest, q, e, c.if-bound-latest.true)))

pub returns : goal.returns
returns c = λ h x is l.
    let cast : to_z w64 (of_z w64 c.in-Some.bound) ≡ c.in-Some.bound = to_z-of_z {w = w64} (search rules) in
    let latest = to_z-of_z c.ranges.latest in
    let q = (rw (to_z-of_z c.ranges.instant) at c.in-Some.ensures) x is l in
    (omega (arith, signed_arith, cast, latest, q, c.if-latest-bound.false), λ _. (rw (to_z-of_z c.ranges.offset) at (c.sets.ensures h)) x is)
