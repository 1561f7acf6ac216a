use Rattle.std.proofs.Common.{◌≡◌, arith, to_z, of_z, w64, to_z-of_z}
use Rattle.jiff_core.proofs.SignedLemmas.{signed_arith}
use Rattle.cal_doors.proofs.condition.is_first.Goals as goal

pub returns-then-first-bound : goal.returns-then-first-bound
returns-then-first-bound c = λ _ x is.
    let cast : to_z w64 (of_z w64 c.first_bound-bound.result) ≡ c.first_bound-bound.result = to_z-of_z {w = w64} (record { sfits = c.first_bound-bound.type_inv }) in
    let first = to_z-of_z c.ranges.first in
    let l = c.first_bound-bound.ensures.bound x is in
    (omega (arith, signed_arith, cast, first, l, c.if-first-bound.true), λ e. absurd (omega (arith, signed_arith, cast, first, l, e, c.if-first-bound.true)))

pub returns : goal.returns
returns c = λ h x is.
    let cast : to_z w64 (of_z w64 c.first_bound-bound.result) ≡ c.first_bound-bound.result = to_z-of_z {w = w64} (record { sfits = c.first_bound-bound.type_inv }) in
    let first = to_z-of_z c.ranges.first in
    let l = c.first_bound-bound.ensures.bound x is in
    (omega (arith, signed_arith, cast, first, l, c.if-bound-first.false), λ _. (rw (to_z-of_z c.ranges.offset) at (c.ends.ensures h)) x is)
