use Rattle.std.proofs.Common.{◌≡◌, subst, inl, inr, arith, pos, negsuc, ◌-ℤ◌, ◌≤ℤ◌, to_z, of_z, w64, to_z-of_z}
use Rattle.std.proofs.lemmas.Int.{ints, clamps}
use Rattle.cal_doors.proofs.UsesTexts.{earlier_back}
use Rattle.cal_doors.proofs.uses.earliest_of.Goals as goal

pub returns-clause-local : goal.returns-clause-local
returns-clause-local c = λ local s.
    let own = c.local_in.ensures.value local in
    let midnight = c.midnight_in.ensures.value local in
    let one : to_z w64 (of_z w64 c.local_in.result) ≡ c.local_in.result = to_z-of_z {w = w64} (record { sfits = c.local_in.type_inv }) in
    let other : to_z w64 (of_z w64 c.midnight_in.result) ≡ c.midnight_in.result = to_z-of_z {w = w64} (record { sfits = c.midnight_in.type_inv }) in
    let both : to_z w64 (of_z w64 c.min-local.result) ≡ c.min-local.result = to_z-of_z {w = w64} (record { sfits = c.min-local.type_inv }) in
    let least : to_z w64 (of_z w64 c.min.result) ≡ c.min.result = to_z-of_z {w = w64} (record { sfits = c.min.type_inv }) in
    let value = c.min-local.ensures.value in
    let first = c.min-local.ensures.self_bound in
    let second = c.min-local.ensures.other_bound in
    let low = c.local_in.ensures.range in
    let low_midnight = c.midnight_in.ensures.range in
    let from : negsuc 62_135_596_799 ≤ℤ c.min-local.result = omega (arith, ints, clamps, value, one, other, low, low_midnight) in
    let kept = c.min-local.type_inv in
    let upto : c.min-local.result ≤ℤ pos 9_223_372_036_854_775_807 = omega (arith, ints, kept) in
    let less = earlier_back c.min-local.result from upto in
    let bound = subst (λ x. c.min.result ≤ℤ to_z w64 (of_z w64 (x -ℤ pos 86_399))) both c.min.ensures.self_bound in
    elim s [
      | inl l ↦ let e = own l in rw least (omega (arith, ints, e, one, both, less, first, bound))
      | inr d ↦ let e = midnight d in rw least (omega (arith, ints, e, other, both, less, second, bound))
    ]

pub returns-clause-utc : goal.returns-clause-utc
returns-clause-utc c = λ instant s.
    let i = c.instant_in.ensures instant s in
    let said : to_z w64 (of_z w64 c.instant_in.result) ≡ c.instant_in.result = to_z-of_z {w = w64} (record { sfits = c.instant_in.type_inv }) in
    let least : to_z w64 (of_z w64 c.min.result) ≡ c.min.result = to_z-of_z {w = w64} (record { sfits = c.min.type_inv }) in
    let bound = c.min.ensures.other_bound in
    rw least (omega (arith, ints, i, said, bound))
