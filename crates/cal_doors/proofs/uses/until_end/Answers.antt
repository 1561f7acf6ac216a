use Rattle.std.proofs.Common.{◌≡◌, ◌∙◌, ap, arith, rules, pos, ◌+ℤ◌, ◌*ℤ◌, to_z, of_z, w64, FitsSigned, to_z-of_z}
use Rattle.std.specs.Prelude.{Some}
use Rattle.std.proofs.lemmas.Int.{ints}
use Rattle.cal_rules.specs.Views.{until_of}
use Rattle.profile.specs.doors.Uses.RuleEndsBy.{by_day, by_local, by_instant}
use Rattle.cal_doors.proofs.uses.until_end.Goals as goal

pub returns-in-Date : goal.returns-in-Date
returns-in-Date c = λ rule ends.
    let n = c.number.result in
    let fits : FitsSigned w64 n = search rules in
    let cast : to_z w64 (of_z w64 n) ≡ n = to_z-of_z fits in
    let fits_times : FitsSigned w64 (n *ℤ pos 86400) = search rules in
    let cast_times : to_z w64 (of_z w64 (n *ℤ pos 86400)) ≡ n *ℤ pos 86400 = to_z-of_z fits_times in
    let fits_more : FitsSigned w64 ((n *ℤ pos 86400) +ℤ pos 86400) = search rules in
    let cast_more : to_z w64 (of_z w64 ((n *ℤ pos 86400) +ℤ pos 86400)) ≡ (n *ℤ pos 86400) +ℤ pos 86400 = to_z-of_z fits_more in
    by_day _ (ends ∙ ap (λ u. Some (until_of u)) c.in-Date.is) (rw (cast, cast_times, cast_more) (omega (arith, ints, c.number.ensures.value)))

pub returns-in-Local : goal.returns-in-Local
returns-in-Local c = λ rule ends.
    let n = c.seconds.result in
    let fits : FitsSigned w64 n = search rules in
    let cast : to_z w64 (of_z w64 n) ≡ n = to_z-of_z fits in
    let fits_more : FitsSigned w64 (n +ℤ pos 172800) = search rules in
    let cast_more : to_z w64 (of_z w64 (n +ℤ pos 172800)) ≡ n +ℤ pos 172800 = to_z-of_z fits_more in
    by_local _ (ends ∙ ap (λ u. Some (until_of u)) c.in-Local.is) (rw (cast, cast_more) (omega (arith, ints, c.seconds.ensures.value)))

pub returns-in-Utc : goal.returns-in-Utc
returns-in-Utc c = λ rule ends.
    let n = c.instant.result in
    let fits : FitsSigned w64 n = search rules in
    let cast : to_z w64 (of_z w64 n) ≡ n = to_z-of_z fits in
    let fits_more : FitsSigned w64 (n +ℤ pos 86400) = search rules in
    let cast_more : to_z w64 (of_z w64 (n +ℤ pos 86400)) ≡ n +ℤ pos 86400 = to_z-of_z fits_more in
    by_instant _ (ends ∙ ap (λ u. Some (until_of u)) c.in-Utc.is) (rw (cast, cast_more) (omega (arith, ints, c.instant.ensures.value)))
