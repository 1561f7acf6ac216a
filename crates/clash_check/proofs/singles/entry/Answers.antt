use Rattle.std.proofs.Common.{◌≡◌, arith, subst, sym, pos, negsuc, ◌-ℤ◌, ◌≤ℤ◌, to_z, of_z, w64, FitsSigned, rules, to_z-of_z}
use Rattle.std.specs.Int.{saturate_signed}
use Rattle.std.proofs.lemmas.Int.{ints}
use Rattle.clash_check.specs.Singles.{IsEntryInstant}
use Rattle.clash_check.proofs.SingleLemmas.{entry_is}
use Rattle.clash_check.proofs.singles.entry.Goals as goal

pub returns : goal.returns
returns c =
    let fits : FitsSigned w64 c.saturating_sub.result = search rules in
    let cast : to_z w64 (of_z w64 c.saturating_sub.result) ≡ c.saturating_sub.result = to_z-of_z fits in
    let wide : FitsSigned w64 c.args.width = search rules in
    let cast_width : to_z w64 (of_z w64 c.args.width) ≡ c.args.width = to_z-of_z wide in
    let less : FitsSigned w64 (c.args.width -ℤ pos 1) = search rules in
    let cast_less : to_z w64 (of_z w64 (c.args.width -ℤ pos 1)) ≡ c.args.width -ℤ pos 1 = to_z-of_z less in
    let cast_instant : to_z w64 (of_z w64 c.args.instant) ≡ c.args.instant = to_z-of_z c.ranges.instant in
    let is : c.saturating_sub.result ≡ saturate_signed w64 (c.args.instant -ℤ (c.args.width -ℤ pos 1)) = rw (cast_instant, cast_width, cast_less) at c.saturating_sub.ensures in
    let range = c.ranges.instant in
    let least : negsuc 9_223_372_036_854_775_807 ≤ℤ c.args.instant = omega (arith, ints, range) in
    let most : c.args.instant ≤ℤ pos 9_223_372_036_854_775_807 = omega (arith, ints, range) in
    subst (IsEntryInstant c.args.instant c.args.width) (sym cast) (entry_is c.args.instant c.args.width c.saturating_sub.result least most c.requires.0 is)
