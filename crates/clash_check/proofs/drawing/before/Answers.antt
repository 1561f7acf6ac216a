use Rattle.std.proofs.Common.{◌≡◌, subst, rules, to_z, of_z, w64, FitsSigned, to_z-of_z}
use Rattle.std.specs.Prelude.{◌<ℤ◌}
use Rattle.std.proofs.lemmas.Int.{ints}
use Rattle.clash_check.specs.Opened.{IsFirstSpanFrom}
use Rattle.clash_check.proofs.DrawLemmas.{first_before}
use Rattle.clash_check.proofs.drawing.before.Goals as goal

pub returns-then-start-bound-clause-first : goal.returns-then-start-bound-clause-first
returns-then-start-bound-clause-first c = λ series from first.
    let start = c.in_ok-start.start in
    let end = c.in_ok-start.end in
    let fits : FitsSigned w64 start = search rules in
    let cast : to_z w64 (of_z w64 start) ≡ start = to_z-of_z fits in
    let fits_end : FitsSigned w64 end = search rules in
    let cast_end : to_z w64 (of_z w64 end) ≡ end = to_z-of_z fits_end in
    let bound : to_z w64 (of_z w64 c.args.bound) ≡ c.args.bound = to_z-of_z c.ranges.bound in
    let is = rw (cast, bound) at c.if-start-bound.true in
    let less : start <ℤ c.args.bound = search (ints, rules) in
    rw (cast, cast_end) (first_before series from c.args.bound start end (subst (IsFirstSpanFrom series from) c.in_ok-start.was first) less)
