use Rattle.std.proofs.Common.{Bool, sym, subst, ◌≡◌, true, false, to_z, of_z, w64, FitsSigned, rules, to_z-of_z}
use Rattle.std.specs.Prelude.{◌↔◌, IsTrue}
use Rattle.std.specs.Int.{int_max}
use Rattle.profile.specs.events.Starts.{Overlaps}
use Rattle.cal_events.proofs.shared_lemmas.Overlaps.{overlaps_where}
use Rattle.cal_events.proofs.overlapping.overlaps.Goals as goal

pub returns-then-first-end : goal.returns-then-first-end
returns-then-first-end c =
    let first = c.max-first.result in
    let from = c.args.span.start in
    let to = c.args.span.end in
    let fits : FitsSigned w64 first = search rules in
    let cast : to_z w64 (of_z w64 first) ≡ first = to_z-of_z fits in
    let start : to_z w64 (of_z w64 c.args.start) ≡ c.args.start = to_z-of_z c.ranges.start in
    let end : to_z w64 (of_z w64 c.args.end) ≡ c.args.end = to_z-of_z c.ranges.end in
    let fits_from : FitsSigned w64 from = search rules in
    let cast_from : to_z w64 (of_z w64 from) ≡ from = to_z-of_z fits_from in
    let fits_to : FitsSigned w64 to = search rules in
    let cast_to : to_z w64 (of_z w64 to) ≡ to = to_z-of_z fits_to in
    let is : first ≡ int_max c.args.start from = rw (start, cast_from) at c.max-first.ensures.value in
    let test = rw (cast, end) at c.if-first-end.true in
    rw (cast, cast_to) (overlaps_where first c.args.start c.args.end from to true test is)

pub returns-else-first-end : goal.returns-else-first-end
returns-else-first-end c =
    let first = c.max-first.result in
    let from = c.args.span.start in
    let to = c.args.span.end in
    let fits : FitsSigned w64 first = search rules in
    let cast : to_z w64 (of_z w64 first) ≡ first = to_z-of_z fits in
    let start : to_z w64 (of_z w64 c.args.start) ≡ c.args.start = to_z-of_z c.ranges.start in
    let end : to_z w64 (of_z w64 c.args.end) ≡ c.args.end = to_z-of_z c.ranges.end in
    let fits_from : FitsSigned w64 from = search rules in
    let cast_from : to_z w64 (of_z w64 from) ≡ from = to_z-of_z fits_from in
    let fits_to : FitsSigned w64 to = search rules in
    let cast_to : to_z w64 (of_z w64 to) ≡ to = to_z-of_z fits_to in
    let is : first ≡ int_max c.args.start from = rw (start, cast_from) at c.max-first.ensures.value in
    let test = rw (cast, end) at c.if-first-end.false in
    subst (λ (b : Bool). IsTrue b ↔ Overlaps c.args.start c.args.end from to) (sym c.if-first-end.false) (overlaps_where first c.args.start c.args.end from to false test is)
