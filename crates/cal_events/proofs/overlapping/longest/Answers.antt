use Rattle.std.proofs.Common.{◌≡◌, ◌∙◌, sym, subst, List, pos, ◌^◌, ◌≤ℤ◌, ◌<ℤ◌, to_z, of_z, w64, FitsSigned, rules, to_z-of_z}
use Rattle.std.specs.Prelude.{None, Some}
use Rattle.std.specs.Int.{int_max}
use Rattle.std.proofs.lemmas.Option.{same_Some}
use Rattle.cal_events.specs.declared.component.EventComponent.{EventComponent}
use Rattle.cal_events.specs.declared.recurrence.Recurrence.{Recurrence}
use Rattle.cal_events.specs.Component.{times_of}
use Rattle.cal_events.specs.Overlapping.{LastAtMost}
use Rattle.cal_events.proofs.shared_lemmas.Overlaps.{AllLast, lasts_longer, instance_lasts, later_of, between}
use Rattle.cal_events.proofs.overlapping.longest.Goals as goal

pub returns-in-Some-clause-bound : goal.returns-in-Some-clause-bound
returns-in-Some-clause-bound c =
    let r = c.max.result in
    let n = c.width.result in
    let v = c.longest_of-of_overrides.result in
    let fits : FitsSigned w64 r = search rules in
    let cast : to_z w64 (of_z w64 r) ≡ r = to_z-of_z fits in
    let fits_n : FitsSigned w64 n = search rules in
    let cast_n : to_z w64 (of_z w64 n) ≡ n = to_z-of_z fits_n in
    let fits_v : FitsSigned w64 v = search rules in
    let cast_v : to_z w64 (of_z w64 v) ≡ v = to_z-of_z fits_v in
    let is : r ≡ int_max n v = rw (cast_n, cast_v) at c.max.ensures.value in
    let latest = later_of n v r is in
    let own : n ≤ℤ r = latest.0 in
    let others : v ≤ℤ r = latest.1 in
    let all = subst (λ (l : List EventComponent). AllLast l v) c.as_slice.ensures.value c.longest_of-of_overrides.ensures.bound in
    rw cast
    (instance_lasts c.args.event.now r
    (λ d e. subst (λ (x : Recurrence). LastAtMost (times_of x.times) r) (same_Some c.in-Some.recurrence d (sym c.in-Some.is ∙ e)) (lasts_longer (times_of c.in-Some.recurrence.times) n r own c.width.ensures.bound))
    (λ o k. lasts_longer (times_of o.times) v r others (all o k)))

pub returns-in-Some-clause-range : goal.returns-in-Some-clause-range
returns-in-Some-clause-range c =
    let r = c.max.result in
    let n = c.width.result in
    let v = c.longest_of-of_overrides.result in
    let fits : FitsSigned w64 r = search rules in
    let cast : to_z w64 (of_z w64 r) ≡ r = to_z-of_z fits in
    let fits_n : FitsSigned w64 n = search rules in
    let cast_n : to_z w64 (of_z w64 n) ≡ n = to_z-of_z fits_n in
    let fits_v : FitsSigned w64 v = search rules in
    let cast_v : to_z w64 (of_z w64 v) ≡ v = to_z-of_z fits_v in
    let is : r ≡ int_max n v = rw (cast_n, cast_v) at c.max.ensures.value in
    let own : (pos 0 ≤ℤ n) × (n <ℤ pos (2 ^ 50)) = c.width.ensures.range in
    let others : (pos 0 ≤ℤ v) × (v <ℤ pos (2 ^ 50)) = c.longest_of-of_overrides.ensures.range in
    rw cast (between n v r is own others)

pub returns-in-None-clause-bound : goal.returns-in-None-clause-bound
returns-in-None-clause-bound c =
    let v = c.longest_of-of_overrides.result in
    let fits_v : FitsSigned w64 v = search rules in
    let cast_v : to_z w64 (of_z w64 v) ≡ v = to_z-of_z fits_v in
    let all = subst (λ (l : List EventComponent). AllLast l v) c.as_slice.ensures.value c.longest_of-of_overrides.ensures.bound in
    rw cast_v (instance_lasts c.args.event.now v (λ d e. absurd (nothing d (sym c.in-None.is ∙ e))) all)
  where
    nothing : (d : Recurrence) → None ≡ Some d → ⊥
    nothing d e = cc
