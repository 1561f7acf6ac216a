use Rattle.std.proofs.Common.{◌≡◌, List, ℤ, pos, ◌+ℤ◌, ap, subst, to_z, of_z, w64, FitsSigned, rules, to_z-of_z, arith}
use Rattle.std.proofs.lemmas.Int.{ints}
use Rattle.profile.specs.series.Zones.{Zone}
use Rattle.profile.specs.events.Spans.{IsPastOnsets}
use Rattle.cal_events.specs.Recurrence.{recurring}
use Rattle.cal_events.specs.Past.{ArePast, IsFirstPast}
use Rattle.cal_events.proofs.regular_lemmas.Past.{all_past}
use Rattle.cal_events.proofs.regular.regular_from.Goals as goal

pub returns : goal.returns
returns c =
    let master = recurring c.args.recurrence.now in
    let t = c.instant-after_start.result in
    let a = t +ℤ pos 1 in
    let b = c.past_onsets-after_onsets.result in
    let e = c.past_exceptions-after_exceptions.result in
    let d = c.past_rule.result in
    let fits_t : FitsSigned w64 t = search rules in
    let fits_b : FitsSigned w64 b = search rules in
    let fits_e : FitsSigned w64 e = search rules in
    let fits_d : FitsSigned w64 d = search rules in
    let same_t : to_z w64 (of_z w64 t) ≡ t = to_z-of_z fits_t in
    let same_a : to_z w64 (of_z w64 a) ≡ a = omega (arith, ints, c.instant-after_start.ensures.range) in
    let same_b : to_z w64 (of_z w64 b) ≡ b = to_z-of_z fits_b in
    let same_e : to_z w64 (of_z w64 e) ≡ e = to_z-of_z fits_e in
    let same_d : to_z w64 (of_z w64 d) ≡ d = to_z-of_z fits_d in
    let first : a ≡ master.times.start +ℤ pos 1 = ap (λ x. x +ℤ pos 1) c.instant-after_start.ensures.value in
    let onsets = subst (λ (z : Zone). IsFirstPast a (IsPastOnsets z) b) c.clock.ensures (rw (same_t, same_a) at c.past_onsets-after_onsets.ensures) in
    let exceptions = subst (λ (l : List ℤ). IsFirstPast b (ArePast l) e) c.sorted.ensures (rw same_b at c.past_exceptions-after_exceptions.ensures) in
    let rule = rw same_e at c.past_rule.ensures in
    rw same_d (all_past master a b e d first onsets exceptions rule)
