use Rattle.std.proofs.Common.{◌∙◌, ℤ, refl, sym, subst, rules, w64, FitsSigned}
use Rattle.std.specs.Prelude.{◌↔◌, ◌≤ℤ◌, Some, None}
use Rattle.std.proofs.lemmas.Bool.{true≢false}
use Rattle.std.proofs.lemmas.Int.{to_z-of_z}
use Rattle.profile.specs.checker.Instances.{Instance}
use Rattle.profile.specs.events.Starts.{IsInstance}
use Rattle.cal_events.specs.Calendar.{owned_key_of}
use Rattle.cal_events.specs.Left.{IsLeft}
use Rattle.cal_events.specs.Series.{series_said}
use Rattle.clash_check.proofs.ClashLemmas.{none_at, other_at, it_is, any_none}
use Rattle.clash_check.proofs.checking.at_slot.Goals as goal

pub returns-in_err-first-clause-none : goal.returns-in_err-first-clause-none
returns-in_err-first-clause-none c =
    let s = series_said c.args.series.now in
    let key = owned_key_of c.args.key.now in
    let fits : FitsSigned w64 key.slot = search rules in
    let left = subst (λ (t : ℤ). (b : Instance) → IsLeft c.starts-starts.result b ↔ (IsInstance s b × (t ≤ℤ b.start))) (to_z-of_z w64 key.slot fits) c.starts-starts.ensures.left in
    any_none c.from_residual.result _ (none_at s (c.known_by_start.ensures c.args.series.now) key c.starts-starts.result left None c.next.new.self c.in_err-first.ensures.steps refl)

pub returns-then-has_key-clause-found : goal.returns-then-has_key-clause-found
returns-then-has_key-clause-found c =
    let s = series_said c.args.series.now in
    let key = owned_key_of c.args.key.now in
    let fits : FitsSigned w64 key.slot = search rules in
    let left = subst (λ (t : ℤ). (b : Instance) → IsLeft c.starts-starts.result b ↔ (IsInstance s b × (t ≤ℤ b.start))) (to_z-of_z w64 key.slot fits) c.starts-starts.ensures.left in (
      it_is s (c.known_by_start.ensures c.args.series.now) key c.starts-starts.result left (Some c.in_ok-first.first) c.in_ok-first.first c.next.new.self c.in_ok-first.ensures.steps refl,
      c.has_key.ensures.0 c.if-has_key.true,
    )

pub returns-else-has_key-clause-none : goal.returns-else-has_key-clause-none
returns-else-has_key-clause-none c =
    let s = series_said c.args.series.now in
    let key = owned_key_of c.args.key.now in
    let fits : FitsSigned w64 key.slot = search rules in
    let left = subst (λ (t : ℤ). (b : Instance) → IsLeft c.starts-starts.result b ↔ (IsInstance s b × (t ≤ℤ b.start))) (to_z-of_z w64 key.slot fits) c.starts-starts.ensures.left in
    other_at s (c.known_by_start.ensures c.args.series.now) key c.starts-starts.result left (Some c.in_ok-first.first) c.in_ok-first.first c.next.new.self c.in_ok-first.ensures.steps refl
    (λ k. true≢false (sym (c.has_key.ensures.1 k) ∙ c.if-has_key.false))
