use Rattle.std.proofs.Common.{◌≡◌, ◌∙◌, ◌++◌, ◌∷◌, [], sym, ap, get_or, ℤ, pos, FitsSigned, to_z, of_z, w64, to_z-of_z, rules}
use Rattle.std.specs.Prelude.{Contains}
use Rattle.std.proofs.lemmas.Bool.{true≢false}
use Rattle.std.proofs.lemmas.List.{get_or_default}
use Rattle.cal_events.specs.MeetingComponents.{IsInEventDates}
use Rattle.cal_events.proofs.shared_lemmas.HiddenLemmas.{kept_more, kept_past, kept_whole}
use Rattle.cal_events.proofs.recurrence.starts_of.Goals as goal

pub loop-instant-preserved-then-not-is_start : goal.loop-instant-preserved-then-not-is_start
loop-instant-preserved-then-not-is_start c =
    let xs = c.args.instants.now in
    let k = c.loop-instant.instant-index in
    let x = get_or xs k (pos 0) in
    let fits : FitsSigned w64 x = search rules in
    let cast : to_z w64 (of_z w64 x) ≡ x = to_z-of_z fits in
    let P : ℤ → Type 0 = λ t. IsInEventDates t × (Contains c.args.exceptions.now t → ⊥) in
    kept_past P xs c.loop-instant.starts.items k x c.loop-instant-test.true (get_or_default xs k x (pos 0) c.loop-instant-test.true) c.loop-instant.invariant
    (λ p. true≢false (sym (c.is_start.ensures.1 (rw cast p)) ∙ c.if-not-is_start.true))

pub loop-instant-preserved : goal.loop-instant-preserved
loop-instant-preserved c =
    let xs = c.args.instants.now in
    let k = c.loop-instant.instant-index in
    let x = get_or xs k (pos 0) in
    let fits : FitsSigned w64 x = search rules in
    let cast : to_z w64 (of_z w64 x) ≡ x = to_z-of_z fits in
    let P : ℤ → Type 0 = λ t. IsInEventDates t × (Contains c.args.exceptions.now t → ⊥) in
    kept_more P xs c.loop-instant.starts.items k x c.loop-instant-test.true (get_or_default xs k x (pos 0) c.loop-instant-test.true) c.loop-instant.invariant c.push.new.self.items
    (c.in_ok-push.ensures.items ∙ ap (λ (z : ℤ). c.loop-instant.starts.items ++ z ∷ []) cast) (rw cast at (c.is_start.ensures.0 c.if-not-is_start.false))

pub returns : goal.returns
returns c =
    kept_whole (λ t. IsInEventDates t × (Contains c.args.exceptions.now t → ⊥)) c.args.instants.now c.loop-instant.starts.items c.of.result c.loop-instant.instant-index c.loop-instant-test.false
    c.loop-instant.invariant c.of.ensures.same
