use Rattle.std.proofs.Common.{◌≡◌, ◌∙◌, ap, sym, subst, List, ℤ, pos, ◌++◌, ◌∷◌, [], ◌+◌, take, get_or, FitsSigned, to_z, of_z, w64, to_z-of_z, rules}
use Rattle.std.proofs.lemmas.Bool.{true≢false}
use Rattle.std.proofs.lemmas.List.{get_or_default}
use Rattle.std.specs.Prelude.{IsTrue, Contains, ◌↔◌}
use Rattle.std.specs.Ordering.{int_cmp}
use Rattle.std.specs.List.Sorted.{IsSorted}
use Rattle.cal_events.specs.Component.{component_of}
use Rattle.cal_events.specs.SingleStarts.{IsCandidate, IsLast}
use Rattle.cal_events.proofs.single_starts_lemmas.SingleStartLemmas.{AreSoFar, one_more, none_more, once_more, all_starts}
use Rattle.cal_events.proofs.single_starts.single_starts.Goals as goal
use Rattle.cal_events.proofs.single_starts.single_starts.Goals.{then-not-is_last+then-is_single+in_ok-push, else-not-is_last, else-not-is_last-via-then-not-is_last+else-is_single, else-not-is_last-via-else-not-is_last}

pub is_single-requires-clause-hidden : goal.is_single-requires-clause-hidden
is_single-requires-clause-hidden c = λ t.
    subst (λ (l : List ℤ). Contains c.of-hidden.result t ↔ Contains l t) (c.in_ok-copied.ensures ∙ c.deref.ensures.value) (c.of-hidden.ensures.same t)

pub loop-instant-preserved : goal.loop-instant-preserved
loop-instant-preserved c =
    let event = component_of c.args.master.now in
    let xs = c.sorted-instant-items.result.now in
    let k = c.loop-instant.instant-index in
    let x = get_or xs k (pos 0) in
    let fits : FitsSigned w64 x = search rules in
    let cast : to_z w64 (of_z w64 x) ≡ x = to_z-of_z fits in
    let here = get_or_default xs k x (pos 0) c.loop-instant-test.true in
    let starts = c.loop-instant.starts.items in
    let up : IsSorted int_cmp xs = subst (IsSorted int_cmp) (sym c.sorted-instant-items.ensures) (subst (IsSorted int_cmp) c.candidates-2.view_is c.candidates-2.invariant.0) in
    let last = subst (λ (l : List ℤ). IsTrue c.is_last.result ↔ IsLast l x) c.deref-in-loop-instant.ensures.value (rw cast at c.is_last.ensures) in
    elim c.if-not-is_last.branch [
      | then-not-is_last+then-is_single+in_ok-push w ↦ one_more event xs starts up k x c.loop-instant-test.true here c.loop-instant.invariant c.if-not-is_last.starts.items
          (ap (λ v. v.items) w.starts-is ∙ w.in_ok-push.ensures.items ∙ ap (λ (z : ℤ). starts ++ z ∷ []) cast) (λ l. true≢false (sym (last.1 l) ∙ w.if-not-is_last.true)) (rw cast at (w.is_single.ensures.0 w.if-is_single.true))
      | else-not-is_last w ↦ subst (AreSoFar event (take (k + 1) xs)) (sym (ap (λ v. v.items) w.starts-is)) (elim w.else-not-is_last.branch [
        | else-not-is_last-via-then-not-is_last+else-is_single v ↦ none_more event xs starts up k x c.loop-instant-test.true here c.loop-instant.invariant (λ p. true≢false (sym (v.is_single.ensures.1 (rw cast p)) ∙ v.if-is_single.false))
        | else-not-is_last-via-else-not-is_last v ↦ once_more event xs starts up k x c.loop-instant-test.true here c.loop-instant.invariant (last.0 v.if-not-is_last.false)
      ])
    ]

pub returns : goal.returns
returns c =
    let event = component_of c.args.master.now in
    all_starts event c.sorted-instant-items.result.now c.loop-instant.starts.items c.loop-instant.instant-index c.loop-instant-test.false
    (subst (λ (l : List ℤ). (t : ℤ) → Contains l t ↔ IsCandidate event t) (sym c.sorted-instant-items.ensures) c.in_ok-candidates.ensures) c.loop-instant.invariant
