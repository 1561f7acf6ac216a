use Rattle.std.proofs.Common.{◌∙◌, ◌++◌, ◌∷◌, [], List, ℤ, ap, not, to_z, of_z, w64, rules}
use Rattle.cal_events.specs.Component.{component_of}
use Rattle.cal_events.proofs.shared_lemmas.DraftKeys.{none_there}
use Rattle.cal_events.proofs.single_starts_lemmas.SingleStartLemmas.{with_dtstart, without_dtstart}
use Rattle.cal_events.proofs.single_starts.candidates.Goals as goal
use Rattle.cal_events.proofs.single_starts.candidates.Goals.{then-is_none+in_ok-push, else-is_none}

pub returns : goal.returns
returns c =
    let master = component_of c.args.master.now in
    let xs = c.if-is_none.instants.items in
    let copied = c.in_ok-instants.ensures ∙ c.deref.ensures.value in
    elim c.if-is_none.branch [
      | then-is_none+in_ok-push w ↦ with_dtstart master xs c.of.result c.of.ensures.same (none_there c.args.master.now.rule (c.is_none.ensures ∙ ap not w.if-is_none.true))
          (ap (λ v. v.items) w.instants-is ∙ w.in_ok-push.ensures.items ∙ (ap (λ (l : List ℤ). l ++ to_z w64 (of_z w64 w.instant.result) ∷ []) copied ∙ ap (λ (t : ℤ). c.args.master.now.additions.items ++ t ∷ []) (search rules)))
      | else-is_none w ↦ without_dtstart master xs c.of.result c.of.ensures.same (c.is_none.ensures ∙ ap not w.if-is_none.false) (ap (λ v. v.items) w.instants-is ∙ copied)
    ]
