use Rattle.std.proofs.Common.{◌≢◌, subst, ℤ, List, arith}
use Rattle.std.specs.Prelude.{AllPairs, MatchBool}
use Rattle.cal_events.proofs.meeting_components_lemmas.SlotLemmas.{form_end}
use Rattle.cal_events.specs.Component.{form_of}
use Rattle.cal_events.proofs.meeting_components.share_form.Goals as goal

pub returns : goal.returns
returns c =
    let b = c.has_twins.result in
    subst (λ (l : List ℤ). MatchBool b (AllPairs ◌≢◌ l → ⊥) (AllPairs ◌≢◌ l)) (form_end (form_of c.args.form) c.args.times.now c.loop-time.time-index c.loop-time.instants.items (omega (arith, c.loop-time-test.false)) c.loop-time.invariant)
    c.has_twins.ensures
