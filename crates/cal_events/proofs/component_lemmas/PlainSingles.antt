-- Of events without a rule each instance is a single.
-- Behind EventComponent::singles, EventComponent::singles_at.
use Rattle.std.proofs.Common.{◌≡◌, ◌∙◌, ℕ, zero, Bool, true, false, cond, List, [], ◌∷◌, filter, sym, refl, ap, arith}
use Rattle.std.specs.Prelude.{Option, None, All, is_some, ◌&&◌}
use Rattle.std.proofs.lemmas.Bool.{true≢false}
use Rattle.std.proofs.lemmas.List.Elements.{All-tail}
use Rattle.profile.specs.checker.Instances.{Instance}
use Rattle.profile.specs.series.Rules.{Rule}
use Rattle.profile.specs.events.EventComponents.{EventComponent}
use Rattle.profile.specs.events.Events.{is_master}
use Rattle.profile.specs.events.Confirmed.{is_kept, is_series, IsOfSeries}

abbrev pub IsOnce : EventComponent → Type 0
IsOnce event = event.rule ≡ None

pub no_rule : (event : EventComponent) (b : Instance) → IsOnce event → IsOfSeries event b → ⊥
no_rule event b once series = true≢false (sym (ap (λ (o : Option Rule). is_some o) series.has) ∙ ap (λ (o : Option Rule). is_some o) once)

no_series : (room : List ℕ) (es : List EventComponent) → All IsOnce es → filter (is_series room) es ≡ []
no_series room [] h = refl
no_series room (e ∷ es) h =
    ap (λ b. cond b (e ∷ filter (is_series room) es) (filter (is_series room) es)) (never (is_kept room e && is_master e) (ap (λ (o : Option Rule). is_some o) (h zero e (omega arith))))
    ∙ no_series room es (All-tail IsOnce e es h)
  where
    never : (a : Bool) {b : Bool} → b ≡ false → (a && b) ≡ false
    never true h = h
    never false h = refl
