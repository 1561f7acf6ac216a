-- A run that is there twice adds nothing. For `date_at_start_adds_nothing`.
use Rattle.std.proofs.Common.{◌≡◌, ◌∙◌, sym, subst, arith, inl, inr, ◌⊎◌, zero, suc, ◌<◌, List, [], ◌∷◌, ◌++◌, None}
use Rattle.std.specs.Prelude.{Contains}
use Rattle.jiff_core.proofs.SignedLemmas.{signed_arith}
use Rattle.profile.specs.series.Zones.{Observance, Onset, local_time}
use Rattle.profile.specs.series.GeneralZones.{Run, Never, IsRunOnset, IsGeneralOnset}
use Rattle.profile.specs.series.GeneralZoneTexts.{IsRunAt}
use Rattle.cal_doors.specs.After.{AreSameZones}
use Rattle.cal_doors.proofs.General.{in_force, means}

same_run : (o : Observance) (again : Run) → o.rule ≡ None → o.second < 86_400 → IsRunAt o (local_time o.day o.second) again → again ≡ record { observance = o; end = Never }
same_run o again none low at =
    let there : local_time at.day at.second ≡ local_time o.day o.second = at.at in
    let within : at.second < 86_400 = at.in_day in
    let day : at.day ≡ o.day = omega (arith, signed_arith, there, within, low) in
    let second : at.second ≡ o.second = omega (arith, signed_arith, there, within, low) in
    let rule = sym none in
    at.is ∙ (λ i. record {
      observance = record { day = day i; second = second i; rule = rule i; offset_from = o.offset_from; offset_to = o.offset_to };
      end = Never;
    })

in_either : (before after : List Run) (again r : Run) → Contains (before ++ again ∷ after) r → (again ≡ r) ⊎ Contains (before ++ after) r
in_either [] after again r (zero, w, e) = inl e
in_either [] after again r (suc k, w, e) = inr (k, omega (arith, w), e)
in_either (b ∷ before) after again r (zero, w, e) = inr (zero, omega arith, e)
in_either (b ∷ before) after again r (suc k, w, e) =
    elim (in_either before after again r (k, omega (arith, w), e)) [
      | inl h ↦ inl h
      | inr h ↦ inr (suc h.0, omega (arith, h.1), h.2)
    ]

in_more : (before after : List Run) (again r : Run) → Contains (before ++ after) r → Contains (before ++ again ∷ after) r
in_more [] after again r (k, w, e) = (suc k, omega (arith, w), e)
in_more (b ∷ before) after again r (zero, w, e) = (zero, omega arith, e)
in_more (b ∷ before) after again r (suc k, w, e) =
    let h = in_more before after again r (k, omega (arith, w), e) in
    (suc h.0, omega (arith, h.1), h.2)

pub adds_nothing : (o : Observance) (again : Run) (before after : List Run) → o.rule ≡ None → o.second < 86_400 → IsRunAt o (local_time o.day o.second) again
    → Contains (before ++ after) (record { observance = o; end = Never }) → AreSameZones (before ++ again ∷ after) (before ++ after)
adds_nothing o again before after none low at is_there = record {
  offset = λ t p. (in_force A B there back t p, in_force B A back there t p);
  meaning = λ local t. (means A B there back local t, means B A back there local t);
}
  where
    A : Onset → Type 0
    A = IsGeneralOnset (before ++ again ∷ after)

    B : Onset → Type 0
    B = IsGeneralOnset (before ++ after)

    there : (x : Onset) → A x → B x
    there x (r, c, on) =
        elim (in_either before after again r c) [
          | inl h ↦ (record { observance = o; end = Never }, is_there, subst (λ s. IsRunOnset s x) (sym h ∙ same_run o again none low at) on)
          | inr k ↦ (r, k, on)
        ]

    back : (x : Onset) → B x → A x
    back x (r, c, on) = (r, in_more before after again r c, on)
