-- A line without the CR at its end.
use Rattle.std.proofs.Common.{◌≡◌, ◌≢◌, ◌∙◌, ap, sym, refl, ℕ, List, [], ◌∷◌, ◌++◌, Option, Some, None, inl, inr, Bor}
use Rattle.std.specs.Prelude.{MatchOption}
use Rattle.std.specs.Option.{unwrap_or}
use Rattle.std.proofs.lemmas.Bool.Decides.{eqb_tells}
use Rattle.profile.specs.text.Lines.{without_return}
use Rattle.ical_lines.proofs.CutLemmas.{without_return-cons, without_return-other}
use Rattle.ical_lines.proofs.ReadBackLemmas.{without-return}

-- one that ends otherwise stays as it is
kept_return : (line : List ℕ) → ((front : List ℕ) → line ≢ front ++ (13 ∷ [])) → without_return line ≡ line
kept_return [] h = refl
kept_return (x ∷ []) h = elim (eqb_tells x 13) [ inl e ↦ absurd (h [] (ap (λ (z : ℕ). z ∷ []) e.1)) | inr e ↦ without_return-other x [] e.0 ]
kept_return (x ∷ y ∷ rest) h =
    without_return-cons x y rest ∙ ap (λ (z : List ℕ). x ∷ z) (kept_return (y ∷ rest) (λ front e. h (x ∷ front) (ap (λ (z : List ℕ). x ∷ z) e)))

pub cut_return : (line : Bor (List ℕ)) (r : Option (Bor (List ℕ))) → MatchOption r ((front : List ℕ) → line.now ≢ front ++ (13 ∷ [])) (λ b. line.now ≡ b.now ++ (13 ∷ [])) → (unwrap_or r line).now ≡ without_return line.now
cut_return line (Some b) e = sym (ap without_return e ∙ without-return b.now)
cut_return line None h = sym (kept_return line.now h)
