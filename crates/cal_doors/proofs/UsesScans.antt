-- What is so of each item of a list, while it is gone through.
use Rattle.std.proofs.Common.{◌≡◌, ◌∙◌, Bool, true, List, [], ◌∷◌, ◌++◌, filter, refl, ap, subst, inl, inr, arith}
use Rattle.std.specs.Prelude.{Contains}
use Rattle.std.proofs.lemmas.List.Elements.{Contains-push_cases, All-contains, All-filter, All-contains_itself, filter_passes}

pub none_in : {X : Type 0} (x : X) → Contains [] x → ⊥
none_in x (k, w, e) = omega (arith, w)

pub moved : {X : Type 0} (done : List X) (x : X) (rest : List X) → done ++ x ∷ rest ≡ (done ++ x ∷ []) ++ rest
moved [] x rest = refl
moved (d ∷ done) x rest = ap (λ l. d ∷ l) (moved done x rest)

pub all_done : {X : Type 0} (done : List X) → done ++ [] ≡ done
all_done [] = refl
all_done (d ∷ done) = ap (λ l. d ∷ l) (all_done done)

-- some are done, and others are left
pub record Scanned {X : Type 0} (P : X → Type 0) (whole left : List X) : Type 0 where
  pub done : List X
  pub are : whole ≡ done ++ left
  pub each : (x : X) → Contains done x → P x

pub none_scanned : {X : Type 0} (P : X → Type 0) (whole left : List X) → whole ≡ left → Scanned P whole left
none_scanned P whole left e = record { done = []; are = e; each = λ x h. absurd (none_in x h) }

pub one_scanned : {X : Type 0} (P Q : X → Type 0) (whole left rest : List X) (x : X) → left ≡ x ∷ rest → ((y : X) → P y → Q y) → Q x → Scanned P whole left
    → Scanned Q whole rest
one_scanned P Q whole left rest x is still now s = record {
  done = s.done ++ x ∷ [];
  are = s.are ∙ ap (λ l. s.done ++ l) is ∙ moved s.done x rest;
  each = λ y h. elim (Contains-push_cases s.done x y h) [ inl earlier ↦ still y (s.each y earlier) | inr same ↦ subst Q same now ];
}

pub all_scanned : {X : Type 0} (P : X → Type 0) (whole left : List X) → left ≡ [] → Scanned P whole left → (x : X) → Contains whole x → P x
all_scanned P whole left none s x h = s.each x (subst (λ l. Contains l x) (s.are ∙ ap (λ l. s.done ++ l) none ∙ all_done s.done) h)

-- ---- what passes a test

pub of_filtered : {X : Type 0} (p : X → Bool) (xs : List X) (x : X) → Contains (filter p xs) x → Contains xs x × (p x ≡ true)
of_filtered p xs x h = (
  All-contains (λ y. Contains xs y) (filter p xs) x (All-filter p (λ y. Contains xs y) xs (All-contains_itself xs)) h,
  All-contains (λ y. p y ≡ true) (filter p xs) x (filter_passes p xs) h,
)
