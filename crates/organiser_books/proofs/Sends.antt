-- An object that is sent to some, and nothing where there is nobody.
use Rattle.std.proofs.Common.{◌≡◌, ◌∙◌, ℕ, max, List, [], ◌∷◌, ◌++◌, length, refl, ap, arith}
use Rattle.std.specs.List.{AllZip}
use Rattle.profile.specs.organisers.Organisers.{Sends}
use Rattle.itip_messages.specs.declared.message_component.MessageComponent.{MessageComponent}
use Rattle.organiser_books.specs.Storing.{own_in, sent_to}

pub sends : (IsSuch : List ℕ → Type 0) (to : List (List ℕ)) (octets : List ℕ) → IsSuch octets → Sends IsSuch to (sent_to to octets)
sends IsSuch [] octets is = refl
sends IsSuch (x ∷ xs) octets is = (octets, is, refl)

pub nobody : {X : Type 0} (xs : List X) → length xs ≡ 0 → xs ≡ []
nobody [] e = refl
nobody (x ∷ xs) e = absurd (omega (arith, e))

-- octets that were copied are the same
pub copied : (xs ys : List ℕ) → AllZip (λ x y. y ≡ x) xs ys → ys ≡ xs
copied [] [] z = refl
copied [] (y ∷ ys) z = absurd z
copied (x ∷ xs) [] z = absurd z
copied (x ∷ xs) (y ∷ ys) z = λ i. z.0 i ∷ copied xs ys z.1 i

-- ---- the greatest of numbers

pub own_push : (xs : List MessageComponent) (x : MessageComponent) → own_in (xs ++ x ∷ []) ≡ max (own_in xs) x.revision.sequence
own_push [] x = omega arith
own_push (y ∷ ys) x = ap (max y.revision.sequence) (own_push ys x) ∙ omega arith
