-- Zones that are kept as a set of keys: a key is found where its zone is, and is put after the others where it is new.
-- Cited by Zones::place_of.
use Rattle.std.proofs.Common.{◌≡◌, ◌∙◌, ℕ, Bool, true, false, not, ◌||◌, cond, List, [], ◌∷◌, ◌++◌, map, refl, sym, ap, get_or, Some}
use Rattle.std.specs.Prelude.{slice_get, option_map}
use Rattle.std.specs.List.{list_any, position}
use Rattle.std.specs.Str.{bytes_eq}
use Rattle.std.proofs.lemmas.Bool.{true≢false, false_from_ne_true}
use Rattle.std.proofs.lemmas.List.{map-append}
use Rattle.std.proofs.lemmas.List.Quantifiers.{position-Some}
use Rattle.std.proofs.lemmas.Option.{slice_get-get_or, slice_get-map}
use Rattle.std.proofs.lemmas.Slice.Eq.{bytes_eq-Decides}
use Rattle.itip_messages.specs.Zones.{with_zone}

-- the order of two texts doesn't matter
pub either_way : (a b : List ℕ) → bytes_eq a b ≡ bytes_eq b a
either_way a b = by (bytes_eq a b) refl
  where
    turned : (x y : List ℕ) → bytes_eq x y ≡ true → bytes_eq y x ≡ true
    turned x y e = (bytes_eq-Decides y x).1 (sym ((bytes_eq-Decides x y).0 e))

    by : (r : Bool) → bytes_eq a b ≡ r → r ≡ bytes_eq b a
    by true e = sym (turned a b e)
    by false e = sym (false_from_ne_true (bytes_eq b a) (λ d. true≢false (sym (turned b a d) ∙ e)))

module _ {X : Type 0} (test : X → Bool) (text : X → List ℕ) (zone : List ℕ) (same : (x : X) → test x ≡ bytes_eq zone (text x)) where
  any_text : (xs : List X) → list_any (λ other. bytes_eq other zone) (map text xs) ≡ list_any test xs
  any_text [] = refl
  any_text (x ∷ xs) = λ i. (either_way (text x) zone ∙ sym (same x)) i || any_text xs i

  -- a key that is there adds no zone
  pub known_zone : (xs : List X) → list_any test xs ≡ true → map text xs ≡ with_zone (map text xs) zone
  known_zone xs h = sym (ap (λ b. cond (not b) (map text xs ++ zone ∷ []) (map text xs)) (any_text xs ∙ h))

  -- one that isn't is put after the others
  pub put_zone : (xs : List X) (x : X) → text x ≡ zone → map text (cond (list_any test xs) xs (xs ++ x ∷ [])) ≡ with_zone (map text xs) zone
  put_zone xs x e = by (list_any test xs) ∙ sym (ap (λ b. cond (not b) (map text xs ++ zone ∷ []) (map text xs)) (any_text xs))
    where
      by : (b : Bool) → map text (cond b xs (xs ++ x ∷ [])) ≡ cond (not b) (map text xs ++ zone ∷ []) (map text xs)
      by true = refl
      by false = map-append text xs (x ∷ []) ∙ ap (λ z. map text xs ++ z ∷ []) e

  -- the zone of a key that passes
  pub stored_zone : (xs : List X) (place : ℕ) (x : X) → slice_get xs place ≡ Some x → test x ≡ true → slice_get (map text xs) place ≡ Some zone
  stored_zone xs place x at h = slice_get-map text xs place ∙ ap (option_map text) at ∙ ap Some (sym ((bytes_eq-Decides zone (text x)).0 (sym (same x) ∙ h)))

  pub found_zone : (xs : List X) (place : ℕ) → position test xs ≡ Some place → slice_get (map text xs) place ≡ Some zone
  found_zone [] place e = cc
  found_zone (x ∷ xs) place e =
      let found = position-Some test (x ∷ xs) place x e in
      stored_zone (x ∷ xs) place (get_or (x ∷ xs) place x) (slice_get-get_or (x ∷ xs) place x found.0) found.1
