-- Tests of lists, written or implied.
use Rattle.std.proofs.Common.{◌≡◌, ◌∙◌, ap, sym, refl, ℕ, suc, pos, Bool, true, false, ◌&&◌, ◌||◌, ◌==◌, nat_eq, List, [], ◌∷◌, map, if◌then◌else◌, arith}
use Rattle.std.proofs.lemmas.Bool.Decides.{nat_tests}
use Rattle.std.specs.List.{list_any}
use Rattle.std.proofs.Math.Bool.{or-false}
use Rattle.profile.specs.series.Rules.{allows, names_weekday}

-- a part that is implied has one entry
pub by_implied : {A : Type 0} (test : A → Bool) (implied : Bool) (entry : A) (entries : List A) (r : Bool) → implied ≡ true → r ≡ test entry → r ≡ allows test (if implied then entry ∷ [] else entries)
by_implied test implied entry entries r e h = rw (e, or-false (test entry)) h

-- else what is written counts
pub by_written : {A : Type 0} (test : A → Bool) (implied : Bool) (entry : A) (entries : List A) (r : Bool) → implied ≡ false → r ≡ allows test entries → r ≡ allows test (if implied then entry ∷ [] else entries)
by_written test implied entry entries r e h = rw e h

pub and_true : (b : Bool) → (b && true) ≡ b
and_true true = refl
and_true false = refl

-- an implied weekday has no number
pub plain_weekday : (weekday there before after : ℕ) (r : Bool) → r ≡ (there == weekday) → r ≡ names_weekday weekday before after (record { number = pos 0; weekday = there })
plain_weekday weekday there before after r h = h ∙ sym (and_true (there == weekday))

pub same_suc : (m n : ℕ) → nat_eq m n ≡ nat_eq (suc m) (suc n)
same_suc m n = grind (arith, nat_tests)

pub any_map : {A B : Type 0} (test : B → Bool) (f : A → B) (xs : List A) → list_any test (map f xs) ≡ list_any (λ x. test (f x)) xs
any_map test f [] = refl
any_map test f (x ∷ xs) = ap (λ b. test (f x) || b) (any_map test f xs)

-- a list and its entries as others see them
pub allows_map : {A B : Type 0} (test : B → Bool) (f : A → B) (xs : List A) → allows test (map f xs) ≡ allows (λ x. test (f x)) xs
allows_map test f [] = refl
allows_map test f (x ∷ xs) = any_map test f (x ∷ xs)
