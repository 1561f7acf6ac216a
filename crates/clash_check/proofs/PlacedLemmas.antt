-- Series by their numbers.
use Rattle.std.proofs.Common.{◌≡◌, ◌∙◌, ap, sym, refl, subst, arith, ℕ, zero, suc, List, [], ◌∷◌, ◌++◌, length}
use Rattle.std.specs.Prelude.{Contains}
use Rattle.std.specs.List.{AllZip}
use Rattle.std.proofs.lemmas.Option.{same_Some}
use Rattle.profile.specs.checker.Certificates.{IsSeriesAt, AreSeriesAt}
use Rattle.profile.specs.events.Events.{Event}
use Rattle.profile.specs.events.Confirmed.{Confirmed}
use Rattle.clash_check.specs.Draws.{IsPlaceIn}
use Rattle.clash_check.proofs.SweepLemmas.{series_there}

-- ---- the series at a place

pub one_series : (all : Confirmed) (i : ℕ) (a b : Event) → IsSeriesAt all i a → IsSeriesAt all i b → a ≡ b
one_series all i a b here there = same_Some a b (sym here ∙ there)

-- ---- those at some places

none_in : {X : Type 0} (x : X) → Contains [] x → ⊥
none_in x (k, l, e) = omega (arith, l)

first_in : {X : Type 0} (x : X) (xs : List X) → Contains (x ∷ xs) x
first_in x xs = (zero, omega arith, refl)

later_in : {X : Type 0} (x y : X) (xs : List X) → Contains xs y → Contains (x ∷ xs) y
later_in x y xs (k, l, e) = (suc k, omega (arith, l), e)

-- there are some at these
pub series_of : (all : Confirmed) (numbers : List ℕ) → ((i : ℕ) → Contains numbers i → IsPlaceIn (length all.series) i) → (those : List Event) × AreSeriesAt all numbers those
series_of all [] within = ([], tt)
series_of all (i ∷ numbers) within =
    let (a, at) = series_there all i (within i (first_in i numbers)) in
    let (those, are) = series_of all numbers (λ k c. within k (later_in i k numbers c)) in
    (a ∷ those, (at, are))

pub at_place : (all : Confirmed) (numbers : List ℕ) (those : List Event) → AreSeriesAt all numbers those → (i : ℕ) → Contains numbers i → (a : Event) × Contains those a × IsSeriesAt all i a
at_place all [] those are i c = absurd (none_in i c)
at_place all (k ∷ numbers) [] are i c = absurd are
at_place all (k ∷ numbers) (b ∷ those) (here, rest) i (zero, l, e) = (b, first_in b those, subst (λ n. IsSeriesAt all n b) e here)
at_place all (k ∷ numbers) (b ∷ those) (here, rest) i (suc n, l, e) =
    let (a, c, at) = at_place all numbers those rest i (n, omega (arith, l), e) in
    (a, later_in b a those c, at)

pub at_number : (all : Confirmed) (numbers : List ℕ) (those : List Event) → AreSeriesAt all numbers those → (i : ℕ) → Contains numbers i → (a : Event) → IsSeriesAt all i a → Contains those a
at_number all numbers those are i has a at =
    let (b, c, here) = at_place all numbers those are i has in
    subst (Contains those) (one_series all i b a here at) c

pub number_of : (all : Confirmed) (numbers : List ℕ) (those : List Event) → AreSeriesAt all numbers those → (a : Event) → Contains those a → (i : ℕ) × Contains numbers i × IsSeriesAt all i a
number_of all [] [] are a c = absurd (none_in a c)
number_of all [] (b ∷ those) are a c = absurd are
number_of all (k ∷ numbers) [] are a c = absurd are
number_of all (k ∷ numbers) (b ∷ those) (here, rest) a (zero, l, e) = (k, first_in k numbers, subst (IsSeriesAt all k) e here)
number_of all (k ∷ numbers) (b ∷ those) (here, rest) a (suc n, l, e) =
    let (i, c, at) = number_of all numbers those rest a (n, omega (arith, l), e) in
    (i, later_in k i numbers c, at)

-- ---- two lists, place by place

-- what is joined on one side is on the other
pub zip_split : {A B : Type 0} (R : A → B → Type 0) (xs ys : List A) (zs : List B) → AllZip R (xs ++ ys) zs
    → (us : List B) × (vs : List B) × (zs ≡ us ++ vs) × AllZip R xs us × AllZip R ys vs
zip_split R [] ys zs h = ([], zs, refl, tt, h)
zip_split R (x ∷ xs) ys [] h = absurd h
zip_split R (x ∷ xs) ys (z ∷ zs) (here, rest) =
    let (us, vs, e, f, g) = zip_split R xs ys zs rest in
    (z ∷ us, vs, ap (λ l. z ∷ l) e, (here, f), g)
