-- Names of files in the order of their octets.
use Rattle.std.proofs.Common.{◌≡◌, ◌↔◌, ◌∙◌, inl, inr, ℕ, ◌+◌, ◌<◌, Bool, true, false, IsTrue, List, [], ◌∷◌, length, get_or, map, Contains, Result, Ok, Err, Global, String, string_bytes, refl, sym, ap, subst, arith, true≢false}
use Rattle.std.proofs.lemmas.Bool.{cases_lt}
use Rattle.std.proofs.lemmas.Cmp.{nat_list_cmp_total, nat_list_eq_equiv, on_equiv, on_total}
use Rattle.std.proofs.lemmas.List.{get_or-map, length-map}
use Rattle.std.proofs.lemmas.List.Elements.{All-from_recursion, All-map, Contains-get_or}
use Rattle.std.proofs.lemmas.List.Kept.{AllPairs-cons, Any-dedup, Contains-from_dedup, IsStrictlySortedBy-dedup}
use Rattle.std.proofs.lemmas.List.Sorted.{Contains-permutation, IsPermutation-map, IsPermutation-sym, searchable_from_sorted}
use Rattle.std.proofs.lemmas.Map.Text.{is_eq-slice_cmp}
use Rattle.std.proofs.lemmas.Slice.Eq.{bytes_eq-Decides}
use Rattle.std.specs.Cmp.{IsEquivalence, IsTotalOrder}
use Rattle.std.specs.List.{AllPairs, dedup}
use Rattle.std.specs.List.Sorted.{IsBinarySearchResult, IsPartitionPoint, IsPermutation, IsSearchInRange, IsSorted, IsSortedBy, IsStrictlySortedBy}
use Rattle.std.specs.Ordering.{is_eq, is_lt, ordering_reverse}
use Rattle.std.specs.Result.{is_ok}
use Rattle.std.specs.Str.{bytes_eq}
use Rattle.std.specs.declared.cmp.Ordering.{Ordering}
use Rattle.std.specs.declared.cmp.Ordering.TheVariants.{Less, Equal, Greater}
use Rattle.profile.specs.rooms.Revisions.{octets_cmp}
use Rattle.profile.specs.streams.Folders.{AreNames, Image}
use Rattle.sched_box.specs.Running.{AreRising}
use Rattle.cal_events.proofs.shared_lemmas.InOneOrder.{in_mapped, of_mapped}

-- ---- the order of octets

pub same_cmp : (a : List ℕ) → octets_cmp a a ≡ Equal
same_cmp a = equal (octets_cmp a a) (is_eq-slice_cmp a a ∙ (bytes_eq-Decides a a).1 refl)
  where
    equal : (o : Ordering) → is_eq o ≡ true → o ≡ Equal
    equal Less e = absurd (true≢false (sym e))
    equal Equal e = refl
    equal Greater e = absurd (true≢false (sym e))

-- ---- pairs of a list, and of what a function makes of it

element : {X : Type 0} (xs : List X) (k : ℕ) → k < length xs → X
element [] k lt = absurd (omega arith)
element (x ∷ xs) k lt = x

pub pairs_mapped : {X Y : Type 0} (f : X → Y) (R : Y → Y → Type 0) (xs : List X) → AllPairs (λ a b. R (f a) (f b)) xs → AllPairs R (map f xs)
pairs_mapped f R xs all i j d less within =
    let short : j < length xs = omega (arith, length-map xs f) in
    let e = element xs j short in
    let P : _ → Type 0 = λ y. R y (get_or (map f xs) j d) in
    let Q : _ → Type 0 = λ y. R (f (get_or xs i e)) y in
    subst P (sym (get_or-map f xs i e d (omega arith))) (subst Q (sym (get_or-map f xs j e d short)) (all i j e less short))

pub pairs_of_mapped : {X Y : Type 0} (f : X → Y) (R : Y → Y → Type 0) (xs : List X) → AllPairs R (map f xs) → AllPairs (λ a b. R (f a) (f b)) xs
pairs_of_mapped f R xs all i j d less within =
    let P : _ → Type 0 = λ y. R y (f (get_or xs j d)) in
    let Q : _ → Type 0 = λ y. R (get_or (map f xs) i (f d)) y in
    subst P (get_or-map f xs i d (f d) (omega arith)) (subst Q (get_or-map f xs j d (f d) within) (all i j (f d) less (omega (arith, length-map xs f))))

-- ---- sorted, each once

abbrev name_cmp : String Global → String Global → Ordering
name_cmp a b = octets_cmp (string_bytes a) (string_bytes b)

abbrev name_eq : String Global → String Global → Bool
name_eq a b = bytes_eq (string_bytes a) (string_bytes b)

same_name : IsEquivalence name_eq
same_name = on_equiv (λ a. string_bytes a) nat_list_eq_equiv

name_order : IsTotalOrder name_cmp
name_order = on_total (λ a. string_bytes a) nat_list_cmp_total

rising_from : (names : List (String Global)) → IsStrictlySortedBy name_cmp names → AreRising (map string_bytes names)
unfolding IsStrictlySortedBy
rising_from [] up = λ i j d less within. absurd (omega arith)
rising_from (name ∷ names) (first, rest) =
    AllPairs-cons (λ a b. octets_cmp a b ≡ Less) (string_bytes name) (map string_bytes names)
    (All-map (λ b. octets_cmp (string_bytes name) b ≡ Less) string_bytes names (All-from_recursion (λ b. name_cmp name b ≡ Less) names first)) (rising_from names rest)

pub put_rising : (olds news : List (String Global)) → IsSorted name_cmp olds → news ≡ dedup name_eq olds → AreRising (map string_bytes news)
put_rising olds news up is =
    rising_from news (subst (IsStrictlySortedBy name_cmp) (sym is) (IsStrictlySortedBy-dedup name_order (λ a b. sym (is_eq-slice_cmp (string_bytes a) (string_bytes b))) olds up))

pub put_same : (olds mids news : List (String Global)) → IsPermutation olds mids → news ≡ dedup name_eq mids → (name : List ℕ)
    → Contains (map string_bytes olds) name ↔ Contains (map string_bytes news) name
put_same olds mids news moved is name = (into, back)
  where
    into : Contains (map string_bytes olds) name → Contains (map string_bytes news) name
    into among =
        let (x, in_mids, same) = of_mapped string_bytes mids name (Contains-permutation _ _ name (IsPermutation-map string_bytes olds mids moved) among) in
        let (k, y, within, at, equal) = Any-dedup same_name mids x in_mids in
        let P : List ℕ → Type 0 = λ z. Contains (map string_bytes news) z in
        let Q : List (String Global) → Type 0 = λ zs. Contains zs y in
        subst P (sym ((bytes_eq-Decides (string_bytes x) (string_bytes y)).0 equal) ∙ same) (in_mapped string_bytes news y (subst Q (sym is) (k, within, at)))

    back : Contains (map string_bytes news) name → Contains (map string_bytes olds) name
    back among =
        let (x, in_news, same) = of_mapped string_bytes news name among in
        let Q : List (String Global) → Type 0 = λ zs. Contains zs x in
        let in_mids : Contains mids x = Contains-from_dedup name_eq mids x (subst Q is in_news) in
        let P : List ℕ → Type 0 = λ z. Contains (map string_bytes olds) z in
        subst P same (in_mapped string_bytes olds x (Contains-permutation mids olds x (IsPermutation-sym olds mids moved) in_mids))

-- ---- looking up

not_less : (a b : List ℕ) → octets_cmp a b ≡ Less → is_lt (octets_cmp b a) ≡ false
not_less a b less = ap is_lt (nat_list_cmp_total.antisymm b a ∙ ap ordering_reverse less)

sorted_from : (names : List (String Global)) → AreRising (map string_bytes names) → IsSortedBy (λ a b. is_lt (name_cmp a b)) names
sorted_from names up k d low within = not_less (string_bytes (get_or names k d)) (string_bytes (get_or names (k + 1) d)) (pairs_of_mapped string_bytes (λ a b. octets_cmp a b ≡ Less) names up k (k + 1) d (omega arith) within)

pub found : (names : List (String Global)) (name : List ℕ) (r : Result ℕ ℕ) → AreRising (map string_bytes names) → IsSearchInRange r (length names)
    → IsBinarySearchResult (λ a. octets_cmp (string_bytes a) name) names r → IsTrue (is_ok r) ↔ Contains (map string_bytes names) name
found names name (Ok i) up in_range at =
    let d = element names i in_range in
    let same : string_bytes (get_or names i d) ≡ name = (bytes_eq-Decides (string_bytes (get_or names i d)) name).0 (sym (is_eq-slice_cmp (string_bytes (get_or names i d)) name) ∙ ap is_eq (at d)) in
    let P : List ℕ → Type 0 = λ z. Contains (map string_bytes names) z in
    (λ t. subst P same (in_mapped string_bytes names (get_or names i d) (Contains-get_or names i d in_range)), λ among. refl)
found names name (Err i) up in_range parted = (λ t. absurd (true≢false (sym t)), λ among. absurd (none among))
  where
    parts : IsPartitionPoint (λ y. octets_cmp (string_bytes y) name ≡ Less) (λ y. octets_cmp (string_bytes y) name ≡ Greater) names i
    parts = parted (searchable_from_sorted nat_list_cmp_total string_bytes names name (sorted_from names up))

    none : Contains (map string_bytes names) name → ⊥
    none among =
        let (x, (k, within, at), same) = of_mapped string_bytes names name among in
        let equal : octets_cmp (string_bytes (get_or names k x)) name ≡ Equal = ap (λ (y : String Global). octets_cmp (string_bytes y) name) at ∙ ap (λ z. octets_cmp z name) same ∙ same_cmp name in
        elim (cases_lt k i) [
          | inl below ↦ true≢false (ap is_eq (sym equal ∙ parts.0 k x (omega arith) below))
          | inr from ↦ true≢false (ap is_eq (sym equal ∙ parts.1 k x from within))
        ]

-- the same names, in order
pub names_kept : (image : Image) (olds news : List (List ℕ)) → AreNames image olds → ((name : List ℕ) → Contains olds name ↔ Contains news name) → AreRising news → AreNames image news
names_kept image olds news are same up = record {
  each = λ name among. are.each name ((same name).1 among);
  all = λ name octets is. (same name).0 (are.all name octets is);
  once = λ i j d less within e.
      let before : octets_cmp (get_or news j d) (get_or news j d) ≡ Less = ap (λ a. octets_cmp a (get_or news j d)) (sym e) ∙ up i j d less within in
      true≢false (ap is_eq (sym (same_cmp (get_or news j d)) ∙ before));
}
