-- Places that are sorted, each once: they are the candidates that are in a list, in their order.
use Rattle.std.proofs.Common.{◌≡◌, ◌∙◌, ap, sym, refl, ℕ, zero, suc, ◌+◌, ◌<◌, ◌≤◌, Bool, true, false, nat_eq, List, [], ◌∷◌, ◌++◌, length, get_or, drop, drop-cons, map, filter, codes, All, Contains, ℤ, pos, negsuc, arith}
use Rattle.std.proofs.lemmas.Bool.Decides.{nat_tests}
use Rattle.std.proofs.lemmas.List.{map-append, drop_all}
use Rattle.std.proofs.lemmas.List.Elements.{All-contains, All-nil, All-cons, All-push}
use Rattle.std.proofs.lemmas.List.Folds.{Any-from_list_any, list_any-from_Any}
use Rattle.std.proofs.lemmas.List.Kept.{AllPairs-from_increasing}
use Rattle.std.specs.List.{list_all, list_any, range_with_len, AllPairs}
use Rattle.std.specs.List.Sorted.{IsStrictlyIncreasing}
use Rattle.std.specs.Ordering.{int_eq}
use Rattle.std.proofs.lemmas.Bool.{and_parts, and_from}
use Rattle.std.proofs.lemmas.Simd.{map-map}
use Rattle.profile.specs.faults.Faults.{is_between}
use Rattle.profile.specs.series.Rules.{RuleText, WeekdayNumber, is_place, is_entry, has_few_entries, is_in_range}
use Rattle.profile.specs.series.RuleTexts.{listed, months_from, numbers_from, entries_from, nth_number, nth_entry, is_same_entry}
use Rattle.cal_rules.proofs.InOrder.{int_one, int_itself, number_apart, entry_one, entry_itself, entry_apart}
use Rattle.cal_rules.proofs.Judging.{any_map}
use Rattle.cal_rules.proofs.WholeRule.{ranges}
use Rattle.cal_rules.proofs.Listed.{listed_hit, listed_end}

-- a number is in a list
abbrev pub has : List ℕ → ℕ → Bool
has ps j = list_any (λ p. nat_eq p j) ps

-- each is above the one before, from the low one on and below the high one
abbrev Rises : ℕ → ℕ → List ℕ → Type 0
Rises low high [] = Unit {0}
Rises low high (p ∷ ps) = (low ≤ p) × (p < high) × Rises (p + 1) high ps

rises_from : (low high : ℕ) (ps : List ℕ) → AllPairs (λ x y. x < y) ps → ((x : ℕ) → Contains ps x → (low ≤ x) × (x < high)) → Rises low high ps
rises_from low high [] up within = tt
rises_from low high (p ∷ ps) up within =
    let here = within p (0, omega arith, refl) in (
      here.0,
      here.1,
      rises_from (p + 1) high ps (λ i j d l h. up (suc i) (suc j) d (omega arith) (omega arith)) (λ x c.
          let above : p < x = rw c.2 at (up 0 (suc c.0) x (omega arith) (omega (arith, c.1))) in
          let there = within x (suc c.0, omega (arith, c.1), c.2) in
          (omega arith, there.1)),
    )

not_below : (low high j : ℕ) (ps : List ℕ) → Rises low high ps → j < low → has ps j ≡ false
not_below low high j [] r l = refl
not_below low high j (p ∷ ps) r l =
    let above : low ≤ p = r.0 in
    let out : nat_eq p j ≡ false = grind (arith, nat_tests) in
    rw out (not_below (p + 1) high j ps r.2 (omega arith))

-- what a test picks from the candidates of these places
picked : {A : Type 0} (test : A → Bool) (nth : ℕ → A) (low n high : ℕ) (ps : List ℕ) → high ≡ low + n → Rises low high ps → ((j : ℕ) → low ≤ j → j < high → test (nth j) ≡ has ps j) → filter test (map nth (range_with_len low n)) ≡ map nth ps
picked test nth low zero high [] e r h = refl
picked test nth low zero high (p ∷ ps) e r h = let wrong : ⊥ = omega (arith, r.0, r.1) in absurd wrong
picked test nth low (suc n) high [] e r h =
    let out : test (nth low) ≡ false = h low (omega arith) (omega arith) in
    rw out (picked test nth (low + 1) n high [] (omega arith) tt (λ j a b. h j (omega arith) b))
picked test nth low (suc n) high (p ∷ ps) e r h =
    elim (nat_eq p low) as (λ b. nat_eq p low ≡ b → filter test (map nth (range_with_len low (suc n))) ≡ map nth (p ∷ ps)) [
      | true ↦ λ f.
          let same : p ≡ low = grind (arith, nat_tests) in
          let here : test (nth low) ≡ true = h low (omega arith) (omega arith) ∙ rw f refl in
          let rest : filter test (map nth (range_with_len (low + 1) n)) ≡ map nth ps = picked test nth (low + 1) n high ps (omega arith) (rw same at r.2) (λ j a b.
          let other : nat_eq p j ≡ false = grind (arith, nat_tests) in h j (omega arith) b ∙ rw other refl) in
          rw here (rw rest (ap (λ q. nth q ∷ map nth ps) (sym same)))
      | false ↦ λ f.
          let above : low < p = grind (arith, nat_tests, r.0) in
          let none : has ps low ≡ false = not_below (p + 1) high low ps r.2 (omega arith) in
          let out : test (nth low) ≡ false = h low (omega arith) (omega arith) ∙ rw (f, none) refl in
          let rest : filter test (map nth (range_with_len (low + 1) n)) ≡ map nth (p ∷ ps) = picked test nth (low + 1) n high (p ∷ ps) (omega arith) (omega arith, r.1, r.2) (λ j a b. h j (omega arith) b) in
          rw out rest
    ] refl

any_from : (ps : List ℕ) (j : ℕ) → Contains ps j → has ps j ≡ true
any_from ps j c = list_any-from_Any (λ p. nat_eq p j) ps (c.0, j, c.1, c.2, grind (arith, nat_tests))

any_at : (ps : List ℕ) (j : ℕ) → has ps j ≡ true → Contains ps j
any_at ps j h =
    let a = Any-from_list_any (λ p. nat_eq p j) ps h in
    let same : a.1 ≡ j = grind (arith, nat_tests, a.4) in
    let there : Contains ps a.1 = (a.0, a.2, a.3) in
    rw same at there

-- two lists with the same numbers
same_has : (ps qs : List ℕ) (j : ℕ) → ((x : ℕ) → Contains ps x → Contains qs x) → ((x : ℕ) → Contains qs x → Contains ps x) → has ps j ≡ has qs j
same_has ps qs j there back =
    elim (has ps j) as (λ b. has ps j ≡ b → b ≡ has qs j) [
      | true ↦ λ e. sym (any_from qs j (there j (any_at ps j e)))
      | false ↦ λ e. elim (has qs j) as (λ c. has qs j ≡ c → false ≡ c) [
        | true ↦ λ f. sym e ∙ any_from ps j (back j (any_at qs j f))
        | false ↦ λ f. refl
      ] refl
    ] refl

any_same : {A : Type 0} (same : A → A → Bool) (nth : ℕ → A) (j : ℕ) (ps : List ℕ) → ((p i : ℕ) → same (nth p) (nth i) ≡ nat_eq p i) → list_any (λ p. same (nth p) (nth j)) ps ≡ has ps j
any_same same nth j [] apart = refl
any_same same nth j (p ∷ ps) apart = rw (apart p j, any_same same nth j ps apart) refl

-- the places of a list, in order: the candidates that it has
pub in_order : {A : Type 0} (same : A → A → Bool) (nth : ℕ → A) (low n : ℕ) (zs : List A) (ps qs : List ℕ) → ((p j : ℕ) → same (nth p) (nth j) ≡ nat_eq p j) → map nth ps ≡ zs → All (λ p. (low ≤ p) × (p < low + n)) ps
    → IsStrictlyIncreasing qs → ((x : ℕ) → Contains ps x → Contains qs x) → ((x : ℕ) → Contains qs x → Contains ps x) → map nth qs ≡ filter (λ c. list_any (λ z. same z c) zs) (map nth (range_with_len low n))
in_order same nth low n zs ps qs apart places within up there back =
    sym (picked (λ c. list_any (λ z. same z c) zs) nth low n (low + n) qs refl
    (rises_from low (low + n) qs (AllPairs-from_increasing qs up) (λ x c. All-contains (λ p. (low ≤ p) × (p < low + n)) ps x within (back x c)))
    (λ j a b. ap (list_any (λ z. same z (nth j))) (sym places) ∙ any_map (λ z. same z (nth j)) nth ps ∙ any_same same nth j ps apart ∙ same_has ps qs j there back))

-- ---- places that are gathered

pub record ArePlaces {A : Type 0} (nth : ℕ → A) (low n : ℕ) (zs : List A) (ps : List ℕ) : Type 0 where
  pub are : map nth ps ≡ zs
  pub within : All (λ p. (low ≤ p) × (p < low + n)) ps

pub no_place : {A : Type 0} (nth : ℕ → A) (low n : ℕ) (zs : List A) (ps : List ℕ) → ps ≡ [] → zs ≡ [] → ArePlaces nth low n zs ps
no_place nth low n zs ps e f = rw (e, f) (record { are = refl; within = All-nil (λ p. (low ≤ p) × (p < low + n)) })

pub one_place : {A : Type 0} (nth : ℕ → A) (low n : ℕ) (zs more : List A) (ps qs : List ℕ) (p : ℕ) (z : A) → ArePlaces nth low n zs ps → more ≡ zs ++ z ∷ [] → qs ≡ ps ++ p ∷ [] → nth p ≡ z → low ≤ p → p < low + n → ArePlaces nth low n more qs
one_place nth low n zs more ps qs p z h e f is l u = record {
  are = ap (map nth) f ∙ map-append nth ps (p ∷ []) ∙ ap (λ x. x ++ nth p ∷ []) h.are ∙ ap (λ x. zs ++ x ∷ []) is ∙ sym e;
  within = rw f (All-push (λ p. (low ≤ p) × (p < low + n)) ps p h.within (l, u));
}

map_same : (ps : List ℕ) → map (λ x. x) ps ≡ ps
map_same [] = refl
map_same (p ∷ ps) = ap (λ l. p ∷ l) (map_same ps)

by_one : {A : Type 0} (same : A → A → Bool) (nth : ℕ → A) → ((z c : A) → same z c ≡ true → z ≡ c) → ((z : A) → same z z ≡ true) → ((a b : ℕ) → nth a ≡ nth b → a ≡ b) → (p j : ℕ) → same (nth p) (nth j) ≡ nat_eq p j
by_one same nth one itself apart p j =
    elim (nat_eq p j) as (λ b. nat_eq p j ≡ b → same (nth p) (nth j) ≡ b) [
      | true ↦ λ e. let is : p ≡ j = grind (arith, nat_tests) in ap (λ k. same (nth k) (nth j)) is ∙ itself (nth j)
      | false ↦ λ e. elim (same (nth p) (nth j)) as (λ c. same (nth p) (nth j) ≡ c → c ≡ false) [
        | true ↦ λ f. let is : p ≡ j = apart p j (one (nth p) (nth j) f) in let no : ⊥ = grind (arith, nat_tests) in absurd no
        | false ↦ λ f. refl
      ] refl
    ] refl

number_same : (p j : ℕ) → int_eq (nth_number p) (nth_number j) ≡ nat_eq p j
number_same = by_one int_eq nth_number int_one int_itself number_apart

entry_same : (p j : ℕ) → is_same_entry (nth_entry p) (nth_entry j) ≡ nat_eq p j
entry_same = by_one is_same_entry nth_entry entry_one entry_itself entry_apart

-- each list in its order
pub numbers_sorted : (zs : List ℤ) (ps qs : List ℕ) → ArePlaces nth_number 0 733 zs ps → IsStrictlyIncreasing qs → ((x : ℕ) → Contains ps x → Contains qs x) → ((x : ℕ) → Contains qs x → Contains ps x) → map nth_number qs ≡ numbers_from 0 zs
unfolding numbers_from
numbers_sorted zs ps qs h = in_order int_eq nth_number 0 733 zs ps qs number_same h.are h.within

pub entries_sorted : (zs : List WeekdayNumber) (ps qs : List ℕ) → ArePlaces nth_entry 0 749 zs ps → IsStrictlyIncreasing qs → ((x : ℕ) → Contains ps x → Contains qs x) → ((x : ℕ) → Contains qs x → Contains ps x) → map nth_entry qs ≡ entries_from 0 zs
unfolding entries_from
entries_sorted zs ps qs h = in_order is_same_entry nth_entry 0 749 zs ps qs entry_same h.are h.within

pub months_sorted : (zs ps qs : List ℕ) → ArePlaces (λ x. x) 1 12 zs ps → IsStrictlyIncreasing qs → ((x : ℕ) → Contains ps x → Contains qs x) → ((x : ℕ) → Contains qs x → Contains ps x) → qs ≡ months_from 1 zs
unfolding months_from
months_sorted zs ps qs h up there back =
    sym (map_same qs) ∙ in_order nat_eq (λ x. x) 1 12 zs ps qs (λ p j. refl) h.are h.within up there back ∙ ap (filter (λ n. list_any (λ month. nat_eq month n) zs)) (map_same (range_with_len 1 12))

-- the places stay in their bounds
pub all_below : (low n : ℕ) (ps qs : List ℕ) → All (λ p. (low ≤ p) × (p < low + n)) ps → ((x : ℕ) → Contains qs x → Contains ps x) → All (λ p. p < low + n) qs
all_below low n ps [] h back = All-nil (λ p. p < low + n)
all_below low n ps (q ∷ qs) h back =
    All-cons (λ p. p < low + n) q qs (All-contains (λ p. (low ≤ p) × (p < low + n)) ps q h (back q (0, omega arith, refl))).1
    (all_below low n ps qs h (λ x c. back x (suc c.0, omega (arith, c.1), c.2)))

-- ---- what is written of them

-- the next one, after its lead
pub next_listed : {A : Type 0} (show : A → List ℕ) (b b1 b2 lead : List ℕ) (xs : List A) (i : ℕ) (d : A) → i < length xs → b1 ≡ b ++ lead → b2 ≡ b1 ++ show (get_or xs i d) → b2 ++ listed (codes ",") (map show (drop (i + 1) xs)) ≡ b ++ listed lead (map show (drop i xs))
next_listed show b b1 b2 lead xs i d l e f =
    let next : suc i ≡ i + 1 = omega arith in
    let step : drop i xs ≡ get_or xs i d ∷ drop (i + 1) xs = rw next at (drop-cons xs i d l) in
    listed_hit b b1 b2 lead (show (get_or xs i d)) (map show (drop (i + 1) xs)) e f ∙ sym (ap (λ ys. b ++ listed lead (map show ys)) step)

-- none is left
pub none_listed : {A : Type 0} (show : A → List ℕ) (b lead : List ℕ) (xs : List A) (i : ℕ) → length xs ≤ i → b ++ listed lead (map show (drop i xs)) ≡ b
none_listed show b lead xs i h =
    let step : drop i xs ≡ [] = drop_all i xs h in listed_end b lead (map show (drop i xs)) (ap (map show) step)

-- the whole, where it was made of these
pub all_listed : {A B : Type 0} (show : B → List ℕ) (nth : A → B) (b lead : List ℕ) (xs ys : List A) (zs : List B) → xs ≡ ys → map nth ys ≡ zs → b ++ listed lead (map (λ x. show (nth x)) xs) ≡ b ++ listed lead (map show zs)
all_listed show nth b lead xs ys zs e f =
    ap (λ l. b ++ listed lead (map (λ x. show (nth x)) l)) e ∙ ap (λ l. b ++ listed lead l) (sym (map-map show nth ys)) ∙ ap (λ l. b ++ listed lead (map show l)) f

-- ---- lists of a rule

pub all_at : {A : Type 0} (test : A → Bool) (xs : List A) (i : ℕ) (d : A) → list_all test xs ≡ true → i < length xs → test (get_or xs i d) ≡ true
all_at test [] i d h l = let wrong : ⊥ = omega arith in absurd wrong
all_at test (x ∷ xs) zero d h l = (and_parts (test x) (list_all test xs) h).0
all_at test (x ∷ xs) (suc i) d h l = all_at test xs i d (and_parts (test x) (list_all test xs) h).1 (omega arith)

pub all_mapped : {A B : Type 0} (test : B → Bool) (f : A → B) (xs : List A) (i : ℕ) (d : A) → list_all test (map f xs) ≡ true → i < length xs → test (f (get_or xs i d)) ≡ true
all_mapped test f [] i d h l = let wrong : ⊥ = omega arith in absurd wrong
all_mapped test f (x ∷ xs) zero d h l = (and_parts (test (f x)) (list_all test (map f xs)) h).0
all_mapped test f (x ∷ xs) (suc i) d h l = all_mapped test f xs i d (and_parts (test (f x)) (list_all test (map f xs)) h).1 (omega arith)

wider : (z : ℤ) → is_place 31 z ≡ true → is_place 366 z ≡ true
wider (pos n) h = grind (arith, nat_tests)
wider (negsuc n) h = grind (arith, nat_tests)

all_wider : (zs : List ℤ) → list_all (is_place 31) zs ≡ true → list_all (is_place 366) zs ≡ true
all_wider [] h = refl
all_wider (z ∷ zs) h =
    let p = and_parts (is_place 31 z) (list_all (is_place 31) zs) h in and_from (is_place 366 z) (list_all (is_place 366) zs) (wider z p.0) (all_wider zs p.1)

pub months_ready : (t : RuleText) (months : List ℕ) → is_in_range t ≡ true → months ≡ t.months → list_all (is_between 1 12) months ≡ true
months_ready t months h e = rw e (and_parts (list_all (is_between 1 12) t.months) (has_few_entries t.months) (ranges t h).months).0

pub days_ready : (t : RuleText) (days : List ℤ) → is_in_range t ≡ true → days ≡ t.month_days → list_all (is_place 366) days ≡ true
days_ready t days h e = rw e (all_wider t.month_days (and_parts (list_all (is_place 31) t.month_days) (has_few_entries t.month_days) (ranges t h).month_days).0)

pub entries_ready : (t : RuleText) (entries : List WeekdayNumber) → is_in_range t ≡ true → entries ≡ t.weekdays → list_all is_entry entries ≡ true
entries_ready t entries h e = rw e (and_parts (list_all is_entry t.weekdays) (has_few_entries t.weekdays) (ranges t h).weekdays).0

pub positions_ready : (t : RuleText) (positions : List ℤ) → is_in_range t ≡ true → positions ≡ t.positions → list_all (is_place 366) positions ≡ true
positions_ready t positions h e = rw e (and_parts (list_all (is_place 366) t.positions) (has_few_entries t.positions) (ranges t h).positions).0
