-- The group that a certificate gives, and the entries that stay beside it.
use Rattle.std.proofs.Common.{◌≡◌, ◌∙◌, ◌⊎◌, ℤ, ℕ, zero, suc, ◌+◌, ◌-◌, ◌^◌, ◌<◌, ◌≤◌, ◌==◌, Bool, true, false, cond, List, [], ◌∷◌, ◌++◌, length, get_or, take, subst, sym, refl, ap, inl, inr, arith}
use Rattle.std.specs.Prelude.{Some, None, unwrap_or, IsTrue, ◌↔◌, Contains, not}
use Rattle.std.specs.List.{AllZip, slice_get}
use Rattle.std.proofs.lemmas.Bool.{true≢false, false≢true, cases_Bool, eqb-true, eq-eqb, not-true, and_parts, and_from}
use Rattle.std.proofs.lemmas.List.Elements.{All-contains, All-nil, All-cons, Contains-get_or, filter_more}
use Rattle.std.proofs.lemmas.List.Folds.{Any-from_list_any, list_any-from_Any}
use Rattle.std.proofs.lemmas.List.Kept.{AllPairs-filter}
use Rattle.profile.specs.checker.Certificates.{Pair, Group, Claims, groups_of, IsClaims, IsApart, IsGroup, IsPairBefore, AreTogether, IsPlacedAt, IsShortSpan, IsGroupMade, IsGrouped, HasNoGroup}
use Rattle.profile.specs.text.Values.{IsClockSeconds}
use Rattle.profile.specs.events.Events.{Event}
use Rattle.profile.specs.events.Confirmed.{Confirmed}
use Rattle.cal_events.proofs.shared_lemmas.InOneOrder.{in_filtered, of_filtered, one_order, later}
use Rattle.clash_cert.specs.Grouped.{HaveSpan, is_among, are_among, apart_of, with_group}
use Rattle.clash_cert.proofs.MarkLemmas.{within_series}

-- ---- numbers among some

pub of_among : (members : List ℕ) (n : ℕ) → is_among members n ≡ true → Contains members n
of_among members n is = let (k, m, l, e, same) = Any-from_list_any (λ m. m == n) members is in subst (Contains members) (eqb-true m n same) (k, l, e)

pub in_among : (members : List ℕ) (n : ℕ) → Contains members n → is_among members n ≡ true
in_among members n (k, l, e) = list_any-from_Any (λ m. m == n) members (k, n, l, e, eq-eqb n n refl)

-- a test that tells it
pub among_is : (members : List ℕ) (n : ℕ) (r : Bool) → (IsTrue r ↔ Contains members n) → r ≡ is_among members n
among_is members n true iff = sym (in_among members n (iff.0 refl))
among_is members n false iff = elim (cases_Bool (is_among members n)) [ inl is ↦ absurd (false≢true (iff.1 (of_among members n is))) | inr none ↦ sym none ]

-- ---- the entries beside them

pub apart_more : (members : List ℕ) (pairs : List Pair) (k : ℕ) (p : Pair) (b : Bool) → k < length pairs → get_or pairs k p ≡ p → b ≡ are_among members p
    → apart_of members (take (k + 1) pairs) ≡ apart_of members (take k pairs) ++ cond (not b) (p ∷ []) []
apart_more members pairs k p b within at is =
    filter_more (λ q. not (are_among members q)) pairs k p within
    ∙ ap (λ q. apart_of members (take k pairs) ++ cond (not (are_among members q)) (q ∷ []) []) at
    ∙ ap (λ c. apart_of members (take k pairs) ++ cond (not c) (p ∷ []) []) (sym is)

-- each of them is one of the entries, and not of two of these series
pub apart_is : (members : List ℕ) (pairs : List Pair) (p : Pair) → Contains (apart_of members pairs) p → Contains pairs p × (Contains members p.first → Contains members p.second → ⊥)
apart_is members pairs p here =
    let (there, test) = of_filtered (λ q. not (are_among members q)) pairs p here in
    (there, λ first second. true≢false (sym (and_from (is_among members p.first) (is_among members p.second) (in_among members p.first first) (in_among members p.second second)) ∙ not-true (are_among members p) test))

-- each entry is one of them, or of two of these series
pub apart_or : (members : List ℕ) (pairs : List Pair) (p : Pair) → Contains pairs p → (Contains members p.first × Contains members p.second) ⊎ Contains (apart_of members pairs) p
apart_or members pairs p there = elim (cases_Bool (are_among members p)) [
  | inl both ↦ let (first, second) = and_parts (is_among members p.first) (is_among members p.second) both in inl (of_among members p.first first, of_among members p.second second)
  | inr apart ↦ inr (in_filtered (λ q. not (are_among members q)) pairs p there (ap not apart))
]

-- ---- series by their numbers

pub element_at : {X : Type 0} (xs : List X) (k : ℕ) → k < length xs → (x : X) × (slice_get xs k ≡ Some x)
element_at [] k within = absurd (omega (arith, within))
element_at (x ∷ xs) zero within = (x, refl)
element_at (x ∷ xs) (suc k) within = element_at xs k (omega (arith, within))

placed : (all : List Event) (members : List ℕ) → ((i : ℕ) → Contains members i → (0 < i) × (i ≤ length all)) → (those : List Event) × AllZip (IsPlacedAt all) members those
placed all [] good = ([], tt)
placed all (i ∷ members) good =
    let (some, most) = good i (0, omega arith, refl) in
    let (a, at) = element_at all (i - 1) (omega (arith, some, most)) in
    let (those, are) = placed all members (λ j c. good j (later i j members c)) in
    (a ∷ those, (at, are))

-- ---- the group

module _ (c : Claims) (is : IsClaims c) (members : List ℕ) (have : HaveSpan c members) where
  within : (i : ℕ) → Contains members i → (0 < i) × (i ≤ c.series)
  within i here = within_series c is i ((have.are i).0 here)

  module _ (from : ℤ) (days : ℕ) (clock : IsClockSeconds from) (few : days < 2 ^ 64) (some : 2 ≤ length members) where
    abbrev group : Group
    group = record { from = from; days = days; members = members }

    good : IsGroup c.series group
    good = record { from = clock; days = few; some = some; within = within; ascending = have.ascending }

    one_group : (p : Pair) → AreTogether (group ∷ []) p.first p.second → Contains members p.first × Contains members p.second
    one_group p (other, (zero, l, e), first, second) = (subst (λ (g : Group). Contains g.members p.first) (sym e) first, subst (λ (g : Group). Contains g.members p.second) (sym e) second)
    one_group p (other, (suc k, l, e), first, second) = absurd (omega (arith, l))

    apart : (p : Pair) → Contains (apart_of members c.pairs) p → IsApart c.series (group ∷ []) p
    apart p here =
        let (there, none) = apart_is members c.pairs p here in
        let was = All-contains (IsApart c.series (groups_of c)) c.pairs p is.pairs there in
        record { pair = was.pair; entry = was.entry; apart = λ together. let (first, second) = one_group p together in none first second }

    module _ (version : c.groups ≡ None) where
      none_before : (i j : ℕ) → AreTogether (groups_of c) i j → ⊥
      none_before i j (other, here, first, second) = let (k, l, e) = subst (λ groups. Contains (unwrap_or groups []) other) version here in omega (arith, l)

      pub claims_grouped : IsClaims (with_group c group)
      claims_grouped = record {
        singles = is.singles;
        series = is.series;
        groups = All-cons (IsGroup c.series) group [] good (All-nil (IsGroup c.series));
        groups_ordered = λ i j d less last. absurd (omega (arith, less, last));
        pairs = λ k d l. apart (get_or (apart_of members c.pairs) k d) (Contains-get_or (apart_of members c.pairs) k d l);
        pairs_ordered = AllPairs-filter (λ p q. IsPairBefore p.first p.second q.first q.second) (λ q. not (are_among members q)) c.pairs is.pairs_ordered;
        all = λ i j pair. elim (is.all i j pair) [
          | inl together ↦ absurd (none_before i j together)
          | inr (p, there, first, second) ↦ elim (apart_or members c.pairs p there) [
            | inl (one, other) ↦ inl (group, (0, omega arith, refl), subst (Contains members) first one, subst (Contains members) second other)
            | inr kept ↦ inr (p, kept, first, second)
          ]
        ];
      }

  -- of what is confirmed
  module _ (confirmed : Confirmed) (count : c.series ≡ length confirmed.series) where
    -- such a group has just these series
    same_members : (other : Group) → IsGroupMade confirmed c other → other.members ≡ members
    same_members other made =
        one_order ◌<◌ (λ i less. omega (arith, less)) (λ i j k less more. omega (arith, less, more)) other.members members made.good.ascending have.ascending
        (λ i here. (have.are i).1 ((made.are i).0 here)) (λ i here. (made.are i).1 ((have.are i).0 here))

    pub too_few : length members < 2 → HasNoGroup confirmed c
    too_few few other made = let some = made.good.some in let same = ap length (same_members other made) in omega (arith, few, some, same)

    pub no_span : ((all : List Event) → AllZip (IsPlacedAt confirmed.series) members all → (from : ℤ) (days : ℕ) → IsShortSpan all from days → ⊥) → HasNoGroup confirmed c
    no_span none other made = none made.all (subst (λ numbers. AllZip (IsPlacedAt confirmed.series) numbers made.all) (same_members other made) made.placed) other.from other.days made.span

    -- there they are
    pub members_placed : (all : List Event) × AllZip (IsPlacedAt confirmed.series) members all
    members_placed = placed confirmed.series members (λ i here. let (some, most) = within i here in (some, omega (arith, most, count)))

    pub grouped : (from : ℤ) (days : ℕ) → IsClockSeconds from → days < 2 ^ 64 → 2 ≤ length members → c.groups ≡ None → (all : List Event) → AllZip (IsPlacedAt confirmed.series) members all
        → IsShortSpan all from days → IsGrouped confirmed c (with_group c (record { from = from; days = days; members = members }))
    grouped from days clock few some version all at span = record {
      claims = claims_grouped from days clock few some version;
      singles = refl;
      series = refl;
      group = group from days clock few some;
      made = record { are = have.are; good = good from days clock few some; all = all; placed = at; span = span };
      groups = refl;
      pairs = λ p here. (apart_is members c.pairs p here).0;
    }

-- ---- as it is made of its parts

pub same_claims : (c : Claims) (group : Group) (singles series : ℕ) (groups : List Group) (pairs : List Pair) → singles ≡ c.singles → series ≡ c.series → groups ≡ group ∷ [] → pairs ≡ apart_of group.members c.pairs
    → with_group c group ≡ record { singles = singles; series = series; groups = Some groups; pairs = pairs }
same_claims c group singles series groups pairs of_singles of_series of_groups of_pairs = rw (of_singles, of_series, of_groups, of_pairs) refl
