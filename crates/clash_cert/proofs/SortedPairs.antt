-- Looking for the entry of two series among entries in order.
use Rattle.std.proofs.Common.{◌≡◌, ℕ, zero, suc, ◌+◌, ◌-◌, ◌<◌, ◌≤◌, ◌==◌, Bool, true, false, List, [], ◌∷◌, Contains, length, map, get_or, subst, sym, refl, ap, ◌∙◌, inl, inr, arith}
use Rattle.std.specs.Prelude.{◌⊎◌, ◌↔◌, All, AllPairs, IsTrue, Option, Some, None, ltb}
use Rattle.std.specs.List.{slice_get}
use Rattle.std.specs.List.Sorted.{IsPartitionedBy, IsPartitionPoint}
use Rattle.std.proofs.lemmas.Bool.{cases_order, true≢false}
use Rattle.std.proofs.lemmas.Bool.Decides.{nat_tests}
use Rattle.std.proofs.lemmas.Option.{slice_get-get_or}
use Rattle.std.proofs.lemmas.List.{get_or-map, get_or_default, length-map}
use Rattle.std.proofs.lemmas.List.Elements.{All-contains}
use Rattle.profile.specs.checker.Certificates.{Claims, IsClaims, IsApart, IsEntry, IsEntryOf, IsGroup, IsPair, IsPairBefore, AreTogether, groups_of}
use Rattle.profile.specs.checker.Certificates as said
use Rattle.clash_cert.specs.Texts.{ArePairsSorted, IsEntryAmong, theirs, none, entry_said, group_said, pair_said}
use Rattle.clash_cert.specs.Walked.{is_pair_before}
use Rattle.clash_cert.specs.declared.certificate.Pair.{Pair}
use Rattle.clash_cert.specs.declared.groups.Group.{Group}
use Rattle.clash_cert.proofs.ListLemmas.{none_in_nil, in_head, in_tail, in_cons}
use Rattle.clash_cert.proofs.Walking.{before_self, before_through}

-- ---- the test

pub before_from : (i j k l : ℕ) → is_pair_before i j k l ≡ true → IsPairBefore i j k l
before_from i j k l h =
    elim (cases_order i k) [
      | inl e ↦ inr (e, grind (arith, nat_tests, h, e))
      | inr v ↦ elim v [ inl lt ↦ inl lt | inr lt ↦ absurd (grind (arith, nat_tests, h, lt)) ]
    ]

pub test_from : (i j k l : ℕ) → IsPairBefore i j k l → is_pair_before i j k l ≡ true
test_from i j k l (inl less) = grind (arith, nat_tests, less)
test_from i j k l (inr (e, less)) = grind (arith, nat_tests, e, less)

-- ---- lists that were mapped

in_map : {X Y : Type 0} (f : X → Y) (xs : List X) (x : X) → Contains xs x → Contains (map f xs) (f x)
in_map f [] x c = absurd (none_in_nil x c)
in_map f (y ∷ ys) x (zero, w, e) = (zero, omega arith, ap f e)
in_map f (y ∷ ys) x (suc k, w, e) = in_tail (f y) (map f ys) (f x) (in_map f ys x (k, omega (arith, w), e))

of_map : {X Y : Type 0} (f : X → Y) (xs : List X) (y : Y) → Contains (map f xs) y → (x : X) × Contains xs x × (f x ≡ y)
of_map f [] y c = absurd (none_in_nil y c)
of_map f (x ∷ xs) y (zero, w, e) = (x, in_head x xs, e)
of_map f (x ∷ xs) y (suc k, w, e) = let from = of_map f xs y (k, omega (arith, w), e) in (from.0, in_tail x xs from.0 from.1, from.2)

module _ (pairs : List Pair) (first second : ℕ) (up : ArePairsSorted (map pair_said pairs)) where
  -- in order, at two places
  before_at : (i j : ℕ) (d : Pair) → i < j → j < length pairs → IsPairBefore (get_or pairs i d).first (get_or pairs i d).second (get_or pairs j d).first (get_or pairs j d).second
  before_at i j d lt w =
      let long = length-map pairs pair_said in
      let r : IsPairBefore (get_or (map pair_said pairs) i (pair_said d)).first (get_or (map pair_said pairs) i (pair_said d)).second
      (get_or (map pair_said pairs) j (pair_said d)).first (get_or (map pair_said pairs) j (pair_said d)).second = up i j (pair_said d) lt (omega (arith, w, long)) in
      let a : get_or (map pair_said pairs) i (pair_said d) ≡ pair_said (get_or pairs i d) = get_or-map pair_said pairs i d (pair_said d) (omega (arith, lt, w)) in
      let b : get_or (map pair_said pairs) j (pair_said d) ≡ pair_said (get_or pairs j d) = get_or-map pair_said pairs j d (pair_said d) w in
      subst (λ (q : said.Pair). IsPairBefore (get_or pairs i d).first (get_or pairs i d).second q.first q.second) b
      (subst (λ (p : said.Pair). IsPairBefore p.first p.second (get_or (map pair_said pairs) j (pair_said d)).first (get_or (map pair_said pairs) j (pair_said d)).second) a r)

  abbrev test : Pair → Bool
  test p = is_pair_before p.first p.second first second

  pub parted : IsPartitionedBy test pairs
  parted i j d le w h =
      elim (cases_order i j) [
        | inl e ↦ subst (λ k. test (get_or pairs k d) ≡ true) (sym e) h
        | inr v ↦ elim v [
          | inl lt ↦
              let p = get_or pairs i d in
              let q = get_or pairs j d in
              test_from p.first p.second first second (before_through p.first p.second q.first q.second first second (before_at i j d lt w) (before_from q.first q.second first second h))
          | inr lt ↦ absurd (omega (arith, lt, le))
        ]
      ]

  module _ (at : ℕ) (point : IsPartitionPoint (λ p. test p ≡ true) (λ p. test p ≡ false) pairs at) where
    pub entry_found : (one : Pair) → at < length pairs → get_or pairs at one ≡ one → (one.first ≡ first) × (one.second ≡ second) → IsEntryAmong (map pair_said pairs) first second (entry_said one.entry)
    entry_found one w e same =
        let named : pair_said one ≡ record { first = first; second = second; entry = entry_said one.entry } = λ i. record { first = same.0 i; second = same.1 i; entry = entry_said one.entry } in
        theirs (entry_said one.entry) (subst (Contains (map pair_said pairs)) named (in_map pair_said pairs one (at, w, e)))

    -- no pair has these names if not the one at the place
    pub entry_none : ((one : Pair) → at < length pairs → get_or pairs at one ≡ one → one.first ≡ first → one.second ≡ second → ⊥) → IsEntryAmong (map pair_said pairs) first second said.End
    entry_none other = none (λ p c f g.
        let from = of_map pair_said pairs p c in
        at_place from.0 from.1 (ap (λ (q : said.Pair). q.first) from.2 ∙ f) (ap (λ (q : said.Pair). q.second) from.2 ∙ g))
      where
        at_place : (q : Pair) → Contains pairs q → q.first ≡ first → q.second ≡ second → ⊥
        at_place q (k, w, e) f g =
            elim (cases_order k at) [
              | inl same ↦ other q (omega (arith, w, same)) (ap (λ i. get_or pairs i q) (sym same) ∙ e) f g
              | inr v ↦ elim v [
                | inl lt ↦
                    let passes : test q ≡ true = subst (λ (r : Pair). test r ≡ true) e (point.0 k q (omega arith) lt) in
                    before_self first second (named q (before_from q.first q.second first second passes))
                | inr lt ↦
                    let d = get_or pairs at q in
                    let less : IsPairBefore d.first d.second first second = later d (subst (λ (r : Pair). IsPairBefore d.first d.second r.first r.second) e (before_at at k q lt w)) in
                    true≢false (sym (test_from d.first d.second first second less) ∙ point.1 at q (omega arith) (omega (arith, lt, w)))
              ]
            ]
          where
            named : (r : Pair) → IsPairBefore q.first q.second first second → IsPairBefore first second first second
            named r b = subst (λ m. IsPairBefore first m first second) g (subst (λ m. IsPairBefore m q.second first second) f b)

            later : (d : Pair) → IsPairBefore d.first d.second q.first q.second → IsPairBefore d.first d.second first second
            later d b = subst (λ m. IsPairBefore d.first d.second first m) g (subst (λ m. IsPairBefore d.first d.second m q.second) f b)

    -- there is none at the place
    pub entry_past : length pairs ≤ at → IsEntryAmong (map pair_said pairs) first second said.End
    entry_past past = entry_none (λ one w e f g. omega (arith, w, past))

    -- or another one
    pub entry_other : (p : Pair) → at < length pairs → get_or pairs at p ≡ p → (b : Bool) → IsTrue b ↔ ((p.first ≡ first) × (p.second ≡ second)) → b ≡ false
        → IsEntryAmong (map pair_said pairs) first second said.End
    entry_other p w e b is other =
        entry_none (λ one v g h k.
        let same : one ≡ p = sym g ∙ get_or_default pairs at one p w ∙ e in
        true≢false (sym (is.1 (ap (λ (q : Pair). q.first) (sym same) ∙ h, ap (λ (q : Pair). q.second) (sym same) ∙ k)) ∙ other))

-- ---- what a certificate says of a pair

-- none of its groups has both
pub entry_of_pairs : (c : Claims) (i j : ℕ) (entry : said.Entry) → IsClaims c → (AreTogether (groups_of c) i j → ⊥) → IsEntryAmong c.pairs i j entry → IsPair c.series i j → IsEntryOf c i j entry
entry_of_pairs c i j e claims apart (theirs entry there) pair = of entry there
  where
    of : (entry : said.Entry) → Contains c.pairs (record { first = i; second = j; entry = entry }) → IsEntryOf c i j entry
    of said.End d = d
    of (said.Span from days) d = d
    of (said.Res m) d = d
    of (said.InGroup n) d = absurd (All-contains (IsApart c.series (groups_of c)) c.pairs (record { first = i; second = j; entry = said.InGroup n }) claims.pairs d).entry
entry_of_pairs c i j e claims apart (none out) pair =
    elim (claims.all i j pair) [
      | inl together ↦ absurd (apart together)
      | inr p ↦ absurd (out p.0 p.1 p.2 p.3)
    ]

-- the groups as they are kept
module _ (groups : List Group) (n : ℕ) (good : All (IsGroup n) (map group_said groups)) where
  pub group_ascends : (place : ℕ) (d : Group) → place < length groups → AllPairs ◌<◌ (group_said (get_or groups place d)).members
  group_ascends place d w =
      let long = length-map groups group_said in
      let is = good place (group_said d) (omega (arith, w, long)) in
      (subst (IsGroup n) (get_or-map group_said groups place d (group_said d) w) is).ascending

-- none of the groups before a place has both
abbrev pub NoneHasBoth : List Group → ℕ → ℕ → ℕ → Type 0
NoneHasBoth groups i j end = (k : ℕ) (d : Group) → k < end → Contains (group_said (get_or groups k d)).members i → Contains (group_said (get_or groups k d)).members j → ⊥

pub both_more : (groups : List Group) (i j place : ℕ) → NoneHasBoth groups i j place
    → ((d : Group) → Contains (group_said (get_or groups place d)).members i → Contains (group_said (get_or groups place d)).members j → ⊥) → NoneHasBoth groups i j (place + 1)
both_more groups i j place before here k d lt a b =
    elim (cases_order k place) [
      | inl e ↦ here d (subst (λ m. Contains (group_said (get_or groups m d)).members i) e a) (subst (λ m. Contains (group_said (get_or groups m d)).members j) e b)
      | inr v ↦ elim v [ inl less ↦ before k d less a b | inr more ↦ absurd (omega (arith, lt, more)) ]
    ]

pub none_together : (groups : List Group) (i j : ℕ) → NoneHasBoth groups i j (length groups) → AreTogether (map group_said groups) i j → ⊥
none_together groups i j before (g, c, a, b) =
    let from = of_map group_said groups g c in
    go from.0 from.1 (subst (λ (h : said.Group). Contains h.members i) (sym from.2) a) (subst (λ (h : said.Group). Contains h.members j) (sym from.2) b)
  where
    go : (h : Group) → Contains groups h → Contains (group_said h).members i → Contains (group_said h).members j → ⊥
    go h (k, w, e) x y = before k h w (subst (λ (u : Group). Contains (group_said u).members i) (sym e) x) (subst (λ (u : Group). Contains (group_said u).members j) (sym e) y)

module _ (c : Claims) (claims : IsClaims c) (items : List Group) (same : map group_said items ≡ groups_of c) (i j : ℕ) where
  module _ (place : ℕ) (g : Group) (w : place < length items) (e : g ≡ get_or items place g) (b : Bool)
      (both : AllPairs ◌<◌ (group_said g).members → IsTrue b ↔ (Contains (group_said g).members i × Contains (group_said g).members j)) where
    ascends : AllPairs ◌<◌ (group_said g).members
    ascends =
        subst (λ (h : Group). AllPairs ◌<◌ (group_said h).members) (sym e) (group_ascends items c.series (subst (All (IsGroup c.series)) (sym same) claims.groups) place g w)

    -- the group at a place has both
    pub group_entry : b ≡ true → IsEntryOf c i j (said.InGroup (place + 1))
    group_entry h =
        let has = (both ascends).0 h in
        let long = length-map items group_said in
        let back : (place + 1) - 1 ≡ place = omega arith in
        let there : slice_get (map group_said items) place ≡ Some (group_said g) =
        slice_get-get_or (map group_said items) place (group_said g) (omega (arith, w, long)) ∙ ap Some (get_or-map group_said items place g (group_said g) w ∙ ap group_said (sym e)) in
        (omega arith, (group_said g, ap (slice_get (groups_of c)) back ∙ ap (λ (gs : List said.Group). slice_get gs place) (sym same) ∙ there, has.0, has.1))

    -- or it hasn't
    pub group_lacks : b ≡ false → (d : Group) → Contains (group_said (get_or items place d)).members i → Contains (group_said (get_or items place d)).members j → ⊥
    group_lacks h d x y =
        let here : get_or items place d ≡ g = get_or_default items place d g w ∙ sym e in
        true≢false (sym ((both ascends).1 (subst (λ (u : Group). Contains (group_said u).members i) here x, subst (λ (u : Group). Contains (group_said u).members j) here y)) ∙ h)

  -- none of the groups has
  pub groups_lack : (end : ℕ) → length items ≤ end → NoneHasBoth items i j end → AreTogether (groups_of c) i j → ⊥
  groups_lack end past before t =
      none_together items i j (λ k d lt. before k d (omega (arith, lt, past))) (subst (λ (gs : List said.Group). AreTogether gs i j) (sym same) t)
