-- A walk through the pairs that have a line: those whose entries were read so far, and the next one.
use Rattle.std.proofs.Common.{◌≡◌, ◌≢◌, ℕ, zero, suc, ◌+◌, ◌-◌, ◌^◌, ◌<◌, ◌≤◌, List, [], ◌∷◌, ◌++◌, Contains, length, get_or, append_assoc, append-nil, subst, sym, refl, ap, ◌∙◌, inl, inr, arith}
use Rattle.std.specs.Prelude.{◌⊎◌, All, AllPairs, Option, Some, None, IfSome, codes, decimal}
use Rattle.std.specs.List.{AllZip}
use Rattle.std.proofs.lemmas.Bool.{cases_order}
use Rattle.std.proofs.lemmas.List.Elements.{All-nil, All-push, All-contains, Contains-append_left, Contains-append_cases, Contains-push}
use Rattle.profile.specs.checker.Certificates.{Entry, End, Pair, Group, IsEntry, IsPairLine, IsPair, IsPairBefore, IsApart, AreTogether, spelled}
use Rattle.clash_cert.specs.Reading.{IsPairAt}
use Rattle.clash_cert.specs.Walked.{HasPairLine, IsBeforeNext, IsNextOf, IsNextPairAfter, IsPairFrom, AreEntriesBefore, HasPairLines}
use Rattle.clash_cert.proofs.TextLemmas.{spelled-append}
use Rattle.clash_cert.proofs.ListLemmas.{zip_append, none_in_nil, in_head, in_tail, in_cons, contained, all_of, pairs_nil, pairs_push}

-- ---- the order of pairs

pub before_self : (i j : ℕ) → IsPairBefore i j i j → ⊥
before_self i j (inl l) = absurd (omega (arith, l))
before_self i j (inr (e, l)) = absurd (omega (arith, l))

pub before_through : (i j k l m n : ℕ) → IsPairBefore i j k l → IsPairBefore k l m n → IsPairBefore i j m n
before_through i j k l m n (inl a) (inl b) = inl (omega (arith, a, b))
before_through i j k l m n (inl a) (inr (e, b)) = inl (omega (arith, a, e))
before_through i j k l m n (inr (e, a)) (inl b) = inl (omega (arith, e, b))
before_through i j k l m n (inr (e, a)) (inr (f, b)) = inr (e ∙ f, omega (arith, a, b))

-- a pair is before another, or from that on
pub before_or_from : (p q i j : ℕ) → IsPairBefore p q i j ⊎ IsPairFrom i j p q
before_or_from p q i j =
    elim (cases_order p i) [
      | inl e ↦ elim (cases_order q j) [
        | inl f ↦ inr (inr (sym e, sym f))
        | inr v ↦ elim v [ inl lt ↦ inl (inr (e, lt)) | inr lt ↦ inr (inl (inr (sym e, lt))) ]
      ]
      | inr w ↦ elim w [ inl lt ↦ inl (inl lt) | inr lt ↦ inr (inl (inl lt)) ]
    ]

-- before the one in the next place
pub before_next : (p q i j : ℕ) → IsPairBefore p q i (suc j) → IsPairBefore p q i j ⊎ ((p ≡ i) × (q ≡ j))
before_next p q i j (inl l) = inl (inl l)
before_next p q i j (inr (e, l)) =
    elim (cases_order q j) [
      | inl f ↦ inr (e, f)
      | inr v ↦ elim v [ inl lt ↦ inl (inr (e, lt)) | inr lt ↦ absurd (omega (arith, l, lt)) ]
    ]

pub before_later : (p q i j : ℕ) → IsPairBefore p q i j → IsPairBefore p q i (suc j)
before_later p q i j (inl l) = inl l
before_later p q i j (inr (e, l)) = inr (e, omega (arith, l))

-- the next one has a line
pub next_has : (From : ℕ → ℕ → Type 0) (n : ℕ) (groups : List Group) (next : Option (ℕ × ℕ)) → IsNextOf From n groups next → IfSome next (λ p. HasPairLine n groups p.0 p.1)
next_has From n groups None x = tt
next_has From n groups (Some p) x = x.is.0

-- ---- entries, one after another

module _ (n : ℕ) (groups : List Group) where
  -- no pair that has a line comes between
  pub entries_to : (next then : Option (ℕ × ℕ)) (pairs : List Pair) → ((i j : ℕ) → IsBeforeNext next i j → IsBeforeNext then i j)
      → ((i j : ℕ) → IsPair n i j → IsBeforeNext then i j → IsBeforeNext next i j ⊎ AreTogether groups i j) → AreEntriesBefore n groups next pairs → AreEntriesBefore n groups then pairs
  entries_to next then pairs less none e = record {
    good = e.good;
    before = all_of (λ p. IsBeforeNext then p.first p.second) pairs (λ p c. less p.first p.second (All-contains (λ p. IsBeforeNext next p.first p.second) pairs p e.before c));
    ordered = e.ordered;
    all = λ i j pair b. elim (none i j pair b) [ inl old ↦ e.all i j pair old | inr together ↦ inl together ];
  }

  pub entries_start : AreEntriesBefore n groups (Some (1, 1)) []
  entries_start = record {
    good = All-nil (IsApart n groups);
    before = All-nil (λ p. IsBeforeNext (Some (1, 1)) p.first p.second);
    ordered = pairs_nil (λ p q. IsPairBefore p.first p.second q.first q.second);
    all = λ i j pair b. absurd (none i j pair b);
  }
    where
      none : (i j : ℕ) → IsPair n i j → IsPairBefore i j 1 1 → ⊥
      none i j pair (inl l) = absurd (omega (arith, l, pair.0))
      none i j pair (inr (e, l)) = absurd (omega (arith, l, pair.0, pair.1))

  pub entries_push : (i j : ℕ) (pairs : List Pair) (entry : Entry) → AreEntriesBefore n groups (Some (i, j)) pairs → HasPairLine n groups i j → IsEntry entry
      → AreEntriesBefore n groups (Some (i, suc j)) (pairs ++ (record { first = i; second = j; entry = entry }) ∷ [])
  entries_push i j pairs entry e has good =
      let p : Pair = record { first = i; second = j; entry = entry } in
      let last : IsPairBefore i j i (suc j) = inr (refl, omega arith) in
      let here : Contains (pairs ++ p ∷ []) p = Contains-push pairs p in
      record {
        good = All-push (IsApart n groups) pairs p e.good (record { pair = has.pair; entry = good; apart = has.apart });
        before = All-push (λ p. IsBeforeNext (Some (i, suc j)) p.first p.second) pairs p
            (all_of (λ p. IsBeforeNext (Some (i, suc j)) p.first p.second) pairs (λ q c. before_later q.first q.second i j (All-contains (λ p. IsBeforeNext (Some (i, j)) p.first p.second) pairs q e.before c))) last;
        ordered = pairs_push (λ p q. IsPairBefore p.first p.second q.first q.second) pairs p e.ordered (λ q c. All-contains (λ p. IsBeforeNext (Some (i, j)) p.first p.second) pairs q e.before c);
        all = λ k l pair b. elim (before_next k l i j b) [
          | inl old ↦ elim (e.all k l pair old) [ inl together ↦ inl together | inr f ↦ inr (f.0, Contains-append_left pairs (p ∷ []) f.0 f.1, f.2, f.3) ]
          | inr same ↦ inr (p, here, sym same.0, sym same.1)
        ];
      }

  -- ---- to the next pair that has a line

  pub entries_first : (next : Option (ℕ × ℕ)) → IsNextPairAfter 0 0 n groups next → AreEntriesBefore n groups next []
  entries_first next first = entries_to (Some (1, 1)) next [] less none entries_start
    where
      less : (i j : ℕ) → IsPairBefore i j 1 1 → IsBeforeNext next i j
      less i j b = go next first b
        where
          go : (next : Option (ℕ × ℕ)) → IsNextPairAfter 0 0 n groups next → IsPairBefore i j 1 1 → IsBeforeNext next i j
          go None first b = tt
          go (Some p) first b = before_one p.0 p.1 first.is.0.pair b
            where
              before_one : (k l : ℕ) → IsPair n k l → IsPairBefore i j 1 1 → IsPairBefore i j k l
              before_one k l pair (inl a) = inl (omega (arith, a, pair.0))
              before_one k l pair (inr (e, a)) =
                  elim (cases_order i k) [
                    | inl f ↦ inr (f, omega (arith, a, pair.0, pair.1))
                    | inr v ↦ elim v [ inl lt ↦ inl lt | inr lt ↦ absurd (omega (arith, lt, e, pair.0)) ]
                  ]

      none : (i j : ℕ) → IsPair n i j → IsBeforeNext next i j → IsPairBefore i j 1 1 ⊎ AreTogether groups i j
      none i j pair b = inr (first.none_before i j pair (inl pair.0) b)

  pub entries_more : (i j : ℕ) (next : Option (ℕ × ℕ)) (pairs : List Pair) (entry : Entry) → AreEntriesBefore n groups (Some (i, j)) pairs → HasPairLine n groups i j → IsEntry entry → IsNextPairAfter i j n groups next
      → AreEntriesBefore n groups next (pairs ++ (record { first = i; second = j; entry = entry }) ∷ [])
  entries_more i j next pairs entry e has good after =
      entries_to (Some (i, suc j)) next (pairs ++ (record { first = i; second = j; entry = entry }) ∷ []) less none (entries_push i j pairs entry e has good)
    where
      less : (p q : ℕ) → IsPairBefore p q i (suc j) → IsBeforeNext next p q
      less p q b = go next after
        where
          through : (k l : ℕ) → IsPairBefore i j k l → IsPairBefore p q k l
          through k l c = elim (before_next p q i j b) [
            | inl d ↦ before_through p q i j k l d c
            | inr same ↦ subst (λ m. IsPairBefore m q k l) (sym same.0) (subst (λ m. IsPairBefore i m k l) (sym same.1) c)
          ]

          go : (next : Option (ℕ × ℕ)) → IsNextPairAfter i j n groups next → IsBeforeNext next p q
          go None after = tt
          go (Some r) after = through r.0 r.1 after.is.1

      none : (p q : ℕ) → IsPair n p q → IsBeforeNext next p q → IsPairBefore p q i (suc j) ⊎ AreTogether groups p q
      none p q pair b =
          elim (before_or_from p q i j) [
            | inl c ↦ inl (before_later p q i j c)
            | inr w ↦ elim w [
              | inl c ↦ inr (after.none_before p q pair c b)
              | inr same ↦ inl (inr (sym same.0, subst (λ m. m < suc j) same.1 (omega arith)))
            ]
          ]

  -- ---- with their lines

  pub lines_first : (next : Option (ℕ × ℕ)) (bytes : List ℕ) → IsNextPairAfter 0 0 n groups next → HasPairLines n groups next [] bytes bytes
  lines_first next bytes first = record { entries = entries_first next first; lines = []; of = tt; is = refl }

  pub lines_more : (i j : ℕ) (next : Option (ℕ × ℕ)) (pairs : List Pair) (entry : Entry) (bytes rest left : List ℕ) → HasPairLines n groups (Some (i, j)) pairs bytes rest → HasPairLine n groups i j
      → IsPairAt i j entry rest left → IsNextPairAfter i j n groups next → HasPairLines n groups next (pairs ++ (record { first = i; second = j; entry = entry }) ∷ []) bytes left
  lines_more i j next pairs entry bytes rest left w has at after = record {
    entries = entries_more i j next pairs entry w.entries has at.good after;
    lines = w.lines ++ at.line ∷ [];
    of = zip_append IsPairLine pairs ((record { first = i; second = j; entry = entry }) ∷ []) w.lines (at.line ∷ []) w.of (at.of, tt);
    is = w.is ∙ ap (spelled w.lines) at.is ∙ sym (spelled-append w.lines (at.line ∷ []) left);
  }

  -- ---- where entries are missing, END completes them

  pub together : (gs : List Group) (i j : ℕ) → AreTogether gs i j ⊎ (AreTogether gs i j → ⊥)
  together [] i j = inr (λ t. none_in_nil t.0 t.1)
  together (g ∷ gs) i j =
      elim (together gs i j) [
        | inl t ↦ inl (t.0, in_tail g gs t.0 t.1, t.2, t.3)
        | inr none ↦ here none (contained g.members i) (contained g.members j)
      ]
    where
      here : (AreTogether gs i j → ⊥) → Contains g.members i ⊎ (Contains g.members i → ⊥) → Contains g.members j ⊎ (Contains g.members j → ⊥) → AreTogether (g ∷ gs) i j ⊎ (AreTogether (g ∷ gs) i j → ⊥)
      here none (inl a) (inl b) = inl (g, in_head g gs, a, b)
      here none (inr a) w = inr (λ t. elim (in_cons g gs t.0 t.1) [
        | inl e ↦ a (subst (λ (h : Group). Contains h.members i) (sym e) t.2)
        | inr there ↦ none (t.0, there, t.2, t.3)
      ])
      here none (inl a) (inr b) = inr (λ t. elim (in_cons g gs t.0 t.1) [
        | inl e ↦ b (subst (λ (h : Group). Contains h.members j) (sym e) t.3)
        | inr there ↦ none (t.0, there, t.2, t.3)
      ])

  -- more entries and their lines, so that those of all pairs up to another one are there
  pub record AreFilled (then : Option (ℕ × ℕ)) (pairs : List Pair) : Type 0 where
    pub more : List Pair
    pub lines : List (List ℕ)
    pub of : AllZip IsPairLine more lines
    pub entries : AreEntriesBefore n groups then (pairs ++ more)

  filled_none : (then : Option (ℕ × ℕ)) (pairs : List Pair) → AreEntriesBefore n groups then pairs → AreFilled then pairs
  filled_none then pairs e = record { more = []; lines = []; of = tt; entries = subst (AreEntriesBefore n groups then) (sym (append-nil pairs)) e }

  filled_more : (then : Option (ℕ × ℕ)) (pairs one : List Pair) (lines : List (List ℕ)) → AllZip IsPairLine one lines → AreFilled then (pairs ++ one) → AreFilled then pairs
  filled_more then pairs one lines w f = record {
    more = one ++ f.more;
    lines = lines ++ f.lines;
    of = zip_append IsPairLine one f.more lines f.lines w f.of;
    entries = subst (AreEntriesBefore n groups then) (append_assoc pairs one f.more) f.entries;
  }

  -- one pair
  one_filled : (i j : ℕ) (pairs : List Pair) → IsPair n i j → AreEntriesBefore n groups (Some (i, j)) pairs → AreFilled (Some (i, suc j)) pairs
  one_filled i j pairs pair e =
      elim (together groups i j) [
        | inl t ↦ filled_none (Some (i, suc j)) pairs
            (entries_to (Some (i, j)) (Some (i, suc j)) pairs (λ p q b. before_later p q i j b)
            (λ p q here b. elim (before_next p q i j b) [
              | inl c ↦ inl c
              | inr same ↦ inr (subst (λ m. AreTogether groups m q) (sym same.0) (subst (AreTogether groups i) (sym same.1) t))
            ]) e)
        | inr apart ↦ filled_more (Some (i, suc j)) pairs ((record { first = i; second = j; entry = End }) ∷ []) ((codes "PAIR " ++ (decimal i ++ (codes " " ++ (decimal j ++ (codes " " ++ codes "END"))))) ∷ [])
            ((codes "END", refl, refl), tt)
            (filled_none (Some (i, suc j)) (pairs ++ (record { first = i; second = j; entry = End }) ∷ []) (entries_push i j pairs End e (record { pair = pair; apart = apart }) tt))
      ]

  -- those of a series with so many more ones
  row_filled : (i j count : ℕ) (pairs : List Pair) → 0 < i → i ≤ j → j + count ≡ suc n → AreEntriesBefore n groups (Some (i, j)) pairs → AreFilled (Some (suc i, suc i)) pairs
  row_filled i j zero pairs some least sum e =
      filled_none (Some (suc i, suc i)) pairs (entries_to (Some (i, j)) (Some (suc i, suc i)) pairs less none e)
    where
      less : (p q : ℕ) → IsPairBefore p q i j → IsPairBefore p q (suc i) (suc i)
      less p q (inl l) = inl (omega (arith, l))
      less p q (inr (f, l)) = inl (omega (arith, f))

      none : (p q : ℕ) → IsPair n p q → IsPairBefore p q (suc i) (suc i) → IsPairBefore p q i j ⊎ AreTogether groups p q
      none p q pair (inr (f, l)) = absurd (omega (arith, f, l, pair.1))
      none p q pair (inl l) =
          elim (cases_order p i) [
            | inl f ↦ inl (inr (f, omega (arith, pair.2, sum)))
            | inr v ↦ elim v [ inl lt ↦ inl (inl lt) | inr lt ↦ absurd (omega (arith, l, lt)) ]
          ]
  row_filled i j (suc count) pairs some least sum e =
      let one = one_filled i j pairs (some, least, omega (arith, sum)) e in
      filled_more (Some (suc i, suc i)) pairs one.more one.lines one.of (row_filled i (suc j) count (pairs ++ one.more) some (omega (arith, least)) (omega (arith, sum)) one.entries)

  -- those of so many more series
  rows_filled : (i count : ℕ) (pairs : List Pair) → 0 < i → i + count ≡ suc n → AreEntriesBefore n groups (Some (i, i)) pairs → AreFilled None pairs
  rows_filled i zero pairs some sum e = filled_none None pairs (entries_to (Some (i, i)) None pairs (λ p q b. tt) (λ p q pair b. inl (inl (omega (arith, pair.1, pair.2, sum)))) e)
  rows_filled i (suc count) pairs some sum e =
      let row = row_filled i i (suc count) pairs some (omega arith) sum e in
      filled_more None pairs row.more row.lines row.of (rows_filled (suc i) count (pairs ++ row.more) (omega arith) (omega (arith, sum)) row.entries)

  pub complete : (i j : ℕ) (pairs : List Pair) → IsPair n i j → AreEntriesBefore n groups (Some (i, j)) pairs → AreFilled None pairs
  complete i j pairs (some, least, most) e =
      let row = row_filled i j (suc n - j) pairs some least (omega (arith, most)) e in
      filled_more None pairs row.more row.lines row.of (rows_filled (suc i) (n - i) (pairs ++ row.more) (omega arith) (omega (arith, least, most)) row.entries)

  -- from the first one on
  pub complete_all : AreFilled None []
  complete_all = rows_filled 1 n [] (omega arith) (omega arith) entries_start
