-- The series that have SPAN are those that are marked.
use Rattle.std.proofs.Common.{◌≡◌, ◌∙◌, ℕ, zero, suc, ◌+◌, ◌-◌, ◌<◌, ◌≤◌, ◌==◌, Bool, true, false, ◌||◌, ◌⊎◌, inl, inr, List, [], ◌∷◌, length, get_or, take, map, subst, sym, refl, ap, ℤ, arith}
use Rattle.std.specs.Prelude.{All, AllPairs, Contains}
use Rattle.std.specs.List.{list_any}
use Rattle.std.proofs.lemmas.Bool.{true≢false, eqb-true, eq-eqb, and_parts, and_from, or_cases}
use Rattle.std.proofs.lemmas.List.{length-map, get_or-map}
use Rattle.std.proofs.lemmas.List.Elements.{All-contains, All-get_or}
use Rattle.std.proofs.lemmas.List.Folds.{Any-from_list_any, list_any-from_Any, list_any_more}
use Rattle.profile.specs.checker.Certificates.{Entry, End, Span, Res, InGroup, Pair, Claims, IsClaims, IsApart, HasSpan, groups_of}
use Rattle.cal_events.proofs.shared_lemmas.InOneOrder.{cons_pairs, later}
use Rattle.clash_cert.specs.declared.certificate.Pair.{Pair as Kept}
use Rattle.clash_cert.specs.Texts.{pair_said}
use Rattle.clash_cert.specs.Grouped.{is_span, spans, AreMarked, marked_from, HaveSpan}

-- ---- the numbers of what is marked

-- each is the number of a mark
pub marked_at : (n : ℕ) (marks : List Bool) (i : ℕ) → Contains (marked_from n marks) i → (place : ℕ) × (place < length marks) × (get_or marks place false ≡ true) × (i ≡ n + place)
marked_at n [] i c = absurd (omega (arith, c.1))
marked_at n (true ∷ marks) i (zero, l, e) = (0, omega arith, refl, omega (arith, e))
marked_at n (true ∷ marks) i (suc k, l, e) = let (place, within, is, at) = marked_at (suc n) marks i (k, omega (arith, l), e) in (suc place, omega (arith, within), is, omega (arith, at))
marked_at n (false ∷ marks) i c = let (place, within, is, at) = marked_at (suc n) marks i c in (suc place, omega (arith, within), is, omega (arith, at))

-- and each mark has one
pub marked_there : (n : ℕ) (marks : List Bool) (place : ℕ) → place < length marks → get_or marks place false ≡ true → Contains (marked_from n marks) (n + place)
marked_there n [] place within is = absurd (omega (arith, within))
marked_there n (true ∷ marks) zero within is = (0, omega arith, omega arith)
marked_there n (false ∷ marks) zero within is = absurd (true≢false (sym is))
marked_there n (true ∷ marks) (suc place) within is =
    let next : suc n + place ≡ n + suc place = omega arith in
    later n (n + suc place) (marked_from (suc n) marks) (subst (Contains (marked_from (suc n) marks)) next (marked_there (suc n) marks place (omega (arith, within)) is))
marked_there n (false ∷ marks) (suc place) within is =
    let next : suc n + place ≡ n + suc place = omega arith in
    subst (Contains (marked_from (suc n) marks)) next (marked_there (suc n) marks place (omega (arith, within)) is)

marked_ascending : (n : ℕ) (marks : List Bool) → AllPairs ◌<◌ (marked_from n marks)
marked_ascending n [] = λ i j d l w. absurd (omega (arith, w))
marked_ascending n (true ∷ marks) = cons_pairs ◌<◌ n (marked_from (suc n) marks) (λ i c. let (place, within, is, at) = marked_at (suc n) marks i c in omega (arith, at)) (marked_ascending (suc n) marks)
marked_ascending n (false ∷ marks) = marked_ascending (suc n) marks

-- ---- what a mark tells

-- an entry is SPAN and of a series
spans_means : (i : ℕ) (p : Pair) → spans i p ≡ true → ((i ≡ p.first) ⊎ (i ≡ p.second)) × ((from : ℤ) × (days : ℕ) × (p.entry ≡ Span from days))
spans_means i p h = (which, of_entry p.entry parts.0)
  where
    parts : (is_span p.entry ≡ true) × ((p.first == i || p.second == i) ≡ true)
    parts = and_parts (is_span p.entry) (p.first == i || p.second == i) h

    which : (i ≡ p.first) ⊎ (i ≡ p.second)
    which = elim (or_cases (p.first == i) (p.second == i) parts.1) [ inl e ↦ inl (sym (eqb-true p.first i e)) | inr e ↦ inr (sym (eqb-true p.second i e)) ]

    of_entry : (entry : Entry) → is_span entry ≡ true → (from : ℤ) × (days : ℕ) × (entry ≡ Span from days)
    of_entry End e = absurd (true≢false (sym e))
    of_entry (Span from days) e = (from, days, refl)
    of_entry (Res m) e = absurd (true≢false (sym e))
    of_entry (InGroup n) e = absurd (true≢false (sym e))

spans_from : (i : ℕ) (p : Pair) (from : ℤ) (days : ℕ) → (i ≡ p.first) ⊎ (i ≡ p.second) → p.entry ≡ Span from days → spans i p ≡ true
spans_from i p from days which e = and_from (is_span p.entry) (p.first == i || p.second == i) (ap is_span e) either
  where
    second_too : (b : Bool) → (b || true) ≡ true
    second_too true = refl
    second_too false = refl

    either : (p.first == i || p.second == i) ≡ true
    either = elim which [
      | inl first ↦ ap (λ b. b || p.second == i) (eq-eqb p.first i (sym first))
      | inr second ↦ ap (λ b. p.first == i || b) (eq-eqb p.second i (sym second)) ∙ second_too (p.first == i)
    ]

module _ (c : Claims) (is : IsClaims c) where
  -- a series that has SPAN is one of the calendar
  pub within_series : (i : ℕ) → HasSpan c i → (0 < i) × (i ≤ c.series)
  within_series i (p, there, which, span) =
      let (some, order, most) = (All-contains (IsApart c.series (groups_of c)) c.pairs p is.pairs there).pair in
      elim which [ inl e ↦ (omega (arith, e, some), omega (arith, e, order, most)) | inr e ↦ (omega (arith, e, some, order), omega (arith, e, most)) ]

  pub have_span : (marks : List Bool) → length marks ≡ c.series → AreMarked c.pairs marks → HaveSpan c (marked_from 1 marks)
  have_span marks count marked = record { are = λ i. (has i, there i); ascending = marked_ascending 1 marks }
    where
      has : (i : ℕ) → Contains (marked_from 1 marks) i → HasSpan c i
      has i here =
          let (place, within, on, at) = marked_at 1 marks i here in
          let number : suc place ≡ i = omega (arith, at) in
          let (k, p, l, e, spans_it) = Any-from_list_any (spans (suc place)) c.pairs (sym (marked place within) ∙ on) in
          let (which, span) = spans_means (suc place) p spans_it in
          (p, (k, l, e), subst (λ n. (n ≡ p.first) ⊎ (n ≡ p.second)) number which, span)

      there : (i : ℕ) → HasSpan c i → Contains (marked_from 1 marks) i
      there i (p, (k, l, e), which, (from, days, entry)) =
          let (some, most) = within_series i (p, (k, l, e), which, (from, days, entry)) in
          let place = i - 1 in
          let number : suc place ≡ i = omega (arith, some) in
          let within : place < length marks = omega (arith, most, some, count) in
          let spans_it = spans_from (suc place) p from days (subst (λ n. (n ≡ p.first) ⊎ (n ≡ p.second)) (sym number) which) entry in
          let on = marked place within ∙ list_any-from_Any (spans (suc place)) c.pairs (k, p, l, e, spans_it) in
          let same : 1 + place ≡ i = omega (arith, some) in
          subst (Contains (marked_from 1 marks)) same (marked_there 1 marks place within on)

-- ---- marking

pub none_marked : (marks : List Bool) → All (λ m. m ≡ false) marks → AreMarked [] marks
none_marked marks all place within = All-get_or (λ m. m ≡ false) marks place false within all

-- the entries so far, and one more
pub marked_more : (pairs : List Pair) (k : ℕ) (p : Pair) (marks new : List Bool) → k < length pairs → get_or pairs k p ≡ p → AreMarked (take k pairs) marks → length new ≡ length marks
    → ((place : ℕ) → place < length marks → get_or new place false ≡ (get_or marks place false || spans (suc place) p)) → AreMarked (take (k + 1) pairs) new
marked_more pairs k p marks new within at so_far count step place here =
    let before : place < length marks = omega (arith, here, count) in
    step place before ∙ ap (λ b. b || spans (suc place) p) (so_far place before)
    ∙ sym (list_any_more (spans (suc place)) pairs k p within ∙ ap (λ q. list_any (spans (suc place)) (take k pairs) || spans (suc place) q) at)

-- an entry as it is kept is one of those that are said
pub said_there : (xs : List Kept) (k : ℕ) (x : Kept) (pairs : List Pair) → map pair_said xs ≡ pairs → k < length xs → x ≡ get_or xs k x → (k < length pairs) × (get_or pairs k (pair_said x) ≡ pair_said x)
said_there xs k x pairs are within is =
    let count = ap length are in
    (omega (arith, within, count, length-map xs pair_said), ap (λ l. get_or l k (pair_said x)) (sym are) ∙ get_or-map pair_said xs k x (pair_said x) within ∙ ap pair_said (sym is))
