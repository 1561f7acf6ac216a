-- The certificate that is made, from the entries that are chosen for its pairs.
use Rattle.std.proofs.Common.{◌≡◌, ℕ, suc, ◌+◌, ◌-◌, ◌*◌, ◌^◌, ◌<◌, ◌≤◌, ◌==◌, Bool, ℤ, pos, ◌≤ℤ◌, ◌<ℤ◌, List, [], ◌∷◌, ◌++◌, length, get_or, subst, sym, refl, ap, ◌∙◌, inl, inr, arith}
use Rattle.std.specs.Prelude.{Some, None, Contains}
use Rattle.std.specs.List.{slice_get}
use Rattle.std.proofs.lemmas.Int.{ints}
use Rattle.std.proofs.lemmas.Bool.{cases_lt}
use Rattle.std.proofs.lemmas.Bool.Decides.{nat_tests}
use Rattle.std.proofs.lemmas.List.Quantifiers.{all_pairs_push}
use Rattle.std.proofs.lemmas.List.Elements.{All-nil, Contains-get_or, Contains-push, Contains-push_cases, Contains-append_left}
use Rattle.profile.specs.checker.Instances.{horizon}
use Rattle.profile.specs.checker.Certificates.{Entry, Pair, Claims, IsClaims, IsApart, IsEntry, IsGroup, IsPair, IsPairBefore, IsLeastSpan, IsEntryMade, IsCertificateMade}
use Rattle.profile.specs.text.Values.{IsClockSeconds}
use Rattle.profile.specs.events.Events.{Event}
use Rattle.profile.specs.events.Spans.{IsBoundOf}
use Rattle.profile.specs.events.Confirmed.{Confirmed}
use Rattle.cal_period.proofs.Entries.{no_less}
use Rattle.clash_cert.specs.Chosen.{IsEntryAt, ArePairsMade}

-- a stamp is there for the beginning of a span
pub clock_of_span : (all : List Event) (from : ℤ) (days : ℕ) (bound : ℤ) → IsLeastSpan all from days → IsBoundOf all from days bound → bound <ℤ horizon
    → IsClockSeconds from
clock_of_span all from days bound least (width, is, e) before =
    let n = least.midnight.0 in
    let midnight = least.midnight.1 in
    let at : pos 0 ≤ℤ from = subst (λ t. pos 0 ≤ℤ t) (sym midnight) (omega (arith, ints)) in
    let wide : pos 0 ≤ℤ width = let (master, is, wide) = is.one.2 in no_less master.times width wide in
    let long : pos 0 ≤ℤ pos (86_400 * days) = omega (arith, ints) in
    (omega (arith, ints, at), omega (arith, ints, wide, long, e, before))

-- ---- pairs

-- what comes before a pair and isn't it
abbrev IsBefore : Pair → Pair → Type 0
IsBefore p q = IsPairBefore p.first p.second q.first q.second

module _ (Known : Type 0) (all : List Event) where
  pub pairs_start : ArePairsMade Known all 0 0 []
  pairs_start = record {
    good = λ p c. absurd (omega (arith, c.1));
    before = λ p c. absurd (omega (arith, c.1));
    made = λ p c. absurd (omega (arith, c.1));
    ordered = λ k l d less within. absurd (omega (arith, within));
    none_left = λ n m (some, order, most) before. elim before [ inl less ↦ absurd (omega (arith, less, some)) | inr (same, less) ↦ absurd (omega (arith, less, some, order)) ];
  }

  -- the entry of the next pair is added
  module _ (i j : ℕ) (pairs : List Pair) (entry : Entry) (order : i ≤ j) (within : j < length all) (r : ArePairsMade Known all i j pairs) (good : IsEntry entry) (made : IsEntryAt Known all i j entry) where
    abbrev new : Pair
    new = record { first = i + 1; second = j + 1; entry = entry }

    of_pairs : (P : Pair → Type 0) → ((p : Pair) → Contains pairs p → P p) → P new → (p : Pair) → Contains (pairs ++ new ∷ []) p → P p
    of_pairs P old last p c = elim (Contains-push_cases pairs new p c) [ inl there ↦ old p there | inr same ↦ subst P same last ]

    made_new : IsEntryAt Known all (new.first - 1) (new.second - 1) entry
    made_new =
        let first : (i + 1) - 1 ≡ i = omega arith in
        let second : (j + 1) - 1 ≡ j = omega arith in
        subst (λ n. IsEntryAt Known all n (new.second - 1) entry) (sym first) (subst (λ m. IsEntryAt Known all i m entry) (sym second) made)

    later : (n m : ℕ) → IsPairBefore n m (suc i) (suc j) → IsPairBefore n m (suc i) (suc (j + 1))
    later n m before = elim before [ inl less ↦ inl less | inr (same, less) ↦ inr (same, omega (arith, less)) ]

    before_new : (n m : ℕ) → IsPairBefore n m (suc i) (suc j) → IsPairBefore n m (i + 1) (j + 1)
    before_new n m before = elim before [ inl less ↦ inl (omega (arith, less)) | inr (same, less) ↦ inr (omega (arith, same), omega (arith, less)) ]

    left : (n m : ℕ) → IsPair (length all) n m → IsPairBefore n m (suc i) (suc j) → (p : Pair) × Contains (pairs ++ new ∷ []) p × (p.first ≡ n) × (p.second ≡ m)
    left n m pair before = let (p, there, first, second) = r.none_left n m pair before in (p, Contains-append_left pairs (new ∷ []) p there, first, second)

    pub pairs_more : ArePairsMade Known all i (j + 1) (pairs ++ new ∷ [])
    pairs_more = record {
      good = of_pairs (λ p. IsPair (length all) p.first p.second × IsEntry p.entry) r.good ((omega arith, omega (arith, order), omega (arith, within)), good);
      before = of_pairs (λ p. IsPairBefore p.first p.second (suc i) (suc (j + 1))) (λ p c. later p.first p.second (r.before p c)) (inr (omega arith, omega arith));
      made = of_pairs (λ p. IsEntryAt Known all (p.first - 1) (p.second - 1) p.entry) r.made made_new;
      ordered = all_pairs_push IsBefore pairs new r.ordered (λ k d l. let p = get_or pairs k d in before_new p.first p.second (r.before p (Contains-get_or pairs k d l)));
      none_left = λ n m pair before. elim before [
        | inl less ↦ left n m pair (inl less)
        | inr (same, less) ↦ elim (cases_lt m (suc j)) [
          | inl earlier ↦ left n m pair (inr (same, earlier))
          | inr from ↦ (new, Contains-push pairs new, omega (arith, same), omega (arith, less, from))
        ]
      ];
    }

  -- all pairs of a series are there
  pub row_end : (i : ℕ) (pairs : List Pair) → ArePairsMade Known all i (length all) pairs → ArePairsMade Known all (i + 1) (i + 1) pairs
  row_end i pairs r = record {
    good = r.good;
    before = λ p c. elim (r.before p c) [ inl less ↦ inl (omega (arith, less)) | inr (same, less) ↦ inl (omega (arith, same)) ];
    made = r.made;
    ordered = r.ordered;
    none_left = λ n m pair before.
        let (some, order, most) = pair in
        elim (cases_lt n (suc i)) [
          | inl less ↦ r.none_left n m pair (inl less)
          | inr from ↦ r.none_left n m pair (inr (elim before [ inl less ↦ omega (arith, from, less) | inr (same, less) ↦ absurd (omega (arith, same, less, order)) ], omega (arith, most)))
        ];
  }

-- ---- the certificate

-- counted from 1 it is the same series, or another, as counted from 0
same_place : (i j : ℕ) → 0 < i → 0 < j → ((i - 1) == (j - 1)) ≡ (i == j)
same_place i j first second = grind (arith, nat_tests)

-- of these series, and of the entries of their pairs
module _ (Known : Type 0) (all : List Event) (singles n : ℕ) (pairs : List Pair) (few_singles : singles < 2 ^ 64) (few : n < 2 ^ 64) (count : n ≡ length all) (made : ArePairsMade Known all n n pairs) where
  abbrev claims_of : Claims
  claims_of = record { singles = singles; series = n; groups = None; pairs = pairs }

  apart : (p : Pair) → Contains pairs p → IsApart n [] p
  apart p c =
      let (some, order, most) = (made.good p c).0 in
      record { pair = (some, order, omega (arith, most, count)); entry = (made.good p c).1; apart = λ (group, there, first, second). omega (arith, there.1) }

  pub claims_kept : IsClaims claims_of
  claims_kept = record {
    singles = few_singles;
    series = few;
    groups = All-nil (IsGroup n);
    groups_ordered = λ k l d less within. absurd (omega (arith, within));
    pairs = λ k d l. apart (get_or pairs k d) (Contains-get_or pairs k d l);
    pairs_ordered = made.ordered;
    all = λ i j (some, order, most). inr (made.none_left i j (some, order, omega (arith, most, count)) (inl (omega (arith, order, most))));
  }

  entry_made : Known → (p : Pair) → Contains pairs p → (a b : Event) → slice_get all (p.first - 1) ≡ Some a → slice_get all (p.second - 1) ≡ Some b → IsEntryMade (p.first == p.second) a b p.entry
  entry_made known p c a b at_a at_b =
      let (some, order, most) = (made.good p c).0 in
      subst (λ (own : Bool). IsEntryMade own a b p.entry) (same_place p.first p.second some (omega (arith, some, order))) (made.made p c known a b at_a at_b)

  pub certificate_kept : Known → (confirmed : Confirmed) → singles ≡ length confirmed.singles → all ≡ confirmed.series → IsCertificateMade confirmed claims_of
  certificate_kept known confirmed of are = record {
    claims = claims_kept;
    counts = record { singles = of; series = count ∙ ap length are };
    version = refl;
    entries = λ p c a b at_a at_b. entry_made known p c a b (ap (λ xs. slice_get xs (p.first - 1)) are ∙ at_a) (ap (λ xs. slice_get xs (p.second - 1)) are ∙ at_b);
  }
