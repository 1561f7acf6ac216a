-- Set positions that count from the first day, and those that count from the last.
use Rattle.std.proofs.Common.{◌≡◌, ◌∙◌, ap, sym, refl, ℕ, ◌+◌, ◌-◌, ◌≤◌, Bool, true, false, ◌||◌, ◌==◌, nat_lt, List, [], ◌∷◌, ℤ, pos, negsuc, arith}
use Rattle.std.proofs.lemmas.Bool.{false≢true, and_parts}
use Rattle.std.proofs.lemmas.Bool.Decides.{nat_tests}
use Rattle.std.specs.List.{list_any, list_all}
use Rattle.profile.specs.series.Rules.{Pattern, allows, is_nth, is_missing, passes, is_in_step, count_days}
use Rattle.cal_rules.specs.Spans.{IsPeriodSpan}
use Rattle.cal_rules.specs.Counted.{NoneIn, is_chosen}
use Rattle.cal_rules.specs.Cursors.{is_from_first, is_among_last}
use Rattle.cal_rules.proofs.Periods.{span_of}
use Rattle.cal_rules.proofs.Positions.{count_split, step_same, chosen_passes, chosen_by_place}

pub none_listed : {A : Type 0} (test : A → Bool) (xs : List A) → is_missing xs ≡ true → list_any test xs ≡ false
none_listed test [] none = refl
none_listed test (x ∷ xs) none = absurd (false≢true none)

-- where none counts from the first day, the days before don't matter
any_from_last : (a b rest : ℕ) (ks : List ℤ) → list_any is_from_first ks ≡ false → list_any (λ k. is_nth k a rest) ks ≡ list_any (λ k. is_nth k b rest) ks
any_from_last a b rest [] h = refl
any_from_last a b rest (pos n ∷ ks) h = absurd (false≢true (sym h))
any_from_last a b rest (negsuc n ∷ ks) h = ap (λ t. (n == rest) || t) (any_from_last a b rest ks h)

pub same_places : (a b rest : ℕ) (ks : List ℤ) → (list_any is_from_first ks ≡ true → a ≡ b) → allows (λ k. is_nth k a rest) ks ≡ allows (λ k. is_nth k b rest) ks
same_places a b rest ks h =
    elim (list_any is_from_first ks) as (λ t. list_any is_from_first ks ≡ t → allows (λ k. is_nth k a rest) ks ≡ allows (λ k. is_nth k b rest) ks) [
      | true ↦ λ e. rw (h e) refl
      | false ↦ λ e. ap (λ t. is_missing ks || t) (any_from_last a b rest ks e)
    ] refl

-- where all are among this many last ones, none counts from the first day
pub none_from_first : (depth : ℕ) (ks : List ℤ) → list_all (is_among_last depth) ks ≡ true → list_any is_from_first ks ≡ false
none_from_first depth [] h = refl
none_from_first depth (pos n ∷ ks) h = absurd (false≢true h)
none_from_first depth (negsuc n ∷ ks) h = none_from_first depth ks (and_parts (nat_lt n depth) (list_all (is_among_last depth) ks) h).1

-- and none names a day with as many after it
past_last : (depth before rest : ℕ) (ks : List ℤ) → depth ≤ rest → list_all (is_among_last depth) ks ≡ true → list_any (λ k. is_nth k before rest) ks ≡ false
past_last depth before rest [] many h = refl
past_last depth before rest (pos n ∷ ks) many h = absurd (false≢true h)
past_last depth before rest (negsuc n ∷ ks) many h =
    let p = and_parts (nat_lt n depth) (list_all (is_among_last depth) ks) h in
    let near = p.0 in
    let other : (n == rest) ≡ false = grind (arith, nat_tests) in
    rw other (past_last depth before rest ks many p.1)

-- from an earlier day on no fewer days pass
count_tail : (test : ℕ → Bool) (m here end : ℕ) → m ≤ here → here ≤ end → count_days test here (end - here) ≤ count_days test m (end - m)
count_tail test m here end low high =
    let whole : here - m + (end - here) ≡ end - m = omega arith in
    let place : m + (here - m) ≡ here = omega arith in
    let split = rw (whole, place) at (count_split test m (here - m) (end - here)) in
    omega (arith, split)

-- before a day from which this many days of its period pass, none has a set position
pub before_last : (p : Pattern) (day here first end depth later : ℕ) → IsPeriodSpan p.frequency p.week_start day first end → is_in_step p day ≡ true → end ≤ 3_653_155 → is_missing p.positions ≡ false → list_all (is_among_last depth) p.positions ≡ true → here ≤ end → later ≡ count_days (passes p) here (end - here) → depth ≤ later → NoneIn (is_chosen p) day here
before_last p day here first end depth later s step high some deep inside count many n from to =
    let low = s.not_before in
    elim (passes p n) as (λ t. passes p n ≡ t → is_chosen p n ≡ false) [
      | false ↦ λ e. chosen_passes p n e
      | true ↦ λ e.
          let own = span_of p.frequency p.week_start day first end n s (omega arith) (omega arith) in
          let also = step_same p day n (s.same n (omega arith) (omega arith)) ∙ step in
          let before = count_days (passes p) first (n - first) in
          let rest = count_days (passes p) (n + 1) (end - (n + 1)) in
          let tail = count_tail (passes p) (n + 1) here end (omega arith) inside in
          chosen_by_place p n first end before rest own also high e refl refl ∙ rw (some, past_last depth before rest p.positions (omega (arith, tail)) deep) refl
    ] refl
