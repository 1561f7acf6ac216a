-- A search through the pairs of series that passes over those which are kept.
use Rattle.std.proofs.Common.{◌≡◌, ◌∙◌, ℕ, ◌+◌, ◌<◌, ◌≤◌, Bool, true, false, List, [], length, subst, sym, refl, inl, inr, arith}
use Rattle.std.specs.Prelude.{Option, Some, None, is_some, slice_index_or}
use Rattle.std.specs.List.{slice_get}
use Rattle.std.proofs.lemmas.Bool.{cases_lt, and_parts, true≢false}
use Rattle.std.proofs.lemmas.Option.{none-some}
use Rattle.profile.specs.checker.Instances.{IsClear, AreClear}
use Rattle.profile.specs.events.Events.{Event}
use Rattle.profile.specs.events.Confirmed.{Confirmed, IsOneOf}
use Rattle.profile.proofs.MadeCertificates.{series_at}
use Rattle.profile.specs.checker.Certificates.{Claims}
use Rattle.cal_events.specs.declared.instance.Instance.{Instance}
use Rattle.cal_period.specs.Every.{IsPairClear, IsAtShared}
use Rattle.clash_cert.specs.Chosen.{AreKeptFrom, AreKeptClear}
use Rattle.clash_cert.specs.Looked.{are_both_kept, IsLookedAt, IsRowLookedAt, AreRowsLookedAt, AreLookedAt, IsAtFound}
use Rattle.clash_cert.proofs.KeptLemmas.{number_there}
use Rattle.clash_cert.proofs.MakingLemmas.{all_clear}

module _ (kept : List (Option ℕ)) (all : List Event) where
  -- ---- a pair

  pub passed_over : (i j : ℕ) → are_both_kept kept i j ≡ true → IsLookedAt kept all i j
  passed_over i j both new = absurd (true≢false (sym both ∙ new))

  pub looked_at : (i j : ℕ) (found : Option (Instance × Instance)) → IsAtShared all i j found → IsAtFound kept all i j found
  looked_at i j None clear = λ new. clear
  looked_at i j (Some s) is = is

  -- ---- a row

  pub row_start : (i : ℕ) → IsRowLookedAt kept all i i
  row_start i q l w = absurd (omega (arith, l, w))

  pub row_more : (i j : ℕ) → IsRowLookedAt kept all i j → IsLookedAt kept all i j → IsRowLookedAt kept all i (j + 1)
  row_more i j clear more q l w =
      elim (cases_lt q j) [
        | inl before ↦ clear q l before
        | inr from ↦ let here : j ≡ q = omega (arith, w, from) in subst (IsLookedAt kept all i) here more
      ]

  pub row_all : (i j : ℕ) → length all ≤ j → IsRowLookedAt kept all i j → IsRowLookedAt kept all i (length all)
  row_all i j past clear q l w = clear q l (omega (arith, w, past))

  -- ---- all rows

  pub rows_start : AreRowsLookedAt kept all 0
  rows_start p w = absurd (omega (arith, w))

  pub rows_more : (i : ℕ) → AreRowsLookedAt kept all i → IsRowLookedAt kept all i (length all) → AreRowsLookedAt kept all (i + 1)
  rows_more i clear more p w =
      elim (cases_lt p i) [
        | inl before ↦ clear p before
        | inr from ↦ let here : i ≡ p = omega (arith, w, from) in subst (λ k. IsRowLookedAt kept all k (length all)) here more
      ]

  pub rows_all : (i : ℕ) → length all ≤ i → AreRowsLookedAt kept all i → AreRowsLookedAt kept all (length all)
  rows_all i past clear p w = clear p (omega (arith, w, past))

  -- where those that were passed over are clear, all are
  pub pairs_clear : ((i j n m : ℕ) → slice_get kept i ≡ Some (Some n) → slice_get kept j ≡ Some (Some m) → IsPairClear all i j) → AreRowsLookedAt kept all (length all)
      → (p q : ℕ) → p ≤ q → q < length all → IsPairClear all p q
  pairs_clear were looked p q l w = go (are_both_kept kept p q) refl
    where
      number_of : (o : Option ℕ) → is_some o ≡ true → (n : ℕ) × (o ≡ Some n)
      number_of (Some n) e = (n, refl)
      number_of None e = absurd (true≢false (sym e))

      go : (b : Bool) → are_both_kept kept p q ≡ b → IsPairClear all p q
      go true both =
          let parts = and_parts (is_some (slice_index_or kept p None)) (is_some (slice_index_or kept q None)) both in
          let first = number_of (slice_index_or kept p None) parts.0 in
          let second = number_of (slice_index_or kept q None) parts.1 in
          were p q first.0 second.0 (number_there kept p first.0 first.1) (number_there kept q second.0 second.1)
      go false new = looked p (omega (arith, l, w)) q l w new

-- two series that are kept of a clear calendar are clear
pub kept_clear : (old : Claims) (kept : List (Option ℕ)) (all : List Event) (known : AreKeptFrom old kept all) → IsClear (IsOneOf known.was) → (i j n m : ℕ) → slice_get kept i ≡ Some (Some n) → slice_get kept j ≡ Some (Some m)
    → IsPairClear all i j
kept_clear old kept all known clear i j n m of_i of_j a b at_a at_b x y t h k clash =
    let was = known.was in
    clear x y t (inr (a, series_at was n a (known.same i n a of_i at_a), h)) (inr (b, series_at was m b (known.same j m b of_j at_b), k)) clash

-- ---- all that is confirmed

module _ (kept : List (Option ℕ)) (all : Confirmed) (looked : AreLookedAt kept all) where
  pub all_looked_at : ((i j n m : ℕ) → slice_get kept i ≡ Some (Some n) → slice_get kept j ≡ Some (Some m) → IsPairClear all.series i j) → AreClear (IsOneOf all) (IsOneOf all)
  all_looked_at were = all_clear all looked.0 (pairs_clear kept all.series were looked.1)

  pub clear_again : (old : Claims) → AreKeptClear old kept all.series → AreClear (IsOneOf all) (IsOneOf all)
  clear_again old known = all_looked_at (kept_clear old kept all.series known.0 known.1)

pub clear_anew : (all : Confirmed) → AreLookedAt [] all → AreClear (IsOneOf all) (IsOneOf all)
clear_anew all looked = all_looked_at [] all looked (λ i j n m e f. absurd (none-some (Some n) e))
