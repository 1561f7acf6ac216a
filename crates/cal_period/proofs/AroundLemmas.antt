-- When two arcs around m meet: where neither is over before the other begins. And of many arcs only the neighbours count.
-- Cited by arcs_meet, meets_none, neighbours, are_apart, is_apart, residue_of, reaches.
use Rattle.std.proofs.Common.{◌≡◌, ◌≢◌, ◌∙◌, refl, subst, ap, sym, arith, ℕ, zero, suc, ◌+◌, ◌-◌, ◌*◌, ◌/◌, ◌%◌, ◌<◌, ◌≤◌, ◌⊎◌, inl, inr, Bool, true, false, ℤ, pos, negsuc, ◌+ℤ◌, ◌-ℤ◌, ◌≤ℤ◌, ◌<ℤ◌, List, length, get_or, nat_lt, nat_abs, min, ◌^◌, w64}
use Rattle.std.specs.Prelude.{Contains, ◌↔◌, IsTrue, not}
use Rattle.std.specs.List.{slice_index}
use Rattle.std.specs.List.Sorted.{IsStrictlyIncreasing, IsNonDecreasingBy, IsPartitionPoint}
use Rattle.std.specs.Int.{int_rem_euclid, saturate_signed}
use Rattle.std.proofs.Math.Nat.{div-add-mod'}
use Rattle.std.proofs.lemmas.Int.{ints, by_lt_z}
use Rattle.std.proofs.lemmas.Bool.{cases_lt, false≢true}
use Rattle.std.proofs.lemmas.Bool.Decides.{nat_tests}
use Rattle.std.proofs.lemmas.List.{get_or_default}
use Rattle.std.proofs.lemmas.List.Elements.{Contains-get_or}
use Rattle.std.proofs.lemmas.List.Kept.{AllPairs-from_increasing}
use Rattle.profile.specs.checker.Instances.{IsWithin}
use Rattle.profile.specs.series.Repeating.{ArcsMeet, IsCongruent}
use Rattle.profile.proofs.Repeats.{residues_apart}
use Rattle.cal_period.specs.Around.{AreAround, IsOver, MeetsNoArc, AreBesideResidue, AreApart, IsApart, AreStepsOver, IsLastOver}

int_eq_by : {a b : ℤ} → a ≤ℤ b → b ≤ℤ a → a ≡ b
int_eq_by {a} {b} l m = omega (arith, ints, l, m)

mod_below : (n m : ℕ) → 0 < m → n % m < m
mod_below n m some = omega (arith, some)

sum_times : (k l m : ℕ) → (k + l) * m ≡ k * m + l * m
sum_times zero l m = let z : 0 * m ≡ 0 = omega arith in let e : 0 + l ≡ l = omega arith in rw e (omega (arith, z))
sum_times (suc k) l m =
    let e = sum_times k l m in
    let a : (suc k + l) * m ≡ m + (k + l) * m = omega arith in
    let b : suc k * m ≡ m + k * m = omega arith in
    omega (arith, a, b, e)

times_more : (m k l : ℕ) → k < l → k * m + m ≤ l * m
times_more m k l less =
    let n = l - suc k in
    let e : l ≡ suc k + n = omega (arith, less) in
    let f = sum_times (suc k) n m in
    let g : suc k * m ≡ m + k * m = omega arith in
    let h : l * m ≡ (suc k + n) * m = ap (λ x. x * m) e in
    omega (arith, f, g, h)

-- ---- two arcs

-- an instant that is in both is past the beginning of one of them, and not over
pub over_apart : (m r s : ℕ) (w v : ℤ) → r < m → s < m → IsOver m r w s → IsOver m s v r → ArcsMeet m r w s v → ⊥
over_apart m r s w v low small first second meet = by (cases_lt k l)
  where
    k : ℕ
    k = meet.same.0

    l : ℕ
    l = meet.same.1

    by : (k < l) ⊎ (l ≤ k) → ⊥
    by (inl less) = which (cases_lt s r)
      where
        which : (s < r) ⊎ (r ≤ s) → ⊥
        which (inl below) =
            let n = times_more m k l less in
            let e = meet.same.2 in
            let over = first.around below in
            absurd (omega (arith, ints, n, e, over, meet.in_first.1, meet.in_second.0))
        which (inr above) =
            let n = times_more m k l less in
            let e = meet.same.2 in
            let over = first.after above in
            absurd (omega (arith, ints, n, e, over, meet.in_first.1, meet.in_second.0))
    by (inr most) = again (cases_lt l k)
      where
        again : (l < k) ⊎ (k ≤ l) → ⊥
        again (inl less) = which (cases_lt r s)
          where
            which : (r < s) ⊎ (s ≤ r) → ⊥
            which (inl below) =
                let n = times_more m l k less in
                let e = meet.same.2 in
                let over = second.around below in
                absurd (omega (arith, ints, n, e, over, meet.in_second.1, meet.in_first.0))
            which (inr above) =
                let n = times_more m l k less in
                let e = meet.same.2 in
                let over = second.after above in
                absurd (omega (arith, ints, n, e, over, meet.in_second.1, meet.in_first.0))
        again (inr least) =
            let same : k ≡ l = omega (arith, most, least) in
            let n : k * m ≡ l * m = ap (λ x. x * m) same in
            let e = meet.same.2 in
            elim (cases_lt r s) [
              | inl below ↦ let over = first.after (omega (arith, below)) in absurd (omega (arith, ints, n, e, over, meet.in_first.1, meet.in_second.0))
              | inr above ↦ let over = second.after above in absurd (omega (arith, ints, n, e, over, meet.in_second.1, meet.in_first.0))
            ]

-- where the first isn't over when the second begins, that is an instant of both
pub meet_after : (m r s : ℕ) (w v : ℤ) → r < m → pos 0 <ℤ v → (IsOver m r w s → ⊥) → ArcsMeet m r w s v
meet_after m r s w v low some lasts = by (cases_lt s r)
  where
    by : (s < r) ⊎ (r ≤ s) → ArcsMeet m r w s v
    by (inl less) = by_lt_z (pos s +ℤ pos m) (pos r +ℤ w) (λ in_time. record {
      i = (pos s +ℤ pos m) -ℤ pos r;
      j = pos 0;
      in_first = (omega (arith, ints, low), omega (arith, ints, in_time));
      in_second = (omega (arith, ints), omega (arith, ints, some));
      same = (0, 1, omega (arith, ints));
    })
        (λ over. absurd (lasts (record { after = λ le. absurd (omega (arith, less, le)); around = λ _. over })))
    by (inr most) = by_lt_z (pos s) (pos r +ℤ w) (λ in_time. record {
      i = pos s -ℤ pos r;
      j = pos 0;
      in_first = (omega (arith, ints, most), omega (arith, ints, in_time));
      in_second = (omega (arith, ints), omega (arith, ints, some));
      same = (0, 0, omega (arith, ints));
    })
        (λ over. absurd (lasts (record { after = λ _. over; around = λ less. absurd (omega (arith, less, most)) })))

pub meet_turned : (m r s : ℕ) (w v : ℤ) → ArcsMeet m r w s v → ArcsMeet m s v r w
meet_turned m r s w v meet = record {
  i = meet.j;
  j = meet.i;
  in_first = meet.in_second;
  in_second = meet.in_first;
  same = (meet.same.1, meet.same.0, sym meet.same.2);
}

-- arcs of no length meet none
pub meet_some : (m r s : ℕ) (w v : ℤ) → ArcsMeet m r w s v → (pos 0 <ℤ w) × (pos 0 <ℤ v)
meet_some m r s w v meet = (omega (arith, ints, meet.in_first.0, meet.in_first.1), omega (arith, ints, meet.in_second.0, meet.in_second.1))

-- there is an end to which is which
pub over_or_not : (m r s : ℕ) (w : ℤ) → IsOver m r w s ⊎ (IsOver m r w s → ⊥)
over_or_not m r s w = by (cases_lt s r)
  where
    by : (s < r) ⊎ (r ≤ s) → IsOver m r w s ⊎ (IsOver m r w s → ⊥)
    by (inl less) = by_lt_z (pos s +ℤ pos m) (pos r +ℤ w) (λ late. inr (λ over. let o = over.around less in absurd (omega (arith, ints, o, late))))
        (λ over. inl (record { after = λ le. absurd (omega (arith, less, le)); around = λ _. over }))
    by (inr most) = by_lt_z (pos s) (pos r +ℤ w) (λ late. inr (λ over. let o = over.after most in absurd (omega (arith, ints, o, late))))
        (λ over. inl (record { after = λ _. over; around = λ less. absurd (omega (arith, less, most)) }))

pub apart_over : (m r s : ℕ) (w v : ℤ) → r < m → pos 0 <ℤ v → (ArcsMeet m r w s v → ⊥) → IsOver m r w s
apart_over m r s w v low some apart = elim (over_or_not m r s w) [
  | inl over ↦ over
  | inr lasts ↦ absurd (apart (meet_after m r s w v low some lasts))
]

pub tells_meet : (m r s : ℕ) (w v : ℤ) (are : Bool) → r < m → s < m → pos 0 <ℤ w → pos 0 <ℤ v → IsTrue are ↔ (IsOver m r w s × IsOver m s v r)
    → IsTrue (not are) ↔ ArcsMeet m r w s v
tells_meet m r s w v true low small some any told =
    ((λ e. absurd (false≢true e)), λ meet. absurd (over_apart m r s w v low small (told.0 refl).0 (told.0 refl).1 meet))
tells_meet m r s w v false low small some any told = ((λ e. by (over_or_not m r s w)), λ meet. refl)
  where
    by : IsOver m r w s ⊎ (IsOver m r w s → ⊥) → ArcsMeet m r w s v
    by (inl over) = meet_turned m s r v w (meet_after m s r v w small some (λ other. false≢true (told.1 (over, other))))
    by (inr lasts) = meet_after m r s w v low any lasts

-- ---- one arc and many: its neighbours count

module _ (m r : ℕ) (w : ℤ) (others : List ℕ) (v : ℤ) (low : r < m) (around : AreAround m others) where
  pub neighbours_settle : (before next : ℕ) → AreBesideResidue r others before next → (ArcsMeet m r w before v → ⊥) → (ArcsMeet m r w next v → ⊥) → MeetsNoArc m r w others v
  neighbours_settle before next near first second s has meet = over_apart m r s w v low (around.below s has) over (behind (cases_lt s r)) meet
    where
      some : (pos 0 <ℤ w) × (pos 0 <ℤ v)
      some = meet_some m r s w v meet

      before_over : IsOver m before v r
      before_over = apart_over m before r v w (around.below before near.has_before) some.0 (λ met. first (meet_turned m before r v w met))

      next_over : IsOver m r w next
      next_over = apart_over m r next w v low some.1 second

      over : IsOver m r w s
      over = record {
        after = λ le. let at = near.from s has le in let o = next_over.after at.0 in omega (arith, ints, o, at.1);
        around = λ less. elim (cases_lt next r) [
          | inl below ↦ let at = near.around s has less below in let o = next_over.around below in omega (arith, ints, o, at)
          | inr above ↦ let o = next_over.after above in let b = around.below next near.has_next in omega (arith, ints, o, b)
        ];
      }

      behind : (s < r) ⊎ (r ≤ s) → IsOver m s v r
      behind (inl less) = record {
        after = λ le. let at = near.behind s has less in let o = before_over.after (omega (arith, at.0)) in omega (arith, ints, o, at.1);
        around = λ more. absurd (omega (arith, less, more));
      }
      behind (inr most) = record {
        after = λ le. let o = over.after most in absurd (omega (arith, ints, o, le, some.0));
        around = λ more. elim (cases_lt r before) [
          | inl above ↦ let at = near.around_behind s has more (omega (arith, above)) in let o = before_over.around above in omega (arith, ints, o, at)
          | inr below ↦ let o = before_over.after below in let b = around.below s has in omega (arith, ints, o, b)
        ];
      }

  pub tells_none : (before next : ℕ) (a b : Bool) → AreBesideResidue r others before next → IsTrue a ↔ ArcsMeet m r w before v → IsTrue b ↔ ArcsMeet m r w next v → a ≡ false
      → IsTrue (not b) ↔ MeetsNoArc m r w others v
  tells_none before next a true near first second apart = ((λ e. absurd (false≢true e)), λ none. absurd (none next near.has_next (second.0 refl)))
  tells_none before next a false near first second apart =
      ((λ e. neighbours_settle before next near (λ met. false≢true (sym apart ∙ first.1 met)) (λ met. false≢true (second.1 met))), λ none. refl)

-- ---- neighbours in a list

module _ (xs : List ℕ) (up : IsStrictlyIncreasing xs) where
  not_above : (i j d : ℕ) → i ≤ j → j < length xs → get_or xs i d ≤ get_or xs j d
  not_above i j d le w = elim (cases_lt i j) [
    | inl less ↦ let l = AllPairs-from_increasing xs up i j d less w in omega (arith, l)
    | inr more ↦ let e : i ≡ j = omega (arith, le, more) in rw e (omega arith)
  ]

  pub rises : IsNonDecreasingBy (λ x. x) xs
  rises = not_above

  at_zero : (s : ℕ) (has : Contains xs s) → get_or xs has.0 0 ≡ s
  at_zero s has = get_or_default xs has.0 0 s has.1 ∙ has.2

  module _ (r place last next : ℕ) (some : 0 < length xs) (point : IsPartitionPoint (λ y. nat_lt y r ≡ true) (λ y. nat_lt y r ≡ false) xs place)
      (is_last : ((0 < place) × (last ≡ place)) ⊎ ((place ≡ 0) × (last ≡ length xs))) (is_next : ((place < length xs) × (next ≡ place)) ⊎ ((length xs ≤ place) × (next ≡ 0)))
      (fits : place ≤ length xs) where
    abbrev pub before : ℕ
    before = get_or xs (last - 1) 0

    abbrev pub first : ℕ
    first = get_or xs next 0

    last_in : (0 < last) × (last ≤ length xs)
    last_in = elim is_last [ inl p ↦ let a = p.0 in let e = p.1 in (omega (arith, a, e), omega (arith, e, fits)) | inr p ↦ let e = p.1 in (omega (arith, some, e), omega (arith, e)) ]

    next_in : next < length xs
    next_in = elim is_next [ inl p ↦ let a = p.0 in let e = p.1 in omega (arith, a, e) | inr p ↦ let e = p.1 in omega (arith, e, some) ]

    low : (k : ℕ) → k < place → k < length xs → get_or xs k 0 < r
    low k less w = let e = point.0 k 0 (omega arith) less in grind (arith, nat_tests)

    high : (k : ℕ) → place ≤ k → k < length xs → r ≤ get_or xs k 0
    high k most w = let e = point.1 k 0 most w in grind (arith, nat_tests)

    pub neighbours_found : AreBesideResidue r xs before first
    neighbours_found = record {
      has_before = Contains-get_or xs (last - 1) 0 (omega (arith, last_in.0, last_in.1));
      has_next = Contains-get_or xs next 0 next_in;
      from = λ s has le. after s has le (cases_lt has.0 place);
      behind = λ s has less. ahead s has less (cases_lt has.0 place);
      around = λ s has less below. at_front s has less below (cases_lt has.0 place);
      around_behind = λ s has more above. at_end s has above;
    }
      where
        is : (s : ℕ) (has : Contains xs s) → get_or xs has.0 0 ≡ s
        is s has = at_zero s has

        after : (s : ℕ) (has : Contains xs s) → r ≤ s → (has.0 < place) ⊎ (place ≤ has.0) → (r ≤ first) × (first ≤ s)
        after s has le (inl less) = let l = low has.0 less has.1 in let e = is s has in absurd (omega (arith, l, e, le))
        after s has le (inr most) = elim is_next [
          | inl p ↦
              let e : next ≡ place = p.1 in
              let h = high next (omega (arith, e)) next_in in
              let n = not_above next has.0 0 (omega (arith, e, most)) has.1 in
              let i = is s has in
              (omega (arith, h), omega (arith, n, i))
          | inr p ↦ let a = p.0 in let w = has.1 in absurd (omega (arith, a, most, w))
        ]

        ahead : (s : ℕ) (has : Contains xs s) → s < r → (has.0 < place) ⊎ (place ≤ has.0) → (before < r) × (s ≤ before)
        ahead s has less (inr most) = let h = high has.0 most has.1 in let e = is s has in absurd (omega (arith, h, e, less))
        ahead s has less (inl below) = elim is_last [
          | inl p ↦
              let e : last ≡ place = p.1 in
              let l = low (last - 1) (omega (arith, e, last_in.0)) (omega (arith, last_in.0, last_in.1)) in
              let n = not_above has.0 (last - 1) 0 (omega (arith, e, below)) (omega (arith, last_in.0, last_in.1)) in
              let i = is s has in
              (omega (arith, l), omega (arith, n, i))
          | inr p ↦ let a = p.0 in absurd (omega (arith, a, below))
        ]

        at_front : (s : ℕ) (has : Contains xs s) → s < r → first < r → (has.0 < place) ⊎ (place ≤ has.0) → first ≤ s
        at_front s has less below (inr most) = let h = high has.0 most has.1 in let e = is s has in absurd (omega (arith, h, e, less))
        at_front s has less below (inl under) = elim is_next [
          | inl p ↦ let e : next ≡ place = p.1 in let h = high next (omega (arith, e)) next_in in absurd (omega (arith, h, below))
          | inr p ↦ let e : next ≡ 0 = p.1 in let n = not_above next has.0 0 (omega (arith, e)) has.1 in let i = is s has in omega (arith, n, i)
        ]

        at_end : (s : ℕ) (has : Contains xs s) → r ≤ before → s ≤ before
        at_end s has above = elim is_last [
          | inl p ↦
              let e : last ≡ place = p.1 in
              let l = low (last - 1) (omega (arith, e, last_in.0)) (omega (arith, last_in.0, last_in.1)) in
              absurd (omega (arith, l, above))
          | inr p ↦
              let e : last ≡ length xs = p.1 in
              let w = has.1 in
              let n = not_above has.0 (last - 1) 0 (omega (arith, e, w)) (omega (arith, last_in.0, last_in.1)) in
              let i = is s has in
              omega (arith, n, i)
        ]

-- ---- instants

residue_is : (m a r : ℕ) → r ≡ a % m → IsCongruent m (pos a) (pos r)
residue_is m a r e =
    let d = div-add-mod' a m in
    (0, a / m, int_eq_by (omega (arith, ints, e, d)) (omega (arith, ints, e, d)))

residue_before : (m a r : ℕ) → 0 < m → r ≡ m - 1 - a % m → IsCongruent m (negsuc a) (pos r)
residue_before m a r some e =
    let d = div-add-mod' a m in
    let b = mod_below a m some in
    let g : suc (a / m) * m ≡ m + a / m * m = omega arith in
    (suc (a / m), 0, int_eq_by (omega (arith, ints, e, d, b, g)) (omega (arith, ints, e, d, b, g)))

pub residue_euclid : (m : ℕ) (z u : ℤ) → 0 < m → u ≡ int_rem_euclid z (pos m) → IsCongruent m z (pos (nat_abs u))
residue_euclid m (pos a) u some e = rw e (residue_is m a (a % m) refl)
residue_euclid m (negsuc a) u some e = rw e (residue_before m a (m - 1 - a % m) some refl)

-- ---- one list by itself

module _ (m : ℕ) (xs : List ℕ) (w : ℤ) (around : AreAround m xs) where
  pub low_at : (k d : ℕ) → k < length xs → get_or xs k d < m
  low_at k d less = around.below (get_or xs k d) (Contains-get_or xs k d less)

  module _ (steps : AreStepsOver m xs w) (last : IsLastOver m xs w) where
    later_over : (i j : ℕ) → i < j → j < length xs → (IsOver m (get_or xs i 0) w (get_or xs j 0)) × (IsOver m (get_or xs j 0) w (get_or xs i 0))
    later_over i j less in_list =
        let l = AllPairs-from_increasing xs around.ascending i j 0 less in_list in
        let step = (steps i (omega (arith, less, in_list))).after (not_above xs around.ascending i (i + 1) 0 (omega arith) (omega (arith, less, in_list))) in
        let n = not_above xs around.ascending (i + 1) j 0 (omega (arith, less)) in_list in
        let f = AllPairs-from_increasing xs around.ascending 0 (length xs - 1) 0 (omega (arith, less, in_list)) (omega (arith, less, in_list)) in
        let back = (last (omega (arith, less, in_list))).around f in
        let a = not_above xs around.ascending 0 i 0 (omega arith) (omega (arith, less, in_list)) in
        let b = not_above xs around.ascending j (length xs - 1) 0 (omega (arith, in_list)) (omega (arith, in_list)) in (
          (record { after = λ _. omega (arith, ints, step, n); around = λ more. absurd (omega (arith, l, more)) }),
          (record { after = λ le. absurd (omega (arith, l, le)); around = λ _. omega (arith, ints, back, a, b) }),
        )

    pub all_apart : w ≤ℤ pos m → IsApart m xs w
    all_apart narrow = (narrow, apart)
      where
        apart : (r s : ℕ) → Contains xs r → Contains xs s → r ≢ s → ArcsMeet m r w s w → ⊥
        apart r s first second differ meet = by (cases_lt first.0 second.0)
          where
            e : get_or xs first.0 0 ≡ r
            e = at_zero xs around.ascending r first

            f : get_or xs second.0 0 ≡ s
            f = at_zero xs around.ascending s second

            met : ArcsMeet m (get_or xs first.0 0) w (get_or xs second.0 0) w
            met = rw (e, f) meet

            by : (first.0 < second.0) ⊎ (second.0 ≤ first.0) → ⊥
            by (inl less) =
                let o = later_over first.0 second.0 less second.1 in
                over_apart m _ _ w w (low_at first.0 0 first.1) (low_at second.0 0 second.1) o.0 o.1 met
            by (inr most) = again (cases_lt second.0 first.0)
              where
                again : (second.0 < first.0) ⊎ (first.0 ≤ second.0) → ⊥
                again (inl less) =
                    let o = later_over second.0 first.0 less first.1 in
                    over_apart m _ _ w w (low_at first.0 0 first.1) (low_at second.0 0 second.1) o.1 o.0 met
                again (inr least) =
                    let n : first.0 ≡ second.0 = omega (arith, most, least) in
                    differ (sym e ∙ ap (λ k. get_or xs k 0) n ∙ f)

  module _ (apart : IsApart m xs w) where
    either_over : (i j : ℕ) → i < length xs → j < length xs → (get_or xs i 0 ≢ get_or xs j 0) → IsOver m (get_or xs i 0) w (get_or xs j 0)
    either_over i j first second differ = by_lt_z (pos 0) w
        (λ some. apart_over m _ _ w w (low_at i 0 first) some (apart.1 _ _ (Contains-get_or xs i 0 first) (Contains-get_or xs j 0 second) differ))
        (λ none. let l = low_at i 0 first in record { after = λ le. omega (arith, ints, none, le); around = λ more. omega (arith, ints, none, l) })

    pub steps_over : AreStepsOver m xs w
    steps_over k in_list =
        let l = AllPairs-from_increasing xs around.ascending k (k + 1) 0 (omega arith) in_list in
        either_over k (k + 1) (omega (arith, in_list)) in_list (λ e. omega (arith, l, e))

    pub last_over : IsLastOver m xs w
    last_over two =
        let l = AllPairs-from_increasing xs around.ascending 0 (length xs - 1) 0 (omega (arith, two)) (omega (arith, two)) in
        either_over (length xs - 1) 0 (omega (arith, two)) (omega (arith, two)) (λ e. omega (arith, l, e))

-- ---- two lists

module _ (m : ℕ) (first : List ℕ) (w : ℤ) (second : List ℕ) (v : ℤ) where
  pub one_more_none : (i : ℕ) → ((k : ℕ) → k < i → MeetsNoArc m (slice_index first k) w second v) → MeetsNoArc m (slice_index first i) w second v
      → (k : ℕ) → k < i + 1 → MeetsNoArc m (slice_index first k) w second v
  one_more_none i before here k less = elim (cases_lt k i) [
    | inl below ↦ before k below
    | inr above ↦ let e : k ≡ i = omega (arith, less, above) in rw e here
  ]

  pub all_none : ((k : ℕ) → k < length first → MeetsNoArc m (slice_index first k) w second v) → AreApart m first w second v
  all_none none r s has other meet =
      none has.0 has.1 s other (rw (get_or_default first has.0 0 r has.1 ∙ has.2) meet)

  pub at_none : (i : ℕ) → i < length first → AreApart m first w second v → MeetsNoArc m (slice_index first i) w second v
  at_none i less apart s = apart (slice_index first i) s (Contains-get_or first i 0 less)

-- ---- what lasts so long

-- seconds that are too many for the type are more than m
saturates : (z : ℤ) → pos 0 <ℤ z → (saturate_signed w64 z ≡ z) ⊎ (pos (2 ^ 63 - 1) ≤ℤ saturate_signed w64 z)
saturates (pos n) some = by (cases_lt n (2 ^ 63))
  where
    by : (n < 2 ^ 63) ⊎ (2 ^ 63 ≤ n) → (pos (min n (2 ^ 63 - 1)) ≡ pos n) ⊎ (pos (2 ^ 63 - 1) ≤ℤ pos (min n (2 ^ 63 - 1)))
    by (inl less) = let e : min n (2 ^ 63 - 1) ≡ n = omega (arith, less) in inl (ap pos e)
    by (inr most) = let e : min n (2 ^ 63 - 1) ≡ 2 ^ 63 - 1 = omega (arith, most) in inr (omega (arith, ints, e))
saturates (negsuc n) some = absurd (omega (arith, ints, some))

pub saturated_meet : (m q r : ℕ) (w long : ℤ) → q < m → r < m → m < 2 ^ 40 → ArcsMeet m q long r w → ArcsMeet m q (saturate_signed w64 long) r w
saturated_meet m q r w long low small short meet = by (saturates long some.0)
  where
    some : (pos 0 <ℤ long) × (pos 0 <ℤ w)
    some = meet_some m q r long w meet

    by : (saturate_signed w64 long ≡ long) ⊎ (pos (2 ^ 63 - 1) ≤ℤ saturate_signed w64 long) → ArcsMeet m q (saturate_signed w64 long) r w
    by (inl same) = rw same meet
    by (inr large) = meet_after m q r (saturate_signed w64 long) w low some.1 (λ over. elim (cases_lt r q) [
      | inl less ↦ let o = over.around less in absurd (omega (arith, ints, o, large, short, less))
      | inr most ↦ let o = over.after most in absurd (omega (arith, ints, o, large, short, small))
    ])

pub reaches_none : (m q : ℕ) (residues : List ℕ) (w start end : ℤ) → m < 2 ^ 40 → AreAround m residues → q < m → IsCongruent m start (pos q)
    → MeetsNoArc m q (saturate_signed w64 (end -ℤ start)) residues w
    → (x y t : ℤ) (r : ℕ) → Contains residues r → IsCongruent m x (pos r) → y ≤ℤ (x +ℤ w) → IsWithin x y t → IsWithin start end t → ⊥
reaches_none m q residues w start end short around low same none x y t r has at lasts inside during =
    residues_apart (λ a b. (a ≡ start) × (b ≡ end)) (λ a b. (a ≡ x) × (b ≡ y)) m (end -ℤ start) w (λ n. n ≡ q) (λ n. n ≡ r)
    (λ a b is. (q, refl, rw is.0 same)) (λ a b is. (r, refl, rw is.0 at)) (λ a b is. rw (is.0, is.1) (omega (arith, ints))) (λ a b is. rw (is.0, is.1) lasts)
    (λ a b is other meet. none r has (saturated_meet m q r w (end -ℤ start) low (around.below r has) short (subst (λ k. ArcsMeet m q (end -ℤ start) k w) other (subst (λ k. ArcsMeet m k (end -ℤ start) b w) is meet))))
    start end x y t (refl, refl) (refl, refl) during inside

pub not_false : (b : Bool) → not b ≡ false → b ≡ true
not_false true e = refl
not_false false e = sym e
