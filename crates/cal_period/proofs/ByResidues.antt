-- Where no arcs of residues meet, series are clear.
use Rattle.std.proofs.Common.{◌≡◌, ◌≢◌, ◌∙◌, ap, sym, refl, subst, ℕ, zero, suc, ◌+◌, ◌*◌, ◌/◌, ◌<◌, ◌≤◌, ◌^◌, ℤ, pos, ◌+ℤ◌, ◌-ℤ◌, ◌≤ℤ◌, w64, arith}
use Rattle.std.specs.Int.{IsGcd, saturate_signed}
use Rattle.std.proofs.Math.Logic.{∥∥₁_elim}
use Rattle.std.proofs.Math.Nat.{mul_assoc, mul_comm}
use Rattle.std.proofs.lemmas.Int.{ints}
use Rattle.std.proofs.lemmas.Nat.{div-add-mod'}
use Rattle.std.proofs.lemmas.Nat.Gcd.{mod-eq-zero_of_dvd}
use Rattle.profile.specs.checker.Instances.{Instance}
use Rattle.profile.specs.series.Repeating.{ArcsMeet, IsCongruent}
use Rattle.profile.proofs.Repeats.{LastsAtMost, StartsAt, residues_apart, residues_alone}
use Rattle.profile.specs.series.Periods.{IsMultiple}
use Rattle.profile.specs.events.Events.{Event}
use Rattle.profile.specs.events.Residues.{IsResidue}
use Rattle.profile.specs.events.Spans.{IsSaidSeries, IsWidthOf}
use Rattle.profile.specs.events.Starts.{IsInstance, Overlaps}
use Rattle.cal_events.specs.Series.{AreKnownByStart}
use Rattle.cal_period.specs.Clear.{AreSeriesClear, IsSeriesClear}
use Rattle.cal_period.specs.Members.{Lasts}
use Rattle.cal_period.proofs.AroundLemmas.{saturated_meet}
use Rattle.cal_period.proofs.PhaseLemmas.{congruent_sym}
use Rattle.cal_period.proofs.ResidueLaw.{instance_at_residue}

-- ---- the modulus

least_divisor : (cycle q g : ℕ) → cycle ≡ q * g → 0 < cycle → g ≤ cycle
least_divisor cycle zero g e some = let z : 0 * g ≡ 0 = omega arith in absurd (omega (arith, e, z, some))
least_divisor cycle (suc q) g e some = let z : suc q * g ≡ g + q * g = omega arith in omega (arith, e, z)

module _ (cycle days g : ℕ) (gcd : IsGcd cycle days g) where
  whole : cycle ≡ cycle / g * g
  whole = let e = div-add-mod' cycle g in let f = mod-eq-zero_of_dvd g gcd.0 in omega (arith, e, f)

  pub low_divisor : 0 < cycle → g ≤ cycle
  low_divisor some = least_divisor cycle (cycle / g) g whole some

  pub one_turn : IsMultiple (86_400 * (cycle * 1)) (86_400 * g)
  one_turn =
      let e = whole in
      let a : cycle / g * (86_400 * g) ≡ 86_400 * (cycle / g * g) =
      sym (mul_assoc (cycle / g) 86_400 g) ∙ (ap (λ x. x * g) (mul_comm (cycle / g) 86_400) ∙ mul_assoc 86_400 (cycle / g) g) in
      (cycle / g, omega (arith, e, a))

-- ---- series

none_prop : (x y : ⊥) → x ≡ y
none_prop x y = absurd x

abbrev LastOf : Event → Type 0
LastOf a = (width : ℤ) (b : Instance) → IsWidthOf a width → IsInstance a b → (b.start ≤ℤ b.end) × (b.end ≤ℤ (b.start +ℤ width))

short : (a : Event) (w : ℤ) → LastOf a → IsWidthOf a w → LastsAtMost (Lasts a) w
short a w lasts is start end (b, of, s, e) = subst (λ x. x ≤ℤ (start +ℤ w)) e (subst (λ x. b.end ≤ℤ (x +ℤ w)) s (lasts w b is of).1)

starts_at : (a : Event) (m : ℕ) → IsSaidSeries a → 0 < m → StartsAt (Lasts a) m (IsResidue a m)
starts_at a m said some start end (b, of, s, e) = subst (λ x. (r : ℕ) × IsResidue a m r × IsCongruent m x (pos r)) s (instance_at_residue a m b said some of)

pub two_clear : (a b : Event) → ∥ IsSaidSeries a ∥₁ → ∥ IsSaidSeries b ∥₁ → LastOf a → LastOf b → (w v : ℤ) → IsWidthOf a w → IsWidthOf b v → (m : ℕ) → 0 < m
    → ((r s : ℕ) → IsResidue a m r → IsResidue b m s → ArcsMeet m r w s v → ⊥) → AreSeriesClear a b
two_clear a b said told lasts last w v width other m some apart x y i j shares =
    ∥∥₁_elim said none_prop (λ p. ∥∥₁_elim told none_prop (λ q.
    residues_apart (Lasts a) (Lasts b) m w v (IsResidue a m) (IsResidue b m) (starts_at a m p some) (starts_at b m q some) (short a w lasts width) (short b v last other) apart
    x.start x.end y.start y.end shares.instant (x, i, refl, refl) (y, j, refl, refl) shares.in_first shares.in_second))

pub one_clear : (a : Event) → AreKnownByStart a → ∥ IsSaidSeries a ∥₁ → LastOf a → (w : ℤ) → IsWidthOf a w → (m : ℕ) → 0 < m → w ≤ℤ pos m
    → ((r s : ℕ) → IsResidue a m r → IsResidue a m s → r ≢ s → ArcsMeet m r w s w → ⊥) → IsSeriesClear a
one_clear a known said lasts w width m some narrow apart x y i j differ shares =
    ∥∥₁_elim said none_prop (λ p.
    residues_alone (Lasts a) m w (IsResidue a m) narrow (starts_at a m p some) (short a w lasts width) apart
    x.start x.end y.start y.end shares.instant (x, i, refl, refl) (y, j, refl, refl) (λ e. differ (ap (λ (b : Instance). b.key) (known.one x y i j e))) shares.in_first shares.in_second)

-- ---- a series and a span

swap_arcs : (m r : ℕ) (w : ℤ) (s : ℕ) (v : ℤ) → ArcsMeet m r w s v → ArcsMeet m s v r w
swap_arcs m r w s v meet = record { i = meet.j; j = meet.i; in_first = meet.in_second; in_second = meet.in_first; same = congruent_sym m _ _ meet.same }

pub span_clear : (a : Event) → ∥ IsSaidSeries a ∥₁ → LastOf a → (w start end : ℤ) → IsWidthOf a w → (m q : ℕ) → 0 < m → m < 2 ^ 40 → q < m → IsCongruent m start (pos q)
    → ((r : ℕ) → IsResidue a m r → ArcsMeet m r w q (saturate_signed w64 (end -ℤ start)) → ⊥) → (b : Instance) → IsInstance a b → Overlaps b.start b.end start end → ⊥
span_clear a said lasts w start end width m q some few low same apart b is shares =
    ∥∥₁_elim said none_prop (λ p.
    residues_apart (Lasts a) (λ c d. (c ≡ start) × (d ≡ end)) m w (end -ℤ start) (IsResidue a m) (λ n. n ≡ q) (starts_at a m p some) (λ c d at. (q, refl, rw at.0 same))
    (short a w lasts width) (λ c d at. rw (at.0, at.1) (omega (arith, ints)))
    (λ r s of other meet.
    let there : ArcsMeet m r w q (end -ℤ start) = subst (λ k. ArcsMeet m r w k (end -ℤ start)) other meet in
    apart r of (swap_arcs m q (saturate_signed w64 (end -ℤ start)) r w (saturated_meet m q r w (end -ℤ start) low of.below few (swap_arcs m r w q (end -ℤ start) there))))
    b.start b.end start end shares.instant (b, is, refl, refl) (refl, refl) shares.in_first shares.in_second)
