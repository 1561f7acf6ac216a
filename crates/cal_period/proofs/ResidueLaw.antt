-- Each instance of a series that is said starts at one of its residues; where no arcs of residues meet, no two instances share an instant.
use Rattle.std.proofs.Common.{◌≡◌, ◌≢◌, ◌∙◌, refl, sym, subst, ap, inl, inr, arith, ◌⊎◌, ℕ, ◌<◌, true, false, List, [], ℤ, pos, ◌+ℤ◌, ◌≤ℤ◌}
use Rattle.std.proofs.lemmas.Option.{same_Some}
use Rattle.std.specs.Prelude.{Some, Contains}
use Rattle.profile.specs.checker.Instances.{Instance, IsWithin}
use Rattle.profile.specs.series.Rules.{Rule}
use Rattle.profile.specs.series.Repeating.{IsCongruent}
use Rattle.profile.proofs.Repeats.{LastsAtMost, StartsAt, residues_apart, residues_alone}
use Rattle.profile.specs.events.EventComponents.{EventComponent}
use Rattle.profile.specs.events.Events.{Event}
use Rattle.profile.specs.events.Spans.{IsSaidSeries, IsWidthOf}
use Rattle.profile.specs.events.Starts.{IsInstance, IsGiven, IsRuleStart}
use Rattle.profile.specs.events.Residues.{IsResidue, ResiduesHold}
use Rattle.profile.proofs.ResidueStarts.{start_at_residue}
use Rattle.cal_events.proofs.shared_lemmas.DraftKeys.{some_there}
use Rattle.cal_period.specs.Members.{Lasts}

none_added : (x : ℤ) → Contains [] x → ⊥
none_added x c = let none = c.1 in omega (arith, none)

-- it starts by the master's rule
record IsByRule (a : Event) (start : ℤ) : Type 0 where
  master : EventComponent
  is : a.master ≡ Some master
  rule : Rule
  ruled : master.rule ≡ Some rule
  starts : IsRuleStart master.times rule start

by_rule : (a : Event) (s : IsSaidSeries a) (x : Instance) → IsInstance a x → IsByRule a x.start
by_rule a s x (inl own) =
    let there = some_there s.event.rule s.recurs in
    let same : own.master ≡ s.master = same_Some own.master s.master (sym own.is ∙ ap (λ (m : Event). m.master) s.is) in
    let ruled : s.master.rule ≡ Some there.0 = s.rule ∙ there.1 in
    record {
      master = s.master;
      is = ap (λ (m : Event). m.master) s.is;
      rule = there.0;
      ruled = ruled;
      starts = elim (subst (λ (m : EventComponent). IsGiven m.times m.rule x.start ⊎ Contains m.additions x.start) same own.starts.given) [
        | inl given ↦ subst (λ r. IsGiven s.master.times r x.start) ruled given
        | inr added ↦ absurd (none_added x.start (subst (λ l. Contains l x.start) s.none_added added))
      ];
    }
by_rule a s x (inr other) =
    let c = subst (λ (l : List EventComponent). Contains l other.override) (ap (λ (m : Event). m.overrides) s.is) other.is in
    let few = c.1 in
    absurd (omega (arith, few))

pub instance_at_residue : (a : Event) (m : ℕ) (x : Instance) → IsSaidSeries a → 0 < m → IsInstance a x → (r : ℕ) × IsResidue a m r × IsCongruent m x.start (pos r)
instance_at_residue a m x said some is =
    let b = by_rule a said x is in
    start_at_residue a m b.master b.rule x.start some b.is b.ruled b.starts

module _ (lasts : (series : Event) (width : ℤ) (b : Instance) → IsSaidSeries series → IsWidthOf series width → IsInstance series b
    → (b.start ≤ℤ b.end) × (b.end ≤ℤ (b.start +ℤ width))) where
  short : (a : Event) (w : ℤ) → IsSaidSeries a → IsWidthOf a w → LastsAtMost (Lasts a) w
  short a w said is start end (b, of, s, e) = subst (λ x. x ≤ℤ (start +ℤ w)) e (subst (λ x. b.end ≤ℤ (x +ℤ w)) s (lasts a w b said is of).1)

  starts_at : (a : Event) (m : ℕ) → IsSaidSeries a → 0 < m → StartsAt (Lasts a) m (IsResidue a m)
  starts_at a m said some start end (b, of, s, e) = subst (λ x. (r : ℕ) × IsResidue a m r × IsCongruent m x (pos r)) s (instance_at_residue a m b said some of)

  some_seconds : (own : _) (a b : Event) (m : ℕ) → ResiduesHold own a b m → 0 < m
  some_seconds own a b m holds =
      let days = holds.modulus.0 in
      let e = holds.modulus.1 in
      let some = holds.modulus.2 in
      omega (arith, e, some)

  pub two_clear : (a b : Event) (m : ℕ) (x y : Instance) (t : ℤ) → IsSaidSeries a → IsSaidSeries b → ResiduesHold false a b m → IsInstance a x → IsInstance b y
      → IsWithin x.start x.end t → IsWithin y.start y.end t → ⊥
  two_clear a b m x y t p q holds in_a in_b i j =
      let some = some_seconds false a b m holds in
      let (w, v, of_a, of_b, apart) = holds.two refl in
      residues_apart (Lasts a) (Lasts b) m w v (IsResidue a m) (IsResidue b m) (starts_at a m p some) (starts_at b m q some) (short a w p of_a) (short b v q of_b) apart
      x.start x.end y.start y.end t (x, in_a, refl, refl) (y, in_b, refl, refl) i j

  pub one_clear : (a b : Event) (m : ℕ) (x y : Instance) (t : ℤ) → IsSaidSeries a → ResiduesHold true a b m → IsInstance a x → IsInstance a y → x.start ≢ y.start
      → IsWithin x.start x.end t → IsWithin y.start y.end t → ⊥
  one_clear a b m x y t p holds in_x in_y differ i j =
      let some = some_seconds true a b m holds in
      let (w, of, narrow, apart) = holds.one refl in
      residues_alone (Lasts a) m w (IsResidue a m) narrow (starts_at a m p some) (short a w p of) apart
      x.start x.end y.start y.end t (x, in_x, refl, refl) (y, in_y, refl, refl) differ i j
