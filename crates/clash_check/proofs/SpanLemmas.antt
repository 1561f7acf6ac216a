-- Where a certificate holds, nothing clashes: END settles a pair of series by itself, a span and a group by what all do in one period, and residues for
-- all time.
use Rattle.std.proofs.Common.{◌≡◌, ◌≢◌, ◌∙◌, refl, sym, ap, subst, inl, inr, arith, true, false, ℕ, zero, suc, ◌-◌, ◌==◌, ◌<◌, ◌≤◌, ℤ, List, [], ◌∷◌, ◌++◌, length, get_or}
use Rattle.std.proofs.Math.Logic.{∥∥₁_elim}
use mathlib.Core.HLevel.{⊥_prop}
use Rattle.std.specs.Prelude.{Some, Contains}
use Rattle.std.specs.List.{slice_get}
use Rattle.std.proofs.lemmas.Bool.{cases_lt, cases_eq}
use Rattle.std.proofs.lemmas.List.Elements.{Contains-append_cases}
use Rattle.std.proofs.lemmas.Option.{same_Some, slice_get-get_or}
use Rattle.profile.proofs.MadeCertificates.{series_at}
use Rattle.profile.specs.checker.Instances.{Instance, IsWithin, AreClashing, AreClear, IsClear}
use Rattle.profile.specs.checker.Certificates.{Entry, End, Span, Res, InGroup, EntryHolds, IsSeriesAt, CertificateHoldsFor}
use Rattle.profile.specs.events.Residues.{ResiduesHold}
use Rattle.profile.specs.events.EventComponents.{EventComponent}
use Rattle.profile.specs.events.Events.{Event}
use Rattle.profile.specs.events.Starts.{IsInstance, key_at}
use Rattle.profile.specs.events.Confirmed.{Confirmed, IsInSeries, IsOneOf}
use Rattle.profile.specs.events.Spans.{IsSaidSeries, AreSaidSeries, SpanHolds}
use Rattle.clash_check.proofs.EntryLemmas.{one_place, two_places}
use Rattle.clash_check.proofs.PlacedLemmas.{one_series}
use Rattle.clash_check.proofs.SaidLemmas.{said_of}

-- an instance of a series that a VEVENT says is known by its start
key_of : (series : Event) (s : IsSaidSeries series) (b : Instance) → IsInstance series b → b.key ≡ key_at s.master b.start
key_of series s b (inl own) =
    let same : own.master ≡ s.master = same_Some own.master s.master (sym own.is ∙ ap (λ (m : Event). m.master) s.is) in
    own.key ∙ ap (λ m. key_at m b.start) same
key_of series s b (inr other) =
    let (place, few, e) = subst (λ (l : List EventComponent). Contains l other.override) (ap (λ (m : Event). m.overrides) s.is) other.is in absurd (omega (arith, few))

-- a clash is one of the second with the first too
turned : (a b : Instance) (t : ℤ) → AreClashing a b t → AreClashing b a t
turned a b t clash = record { differ = λ same. clash.differ (sym same); before = clash.before; in_first = clash.in_second; in_second = clash.in_first }

-- ---- residues that hold

-- no two instances with different starts share an instant
abbrev pub OneSettles : Type 0
OneSettles =
    (a b : Event) (m : ℕ) (x y : Instance) (t : ℤ) → IsSaidSeries a → ResiduesHold true a b m → IsInstance a x → IsInstance a y → x.start ≢ y.start
    → IsWithin x.start x.end t → IsWithin y.start y.end t → ⊥

abbrev pub TwoSettle : Type 0
TwoSettle =
    (a b : Event) (m : ℕ) (x y : Instance) (t : ℤ) → IsSaidSeries a → IsSaidSeries b → ResiduesHold false a b m → IsInstance a x → IsInstance b y
    → IsWithin x.start x.end t → IsWithin y.start y.end t → ⊥

-- two of one start have one key
one_residues_clear : OneSettles → (a b : Event) (m : ℕ) → IsSaidSeries a → ResiduesHold true a b m → AreClear (IsInstance a) (IsInstance a)
one_residues_clear settles a b m p holds x y t in_x in_y clash =
    settles a b m x y t p holds in_x in_y (λ same. clash.differ (key_of a p x in_x ∙ ap (key_at p.master) same ∙ sym (key_of a p y in_y))) clash.in_first clash.in_second

-- that some VEVENT says it is enough
pub residues_clear : OneSettles → (series : Event) (m : ℕ) → ∥ IsSaidSeries series ∥₁ → ResiduesHold true series series m → AreClear (IsInstance series) (IsInstance series)
residues_clear settles series m said holds x y t in_x in_y clash = ∥∥₁_elim said ⊥_prop (λ p. one_residues_clear settles series series m p holds x y t in_x in_y clash)

-- ---- a span that holds

abbrev pub SpansSettle : Type 0
SpansSettle =
    (these those : List Event) (from : ℤ) (days : ℕ) → AreSaidSeries (these ++ those) → SpanHolds these those from days
    → (a b : Event) → Contains these a → Contains those b → AreClear (IsInstance a) (IsInstance b)

-- of series of a list with some of the same list
spans_clear : SpansSettle → (all these those : List Event) → AreSaidSeries all → ((series : Event) → Contains these series → Contains all series) → ((series : Event) → Contains those series → Contains all series)
    → (from : ℤ) (days : ℕ) → SpanHolds these those from days → (a b : Event) → Contains these a → Contains those b → AreClear (IsInstance a) (IsInstance b)
spans_clear settle all these those said within with from days holds a b first second = settle these those from days each holds a b first second
  where
    each : AreSaidSeries (these ++ those)
    each series c = elim (Contains-append_cases these those series c) [ inl d ↦ said series (within series d) | inr d ↦ said series (with series d) ]

-- each by itself
pub settled_of : SpansSettle → (all : List Event) → AreSaidSeries all → (those : List Event) → ((series : Event) → Contains those series → Contains all series)
    → (from : ℤ) (days : ℕ) → SpanHolds those those from days → (series : Event) → Contains those series → AreClear (IsInstance series) (IsInstance series)
settled_of settle all said those within from days holds series there = spans_clear settle all those those said within within from days holds series series there there

-- ---- what is said of two series

module _ (spans : SpansSettle) (two : TwoSettle) (one : OneSettles) (all : Confirmed) (said : AreSaidSeries all.series) where
  alone : (a : Event) → Contains all.series a → (series : Event) → Contains (a ∷ []) series → Contains all.series series
  alone a there series (zero, l, e) = subst (Contains all.series) e there
  alone a there series (suc n, l, e) = absurd (omega (arith, l))

  residues_two : (i j m : ℕ) (a b : Event) → IsSaidSeries a → IsSaidSeries b → IsSeriesAt all i a → IsSeriesAt all j b → ResiduesHold (i == j) a b m → AreClear (IsInstance a) (IsInstance b)
  residues_two i j m a b p q at_i at_j holds = elim (cases_eq i j) [
    | inl same ↦
        let e : a ≡ b = one_series all j a b (subst (λ k. IsSeriesAt all k a) same at_i) at_j in
        subst (λ s. AreClear (IsInstance a) (IsInstance s)) e (one_residues_clear one a b m p (subst (λ own. ResiduesHold own a b m) (one_place i j same) holds))
    | inr differ ↦ λ x y t in_x in_y clash. two a b m x y t p q (subst (λ own. ResiduesHold own a b m) (two_places i j differ) holds) in_x in_y clash.in_first clash.in_second
  ]

  entry_clear : (i j : ℕ) (entry : Entry) (a b : Event) → IsSeriesAt all i a → IsSeriesAt all j b → EntryHolds all i j entry → AreClear (IsInstance a) (IsInstance b)
  entry_clear i j End a b at_i at_j holds = holds a b at_i at_j
  entry_clear i j (Span from days) a b at_i at_j holds =
      spans_clear spans all.series (a ∷ []) (b ∷ []) said (alone a (series_at all i a at_i)) (alone b (series_at all j b at_j)) from days (holds a b at_i at_j) a b
      (zero, omega arith, refl) (zero, omega arith, refl)
  entry_clear i j (Res m) a b at_i at_j holds = λ x y t in_a in_b clash.
      ∥∥₁_elim (said a (series_at all i a at_i)) ⊥_prop (λ p.
      ∥∥₁_elim (said b (series_at all j b at_j)) ⊥_prop (λ q. residues_two i j m a b p q at_i at_j (holds a b at_i at_j) x y t in_a in_b clash))
  entry_clear i j (InGroup n) a b at_i at_j holds = absurd holds

  -- ---- all that is confirmed

  module _ (text : List ℕ) (holds : CertificateHoldsFor all text) where
    -- the series at two places, in their order
    pair_clear : (i j : ℕ) (a b : Event) → 0 < i → i ≤ j → j ≤ length all.series → IsSeriesAt all i a → IsSeriesAt all j b → AreClear (IsInstance a) (IsInstance b)
    pair_clear i j a b some order most at_i at_j =
        let series = holds.counts.series in
        elim (said_of all holds.c holds.spells.claims holds.counts holds.statements i j (some, order, omega (arith, most, series))) [
          | inl s ↦ spans_clear spans all.series s.those s.those said s.within s.within s.from s.days s.holds a b (s.first a at_i) (s.second b at_j)
          | inr (entry, h) ↦ entry_clear i j entry a b at_i at_j h
        ]

    series_clear : (x y : Instance) (t : ℤ) → IsInSeries all.series x → IsInSeries all.series y → AreClashing x y t → ⊥
    series_clear x y t (a, (i, v, e), in_a) (b, (j, w, f), in_b) clash =
        let at_i : IsSeriesAt all (suc i) a = at_next i a v e in
        let at_j : IsSeriesAt all (suc j) b = at_next j b w f in
        elim (cases_lt j i) [
          | inl less ↦ pair_clear (suc j) (suc i) b a (omega arith) (omega (arith, less)) (omega (arith, v)) at_j at_i y x t in_b in_a (turned x y t clash)
          | inr most ↦ pair_clear (suc i) (suc j) a b (omega arith) (omega (arith, most)) (omega (arith, w)) at_i at_j x y t in_a in_b clash
        ]
      where
        at_next : (k : ℕ) (s : Event) → k < length all.series → get_or all.series k s ≡ s → IsSeriesAt all (suc k) s
        at_next k s l e = let first : suc k - 1 ≡ k = omega arith in ap (slice_get all.series) first ∙ slice_get-get_or all.series k s l ∙ ap Some e

    pub certificate_clear : IsClear (IsOneOf all)
    certificate_clear x y t (inl single) other clash = holds.singles x y t single other clash
    certificate_clear x y t (inr series) (inl single) clash = holds.singles y x t single (inr series) (turned x y t clash)
    certificate_clear x y t (inr series) (inr other) clash = series_clear x y t series other clash
