-- What is found before a bound settles the whole.
use Rattle.std.proofs.Common.{◌≡◌, ◌≢◌, ◌∙◌, refl, sym, subst, ap, inl, inr, ◌⊎◌, arith, ℕ, ◌*◌, List, [], ◌∷◌, ◌++◌, ℤ, pos, ◌+ℤ◌, ◌-ℤ◌, ◌≤ℤ◌, ◌<ℤ◌}
use Rattle.std.proofs.lemmas.Int.{ints, by_lt_z}
use Rattle.std.proofs.lemmas.List.Elements.{Contains-append_left, Contains-append_right}
use Rattle.std.proofs.Math.Logic.{∥∥₁_elim}
use mathlib.Core.HLevel.{⊥_prop}
use Rattle.std.specs.Prelude.{Option, Some, None, Contains}
use Rattle.profile.specs.text.Trees.{Tree}
use Rattle.profile.specs.checker.Instances.{Key, Instance, AreClear, IsWithin, horizon}
use Rattle.profile.specs.series.Repeating.{RepeatsFrom}
use Rattle.profile.proofs.Repeats.{LastsAtMost, always}
use Rattle.profile.specs.series.Zones.{Zone}
use Rattle.profile.specs.series.ZoneTexts.{SaysZone}
use Rattle.profile.specs.events.EventComponents.{EventComponent}
use Rattle.profile.specs.events.Events.{Event}
use Rattle.profile.specs.events.Spans.{AreSaidSeries, IsBoundOf, IsPastAll, IsPeriodOf, IsSaidSeries, IsSpan, IsWidthOf, SpanHolds, StartsBelow}
use Rattle.profile.specs.events.Starts.{IsInstance, key_at}
use Rattle.cal_zones.specs.Repeats.{IsRegular}
use Rattle.cal_events.specs.Series.{AreKnownByStart}
use Rattle.cal_events.specs.declared.instance.Instance.{Instance as Found}
use Rattle.cal_events.proofs.shared_lemmas.OwnSingles.{IsAtStart, at_start}
use Rattle.cal_period.specs.Clear.{AreSeriesClear, IsSeriesClear, AreClearBelow, IsClearBelow}
use Rattle.cal_period.specs.Onward.{IsSharedByPair, IsSharedBelow, IsSharedAlone, IsSharedAloneBelow, SettlesPair}
use Rattle.cal_period.specs.Members.{Lasts}
use Rattle.cal_period.proofs.SaidSeries.{has_said, past_for}
use Rattle.cal_period.proofs.Widths.{width_at}

int_same : {a b : ℤ} → a ≤ℤ b → b ≤ℤ a → a ≡ b
int_same {a} {b} l m = omega (arith, ints, l, m)

pub pair_settled : (a b : Event) (bound : ℤ) (found : Option (Found × Found)) → (AreClearBelow a b bound → AreSeriesClear a b) → IsSharedBelow a b bound found → IsSharedByPair a b found
pair_settled a b bound None settles clear = settles clear
pair_settled a b bound (Some p) settles shared = shared

pub alone_settled : (a : Event) (bound : ℤ) (found : Option (Found × Found)) → (IsClearBelow a bound → IsSeriesClear a) → IsSharedAloneBelow a bound found → IsSharedAlone a found
alone_settled a bound None settles clear = settles clear
alone_settled a bound (Some p) settles shared = shared

-- ---- up to the horizon

pub horizon_settles : (a b : Event) → AreKnownByStart a → AreKnownByStart b → SettlesPair a b horizon
horizon_settles a b known_a known_b = record {
  pair = λ clear x y h k s. clear x y h k (known_a.dates x h).1 (known_b.dates y k).1 s;
  alone = λ clear x y h k differ s. clear x y h k (known_a.dates x h).1 (known_a.dates y k).1 differ s;
}

-- ---- up to the bound of a span

-- the later start of two that share an instant is in both
pub later_start : (a b c d t : ℤ) → IsWithin a b t → IsWithin c d t → (u : ℤ) × ((u ≡ a) ⊎ (u ≡ c)) × IsWithin a b u × IsWithin c d u
later_start a b c d t x y =
    by_lt_z a c
    (λ less. (c, inr refl, (omega (arith, ints, less), omega (arith, ints, x.1, y.0)), (omega (arith, ints), omega (arith, ints, y.0, y.1))))
    (λ most. (a, inl refl, (omega (arith, ints), omega (arith, ints, x.0, x.1)), (most, omega (arith, ints, x.0, y.1))))

-- what the crates below say of widths and zones, and the law
pub record SpanLaws : Type 0 where
  pub last : (series : Event) (width : ℤ) (b : Instance) → IsSaidSeries series → IsWidthOf series width → IsInstance series b → (b.start ≤ℤ b.end) × (b.end ≤ℤ (b.start +ℤ width))
  pub repeat : (a : Event) (from : ℤ) (days : ℕ) → IsSaidSeries a → IsPastAll a from → IsPeriodOf a days → RepeatsFrom (Lasts a) from (pos (86_400 * days))
  pub zones : (tree : Tree) (z : Zone) → SaysZone tree z → IsRegular z

-- a series that is said has a width, where its onsets are past
width_said : ((tree : Tree) (z : Zone) → SaysZone tree z → IsRegular z) → (a : Event) (from : ℤ) → IsSaidSeries a → IsPastAll a from → (w : ℤ) × IsWidthOf a w
width_said zones a from said past =
    let h = has_said zones a said in
    let w = width_at h.master.times from h.said.regular (past_for a h from past).onsets in
    (w.0, (h.master, ap (λ (x : Event). x.master) h.is, w.1))

-- an instance of a series that is said is at a start of its master
at_its_start : (a : Event) (s : IsSaidSeries a) (b : Instance) → IsInstance a b → IsAtStart s.master b
at_its_start a s b is = at_start s.master b (subst (λ (x : Event). IsInstance x b) s.is is)

-- keys that differ differ at other starts that are as far apart too
keys_differ : (m n : EventComponent) (a c d : ℤ) → key_at m a ≢ key_at n c → key_at m (a -ℤ d) ≢ key_at n (c -ℤ d)
keys_differ m n a c d differ same =
    let slots = ap (λ (k : Key). k.slot) same in
    let both : a ≡ c = int_same (omega (arith, ints, slots)) (omega (arith, ints, slots)) in
    differ (ap (λ (k : Key). record { organiser = k.organiser; uid = k.uid; slot = a }) same ∙ ap (λ t. key_at n t) both)

module _ (laws : SpanLaws) (all : List Event) (from bound : ℤ) (days : ℕ) (span : IsSpan all from days) (is : IsBoundOf all from days bound) where
  abbrev period : ℤ
  period = pos (86_400 * days)

  some : pos 0 <ℤ period
  some = let s = span.some in omega (arith, ints, s)

  -- each of these series has a width, which the greatest isn't less than
  short : (a : Event) → Contains all a → IsSaidSeries a → LastsAtMost (Lasts a) is.0
  short a in_all said start end (b, h, e, f) =
      let own = width_said laws.zones a from said (span.past a in_all) in
      let l = (laws.last a own.0 b said own.1 h).1 in
      let m = is.1.none_greater a own.0 in_all own.1 in
      omega (arith, ints, l, e, f, m)

  again : (a : Event) → Contains all a → IsSaidSeries a → RepeatsFrom (Lasts a) from period
  again a in_all said = laws.repeat a from days said (span.past a in_all) (span.period a in_all)

  module _ (a b : Event) (in_a : Contains all a) (in_b : Contains all b) (p : IsSaidSeries a) (q : IsSaidSeries b) where
    module _ (Differ : ℤ → ℤ → Type 0) (still : (s u : ℤ) → Differ s u → Differ (s -ℤ period) (u -ℤ period))
        (clear : (x y : Instance) (t : ℤ) → StartsBelow a bound x → StartsBelow b bound y → Differ x.start y.start → t <ℤ horizon → IsWithin x.start x.end t → IsWithin y.start y.end t → ⊥) where
      -- the later start is before the horizon
      below : (s e u v t : ℤ) → Lasts a s e → Lasts b u v → Differ s u → s <ℤ ((from +ℤ period) +ℤ is.0) → u <ℤ ((from +ℤ period) +ℤ is.0) → IsWithin s e t → IsWithin u v t → ⊥
      below s e u v t (x, h, f, g) (y, k, m, n) differ less fewer i j =
          let later = later_start s e u v t i j in
          let bounded = is.2 in
          let first = (at_its_start a p x h).starts.in_dates.1 in
          let second = (at_its_start b q y k).starts.in_dates.1 in
          clear x y later.0 (h, omega (arith, ints, f, less, bounded)) (k, omega (arith, ints, m, fewer, bounded))
          (subst (λ w. Differ w y.start) (sym f) (subst (Differ s) (sym m) differ))
          (elim later.1 [ inl at ↦ omega (arith, ints, at, f, first) | inr at ↦ omega (arith, ints, at, m, second) ])
          (subst (λ w. IsWithin w x.end later.0) (sym f) (subst (λ w. IsWithin s w later.0) (sym g) later.2))
          (subst (λ w. IsWithin w y.end later.0) (sym m) (subst (λ w. IsWithin u w later.0) (sym n) later.3))

      never : (x y : Instance) (t : ℤ) → IsInstance a x → IsInstance b y → Differ x.start y.start → IsWithin x.start x.end t → IsWithin y.start y.end t → ⊥
      never x y t h k differ i j =
          always (Lasts a) (Lasts b) Differ from period is.0 some (short a in_a p) (short b in_b q) (again a in_a p) (again b in_b q) still below
          x.start x.end y.start y.end t (x, h, refl, refl) (y, k, refl, refl) differ i j

    pub pair_clear : AreClearBelow a b bound → AreSeriesClear a b
    pair_clear clear x y h k s =
        never (λ _ _. Unit {0}) (λ _ _ _. tt)
        (λ v w t (of_a, less) (of_b, fewer) _ before i j. clear v w of_a of_b less fewer (record { instant = t; before = before; in_first = i; in_second = j }))
        x y s.instant h k tt s.in_first s.in_second

    pub keys_clear : AreClear (StartsBelow a bound) (StartsBelow b bound) → AreClear (IsInstance a) (IsInstance b)
    keys_clear clear x y t h k clash =
        never (λ s u. key_at p.master s ≢ key_at q.master u) (λ s u. keys_differ p.master q.master s u period)
        (λ v w u g l differ before i j.
        clear v w u g l (record {
          differ = λ same. differ (sym (at_its_start a p v g.0).key ∙ same ∙ (at_its_start b q w l.0).key);
          before = before;
          in_first = i;
          in_second = j;
        }))
        x y t h k (λ same. clash.differ ((at_its_start a p x h).key ∙ same ∙ sym (at_its_start b q y k).key)) clash.in_first clash.in_second

  pub alone_clear : (a : Event) → Contains all a → IsSaidSeries a → IsClearBelow a bound → IsSeriesClear a
  alone_clear a in_a p clear x y h k differ s =
      keys_clear a a in_a in_a p p
      (λ v w t (of_v, less) (of_w, fewer) clash.
      clear v w of_v of_w less fewer clash.differ (record { instant = t; before = clash.before; in_first = clash.in_first; in_second = clash.in_second }))
      x y s.instant h k (record { differ = differ; before = s.before; in_first = s.in_first; in_second = s.in_second })

-- each series is said, though not by which VEVENT
module _ (laws : SpanLaws) where
  pub span_settles : (a b : Event) (from bound : ℤ) (days : ℕ) → IsSpan (a ∷ b ∷ []) from days → IsBoundOf (a ∷ b ∷ []) from days bound → ∥ IsSaidSeries a ∥₁ → ∥ IsSaidSeries b ∥₁ → SettlesPair a b bound
  span_settles a b from bound days span is said_a said_b = record {
    pair = λ clear x y h k s.
        ∥∥₁_elim said_a ⊥_prop (λ p.
        ∥∥₁_elim said_b ⊥_prop (λ q. pair_clear laws (a ∷ b ∷ []) from bound days span is a b (0, omega arith, refl) (1, omega arith, refl) p q clear x y h k s));
    alone = λ clear x y h k differ s.
        ∥∥₁_elim said_a ⊥_prop (λ p. alone_clear laws (a ∷ b ∷ []) from bound days span is a (0, omega arith, refl) p clear x y h k differ s);
  }

  pub spans_clear : (these those : List Event) (from : ℤ) (days : ℕ) → AreSaidSeries (these ++ those) → SpanHolds these those from days → (a b : Event) → Contains these a → Contains those b
      → AreClear (IsInstance a) (IsInstance b)
  spans_clear these those from days said holds a b in_these in_those x y t h k clash =
      let in_a = Contains-append_left these those a in_these in
      let in_b = Contains-append_right these those b in_those in
      ∥∥₁_elim (said a in_a) ⊥_prop (λ p.
      ∥∥₁_elim (said b in_b) ⊥_prop (λ q.
      keys_clear laws (these ++ those) from holds.bound days holds.span holds.is a b in_a in_b p q (holds.clear a b in_these in_those) x y t h k clash))
