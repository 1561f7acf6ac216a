-- The search near the onsets of a zone.
use Rattle.std.proofs.Common.{◌≡◌, ◌≢◌, ◌∙◌, refl, sym, subst, ap, inl, inr, arith, ℕ, ◌<◌, ◌^◌, ℤ, pos, negsuc, ◌+ℤ◌, ◌-ℤ◌, ◌≤ℤ◌, ◌<ℤ◌, w64, FitsSigned, unsigned_abs}
use Rattle.std.proofs.lemmas.Int.{ints, by_lt_z}
use Rattle.std.proofs.Math.Logic.{∥∥₁_elim}
use Rattle.std.specs.Prelude.{Option, Some, None, option_map, MatchOption}
use Rattle.std.specs.Int.{saturate_signed, int_min}
use Rattle.profile.specs.text.Trees.{Tree}
use Rattle.profile.specs.checker.Instances.{Key, Instance as SaidInstance, horizon}
use Rattle.profile.specs.series.Zones.{Zone, Constant, Single, Pair, Onset, IsZoneOnset, Since, IsOffsetAt, IsOneOffset}
use Rattle.profile.specs.series.ZoneTexts.{SaysZone}
use Rattle.profile.specs.events.ZonedTimes.{clock_of}
use Rattle.profile.specs.events.EventComponents.{EventComponent}
use Rattle.profile.specs.events.Events.{Event}
use Rattle.profile.specs.events.Spans.{IsSaidSeries, IsWidthOf}
use Rattle.profile.specs.events.Starts.{IsInstance, IsFirstSharer}
use Rattle.cal_zones.specs.Repeats.{IsRegular, AreOffsetsOf}
use Rattle.cal_zones.specs.Spans.{AreNoneBetween, IsNextOnset}
use Rattle.cal_events.specs.Calendar.{instance_of}
use Rattle.cal_events.specs.Series.{AreKnownByStart}
use Rattle.cal_events.specs.declared.instance.Instance.{Instance}
use Rattle.cal_events.specs.declared.instances.Instances.{Instances}
use Rattle.cal_events.proofs.shared_lemmas.Overlaps.{abs_is}
use Rattle.cal_period.specs.Clear.{ShareStart, ArePair, AreTwo, AreClearBelow, IsClearBelow}
use Rattle.cal_period.specs.LocalResidues.{AreLocallyApart, IsLocallyApart}
use Rattle.cal_period.specs.Onsets.{AreClearSince, IsClearSince, AreClearNear, IsClearNear, IsHalfDayBefore}
use Rattle.cal_period.specs.Onward.{IsFirstStart, IsSharedBelow, IsSharedAloneBelow}
use Rattle.cal_period.specs.Walks.{walk_place, IsNoneBelow, IsBehind, Tail, EntersWalk, WalksOn, MeetsInstance, MeetsNone}
use Rattle.cal_period.specs.declared.walk.Walk.{Walk}
use Rattle.cal_period.proofs.Entries.{saturated}
use Rattle.cal_period.proofs.OnsetTheorem.{IsRuledIn, clear_by_onsets, alone_by_onsets}
use Rattle.cal_period.proofs.SaidSeries.{has_said}
use Rattle.cal_period.proofs.SeriesLaw.{said_starts}
use Rattle.cal_period.proofs.Settling.{later_start}
use Rattle.cal_period.proofs.Sweeping.{Share, met_start, next_is, all_behind}
use Rattle.cal_period.proofs.Tails.{meets_none_since, behind_since}

same_int : {a b : ℤ} → a ≤ℤ b → b ≤ℤ a → a ≡ b
same_int {a} {b} l m = omega (arith, ints, l, m)

-- ---- from onset to onset

-- it holds at each onset after an instant and up to another
abbrev pub HoldsTo : (Onset → Type 0) → (ℤ → Type 0) → ℤ → ℤ → Type 0
HoldsTo Is P after last = (u : Onset) → Is u → after <ℤ u.instant → u.instant ≤ℤ last → P u.instant

pub holds_next : (Is : Onset → Type 0) (P : ℤ → Type 0) (after last onset : ℤ) → HoldsTo Is P after last → IsNextOnset Is last onset → P onset → HoldsTo Is P after onset
holds_next Is P after last onset old next holds u is past most =
    by_lt_z last u.instant (λ less. let least = next.none u is less in subst P (same_int least most) holds) (λ early. old u is past early)

pub holds_all : (Is : Onset → Type 0) (P : ℤ → Type 0) (after last bound : ℤ) → HoldsTo Is P after last → AreNoneBetween Is last bound → (u : Onset) → Is u → after <ℤ u.instant → u.instant <ℤ bound → P u.instant
holds_all Is P after last bound old none u is past before =
    by_lt_z last u.instant (λ less. let least = none u is less in absurd (omega (arith, ints, least, before))) (λ early. old u is past early)

-- what holds of fewer holds of more
pub holds_more : (Is : Onset → Type 0) (P Q : ℤ → Type 0) (after last : ℤ) → ((t : ℤ) → P t → Q t) → HoldsTo Is P after last → HoldsTo Is Q after last
holds_more Is P Q after last more old u is past most = more u.instant (old u is past most)

-- how far it is to a bound
pub nearer : (bound last onset : ℤ) → last <ℤ onset → onset <ℤ bound → unsigned_abs (bound -ℤ onset) < unsigned_abs (bound -ℤ last)
nearer bound last onset further before =
    let a = abs_is (bound -ℤ onset) (omega (arith, ints, before)) in
    let b = abs_is (bound -ℤ last) (omega (arith, ints, before, further)) in
    omega (arith, ints, a, b, further)

pub fits_of : (z : ℤ) → negsuc 9_223_372_036_854_775_807 ≤ℤ z → z <ℤ pos (2 ^ 63) → FitsSigned w64 z
fits_of (pos n) low high = record { sfits = omega (arith, ints, high) }
fits_of (negsuc n) low high = record { sfits = omega (arith, ints, low) }

pub sum_fits : (x y : ℤ) → FitsSigned w64 x → x <ℤ horizon → pos 0 ≤ℤ y → y <ℤ pos (2 ^ 51) → FitsSigned w64 (x +ℤ y)
sum_fits x y f l m n = fits_of (x +ℤ y) (omega (arith, ints, f, m)) (omega (arith, ints, l, n))

-- ---- the instances of one series beside another

-- what was passed over shares nothing, from an instant on, with the other
pub record IsBesideSince (a b : Event) (from : ℤ) (left : Instances) (walk : Walk) : Type 0 where
  pub tail : Tail a from left walk
  pub clear : (x y : SaidInstance) → IsBehind a (walk_place walk.next) x → IsInstance b y → (s : Share x y) → from ≤ℤ s.instant → ⊥

pub beside_first : (a b : Event) (from entry : ℤ) (left : Instances) (walk : Walk) → EntersWalk a from entry left walk → IsBesideSince a b from left walk
beside_first a b from entry left walk m = record { tail = m.tail; clear = λ x y h k s late. let over = m.over x h in let i = s.in_first in omega (arith, ints, over, late, i.1) }

share_start : (x y : SaidInstance) → Share x y → ShareStart x y
share_start x y s =
    let i = s.in_first in
    let j = s.in_second in
    let u = later_start x.start x.end y.start y.end s.instant i j in
    let early = s.before in
    record {
      instant = u.0;
      starts = u.1;
      before = elim u.1 [ inl e ↦ omega (arith, ints, e, i.0, early) | inr e ↦ omega (arith, ints, e, j.0, early) ];
      in_first = u.2;
      in_second = u.3;
    }

module _ (a b : Event) (from : ℤ) (left : Instances) (walk : Walk) (at : IsBesideSince a b from left walk) where
  pub beside_end : (bound : ℤ) → IsNoneBelow bound walk.next → AreClearSince a b from bound
  beside_end bound none x y h k l s late = at.clear x y (all_behind a left walk.next bound at.tail.ahead none x h l) k s late

  module _ (next : Instance) (is : walk.next ≡ Some next) (start end : ℤ) (begins : start ≡ next.start) (ends : end ≡ next.end) (found : Option Instance)
      (first : IsFirstSharer b start end (option_map instance_of found)) where
    pub beside_found : (other : Instance) → found ≡ Some other → ArePair a b (instance_of next) (instance_of other)
    beside_found other e =
        let f = subst (λ o. IsFirstSharer b start end (option_map instance_of o)) e first in
        let s = f.1.0 in
        let j = s.in_second in
        record {
          first = next_is a left walk.next next at.tail.ahead is;
          second = f.0;
          shared = share_start (instance_of next) (instance_of other)
              (record { instant = s.instant; before = s.before; in_first = (omega (arith, ints, begins, j.0), omega (arith, ints, ends, j.1)); in_second = s.in_first });
        }

    -- it shares nothing with the other
    lonely : found ≡ None → (y : SaidInstance) → IsInstance b y → Share (instance_of next) y → ⊥
    lonely e y k s =
        let i = s.in_first in
        subst (λ o. IsFirstSharer b start end (option_map instance_of o)) e first y k
        (record { instant = s.instant; before = s.before; in_first = s.in_second; in_second = (omega (arith, ints, begins, i.0), omega (arith, ints, ends, i.1)) })

    pub beside_past : found ≡ None → (rest : Instances) (new : Walk) → WalksOn a from next walk rest new → IsBesideSince a b from rest new
    beside_past e rest new g = record {
      tail = g.tail;
      clear = λ x y h k s late. elim (g.one x h) [
        | inl was ↦ at.clear x y was k s late
        | inr same ↦ lonely e y k (subst (λ (z : SaidInstance). Share z y) same s)
      ];
    }

-- ---- one series

-- what was passed over is clear of itself from an instant on
pub record IsAloneSince (a : Event) (from : ℤ) (left : Instances) (walk : Walk) : Type 0 where
  pub tail : Tail a from left walk
  pub clear : (x y : SaidInstance) → IsBehind a (walk_place walk.next) x → IsBehind a (walk_place walk.next) y → x.key ≢ y.key → (s : Share x y) → from ≤ℤ s.instant → ⊥

pub alone_enters : (a : Event) (from entry : ℤ) (left : Instances) (walk : Walk) → EntersWalk a from entry left walk → IsAloneSince a from left walk
alone_enters a from entry left walk m = record {
  tail = m.tail;
  clear = λ x y h k differ s late. let over = m.over x h in let i = s.in_first in omega (arith, ints, over, late, i.1);
}

module _ (a : Event) (from : ℤ) (left : Instances) (walk : Walk) (at : IsAloneSince a from left walk) where
  pub alone_ends : (bound : ℤ) → IsNoneBelow bound walk.next → IsClearSince a from bound
  alone_ends bound none x y h k l m differ s late =
      at.clear x y (all_behind a left walk.next bound at.tail.ahead none x h l) (all_behind a left walk.next bound at.tail.ahead none y k m) differ s late

  module _ (next : Instance) (is : walk.next ≡ Some next) where
    pub alone_met : (last : Instance) → MeetsInstance walk.last next last → AreTwo a (instance_of last) (instance_of next)
    alone_met last m =
        let known = at.tail.ahead.known in
        let own = next_is a left walk.next next at.tail.ahead is in
        let behind = behind_since a from (walk_place walk.next) walk.last last at.tail.last m.0 in
        let before : last.start <ℤ next.start = subst (λ (t : ℤ). last.start <ℤ t) (ap walk_place is) behind.1 in
        record {
          first = behind.0;
          second = own;
          differ = λ e. omega (arith, ints, before, known.slots (instance_of last) behind.0, known.slots (instance_of next) own, ap (λ (k : Key). k.slot) e);
          shared = met_start last next (omega (arith, ints, before)) (known.dates (instance_of next) own).1 m.1 m.2;
        }

    -- what is shared with it, from the instant on
    abbrev SharesLate : SaidInstance → SaidInstance → Type 0
    SharesLate x y = (s : Share x y) × (from ≤ℤ s.instant)

    never : MeetsNone walk.last next → (x : SaidInstance) → IsBehind a (walk_place walk.next) x → SharesLate x (instance_of next) → ⊥
    never none x h (s, late) = meets_none_since a from (walk_place walk.next) walk.last next at.tail.last none x h s late

    pub alone_passed : (rest : Instances) (new : Walk) → MeetsNone walk.last next → WalksOn a from next walk rest new → IsAloneSince a from rest new
    alone_passed rest new none g = record {
      tail = g.tail;
      clear = λ x y h k differ s late. elim (g.one x h) [
        | inl was ↦ elim (g.one y k) [
          | inl were ↦ at.clear x y was were differ s late
          | inr e ↦ never none x was (subst (SharesLate x) e (s, late))
        ]
        | inr e ↦ elim (g.one y k) [
          | inl were ↦ never none y were (subst (SharesLate y) e (record { instant = s.instant; before = s.before; in_first = s.in_second; in_second = s.in_first }, late))
          | inr f ↦ differ (ap (λ (b : SaidInstance). b.key) (e ∙ sym f))
        ]
      ];
    }

-- ---- half a day before all

pub half_day_before : (series : Event) (t before : ℤ) → AreKnownByStart series → IsFirstStart series (Some t) → before ≡ saturate_signed w64 (t -ℤ pos 43_201) → IsHalfDayBefore series before
half_day_before series t before known first is x h =
    let least = first.0 x h in
    let date = (known.dates x h).0 in
    elim (saturated (t -ℤ pos 43_201)) [
      | inl low ↦ omega (arith, ints, least, is, low)
      | inr low ↦ omega (arith, ints, date, is, low)
    ]

pub half_day_earlier : (series : Event) (first before : ℤ) → before ≤ℤ first → IsHalfDayBefore series first → IsHalfDayBefore series before
half_day_earlier series first before l early x h = let e = early x h in omega (arith, ints, e, l)

pub within_both : (bound last : ℤ) → last ≡ int_min bound horizon → (t : ℤ) → t <ℤ bound → t <ℤ horizon → t <ℤ last
within_both bound last is t l m = grind (arith, ints, is, l, m)

-- ---- what the crates below say

after_in_force : (z : Zone) (x : Onset) → IsZoneOnset z x → IsOffsetAt z x.instant x.after
after_in_force (Constant k) x is = absurd is
after_in_force (Single a) x is = Since x (record { listed = is; begun = omega (arith, ints); latest = λ other l w. w }) refl
after_in_force (Pair a b) x is = Since x (record { listed = is; begun = omega (arith, ints); latest = λ other l w. w }) refl

jumps : (z : Zone) (least greatest : ℤ) → AreOffsetsOf z least greatest → (x : Onset) → IsZoneOnset z x → x.after ≤ℤ (x.before +ℤ pos 43_200)
jumps z least greatest b x is =
    let high = (b.offsets x.instant x.after (after_in_force z x is)).1 in
    let low = (b.befores x is).0 in
    let close = b.close in
    omega (arith, ints, high, low, close)

-- what is known of the zone of series
pub record ZoneFacts (z : Zone) : Type 0 where
  pub said : (tree : Tree) (other : Zone) → SaysZone tree other → IsRegular other
  pub bounds : (least : ℤ) × (greatest : ℤ) × AreOffsetsOf z least greatest
  pub one : IsOneOffset z

-- and of one
pub record SeriesFacts (z : Zone) (a : Event) : Type 0 where
  pub said : ∥ IsSaidSeries a ∥₁
  pub known : AreKnownByStart a
  pub lasts : (width : ℤ) (b : SaidInstance) → IsWidthOf a width → IsInstance a b → (b.start ≤ℤ b.end) × (b.end ≤ℤ (b.start +ℤ width))
  pub clock : (master : EventComponent) → a.master ≡ Some master → z ≡ clock_of master.times.zone

ruled_in : (z : Zone) (a : Event) → ZoneFacts z → SeriesFacts z a → IsSaidSeries a → IsRuledIn z a
ruled_in z a zone facts s =
    let h = has_said zone.said a s in
    let e = ap (λ (x : Event). x.master) h.is in
    record {
      master = h.master;
      is = e;
      rule = h.rule;
      recurs = h.ruled;
      clock = sym (facts.clock h.master e);
      starts = said_starts a h;
      lasts = λ width x wide is. (facts.lasts width x wide is).1;
    }

pub pair_found : (z : Zone) (a b : Event) (after bound last : ℤ) (found : Option (Instance × Instance)) → ZoneFacts z → SeriesFacts z a → SeriesFacts z b → (m : ℕ) × (0 < m) × AreLocallyApart a b m
    → ((t : ℤ) → t <ℤ bound → t <ℤ horizon → t <ℤ last) → IsHalfDayBefore a after → IsHalfDayBefore b after
    → MatchOption found (AreClearNear z a b after last) (λ s. ArePair a b (instance_of s.0) (instance_of s.1)) → IsSharedBelow a b bound found
pair_found z a b after bound last found zone in_a in_b (m, some, apart) within early_a early_b near = by found near
  where
    clear : AreClearNear z a b after last → AreClearBelow a b bound
    clear near x y h k lx ly s =
        ∥∥₁_elim in_a.said (λ p q. absurd p)
        (λ said_a. ∥∥₁_elim in_b.said (λ p q. absurd p)
        (λ said_b. clear_by_onsets z zone.one (jumps z zone.bounds.0 zone.bounds.1 zone.bounds.2) m some a b (ruled_in z a zone in_a said_a) (ruled_in z b zone in_b said_b) apart after last early_a early_b near x y h k
        (within x.start lx (in_a.known.dates x h).1) (within y.start ly (in_b.known.dates y k).1) s))

    by : (found : Option (Instance × Instance)) → MatchOption found (AreClearNear z a b after last) (λ s. ArePair a b (instance_of s.0) (instance_of s.1)) → IsSharedBelow a b bound found
    by None near = clear near
    by (Some p) pair = pair

pub alone_found_near : (z : Zone) (a : Event) (after bound last : ℤ) (found : Option (Instance × Instance)) → ZoneFacts z → SeriesFacts z a → (m : ℕ) × (0 < m) × IsLocallyApart a m
    → ((t : ℤ) → t <ℤ bound → t <ℤ horizon → t <ℤ last) → IsHalfDayBefore a after
    → MatchOption found (IsClearNear z a after last) (λ s. AreTwo a (instance_of s.0) (instance_of s.1)) → IsSharedAloneBelow a bound found
alone_found_near z a after bound last found zone in_a (m, some, apart) within early near = by found near
  where
    clear : IsClearNear z a after last → IsClearBelow a bound
    clear near x y h k lx ly differ s =
        ∥∥₁_elim in_a.said (λ p q. absurd p)
        (λ said_a. alone_by_onsets z zone.one (jumps z zone.bounds.0 zone.bounds.1 zone.bounds.2) m some a (ruled_in z a zone in_a said_a) in_a.known.one apart after last early near x y h k
        (within x.start lx (in_a.known.dates x h).1) (within y.start ly (in_a.known.dates y k).1) differ s)

    by : (found : Option (Instance × Instance)) → MatchOption found (IsClearNear z a after last) (λ s. AreTwo a (instance_of s.0) (instance_of s.1)) → IsSharedAloneBelow a bound found
    by None near = clear near
    by (Some p) two = two
