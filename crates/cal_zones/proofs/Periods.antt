-- A regular zone does the same again after each of its periods.
use Rattle.std.proofs.Common.{◌≡◌, sym, subst, refl, arith, inl, inr, ℕ, zero, suc, ◌+◌, ◌*◌, ◌≤◌, ◌<◌, Some, None, true, false, ℤ, pos, ◌+ℤ◌, ◌-ℤ◌, ◌≤ℤ◌, unsigned_abs, true≢false}
use Rattle.std.proofs.lemmas.Int.{ints, by_lt_z}
use Rattle.std.specs.Prelude.{IfSome}
use Rattle.std.specs.Int.{int_max}
use Rattle.std.specs.List.{list_all}
use Rattle.profile.specs.text.Values.{IsOffset}
use Rattle.profile.specs.series.Rules.{Pattern, is_base, is_long, is_plain}
use Rattle.profile.specs.series.Periods.{IsShift, IsMultiple}
use Rattle.profile.specs.series.Zones.{Observance, Zone, Constant, Single, Pair, Onset, IsZoneOnset, onset_at, IsFirstOf, IsOffsetAt, Means}
use Rattle.profile.specs.series.ZoneTexts.{YearRule, AreMatched, year_pattern}
use Rattle.profile.specs.events.Spans.{IsHalfDayPast, IsPastOnsets, IsZonePeriod}
use Rattle.profile.proofs.ZoneRepeats.{int_same, means_later, means_earlier, onset_later, cycle}
use Rattle.profile.proofs.PairRepeats as both
use Rattle.cal_zones.specs.Kinds.{IsOrdered}
use Rattle.cal_zones.proofs.Zones.{AreSides, sides_of}
use Rattle.cal_zones.specs.Repeats.{IsBegunFrom, IsRegularFrom, IsRegular, IsEachYear, ZoneRepeats, AreOffsetsOf}

-- ---- so many cycles later

module _ (P : ℤ → ℤ → Type 0) (from : ℤ) where
  move : {x y t u : ℤ} → x ≡ y → t ≡ u → P x t → P y u
  move {x} {y} {t} {u} e f p = subst (P y) f (subst (λ z. P z t) e p)

  cycles_later : ((x t : ℤ) → from ≤ℤ t → P x t → P (x +ℤ cycle) (t +ℤ cycle)) → (k : ℕ) (x t : ℤ) → from ≤ℤ t → P x t
      → P (x +ℤ pos (k * 12_622_780_800)) (t +ℤ pos (k * 12_622_780_800))
  cycles_later step zero x t l p =
      let n : 0 * 12_622_780_800 ≡ 0 = omega arith in
      move (int_same (omega (arith, ints, n)) (omega (arith, ints, n))) (int_same (omega (arith, ints, n)) (omega (arith, ints, n))) p
  cycles_later step (suc k) x t l p =
      let n : suc k * 12_622_780_800 ≡ 12_622_780_800 + k * 12_622_780_800 = omega arith in
      move (int_same (omega (arith, ints, n)) (omega (arith, ints, n))) (int_same (omega (arith, ints, n)) (omega (arith, ints, n)))
      (step (x +ℤ pos (k * 12_622_780_800)) (t +ℤ pos (k * 12_622_780_800)) (omega (arith, ints, l)) (cycles_later step k x t l p))

  cycles_earlier : ((x t : ℤ) → from ≤ℤ t → P (x +ℤ cycle) (t +ℤ cycle) → P x t) → (k : ℕ) (x t : ℤ) → from ≤ℤ t
      → P (x +ℤ pos (k * 12_622_780_800)) (t +ℤ pos (k * 12_622_780_800)) → P x t
  cycles_earlier step zero x t l p =
      let n : 0 * 12_622_780_800 ≡ 0 = omega arith in
      move (int_same (omega (arith, ints, n)) (omega (arith, ints, n))) (int_same (omega (arith, ints, n)) (omega (arith, ints, n))) p
  cycles_earlier step (suc k) x t l p =
      let n : suc k * 12_622_780_800 ≡ 12_622_780_800 + k * 12_622_780_800 = omega arith in
      cycles_earlier step k x t l
      (step (x +ℤ pos (k * 12_622_780_800)) (t +ℤ pos (k * 12_622_780_800)) (omega (arith, ints, l))
      (move (int_same (omega (arith, ints, n)) (omega (arith, ints, n))) (int_same (omega (arith, ints, n)) (omega (arith, ints, n))) p))

  module _ (k days : ℕ) (e : 86_400 * days ≡ k * 12_622_780_800) where
    days_later : ((x t : ℤ) → from ≤ℤ t → P x t → P (x +ℤ cycle) (t +ℤ cycle)) → (x t : ℤ) → from ≤ℤ t → P x t → P (x +ℤ pos (86_400 * days)) (t +ℤ pos (86_400 * days))
    days_later step x t l p = subst (λ n. P (x +ℤ pos n) (t +ℤ pos n)) (sym e) (cycles_later step k x t l p)

    days_earlier : ((x t : ℤ) → from ≤ℤ t → P (x +ℤ cycle) (t +ℤ cycle) → P x t) → (x t : ℤ) → from ≤ℤ t → P (x +ℤ pos (86_400 * days)) (t +ℤ pos (86_400 * days)) → P x t
    days_earlier step x t l p = cycles_earlier step k x t l (subst (λ n. P (x +ℤ pos n) (t +ℤ pos n)) e p)

-- ---- one offset

module _ (k : ℤ) (from : ℤ) (days : ℕ) where
  abbrev Fixed : Zone
  Fixed = Constant k

  constant_repeats : ZoneRepeats (Constant k) from days
  constant_repeats = record {
    later = λ local t l. means_later Fixed (pos (86_400 * days)) (from -ℤ pos 43_201) (omega (arith, ints)) (λ t o m is. is) (λ t o m is. is) (λ x m is. absurd is) (λ x m is. absurd is)
        (λ t u p q is it. omega (arith, ints, is, it)) (λ x t p is it. absurd is) (λ x is. absurd is) local t (omega (arith, ints, l));
    earlier = λ local t l. means_earlier Fixed (pos (86_400 * days)) (from -ℤ pos 43_201) (omega (arith, ints)) (λ t o m is. is) (λ t o m is. is) (λ x m is. absurd is) (λ x m is. absurd is)
        (λ t u p q is it. omega (arith, ints, is, it)) (λ x t p is it. absurd is) (λ x is. absurd is) local t (omega (arith, ints, l));
    offset_later = λ t o l is. is;
    offset_earlier = λ t o l is. is;
    onset_later = λ x l is. absurd is;
    onset_earlier = λ x l is. absurd is;
  }

-- ---- one observance that begins once

single_repeats : (a : Observance) (from first : ℤ) (days : ℕ) → a.rule ≡ None → AreMatched (Single a) → IsFirstOf a first → IsHalfDayPast from first → ZoneRepeats (Single a) from days
single_repeats a from first days unruled matched is past =
    let d = pos (86_400 * days) in
    let some : pos 0 ≤ℤ pos (86_400 * days) = omega (arith, ints) in
    record {
      later = λ local t l. both.once_means_later a unruled first is matched d some local t (omega (arith, ints, l, past));
      earlier = λ local t l. both.once_means_earlier a unruled first is matched d some local t (omega (arith, ints, l, past));
      offset_later = λ t o l. both.once_later a unruled first is matched d some t o (omega (arith, ints, l, past));
      offset_earlier = λ t o l. both.once_earlier a unruled first is matched d some t o (omega (arith, ints, l, past));
      onset_later = λ x l on. absurd (both.none_later a unruled first is matched d some x (omega (arith, ints, l, past)) on);
      onset_earlier = λ x l on. absurd (both.none_later a unruled first is matched d some (onset_later d x) (omega (arith, ints, l, past)) on);
    }

-- ---- two that begin every year

abbrev pub BaseDaysRepeat : Type 0
BaseDaysRepeat = (p : Pattern) (days n : ℕ) → IsShift p days → p.week_start < 7
    → (is_long p.frequency ≡ false → list_all (λ entry. is_plain entry.number) p.weekdays ≡ true)
    → is_base p (n + days) ≡ is_base p n

year_shift : (r : YearRule) (start : ℕ) → IsShift (year_pattern r start) 146_097
year_shift r start = record {
  steps = (1, refl, (400, refl));
  weeks = λ _. (20_871, refl);
  dates = λ _. (1, refl);
}

year_repeats : BaseDaysRepeat → (r : YearRule) (start n : ℕ) → is_base (year_pattern r start) (n + 146_097) ≡ is_base (year_pattern r start) n
year_repeats repeat r start n = repeat (year_pattern r start) 146_097 n (year_shift r start) (omega arith) (λ e. absurd (true≢false e))

module _ (repeat : BaseDaysRepeat) (a b : Observance) (each_a each_b : YearRule) (ra : a.rule ≡ Some (year_pattern each_a a.day)) (rb : b.rule ≡ Some (year_pattern each_b b.day))
    (matched : AreMatched (Pair a b)) (fa fb from at : ℤ) (first_a : IsFirstOf a fa) (first_b : IsFirstOf b fb) (after_a : fa ≤ℤ at) (after_b : fb ≤ℤ at)
    (last : Onset) (listed : IsZoneOnset (Pair a b) last) (is_last : last.instant ≡ at) (past : IsHalfDayPast from at) (k : ℕ) where
  abbrev pa : Pattern
  pa = year_pattern each_a a.day

  abbrev pb : Pattern
  pb = year_pattern each_b b.day

  a_repeats : (n : ℕ) → is_base pa (n + 146_097) ≡ is_base pa n
  a_repeats = year_repeats repeat each_a a.day

  b_repeats : (n : ℕ) → is_base pb (n + 146_097) ≡ is_base pb n
  b_repeats = year_repeats repeat each_b b.day

  means_cycle_later : (x t : ℤ) → from ≤ℤ t → Means (Pair a b) x t → Means (Pair a b) (x +ℤ cycle) (t +ℤ cycle)
  means_cycle_later x t l = both.pair_means_later a b pa pb ra rb a_repeats b_repeats matched fa fb at first_a first_b after_a after_b last listed is_last x t (omega (arith, ints, l, past))

  means_cycle_earlier : (x t : ℤ) → from ≤ℤ t → Means (Pair a b) (x +ℤ cycle) (t +ℤ cycle) → Means (Pair a b) x t
  means_cycle_earlier x t l = both.pair_means_earlier a b pa pb ra rb a_repeats b_repeats matched fa fb at first_a first_b after_a after_b last listed is_last x t (omega (arith, ints, l, past))

  offset_cycle_later : (o t : ℤ) → (from -ℤ pos 43_201) ≤ℤ t → IsOffsetAt (Pair a b) t o → IsOffsetAt (Pair a b) (t +ℤ cycle) o
  offset_cycle_later o t l = both.later a b pa pb ra rb a_repeats b_repeats matched fa fb at first_a first_b after_a after_b last listed is_last t o (omega (arith, ints, l, past))

  offset_cycle_earlier : (o t : ℤ) → (from -ℤ pos 43_201) ≤ℤ t → IsOffsetAt (Pair a b) (t +ℤ cycle) o → IsOffsetAt (Pair a b) t o
  offset_cycle_earlier o t l = both.earlier a b pa pb ra rb a_repeats b_repeats matched fa fb at first_a first_b after_a after_b last listed is_last t o (omega (arith, ints, l, past))

  -- an onset with these offsets
  abbrev IsOn : ℤ → ℤ → ℤ → ℤ → Type 0
  IsOn before after x t = IsZoneOnset (Pair a b) (record { instant = t; before = before; after = after })

  onset_cycle_later : (before after x t : ℤ) → (from -ℤ pos 43_200) ≤ℤ t → IsOn before after x t → IsOn before after (x +ℤ cycle) (t +ℤ cycle)
  onset_cycle_later before after x t l = both.up a b pa pb ra rb a_repeats b_repeats matched fa fb at first_a first_b after_a after_b (record { instant = t; before = before; after = after })

  onset_cycle_earlier : (before after x t : ℤ) → (from -ℤ pos 43_200) ≤ℤ t → IsOn before after (x +ℤ cycle) (t +ℤ cycle) → IsOn before after x t
  onset_cycle_earlier before after x t l =
      both.down a b pa pb ra rb a_repeats b_repeats matched fa fb at first_a first_b after_a after_b (record { instant = t; before = before; after = after }) (omega (arith, ints, l, past))

  cycles_repeat : (days : ℕ) → 86_400 * days ≡ k * 12_622_780_800 → ZoneRepeats (Pair a b) from days
  cycles_repeat days e = record {
    later = days_later (Means (Pair a b)) from k days e means_cycle_later;
    earlier = days_earlier (Means (Pair a b)) from k days e means_cycle_earlier;
    offset_later = λ t o. days_later (λ _ u. IsOffsetAt (Pair a b) u o) (from -ℤ pos 43_201) k days e (λ _ u. offset_cycle_later o u) o t;
    offset_earlier = λ t o. days_earlier (λ _ u. IsOffsetAt (Pair a b) u o) (from -ℤ pos 43_201) k days e (λ _ u. offset_cycle_earlier o u) o t;
    onset_later = λ x. days_later (IsOn x.before x.after) (from -ℤ pos 43_200) k days e (onset_cycle_later x.before x.after) x.instant x.instant;
    onset_earlier = λ x. days_earlier (IsOn x.before x.after) (from -ℤ pos 43_200) k days e (onset_cycle_earlier x.before x.after) x.instant x.instant;
  }

pair_repeats : BaseDaysRepeat → (a b : Observance) (from fa fb : ℤ) (days : ℕ) → IsEachYear a → IsEachYear b → AreMatched (Pair a b) → IsFirstOf a fa → IsFirstOf b fb
    → IsHalfDayPast from fa → IsHalfDayPast from fb → IsMultiple days 146_097 → ZoneRepeats (Pair a b) from days
pair_repeats repeat a b from fa fb days ea eb matched first_a first_b past_a past_b (k, e) =
    let same : 86_400 * days ≡ k * 12_622_780_800 = omega (arith, e) in
    by_lt_z fa fb
    (λ less. cycles_repeat repeat a b ea.0 eb.0 ea.1 eb.1 matched fa fb from fb first_a first_b (omega (arith, ints, less)) (omega (arith, ints)) (onset_at b fb) (inr first_b.listed) refl past_b k days same)
    (λ most. cycles_repeat repeat a b ea.0 eb.0 ea.1 eb.1 matched fa fb from fa first_a first_b (omega (arith, ints)) (omega (arith, ints, most)) (onset_at a fa) (inl first_a.listed) refl past_a k days same)

-- ---- of any form

pub repeat : BaseDaysRepeat → (z : Zone) (from : ℤ) (days : ℕ) → IsRegular z → IsPastOnsets z from → IsZonePeriod z days → ZoneRepeats z from days
repeat rule (Constant k) from days regular past period = constant_repeats k from days
repeat rule (Single a) from days (offsets, unruled, matched) (x, y, (first, is, e, f), p, q) period =
    single_repeats a from first days unruled matched is (subst (λ o. IfSome o (IsHalfDayPast from)) e p)
repeat rule (Pair a b) from days (offsets, ea, eb, matched) (x, y, (fa, fb, is, also, e, f), p, q) period =
    pair_repeats rule a b from fa fb days ea eb matched is also (subst (λ o. IfSome o (IsHalfDayPast from)) e p) (subst (λ o. IfSome o (IsHalfDayPast from)) f q) period

-- ---- the bounds of its offsets

within : (z : Zone) (least greatest : ℤ) → AreSides z least greatest → greatest ≤ℤ (least +ℤ pos 43_200) → IsOffset least → IsOffset greatest → AreOffsetsOf z least greatest
within z least greatest s close low high =
    let o = s.ordered in
    record {
      offsets = λ t x is. elim (s.one t x is) [
        | inl e ↦ (omega (arith, ints, e), omega (arith, ints, e, o))
        | inr e ↦ (omega (arith, ints, e, o), omega (arith, ints, e))
      ];
      befores = λ x is. elim (s.sides x is) [
        | inl e ↦ let f = e.0 in (omega (arith, ints, f), omega (arith, ints, f, o))
        | inr e ↦ let f = e.0 in (omega (arith, ints, f, o), omega (arith, ints, f))
      ];
      close = close;
      low = omega (arith, ints, low);
      high = omega (arith, ints, high);
    }

ordered : (from to : ℤ) → unsigned_abs (from -ℤ to) ≤ 43_200 → IsOffset from → IsOffset to
    → (least : ℤ) × (greatest : ℤ) × IsOrdered from to least greatest × (greatest ≤ℤ (least +ℤ pos 43_200)) × IsOffset least × IsOffset greatest
ordered from to near f t =
    by_lt_z from to
    (λ less. (from, to, inl (refl, refl, omega (arith, ints, less)), omega (arith, ints, near), f, t))
    (λ most. (to, from, inr (refl, refl, most), omega (arith, ints, near), t, f))

pub bounds : (z : Zone) → IsRegular z → (least : ℤ) × (greatest : ℤ) × AreOffsetsOf z least greatest
bounds (Constant k) range = (k, k, within (Constant k) k k (sides_of (Constant k) k k (refl, refl)) (omega (arith, ints)) range range)
bounds (Single a) (offsets, unruled, matched) =
    let o = ordered a.offset_from a.offset_to matched offsets.0 offsets.1 in
    (o.0, o.1, within (Single a) o.0 o.1 (sides_of (Single a) o.0 o.1 o.2) o.3 o.4 o.5)
bounds (Pair a b) (offsets, ea, eb, matched) =
    let o = ordered a.offset_from a.offset_to matched.2 offsets.0 offsets.1 in
    (o.0, o.1, within (Pair a b) o.0 o.1 (sides_of (Pair a b) o.0 o.1 (o.2, matched.0, matched.1)) o.3 o.4 o.5)

-- ---- from which instant on

first_is_one : (o : Observance) (x y : ℤ) → IsFirstOf o x → IsFirstOf o y → x ≡ y
first_is_one o x y f g =
    let m = f.least (onset_at o y) g.listed in
    let n = g.least (onset_at o x) f.listed in
    int_same (omega (arith, ints, m)) (omega (arith, ints, n))

pub begun_from : (o : Observance) (first from : ℤ) → IsFirstOf o first → from ≡ first +ℤ pos 43_201 → IsBegunFrom o from
begun_from o first from is e t =
    (λ l. (first, is, omega (arith, ints, l, e)), λ (other, also, past). let same = first_is_one o first other is also in omega (arith, ints, e, past, same))

pub single_begun : (a : Observance) (from : ℤ) → IsBegunFrom a from → IsRegularFrom (Single a) from
single_begun a from begun t = (
  λ l. let f = (begun t).0 l in (Some f.0, None, (f.0, f.1, refl {a = Some f.0}, refl), f.2, tt),
  λ (x, y, (first, is, e, f), p, q). (begun t).1 (first, is, subst (λ o. IfSome o (IsHalfDayPast t)) e p),
)

pub both_begun : (a b : Observance) (x y from : ℤ) → IsBegunFrom a x → IsBegunFrom b y → from ≡ int_max x y → IsRegularFrom (Pair a b) from
both_begun a b x y from first second e t = (
  λ l. let f = (first t).0 (grind (arith, ints, l, e)) in let g = (second t).0 (grind (arith, ints, l, e)) in
      (Some f.0, Some g.0, (f.0, g.0, f.1, g.1, refl {a = Some f.0}, refl {a = Some g.0}), f.2, g.2),
  λ (u, v, (fa, fb, is, also, p, q), h, k).
      let m = (first t).1 (fa, is, subst (λ o. IfSome o (IsHalfDayPast t)) p h) in
      let n = (second t).1 (fb, also, subst (λ o. IfSome o (IsHalfDayPast t)) q k) in
      grind (arith, ints, m, n, e),
)

pub past_from : (z : Zone) (from : ℤ) → IsRegularFrom z from → IsPastOnsets z from
past_from (Constant k) from is = (None, None, (refl, refl), tt, tt)
past_from (Single a) from is = (is from).0 (omega (arith, ints))
past_from (Pair a b) from is = (is from).0 (omega (arith, ints))
