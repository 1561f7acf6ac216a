-- Two series in one zone that never meet by its clocks clash only near an onset: two starts that are read by one offset are as far apart as their
-- local times are.
use Rattle.std.proofs.Common.{◌≡◌, ◌≢◌, refl, sym, subst, ap, inl, inr, ◌⊎◌, arith, ℕ, ◌<◌, ℤ, pos, ◌+ℤ◌, ◌-ℤ◌, ◌≤ℤ◌, ◌<ℤ◌}
use Rattle.std.proofs.lemmas.Int.{ints, by_lt_z}
use Rattle.std.specs.Prelude.{Some}
use Rattle.profile.specs.checker.Instances.{Instance}
use Rattle.profile.specs.series.Rules.{Rule}
use Rattle.profile.specs.series.Zones.{Zone, Constant, Single, Pair, Onset, IsZoneOnset, InForce, Since, Until, IsOffsetAt, IsOneOffset, Means, local_time}
use Rattle.profile.specs.series.Repeating.{IsCongruent}
use Rattle.profile.specs.events.ZonedTimes.{clock_of}
use Rattle.profile.specs.events.EventComponents.{EventComponent}
use Rattle.profile.specs.events.Events.{Event}
use Rattle.profile.specs.events.Spans.{IsWidthOf}
use Rattle.profile.specs.events.Starts.{IsInstance, IsRuleStart, SharesInstant}
use Rattle.profile.proofs.Repeats.{residues_apart, residues_alone}
use Rattle.profile.proofs.ResidueStarts.{at_residue, rule_day_in_form}
use Rattle.cal_period.specs.LocalResidues.{IsLocalResidue, AreLocallyApart, IsLocallyApart}
use Rattle.cal_period.specs.Clear.{AreClearBelow, IsClearBelow}
use Rattle.cal_period.specs.Onsets.{IsHalfDayBefore, AreClearNear, IsClearNear}

int_is : {a b : ℤ} → a ≤ℤ b → b ≤ℤ a → a ≡ b
int_is {a} {b} l m = omega (arith, ints, l, m)

-- ---- without an onset near, two starts are read by one offset

-- no onset lies between a half day before the one instant and the other
abbrev pub NoneNear : Zone → ℤ → ℤ → Type 0
NoneNear z x y = (u : Onset) → IsZoneOnset z u → (x -ℤ pos 43_200) ≤ℤ u.instant → u.instant ≤ℤ y → ⊥

-- without an onset between the offset stays
stays : (Is : Onset → Type 0) (x y p : ℤ) → x ≤ℤ y → ((u : Onset) → Is u → x <ℤ u.instant → u.instant ≤ℤ y → ⊥) → InForce Is x p → InForce Is y p
stays Is x y p l none (Since u h e) =
    let begun = h.begun in
    Since u (record {
      listed = h.listed;
      begun = omega (arith, ints, begun, l);
      latest = λ other is w. by_lt_z x other.instant (λ less. absurd (none other is less w)) (λ most. h.latest other is most);
    }) e
stays Is x y p l none (Until u h e) =
    Until u (record {
      listed = h.listed;
      ahead = by_lt_z y u.instant (λ less. less) (λ most. absurd (none u h.listed h.ahead most));
      least = h.least;
    }) e

offset_stays : (z : Zone) (x y p : ℤ) → x ≤ℤ y → ((u : Onset) → IsZoneOnset z u → x <ℤ u.instant → u.instant ≤ℤ y → ⊥) → IsOffsetAt z x p → IsOffsetAt z y p
offset_stays (Constant k) x y p l none at = at
offset_stays (Single a) x y p l none at = stays (IsZoneOnset (Single a)) x y p l none at
offset_stays (Pair a b) x y p l none at = stays (IsZoneOnset (Pair a b)) x y p l none at

module _ (z : Zone) (one : IsOneOffset z) (jump : (u : Onset) → IsZoneOnset z u → u.after ≤ℤ (u.before +ℤ pos 43_200)) where
  -- an instant at which the clocks show a local time, or else an onset is up to half a day before it
  shown : (local t : ℤ) → Means z local t → ((u : Onset) → IsZoneOnset z u → (t -ℤ pos 43_200) ≤ℤ u.instant → u.instant ≤ℤ t → ⊥) → (p : ℤ) × IsOffsetAt z t p × ((t +ℤ p) ≡ local)
  shown local t (inl first) none = first.shown
  shown local t (inr skipped) none =
      let u = skipped.onset in
      let j = jump u skipped.listed in
      let from = skipped.set_from in
      let past = skipped.set_past in
      let r = skipped.read in
      absurd (none u skipped.listed (omega (arith, ints, j, past, r)) (omega (arith, ints, from, r)))

  one_read : (lx ly x y : ℤ) → x ≤ℤ y → Means z lx x → Means z ly y → NoneNear z x y → (p : ℤ) × ((x +ℤ p) ≡ lx) × ((y +ℤ p) ≡ ly)
  one_read lx ly x y l m n none =
      let s = shown lx x m (λ u is from to. none u is from (omega (arith, ints, to, l))) in
      let t = shown ly y n (λ u is from to. none u is (omega (arith, ints, from, l)) to) in
      let q = offset_stays z x y s.0 l (λ u is from to. none u is (omega (arith, ints, from)) to) s.1 in
      let e : t.0 ≡ s.0 = one y t.0 s.0 t.1 q in
      (s.0, s.2, subst (λ o. (y +ℤ o) ≡ ly) e t.2)

-- ---- series by their rules

-- its instances start where its rule says
pub record IsRuledIn (z : Zone) (a : Event) : Type 0 where
  pub master : EventComponent
  pub is : a.master ≡ Some master
  pub rule : Rule
  pub recurs : master.rule ≡ Some rule
  pub clock : clock_of master.times.zone ≡ z
  pub starts : (x : Instance) → IsInstance a x → IsRuleStart master.times rule x.start
  pub lasts : (w : ℤ) (x : Instance) → IsWidthOf a w → IsInstance a x → x.end ≤ℤ (x.start +ℤ w)

-- the local time of a start, and its residue
record IsRead (z : Zone) (a : Event) (m : ℕ) (t : ℤ) : Type 0 where
  local : ℤ
  means : Means z local t
  residue : ℕ
  is : IsLocalResidue a m residue
  same : IsCongruent m local (pos residue)

read : (z : Zone) (a : Event) (m : ℕ) (x : Instance) → 0 < m → IsRuledIn z a → IsInstance a x → IsRead z a m x.start
read z a m x some h is =
    let start = h.starts x is in
    let local = local_time start.day start.second in
    let at = at_residue m local some in
    record {
      local = local;
      means = subst (λ c. Means c local x.start) h.clock start.means;
      residue = at.0;
      is = record {
        below = at.1;
        master = h.master;
        is = h.is;
        rule = h.rule;
        recurs = h.recurs;
        first = start.first;
        second = start.second;
        on = start.on;
        day = start.day;
        in_form = rule_day_in_form h.rule start.day start.listed;
        same = at.2;
      };
      same = at.2;
    }

-- one span, by some clocks
abbrev Only : ℤ → ℤ → ℤ → ℤ → Type 0
Only start end s e = (s ≡ start) × (e ≡ end)

module _ (z : Zone) (one : IsOneOffset z) (jump : (u : Onset) → IsZoneOnset z u → u.after ≤ℤ (u.before +ℤ pos 43_200)) (m : ℕ) (some : 0 < m) where
  module _ (a b : Event) (ruled_a : IsRuledIn z a) (ruled_b : IsRuledIn z b) (clear : AreLocallyApart a b m) where
    abbrev w : ℤ
    w = clear.0

    abbrev v : ℤ
    v = clear.1

    -- two instances that share an instant, and are read by one offset: their arcs meet
    apart_by : (x y : Instance) → IsInstance a x → IsInstance b y → (p : ℤ) → (rx : IsRead z a m x.start) → (ry : IsRead z b m y.start) → (x.start +ℤ p) ≡ rx.local → (y.start +ℤ p) ≡ ry.local
        → SharesInstant x.start x.end y.start y.end → ⊥
    apart_by x y is_a is_b p rx ry ex ey s =
        let short = ruled_a.lasts w x clear.2 is_a in
        let brief = ruled_b.lasts v y clear.3 is_b in
        let i = s.in_first in
        let j = s.in_second in
        residues_apart (Only rx.local (x.end +ℤ p)) (Only ry.local (y.end +ℤ p)) m w v (IsLocalResidue a m) (IsLocalResidue b m)
        (λ s e h. (rx.residue, rx.is, subst (λ q. IsCongruent m q (pos rx.residue)) (sym h.0) rx.same)) (λ s e h. (ry.residue, ry.is, subst (λ q. IsCongruent m q (pos ry.residue)) (sym h.0) ry.same))
        (λ s e h. let h0 = h.0 in let h1 = h.1 in omega (arith, ints, h0, h1, ex, short)) (λ s e h. let h0 = h.0 in let h1 = h.1 in omega (arith, ints, h0, h1, ey, brief)) clear.4
        rx.local (x.end +ℤ p) ry.local (y.end +ℤ p) (s.instant +ℤ p) (refl, refl) (refl, refl)
        (omega (arith, ints, ex, i.0), omega (arith, ints, i.1)) (omega (arith, ints, ey, j.0), omega (arith, ints, j.1))

    first_early : (x y : Instance) → IsInstance a x → IsInstance b y → x.start ≤ℤ y.start → NoneNear z x.start y.start → SharesInstant x.start x.end y.start y.end → ⊥
    first_early x y is_a is_b l none s =
        let rx = read z a m x some ruled_a is_a in
        let ry = read z b m y some ruled_b is_b in
        let p = one_read z one jump rx.local ry.local x.start y.start l rx.means ry.means none in
        apart_by x y is_a is_b p.0 rx ry p.1 p.2 s

    second_early : (x y : Instance) → IsInstance a x → IsInstance b y → y.start ≤ℤ x.start → NoneNear z y.start x.start → SharesInstant x.start x.end y.start y.end → ⊥
    second_early x y is_a is_b l none s =
        let rx = read z a m x some ruled_a is_a in
        let ry = read z b m y some ruled_b is_b in
        let p = one_read z one jump ry.local rx.local y.start x.start l ry.means rx.means none in
        apart_by x y is_a is_b p.0 rx ry p.2 p.1 s

    -- where they are clear of each other near each onset, they are
    pub clear_by_onsets : (after bound : ℤ) → IsHalfDayBefore a after → IsHalfDayBefore b after → AreClearNear z a b after bound → AreClearBelow a b bound
    clear_by_onsets after bound early_a early_b (reach, (width, wide, is), near) x y is_a is_b lx ly s =
        let brief = ruled_b.lasts width y wide is_b in
        let ea = early_a x is_a in
        let eb = early_b y is_b in
        let i = s.in_first in
        let j = s.in_second in
        by_lt_z y.start x.start
        (λ less. second_early x y is_a is_b (omega (arith, ints, less))
        (λ u listed since to. near u listed (omega (arith, ints, since, eb)) (omega (arith, ints, to, lx)) x y is_a is_b (omega (arith, ints, since, is, brief, i.0, j.1)) s (omega (arith, ints, to, i.0))) s)
        (λ most. first_early x y is_a is_b most
        (λ u listed since to. near u listed (omega (arith, ints, since, ea)) (omega (arith, ints, to, ly)) x y is_a is_b (omega (arith, ints, since, is, brief, j.0, j.1)) s (omega (arith, ints, to, j.0))) s)

  -- ---- one series

  module _ (a : Event) (ruled : IsRuledIn z a) (known : (x y : Instance) → IsInstance a x → IsInstance a y → x.start ≡ y.start → x ≡ y) (clear : IsLocallyApart a m) where
    one_early : (x y : Instance) → IsInstance a x → IsInstance a y → x.start <ℤ y.start → NoneNear z x.start y.start → SharesInstant x.start x.end y.start y.end → ⊥
    one_early x y is_x is_y l none s =
        let w = clear.0 in
        let rx = read z a m x some ruled is_x in
        let ry = read z a m y some ruled is_y in
        let by = one_read z one jump rx.local ry.local x.start y.start (omega (arith, ints, l)) rx.means ry.means none in
        let p = by.0 in
        let ex = by.1 in
        let ey = by.2 in
        let short = ruled.lasts w x clear.1 is_x in
        let brief = ruled.lasts w y clear.1 is_y in
        let i = s.in_first in
        let j = s.in_second in
        residues_alone (λ t e. Only rx.local (x.end +ℤ p) t e ⊎ Only ry.local (y.end +ℤ p) t e) m w (IsLocalResidue a m) clear.2
        (λ t e h. elim h [
          | inl o ↦ (rx.residue, rx.is, subst (λ q. IsCongruent m q (pos rx.residue)) (sym o.0) rx.same)
          | inr o ↦ (ry.residue, ry.is, subst (λ q. IsCongruent m q (pos ry.residue)) (sym o.0) ry.same)
        ])
        (λ t e h. elim h [
          | inl o ↦ let h0 = o.0 in let h1 = o.1 in omega (arith, ints, h0, h1, ex, short)
          | inr o ↦ let h0 = o.0 in let h1 = o.1 in omega (arith, ints, h0, h1, ey, brief)
        ])
        clear.3 rx.local (x.end +ℤ p) ry.local (y.end +ℤ p) (s.instant +ℤ p) (inl (refl, refl)) (inr (refl, refl)) (λ e. omega (arith, ints, e, ex, ey, l))
        (omega (arith, ints, ex, i.0), omega (arith, ints, i.1)) (omega (arith, ints, ey, j.0), omega (arith, ints, j.1))

    alone_ordered : (after bound : ℤ) → IsHalfDayBefore a after → IsClearNear z a after bound → (x y : Instance) → IsInstance a x → IsInstance a y → y.start <ℤ bound → x.key ≢ y.key → x.start <ℤ y.start
        → SharesInstant x.start x.end y.start y.end → ⊥
    alone_ordered after bound early (reach, (width, wide, is), near) x y is_x is_y ly differ less s =
        let short = ruled.lasts width x wide is_x in
        let ex = early x is_x in
        let i = s.in_first in
        let j = s.in_second in
        one_early x y is_x is_y less
        (λ u listed since to. near u listed (omega (arith, ints, since, ex)) (omega (arith, ints, to, ly)) x y is_x is_y (omega (arith, ints, since, is, short, i.0, i.1)) (omega (arith, ints, since, is, short, i.1, j.0)) differ s
        (omega (arith, ints, to, j.0))) s

    -- where it is clear near each onset, it is
    pub alone_by_onsets : (after bound : ℤ) → IsHalfDayBefore a after → IsClearNear z a after bound → IsClearBelow a bound
    alone_by_onsets after bound early near x y is_x is_y lx ly differ s =
        by_lt_z x.start y.start (λ less. alone_ordered after bound early near x y is_x is_y ly differ less s)
        (λ most. by_lt_z y.start x.start
        (λ less. alone_ordered after bound early near y x is_y is_x lx (λ e. differ (sym e)) less (record { instant = s.instant; before = s.before; in_first = s.in_second; in_second = s.in_first }))
        (λ least. differ (ap (λ (b : Instance). b.key) (known x y is_x is_y (int_is least most)))))
