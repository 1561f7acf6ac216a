-- The offset of a zone, and what a local time means in it.
use Rattle.std.proofs.Common.{◌≡◌, ◌∙◌, sym, subst, refl, inl, inr, ◌⊎◌, Option, arith, ℤ, pos, negsuc, ◌+ℤ◌, ◌≤ℤ◌}
use Rattle.jiff_core.proofs.SignedLemmas.{signed_arith}
use Rattle.profile.specs.series.Zones.{Observance, Zone, Constant, Single, Pair, Onset, IsOnset, IsZoneOnset, IsLatest, IsFirstOf, NoneBegun, InForce, Since, Until, IsOffsetAt, IsBounds, IsShownFirstBy, IsSkippedBy, Means, AreFirstOnsets, onset_at}
use Rattle.cal_zones.specs.Kinds.{AreEnds, IsOrdered}
use Rattle.cal_zones.proofs.Force.{OneAtOnce, one_offset, Between, between}

-- the two ways in which a local time means an instant, in a zone
abbrev pub IsShownFirst : Zone → ℤ → ℤ → Type 0
IsShownFirst zone local instant = IsShownFirstBy (IsOffsetAt zone) local instant

abbrev pub IsSkipped : Zone → ℤ → ℤ → Type 0
IsSkipped zone local instant = IsSkippedBy (IsOffsetAt zone) (IsZoneOnset zone) local instant

-- of two observances the one with the later onset
pub latest_left : (a b : Observance) (t x : ℤ) → IsLatest (IsOnset a) t (onset_at a x) → ((other : Onset) → IsOnset b other → other.instant ≤ℤ t → other.instant ≤ℤ x) → IsOffsetAt (Pair a b) t a.offset_to
latest_left a b t x h k =
    Since (onset_at a x) (record { listed = inl h.listed; begun = h.begun; latest = λ other l w. elim l [ inl p ↦ h.latest other p w | inr q ↦ k other q w ] }) refl

pub latest_right : (a b : Observance) (t x : ℤ) → IsLatest (IsOnset b) t (onset_at b x) → ((other : Onset) → IsOnset a other → other.instant ≤ℤ t → other.instant ≤ℤ x) → IsOffsetAt (Pair a b) t b.offset_to
latest_right a b t x h k =
    Since (onset_at b x) (record { listed = inr h.listed; begun = h.begun; latest = λ other l w. elim l [ inl p ↦ k other p w | inr q ↦ h.latest other q w ] }) refl

none_later : (b : Observance) (t x : ℤ) → NoneBegun b t → (other : Onset) → IsOnset b other → other.instant ≤ℤ t → other.instant ≤ℤ x
none_later b t x none other l w = absurd (omega (arith, signed_arith, none.2, none.1.least other l))

pub left_alone : (a b : Observance) (t x : ℤ) → IsLatest (IsOnset a) t (onset_at a x) → NoneBegun b t → IsOffsetAt (Pair a b) t a.offset_to
left_alone a b t x h none = latest_left a b t x h (none_later b t x none)

pub right_alone : (a b : Observance) (t x : ℤ) → IsLatest (IsOnset b) t (onset_at b x) → NoneBegun a t → IsOffsetAt (Pair a b) t b.offset_to
right_alone a b t x h none = latest_right a b t x h (none_later a t x none)

pub left_later : (a b : Observance) (t x y : ℤ) → IsLatest (IsOnset a) t (onset_at a x) → IsLatest (IsOnset b) t (onset_at b y) → y ≤ℤ x → IsOffsetAt (Pair a b) t a.offset_to
left_later a b t x y h k le = latest_left a b t x h (λ other l w. omega (arith, signed_arith, k.latest other l w))

pub right_later : (a b : Observance) (t x y : ℤ) → IsLatest (IsOnset a) t (onset_at a x) → IsLatest (IsOnset b) t (onset_at b y) → x ≤ℤ y → IsOffsetAt (Pair a b) t b.offset_to
right_later a b t x y h k le = latest_right a b t y k (λ other l w. omega (arith, signed_arith, h.latest other l w))

-- before all onsets the one with the first
pub left_first : (a b : Observance) (t x y : ℤ) → IsFirstOf a x → IsFirstOf b y → NoneBegun a t → x ≤ℤ y → IsOffsetAt (Pair a b) t a.offset_from
left_first a b t x y h k none le =
    Until (onset_at a x) (record { listed = inl h.listed; ahead = omega (arith, signed_arith, none.2, none.1.least (onset_at a x) h.listed); least = λ other l. elim l [ inl p ↦ h.least other p | inr q ↦ omega (arith, signed_arith, k.least other q) ] }) refl

pub right_first : (a b : Observance) (t x y : ℤ) → IsFirstOf a x → IsFirstOf b y → NoneBegun b t → y ≤ℤ x → IsOffsetAt (Pair a b) t b.offset_from
right_first a b t x y h k none le =
    Until (onset_at b y) (record { listed = inr k.listed; ahead = omega (arith, signed_arith, none.2, none.1.least (onset_at b y) k.listed); least = λ other l. elim l [ inl p ↦ omega (arith, signed_arith, h.least other p) | inr q ↦ k.least other q ] }) refl

-- one observance
pub single_since : (a : Observance) (t x : ℤ) → IsLatest (IsOnset a) t (onset_at a x) → IsOffsetAt (Single a) t a.offset_to
single_since a t x h = Since (onset_at a x) (record { listed = h.listed; begun = h.begun; latest = h.latest }) refl

pub single_until : (a : Observance) (t : ℤ) → NoneBegun a t → IsOffsetAt (Single a) t a.offset_from
single_until a t (x, h, ahead) =
    Until (onset_at a x) (record { listed = h.listed; ahead = ahead; least = h.least }) refl

-- at one instant one offset is in force
pub unique : (z : Zone) (t p q : ℤ) → OneAtOnce (IsZoneOnset z) → IsOffsetAt z t p → IsOffsetAt z t q → p ≡ q
unique (Constant k) t p q u h j = h ∙ sym j
unique (Single a) t p q u h j = one_offset (IsZoneOnset (Single a)) t p q u h j
unique (Pair a b) t p q u h j = one_offset (IsZoneOnset (Pair a b)) t p q u h j

changes : (z : Zone) (early late p q : ℤ) → OneAtOnce (IsZoneOnset z) → early ≤ℤ late → IsOffsetAt z early p → IsOffsetAt z late q → (p ≡ q → ⊥) → Between (IsZoneOnset z) early late q
changes (Constant k) early late p q u o h j differ = absurd (differ (h ∙ sym j))
changes (Single a) early late p q u o h j differ = between (IsZoneOnset (Single a)) early late p q u o h j differ
changes (Pair a b) early late p q u o h j differ = between (IsZoneOnset (Pair a b)) early late p q u o h j differ

-- the two offsets of a zone
abbrev Sides : (Onset → Type 0) → ℤ → ℤ → Type 0
Sides Is p q = (x : Onset) → Is x → ((x.before ≡ p) × (x.after ≡ q)) ⊎ ((x.before ≡ q) × (x.after ≡ p))

one_side : (Is : Onset → Type 0) (p q t o : ℤ) → Sides Is p q → InForce Is t o → (o ≡ p) ⊎ (o ≡ q)
one_side Is p q t o s (Since x h e) = elim (s x h.listed) [ inl k ↦ inr (e ∙ k.1) | inr k ↦ inl (e ∙ k.1) ]
one_side Is p q t o s (Until x h e) = elim (s x h.listed) [ inl k ↦ inl (e ∙ k.0) | inr k ↦ inr (e ∙ k.0) ]

swap : (Is : Onset → Type 0) (p q : ℤ) → Sides Is p q → Sides Is q p
swap Is p q s x h = elim (s x h) [ inl k ↦ inr k | inr k ↦ inl k ]

sides_single : (a : Observance) → Sides (IsZoneOnset (Single a)) a.offset_from a.offset_to
sides_single a x h = inl (h.before, h.after)

sides_pair : (a b : Observance) → a.offset_to ≡ b.offset_from → b.offset_to ≡ a.offset_from → Sides (IsZoneOnset (Pair a b)) a.offset_from a.offset_to
sides_pair a b there back x (inl h) = inl (h.before, h.after)
sides_pair a b there back x (inr h) = inr (h.before ∙ sym there, h.after ∙ back)

-- at each instant one of them is in force
pub record AreSides (z : Zone) (least greatest : ℤ) : Type 0 where
  pub ordered : least ≤ℤ greatest
  pub sides : Sides (IsZoneOnset z) least greatest
  pub one : (t o : ℤ) → IsOffsetAt z t o → (o ≡ least) ⊎ (o ≡ greatest)

single_ordered : (a : Observance) (l g : ℤ) → Sides (IsZoneOnset (Single a)) l g → l ≤ℤ g → AreSides (Single a) l g
single_ordered a l g s le = record { ordered = le; sides = s; one = λ t o h. one_side (IsZoneOnset (Single a)) l g t o s h }

pair_ordered : (a b : Observance) (l g : ℤ) → Sides (IsZoneOnset (Pair a b)) l g → l ≤ℤ g → AreSides (Pair a b) l g
pair_ordered a b l g s le = record { ordered = le; sides = s; one = λ t o h. one_side (IsZoneOnset (Pair a b)) l g t o s h }

pub sides_of : (z : Zone) (l g : ℤ) → AreEnds z l g → AreSides z l g
sides_of (Constant k) l g (e, f) = record {
  ordered = omega (arith, signed_arith);
  sides = λ x h. absurd h;
  one = λ t o h. inl (h ∙ sym e);
}
sides_of (Single a) l g (inl (e, f, le)) = rw (e, f) (single_ordered a a.offset_from a.offset_to (sides_single a) le)
sides_of (Single a) l g (inr (e, f, le)) = rw (e, f) (single_ordered a a.offset_to a.offset_from (swap (IsZoneOnset (Single a)) a.offset_from a.offset_to (sides_single a)) le)
sides_of (Pair a b) l g (inl (e, f, le), there, back) = rw (e, f) (pair_ordered a b a.offset_from a.offset_to (sides_pair a b there back) le)
sides_of (Pair a b) l g (inr (e, f, le), there, back) = rw (e, f) (pair_ordered a b a.offset_to a.offset_from (swap (IsZoneOnset (Pair a b)) a.offset_from a.offset_to (sides_pair a b there back)) le)

-- ---- each of them is in force at some instant

abbrev Reaches : Zone → ℤ → Type 0
Reaches z o = (t : ℤ) × IsOffsetAt z t o

-- at its first onset no later one has come
first_is_latest : (a : Observance) (x : ℤ) → IsFirstOf a x → IsLatest (IsOnset a) x (onset_at a x)
first_is_latest a x h = record { listed = h.listed; begun = omega (arith, signed_arith); latest = λ other l w. w }

single_to : (a : Observance) (x : ℤ) → IsFirstOf a x → Reaches (Single a) a.offset_to
single_to a x h = (x, single_since a x x (first_is_latest a x h))

single_from : (a : Observance) (x : ℤ) → IsFirstOf a x → Reaches (Single a) a.offset_from
single_from a x h = (x +ℤ negsuc 0, single_until a (x +ℤ negsuc 0) (x, h, omega (arith, signed_arith)))

left_to : (a b : Observance) (x : ℤ) → IsFirstOf a x → Reaches (Pair a b) a.offset_to
left_to a b x h = (x, latest_left a b x x (first_is_latest a x h) (λ other l w. w))

right_to : (a b : Observance) (y : ℤ) → IsFirstOf b y → Reaches (Pair a b) b.offset_to
right_to a b y h = (y, latest_right a b y y (first_is_latest b y h) (λ other l w. w))

bounded : (z : Zone) (l g : ℤ) → AreSides z l g → Reaches z l → Reaches z g → IsBounds z l g
bounded z l g s p q = record { ordered = s.ordered; sides = s.sides; one = s.one; reaches_least = p; reaches_greatest = q }

by_order : (z : Zone) (from to l g : ℤ) → AreSides z l g → IsOrdered from to l g → Reaches z from → Reaches z to → IsBounds z l g
by_order z from to l g s (inl (e, f, le)) p q = bounded z l g s (rw e p) (rw f q)
by_order z from to l g s (inr (e, f, le)) p q = bounded z l g s (rw e q) (rw f p)

pub bounds_of : (z : Zone) (l g : ℤ) (x y : Option ℤ) → AreEnds z l g → AreFirstOnsets z x y → IsBounds z l g
bounds_of (Constant k) l g x y h w = bounded (Constant k) l g (sides_of (Constant k) l g h) (pos 0, h.0) (pos 0, h.1)
bounds_of (Single a) l g x y h (first, f, p, q) =
    by_order (Single a) a.offset_from a.offset_to l g (sides_of (Single a) l g h) h (single_from a first f) (single_to a first f)
bounds_of (Pair a b) l g x y h (first, second, f, s, p, q) =
    by_order (Pair a b) a.offset_from a.offset_to l g (sides_of (Pair a b) l g h) h.0 (subst (Reaches (Pair a b)) h.2 (right_to a b second s)) (left_to a b first f)

-- two onsets of a zone at one instant are alike
pub once_constant : (k : ℤ) → OneAtOnce (IsZoneOnset (Constant k))
once_constant k = record { alike = λ x y h j e. absurd h }

pub once_single : (a : Observance) → OneAtOnce (IsZoneOnset (Single a))
once_single a = record { alike = λ x y h j e. (h.before ∙ sym j.before, h.after ∙ sym j.after) }

alike_pair : (a b : Observance) → ((x y : Onset) → IsOnset a x → IsOnset b y → x.instant ≡ y.instant → ⊥) → (x y : Onset) → IsZoneOnset (Pair a b) x → IsZoneOnset (Pair a b) y → x.instant ≡ y.instant → (x.before ≡ y.before) × (x.after ≡ y.after)
alike_pair a b apart x y (inl h) (inl j) e = (h.before ∙ sym j.before, h.after ∙ sym j.after)
alike_pair a b apart x y (inl h) (inr j) e = absurd (apart x y h j e)
alike_pair a b apart x y (inr h) (inl j) e = absurd (apart y x j h (sym e))
alike_pair a b apart x y (inr h) (inr j) e = (h.before ∙ sym j.before, h.after ∙ sym j.after)

pub once_pair : (a b : Observance) → ((x y : Onset) → IsOnset a x → IsOnset b y → x.instant ≡ y.instant → ⊥) → OneAtOnce (IsZoneOnset (Pair a b))
once_pair a b apart = record { alike = alike_pair a b apart }

-- with the greatest offset a local time is read earliest
pub means_early : (z : Zone) (least greatest local early : ℤ) → AreSides z least greatest → early +ℤ greatest ≡ local → IsOffsetAt z early greatest → Means z local early
means_early z least greatest local early b e h =
    inl (record {
      shown = (greatest, h, e);
      least = λ other s.
          elim (b.one other s.0 s.1) [
            | inl low ↦ omega (arith, signed_arith, s.2, b.ordered)
            | inr high ↦ omega (arith, signed_arith, s.2)
          ];
    })

-- where that offset isn't in force then, with the least offset
never_early : (z : Zone) (greatest local early p other offset : ℤ) → OneAtOnce (IsZoneOnset z) → early +ℤ greatest ≡ local → IsOffsetAt z early p → (p ≡ greatest → ⊥) → IsOffsetAt z other offset → other +ℤ offset ≡ local → offset ≡ greatest → ⊥
never_early z greatest local early p other offset u e h differ j s high =
    let same : other ≡ early = omega (arith, signed_arith) in
    differ (unique z early p greatest u h (rw (same, high) at j))

shown_late : (z : Zone) (least greatest local early late p : ℤ) → OneAtOnce (IsZoneOnset z) → AreSides z least greatest → early +ℤ greatest ≡ local → late +ℤ least ≡ local → IsOffsetAt z early p → (p ≡ greatest → ⊥) → IsOffsetAt z late least → IsShownFirst z local late
shown_late z least greatest local early late p u b e f h differ j = record {
  shown = (least, j, f);
  least = λ other s.
      elim (b.one other s.0 s.1) [
        | inl low ↦ omega (arith, signed_arith, s.2)
        | inr high ↦ absurd (never_early z greatest local early p other s.0 u e h differ s.1 s.2 high)
      ];
}

skipped : (z : Zone) (least greatest local early late p : ℤ) → OneAtOnce (IsZoneOnset z) → AreSides z least greatest → early +ℤ greatest ≡ local → late +ℤ least ≡ local → IsOffsetAt z early p → (p ≡ greatest → ⊥) → IsOffsetAt z late greatest → IsSkipped z local late
skipped z least greatest local early late p u b e f h differ j =
    let low : p ≡ least = elim (b.one early p h) [ inl x ↦ x | inr x ↦ absurd (differ x) ] in
    let apart : least ≡ greatest → ⊥ = λ x. differ (low ∙ x) in
    let order : early ≤ℤ late = omega (arith, signed_arith, b.ordered) in
    let set = changes z early late p greatest u order h j differ in
    let before : set.onset.before ≡ least =
    elim (b.sides set.onset set.listed) [ inl x ↦ x.0 | inr x ↦ absurd (apart (sym x.1 ∙ sym set.sets)) ] in
    record {
      never = λ other s.
          elim (b.one other s.0 s.1) [
            | inl x ↦
                let same : other ≡ late = omega (arith, signed_arith, s.2) in
                apart (unique z late least greatest u (rw (same, x) at s.1) j)
            | inr x ↦ never_early z greatest local early p other s.0 u e h differ s.1 s.2 x
          ];
      onset = set.onset;
      listed = set.listed;
      set_from = omega (arith, signed_arith, set.begun, before);
      set_past = omega (arith, signed_arith, set.past, set.sets);
      read = rw before f;
    }

pub means_late : (z : Zone) (least greatest local early late p q : ℤ) → OneAtOnce (IsZoneOnset z) → AreSides z least greatest → early +ℤ greatest ≡ local → late +ℤ least ≡ local → IsOffsetAt z early p → (p ≡ greatest → ⊥) → IsOffsetAt z late q → Means z local late
means_late z least greatest local early late p q u b e f h differ j =
    elim (b.one late q j) [
      | inl x ↦ inl (shown_late z least greatest local early late p u b e f h differ (rw x at j))
      | inr x ↦ inr (skipped z least greatest local early late p u b e f h differ (rw x at j))
    ]

-- a gap is between the two offsets, so what it skips is read with the least
skipped_low : (z : Zone) (least greatest local t : ℤ) → AreSides z least greatest → IsSkipped z local t → t +ℤ least ≡ local
skipped_low z least greatest local t b s =
    elim (b.sides s.onset s.listed) [
      | inl x ↦ omega (arith, signed_arith, s.read)
      | inr x ↦ absurd (omega (arith, signed_arith, s.set_from, s.set_past, b.ordered))
    ]

-- a local time means one instant
pub one_meaning : (z : Zone) (least greatest local t u : ℤ) → AreSides z least greatest → Means z local t → Means z local u → t ≡ u
one_meaning z least greatest local t u b (inl x) (inl y) = omega (arith, signed_arith, x.least u y.shown, y.least t x.shown)
one_meaning z least greatest local t u b (inl x) (inr y) = absurd (y.never t x.shown)
one_meaning z least greatest local t u b (inr x) (inl y) = absurd (x.never u y.shown)
one_meaning z least greatest local t u b (inr x) (inr y) =
    omega (arith, signed_arith, skipped_low z least greatest local t b x, skipped_low z least greatest local u b y)
