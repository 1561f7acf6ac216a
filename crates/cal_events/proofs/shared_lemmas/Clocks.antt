-- The clocks of an event's zone: what they show means one instant, and later ones later instants.
-- Cited by add_singles of draft, Event::of_object of event, Series::of of series.
use Rattle.std.proofs.Common.{◌≡◌, ◌∙◌, ℕ, ◌≤◌, List, sym, inl, inr, ◌⊎◌, arith, ℤ, pos, negsuc, ◌+ℤ◌, ◌-ℤ◌, ◌<ℤ◌, ◌≤ℤ◌, unsigned_abs}
use Rattle.std.proofs.lemmas.Int.{ints}
use Rattle.profile.specs.series.Zones.{Zone, Constant, Single, Pair, Observance, IsZoneOnset, InForce, Since, Until, Means}
use Rattle.profile.specs.series.ZoneTexts.{AreMatched}
use Rattle.cal_events.specs.Clocks.{IsAscending}

abbrev Lines : Type 0
Lines = List (List ℕ)

-- ---- a local time is read with one of two offsets

abbrev pub ReadsWith : ℤ → ℤ → ℤ → ℤ → Type 0
ReadsWith x y local t = (t +ℤ x ≡ local) ⊎ (t +ℤ y ≡ local)

-- two numbers whose difference is small
pub near : (x y : ℤ) → unsigned_abs (x -ℤ y) ≤ 43_200 → (x ≤ℤ (y +ℤ pos 43_200)) × (y ≤ℤ (x +ℤ pos 43_200))
near x y h = go (x -ℤ y) h (omega (arith, ints))
  where
    go : (d : ℤ) → unsigned_abs d ≤ 43_200 → y +ℤ d ≡ x → (x ≤ℤ (y +ℤ pos 43_200)) × (y ≤ℤ (x +ℤ pos 43_200))
    go (pos n) w e = (omega (arith, ints, w, e), omega (arith, ints, w, e))
    go (negsuc n) w e = (omega (arith, ints, w, e), omega (arith, ints, w, e))

later : (x y a b t u : ℤ) → (x ≤ℤ (y +ℤ pos 43_200)) × (y ≤ℤ (x +ℤ pos 43_200)) → ReadsWith x y a t → ReadsWith x y b u → (a +ℤ pos 43_200) <ℤ b → t <ℤ u
later x y a b t u n (inl p) (inl q) w = omega (arith, ints, p, q, w)
later x y a b t u n (inl p) (inr q) w = omega (arith, ints, n.0, n.1, p, q, w)
later x y a b t u n (inr p) (inl q) w = omega (arith, ints, n.0, n.1, p, q, w)
later x y a b t u n (inr p) (inr q) w = omega (arith, ints, p, q, w)

pub single_in_force : (a : Observance) (t o : ℤ) → InForce (IsZoneOnset (Single a)) t o → (o ≡ a.offset_from) ⊎ (o ≡ a.offset_to)
single_in_force a t o (Since x h e) = inr (e ∙ h.listed.after)
single_in_force a t o (Until x h e) = inl (e ∙ h.listed.before)

pub pair_in_force : (a b : Observance) (t o : ℤ) → AreMatched (Pair a b) → InForce (IsZoneOnset (Pair a b)) t o → (o ≡ a.offset_from) ⊎ (o ≡ a.offset_to)
pair_in_force a b t o m (Since x h e) = elim h.listed [ inl p ↦ inr (e ∙ p.after) | inr q ↦ inl (e ∙ (q.after ∙ m.1)) ]
pair_in_force a b t o m (Until x h e) = elim h.listed [ inl p ↦ inl (e ∙ p.before) | inr q ↦ inr (e ∙ (q.before ∙ sym m.0)) ]

shown : (x y t o local : ℤ) → (o ≡ x) ⊎ (o ≡ y) → t +ℤ o ≡ local → ReadsWith x y local t
shown x y t o local (inl e) s = inl (omega (arith, ints, e, s))
shown x y t o local (inr e) s = inr (omega (arith, ints, e, s))

pub single_reads : (a : Observance) (local t : ℤ) → Means (Single a) local t → ReadsWith a.offset_from a.offset_to local t
single_reads a local t (inl h) = shown a.offset_from a.offset_to t h.shown.0 local (single_in_force a t h.shown.0 h.shown.1) h.shown.2
single_reads a local t (inr h) = shown a.offset_from a.offset_to t h.onset.before local (inl h.listed.before) h.read

pub pair_reads : (a b : Observance) (local t : ℤ) → AreMatched (Pair a b) → Means (Pair a b) local t → ReadsWith a.offset_from a.offset_to local t
pair_reads a b local t m (inl h) = shown a.offset_from a.offset_to t h.shown.0 local (pair_in_force a b t h.shown.0 m h.shown.1) h.shown.2
pair_reads a b local t m (inr h) =
    shown a.offset_from a.offset_to t h.onset.before local (elim h.listed [ inl p ↦ inl p.before | inr q ↦ inr (q.before ∙ sym m.0) ]) h.read

pub constant_reads : (k local t : ℤ) → Means (Constant k) local t → t +ℤ k ≡ local
constant_reads k local t (inl h) = omega (arith, ints, h.shown.1, h.shown.2)
constant_reads k local t (inr h) = absurd h.listed

pub ascends : (z : Zone) → AreMatched z → IsAscending z
ascends (Constant k) m a b t u p q w = omega (arith, ints, constant_reads k a t p, constant_reads k b u q, w)
ascends (Single o) m a b t u p q w = later o.offset_from o.offset_to a b t u (near o.offset_from o.offset_to m) (single_reads o a t p) (single_reads o b u q) w
ascends (Pair o s) m a b t u p q w = later o.offset_from o.offset_to a b t u (near o.offset_from o.offset_to m.2) (pair_reads o s a t m p) (pair_reads o s b u m q) w

-- ---- the clocks of an event
