-- A local time means one instant, on the clocks of UTC and of each zone that a VTIMEZONE says.
-- Behind Calendar::of_object of calendar, Calendar::read of calendar, EventComponent::read of component, EventComponent::series of component, EventComponent::singles of component, EventComponent::singles_at of component and 19 more.
use Rattle.std.proofs.Common.{◌≡◌, ◌∙◌, sym, refl, inl, inr, ℤ, pos, ◌<ℤ◌, arith}
use Rattle.std.proofs.lemmas.Int.{ints}
use Rattle.profile.specs.series.Zones.{Zone, Constant, Single, Pair, IsZoneOnset, IsOneMeaning, Means}
use Rattle.cal_zones.proofs.Zones.{IsSkipped}
use Rattle.profile.specs.series.ZoneTexts.{AreMatched}

-- UTC shows the instant itself
pub utc_means : (t : ℤ) → Means (Constant (pos 0)) t t
utc_means t = inl (record { shown = (pos 0, refl, omega (arith, ints)); least = λ other (offset, e, h). omega (arith, ints, e, h) })

pub utc_instant : (local t : ℤ) → Means (Constant (pos 0)) local t → t ≡ local
utc_instant local t (inl x) = omega (arith, ints, x.shown.1, x.shown.2)
utc_instant local t (inr x) = absurd x.listed

-- two onsets that skip a local time are read with one offset: of two observances only one sets the clocks forward
skipped_alike : (z : Zone) → AreMatched z → (local t u : ℤ) (x : IsSkipped z local t) (y : IsSkipped z local u) → x.onset.before ≡ y.onset.before
skipped_alike (Constant k) m local t u x y = absurd x.listed
skipped_alike (Single a) m local t u x y = x.listed.before ∙ sym y.listed.before
skipped_alike (Pair a b) m local t u x y = go x.listed y.listed
  where
    forward : (x.onset.before <ℤ x.onset.after) × (y.onset.before <ℤ y.onset.after)
    forward = (omega (arith, ints, x.set_from, x.set_past), omega (arith, ints, y.set_from, y.set_past))

    go : IsZoneOnset (Pair a b) x.onset → IsZoneOnset (Pair a b) y.onset → x.onset.before ≡ y.onset.before
    go (inl p) (inl q) = p.before ∙ sym q.before
    go (inr p) (inr q) = p.before ∙ sym q.before
    go (inl p) (inr q) = absurd (omega (arith, ints, forward.0, forward.1, p.before, p.after, q.before, q.after, m.0, m.1))
    go (inr p) (inl q) = absurd (omega (arith, ints, forward.0, forward.1, p.before, p.after, q.before, q.after, m.0, m.1))

pub one_meaning : (z : Zone) → AreMatched z → IsOneMeaning z
one_meaning z m local t u (inl x) (inl y) = omega (arith, ints, x.least u y.shown, y.least t x.shown)
one_meaning z m local t u (inl x) (inr y) = absurd (y.never t x.shown)
one_meaning z m local t u (inr x) (inl y) = absurd (x.never u y.shown)
one_meaning z m local t u (inr x) (inr y) = let e = skipped_alike z m local t u x y in omega (arith, ints, e, x.read, y.read)
