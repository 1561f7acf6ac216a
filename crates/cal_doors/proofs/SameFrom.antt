-- Two sets of onsets that are the same after an instant, and of which the same offset is in force there, are the same from then on. For
-- `GeneralZone::from_instant`.
use Rattle.std.proofs.Common.{arith, inl, inr, ℤ, pos, ◌+ℤ◌, ◌≤ℤ◌}
use Rattle.std.specs.Int.Signed.{◌<ℤ◌}
use Rattle.std.proofs.lemmas.Int.{ints, by_lt_z}
use Rattle.profile.specs.series.Zones.{Onset, IsLatest, InForce, Since, Until, ShowsBy, MeansBy}

-- ---- the offset in force

module _ (A B : Onset → Type 0) (from : ℤ)
    (there : (x : Onset) → from <ℤ x.instant → A x → B x)
    (back : (x : Onset) → from <ℤ x.instant → B x → A x) where
  -- an onset of B up to t is not later than the latest one of A, where that is after `from`
  ahead : (t : ℤ) (x : Onset) → IsLatest A t x → from <ℤ x.instant → IsLatest B t x
  ahead t x h later = record {
    listed = there x later h.listed;
    begun = h.begun;
    latest = λ y is l. by_lt_z from y.instant (λ lt. h.latest y (back y lt is) l) (λ ge. omega (arith, ints, ge, later));
  }

  -- none of A comes after `from` and up to t: so what is in force in B at `from` is at t
  stays : (t p : ℤ) → from ≤ℤ t → ((y : Onset) → A y → from <ℤ y.instant → t <ℤ y.instant) → InForce B from p → InForce B t p
  stays t p l quiet (Since z h e) =
      let begun = h.begun in
      Since z (record {
        listed = h.listed;
        begun = omega (arith, ints, begun, l);
        latest = λ y is m. by_lt_z from y.instant (λ lt. let q = quiet y (back y lt is) lt in absurd (omega (arith, ints, q, m))) (λ ge. h.latest y is ge);
      }) e
  stays t p l quiet (Until z h e) =
      Until z (record {
        listed = h.listed;
        ahead = quiet z (back z h.ahead h.listed) h.ahead;
        least = h.least;
      }) e

  pub in_force_later : (t p : ℤ) → from ≤ℤ t → ((q : ℤ) → InForce A from q → InForce B from q) → InForce A t p → InForce B t p
  in_force_later t p l at_from (Since x h e) =
      let begun = h.begun in
      by_lt_z from x.instant
      (λ lt. Since x (ahead t x h lt) e)
      (λ ge. stays t p l
      (λ y is lt. by_lt_z t y.instant (λ q. q) (λ m. let k = h.latest y is m in absurd (omega (arith, ints, k, ge, lt))))
      (at_from p (Since x (record { listed = h.listed; begun = ge; latest = λ y is m. h.latest y is (omega (arith, ints, m, l)) }) e)))
  in_force_later t p l at_from (Until x h e) =
      let later = h.ahead in
      stays t p l (λ y is lt. let k = h.least y is in omega (arith, ints, k, later))
      (at_from p (Until x (record { listed = h.listed; ahead = omega (arith, ints, later, l); least = h.least }) e))

-- no onset comes after `from`: what is in force there is in force at each later instant, and nothing else
module _ (A : Onset → Type 0) (from : ℤ) (none : (x : Onset) → A x → x.instant ≤ℤ from) where
  pub kept : (t p : ℤ) → from ≤ℤ t → InForce A from p → InForce A t p
  kept t p l f =
      stays A A from (λ x _ is. is) (λ x _ is. is) t p l
      (λ y is lt. let n = none y is in absurd (omega (arith, ints, n, lt))) f

  pub was : (t p : ℤ) → from ≤ℤ t → InForce A t p → InForce A from p
  was t p l (Since x h e) =
      Since x (record { listed = h.listed; begun = none x h.listed; latest = λ y is m. h.latest y is (omega (arith, ints, m, l)) }) e
  was t p l (Until x h e) = let later = h.ahead in let n = none x h.listed in absurd (omega (arith, ints, later, n, l))

-- ---- what a local time means

-- offsets at instants, and onsets, of which no offset is a day or more
pub record AreShort (At : ℤ → ℤ → Type 0) (Is : Onset → Type 0) : Type 0 where
  pub offsets : (t p : ℤ) → At t p → p ≤ℤ pos 86_399
  pub onsets : (x : Onset) → Is x → x.after ≤ℤ pos 86_399

module _ (At Bt : ℤ → ℤ → Type 0) (A B : Onset → Type 0) (from local : ℤ) (past : (from +ℤ pos 86_399) ≤ℤ local)
    (short : AreShort At A) (short_b : AreShort Bt B)
    (there : (t p : ℤ) → from ≤ℤ t → At t p → Bt t p)
    (back : (t p : ℤ) → from ≤ℤ t → Bt t p → At t p)
    (onset_there : (x : Onset) → from <ℤ x.instant → A x → B x) where
  shows_there : (t : ℤ) → ShowsBy At t local → ShowsBy Bt t local
  shows_there t (p, at, e) = let s = short.offsets t p at in (p, there t p (omega (arith, ints, s, e, past)) at, e)

  shows_back : (t : ℤ) → ShowsBy Bt t local → ShowsBy At t local
  shows_back t (p, at, e) = let s = short_b.offsets t p at in (p, back t p (omega (arith, ints, s, e, past)) at, e)

  pub means_later : (t : ℤ) → MeansBy At A local t → MeansBy Bt B local t
  means_later t (inl h) = inl (record { shown = shows_there t h.shown; least = λ u s. h.least u (shows_back u s) })
  means_later t (inr h) =
      let s = short.onsets h.onset h.listed in
      let p = h.set_past in
      inr (record {
        never = λ u s. h.never u (shows_back u s);
        onset = h.onset;
        listed = onset_there h.onset (omega (arith, ints, s, p, past)) h.listed;
        set_from = h.set_from;
        set_past = h.set_past;
        read = h.read;
      })
