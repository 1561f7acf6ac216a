-- Onsets that set the offset that is in force already. For `GeneralZone::from_instant`.
use Rattle.std.proofs.Common.{◌≡◌, ◌∙◌, refl, sym, subst, arith, inl, inr, ◌⊎◌, zero, suc, ℕ, ◌+◌, ◌*◌, ◌/◌, ◌-◌, ◌<◌, ◌≤◌, Bool, true, false, List, [], ◌∷◌, ℤ, pos, negsuc, ◌+ℤ◌, ◌-ℤ◌, ◌≤ℤ◌}
use Rattle.std.specs.Int.Signed.{◌<ℤ◌}
use Rattle.std.proofs.lemmas.Int.{ints, by_lt_z}
use Rattle.profile.specs.series.Rules.{count_days}
use Rattle.profile.specs.series.Zones.{Observance, Zone, Constant, Onset, IsLatest, Since, Until, Means, begins_on, local_time}
use Rattle.profile.specs.series.GeneralZones.{End, Never, AfterCount, AtInstant, Run, IsInTime, IsRunOnset, IsGeneralOnset, IsGeneralOffsetAt, MeansGenerally, IsSameFrom}
use Rattle.cal_doors.specs.After.{IsOnlyOffset}

-- ---- the last of some days for which something holds

abbrev IsDecided : Type 0 → Type 0
IsDecided P = P ⊎ (P → ⊥)

both : {P Q : Type 0} → IsDecided P → IsDecided Q → IsDecided (P × Q)
both (inl p) (inl q) = inl (p, q)
both (inl p) (inr n) = inr (λ h. n h.1)
both (inr n) q = inr (λ h. n h.0)

is_true : (b : Bool) → IsDecided (b ≡ true)
is_true true = inl refl
is_true false = inr (λ e. let z : ◌≡◌ {A = ℕ} 0 1 = cc in omega arith)

is_at_most : (a b : ℤ) → IsDecided (a ≤ℤ b)
is_at_most a b = by_lt_z b a (λ lt. inr (λ l. omega (arith, ints, l, lt))) (λ ge. inl ge)

are_at_most : (a b : ℕ) → IsDecided (a ≤ b)
are_at_most a b = by_lt_z (pos b) (pos a) (λ lt. inr (λ l. omega (arith, ints, l, lt))) (λ ge. inl (omega (arith, ints, ge)))

record IsLastBelow (P : ℕ → Type 0) (n day : ℕ) : Type 0 where
  pub below : day < n
  pub holds : P day
  pub last : (other : ℕ) → other < n → P other → other ≤ day

abbrev LastBelow : (ℕ → Type 0) → ℕ → Type 0
LastBelow P n = ((d : ℕ) → d < n → P d → ⊥) ⊎ ((d : ℕ) × IsLastBelow P n d)

one_more : (P : ℕ → Type 0) (n : ℕ) → IsDecided (P n) → LastBelow P n → LastBelow P (suc n)
one_more P n (inl h) before = inr (n, record { below = omega arith; holds = h; last = λ e l _. omega (arith, l) })
one_more P n (inr never) (inl none) =
    inl (λ d l h. by_lt_z (pos d) (pos n) (λ lt. none d (omega (arith, ints, lt)) h) (λ ge. let e : d ≡ n = omega (arith, ints, ge, l) in never (subst P e h)))
one_more P n (inr never) (inr (d, w)) = inr (
  d,
  record {
    below = let b = w.below in omega (arith, b);
    holds = w.holds;
    last = λ e l h. by_lt_z (pos e) (pos n) (λ lt. w.last e (omega (arith, ints, lt)) h) (λ ge. let q : e ≡ n = omega (arith, ints, ge, l) in absurd (never (subst P q h)));
  },
)

last_below : (P : ℕ → Type 0) → ((d : ℕ) → IsDecided (P d)) → (n : ℕ) → LastBelow P n
last_below P decided zero = inl (λ d l h. omega (arith, l))
last_below P decided (suc n) = one_more P n (decided n) (last_below P decided n)

-- the days that begin up to a number of seconds are those below a number
record AreBelow (seconds : ℤ) (n : ℕ) : Type 0 where
  pub to : (d : ℕ) → pos (86_400 * d) ≤ℤ seconds → d < n
  pub up : (d : ℕ) → d < n → pos (86_400 * d) ≤ℤ seconds

days_below : (seconds : ℤ) → (n : ℕ) × AreBelow seconds n
days_below (pos k) = (k / 86_400 + 1, record { to = λ d l. omega (arith, ints, l); up = λ d l. omega (arith, ints, l) })
days_below (negsuc k) = (0, record { to = λ d l. absurd (omega (arith, ints, l)); up = λ d l. absurd (omega (arith, l)) })

-- ---- the latest onset up to an instant, or there is none up to it

abbrev LatestOf : (Onset → Type 0) → ℤ → Type 0
LatestOf Is t = ((x : Onset) → Is x → t <ℤ x.instant) ⊎ ((x : Onset) × IsLatest Is t x)

is_in_time : (end : End) (o : Observance) (day : ℕ) (instant : ℤ) → IsDecided (IsInTime end o day instant)
is_in_time Never o day instant = inl tt
is_in_time (AfterCount count) o day instant = are_at_most (count_days (begins_on o) o.day (day + 1 - o.day)) count
is_in_time (AtInstant until) o day instant = is_at_most instant until

module _ (run : Run) (t : ℤ) where
  abbrev at_day : ℕ → ℤ
  at_day d = local_time d run.observance.second -ℤ run.observance.offset_from

  abbrev IsDay : ℕ → Type 0
  IsDay d = (begins_on run.observance d ≡ true) × IsInTime run.end run.observance d (at_day d)

  abbrev seconds_to : ℤ
  seconds_to = ((t +ℤ run.observance.offset_from) +ℤ pos 62_167_219_200) -ℤ pos run.observance.second

  on_day : (d : ℕ) → IsDay d → IsRunOnset run (record { instant = at_day d; before = run.observance.offset_from; after = run.observance.offset_to })
  on_day d h = record {
    is = record { day = d; begins = h.0; read = omega (arith, ints); before = refl; after = refl };
    in_time = h.1;
  }

  is_on : (x : Onset) (h : IsRunOnset run x) → x.instant ≡ at_day h.is.day
  is_on x h = let r = h.is.read in omega (arith, ints, r)

  is_day : (x : Onset) (h : IsRunOnset run x) → IsDay h.is.day
  is_day x h = (h.is.begins, subst (IsInTime run.end run.observance h.is.day) (is_on x h) h.in_time)

  abbrev onset_of : ℕ → Onset
  onset_of d = record { instant = at_day d; before = run.observance.offset_from; after = run.observance.offset_to }

  is_latest_on : (n d : ℕ) → AreBelow seconds_to n → IsLastBelow IsDay n d → IsLatest (IsRunOnset run) t (onset_of d)
  is_latest_on n d below w = record {
    listed = on_day d w.holds;
    begun = let u = below.up d w.below in omega (arith, ints, u);
    latest = λ y is l.
        let e = is_on y is in
        let m = w.last is.is.day (below.to is.is.day (omega (arith, ints, e, l))) (is_day y is) in
        omega (arith, ints, e, m);
  }

  of_days : (n : ℕ) → AreBelow seconds_to n → LastBelow IsDay n → LatestOf (IsRunOnset run) t
  of_days n below (inl none) = inl (λ x is. by_lt_z t x.instant (λ lt. lt)
      (λ ge.
      let e = is_on x is in
      absurd (none is.is.day (below.to is.is.day (omega (arith, ints, e, ge))) (is_day x is))))
  of_days n below (inr (d, w)) = inr (onset_of d, is_latest_on n d below w)

  latest_of_run : LatestOf (IsRunOnset run) t
  latest_of_run =
      let n = days_below seconds_to in
      of_days n.0 n.1 (last_below IsDay (λ d. both (is_true (begins_on run.observance d)) (is_in_time run.end run.observance d (at_day d))) n.0)

module _ (A B C : Onset → Type 0) (t : ℤ) (one : (x : Onset) → A x → C x) (other : (x : Onset) → B x → C x)
    (either : (x : Onset) → C x → A x ⊎ B x) where
  from_one : (x : Onset) → IsLatest A t x → ((y : Onset) → B y → y.instant ≤ℤ t → y.instant ≤ℤ x.instant) → IsLatest C t x
  from_one x h least = record {
    listed = one x h.listed;
    begun = h.begun;
    latest = λ y is l. elim (either y is) [ inl a ↦ h.latest y a l | inr b ↦ least y b l ];
  }

  from_other : (x : Onset) → IsLatest B t x → ((y : Onset) → A y → y.instant ≤ℤ t → y.instant ≤ℤ x.instant) → IsLatest C t x
  from_other x h least = record {
    listed = other x h.listed;
    begun = h.begun;
    latest = λ y is l. elim (either y is) [ inl a ↦ least y a l | inr b ↦ h.latest y b l ];
  }

  latest_of_both : LatestOf A t → LatestOf B t → LatestOf C t
  latest_of_both (inl none) (inl nor) = inl (λ x is. elim (either x is) [ inl a ↦ none x a | inr b ↦ nor x b ])
  latest_of_both (inl none) (inr (x, h)) = inr (x, from_other x h (λ y a l. let q = none y a in absurd (omega (arith, ints, q, l))))
  latest_of_both (inr (x, h)) (inl nor) = inr (x, from_one x h (λ y b l. let q = nor y b in absurd (omega (arith, ints, q, l))))
  latest_of_both (inr (x, h)) (inr (z, k)) = by_lt_z x.instant z.instant
      (λ lt. inr (z, from_other z k (λ y a l. let q = h.latest y a l in omega (arith, ints, q, lt))))
      (λ ge. inr (x, from_one x h (λ y b l. let q = k.latest y b l in omega (arith, ints, q, ge))))

in_either : (run : Run) (rest : List Run) (x : Onset) → IsGeneralOnset (run ∷ rest) x → IsRunOnset run x ⊎ IsGeneralOnset rest x
in_either run rest x (r, (zero, w, e), on) = inl (subst (λ s. IsRunOnset s x) (sym e) on)
in_either run rest x (r, (suc k, w, e), on) = inr (r, (k, omega (arith, w), e), on)

latest_of_all : (runs : List Run) (t : ℤ) → LatestOf (IsGeneralOnset runs) t
latest_of_all [] t = inl (λ x is. let w = is.1.1 in absurd (omega (arith, w)))
latest_of_all (run ∷ rest) t =
    latest_of_both (IsRunOnset run) (IsGeneralOnset rest) (IsGeneralOnset (run ∷ rest)) t (λ x on. (run, (zero, omega arith, refl), on))
    (λ x is. let w = is.1.1 in (is.0, (suc is.1.0, omega (arith, w), is.1.2), is.2)) (in_either run rest) (latest_of_run run t) (latest_of_all rest t)

-- ---- the offset stays

module _ (zone : List Run) (from k : ℤ) (only : IsOnlyOffset zone from k) (sets : (x : Onset) → IsGeneralOnset zone x → from <ℤ x.instant → x.after ≡ k) where
  was_latest : (t : ℤ) (x : Onset) → from ≤ℤ t → IsLatest (IsGeneralOnset zone) t x → x.instant ≤ℤ from → x.after ≡ k
  was_latest t x l h ge = only.only x.after (Since x (record { listed = h.listed; begun = ge; latest = λ y is m. h.latest y is (omega (arith, ints, m, l)) }) refl)

  sets_it : (t : ℤ) (x : Onset) → from ≤ℤ t → IsLatest (IsGeneralOnset zone) t x → x.after ≡ k
  sets_it t x l h = by_lt_z from x.instant (λ lt. sets x h.listed lt) (λ ge. was_latest t x l h ge)

  stays_there : (t p : ℤ) → from ≤ℤ t → IsGeneralOffsetAt zone t p → p ≡ k
  stays_there t p l (Since x h e) = e ∙ sets_it t x l h
  stays_there t p l (Until x h e) = let a = h.ahead in only.only p (Until x (record { listed = h.listed; ahead = omega (arith, ints, a, l); least = h.least }) e)

  not_begun : (t p : ℤ) → from ≤ℤ t → ((x : Onset) → IsGeneralOnset zone x → t <ℤ x.instant) → IsGeneralOffsetAt zone from p → IsGeneralOffsetAt zone t p
  not_begun t p l none (Since x h e) = let b = h.begun in let a = none x h.listed in absurd (omega (arith, ints, a, b, l))
  not_begun t p l none (Until x h e) = Until x (record { listed = h.listed; ahead = none x h.listed; least = h.least }) e

  stays_back : (t : ℤ) → from ≤ℤ t → IsGeneralOffsetAt zone t k
  stays_back t l =
      elim (latest_of_all zone t) [
        | inl none ↦ not_begun t k l none only.in_force
        | inr h ↦ Since h.0 h.1 (sym (sets_it t h.0 l h.1))
      ]

  -- ---- what a local time means
  module _ (short : (t p : ℤ) → IsGeneralOffsetAt zone t p → p ≤ℤ pos 86_399) where
    small : k ≤ℤ pos 86_399
    small = short from k only.in_force

    means_there : (local t : ℤ) → (from +ℤ pos 86_399) ≤ℤ local → MeansGenerally zone local t → Means (Constant k) local t
    means_there local t l (inl h) =
        let s = short t h.shown.0 h.shown.1 in
        let e = h.shown.2 in
        let p = stays_there t h.shown.0 (omega (arith, ints, s, e, l)) h.shown.1 in
        inl (record { shown = (k, refl, omega (arith, ints, e, p)); least = λ u q. let a = q.1 in let b = q.2 in omega (arith, ints, a, b, e, p) })
    means_there local t l (inr h) =
        let s = small in
        absurd (h.never (local -ℤ k) (k, stays_back (local -ℤ k) (omega (arith, ints, s, l)), omega (arith, ints)))

    means_back : (local t : ℤ) → (from +ℤ pos 86_399) ≤ℤ local → Means (Constant k) local t → MeansGenerally zone local t
    means_back local t l (inl h) =
        let s = small in
        let p = h.shown.1 in
        let e = h.shown.2 in
        inl (record {
          shown = (k, stays_back t (omega (arith, ints, s, p, e, l)), omega (arith, ints, p, e));
          least = λ u q.
              let r = short u q.0 q.1 in
              let a = q.2 in
              let b = stays_there u q.0 (omega (arith, ints, r, a, l)) q.1 in
              omega (arith, ints, a, b, p, e);
        })
    means_back local t l (inr h) = absurd h.listed

    same_constant : IsSameFrom zone (Constant k) from
    same_constant = record {
      offset_there = λ t p l at. stays_there t p l at;
      offset_back = λ t p l e. subst (IsGeneralOffsetAt zone t) (sym e) (stays_back t l);
      means_there = means_there;
      means_back = means_back;
    }

    pub same_still : (z : Zone) → z ≡ Constant k → IsSameFrom zone z from
    same_still z e = subst (λ y. IsSameFrom zone y from) (sym e) same_constant
