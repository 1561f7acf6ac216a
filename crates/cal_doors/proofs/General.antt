-- A zone of one observance or of two is a zone in general. For `zones_are_general`.
use Rattle.std.proofs.Common.{subst, sym, refl, arith, inl, inr, zero, suc, List, [], ◌∷◌, ℤ}
use Rattle.profile.specs.series.Zones.{Observance, Single, Pair, Onset, IsOnset, IsZoneOnset, InForce, Since, Until, MeansBy, ShowsBy}
use Rattle.profile.specs.series.GeneralZones.{Run, Never, IsRunOnset, IsGeneralOnset, runs_of}
use Rattle.cal_doors.specs.After.{IsGeneral}
use Rattle.cal_doors.proofs.Same.{of_zone, by_zone}

module _ (A B : Onset → Type 0) (there : (x : Onset) → A x → B x) (back : (x : Onset) → B x → A x) where
  pub in_force : (t p : ℤ) → InForce A t p → InForce B t p
  in_force t p (Since x h e) = Since x (record { listed = there x h.listed; begun = h.begun; latest = λ y is. h.latest y (back y is) }) e
  in_force t p (Until x h e) = Until x (record { listed = there x h.listed; ahead = h.ahead; least = λ y is. h.least y (back y is) }) e

module _ (A B : Onset → Type 0) (there : (x : Onset) → A x → B x) (back : (x : Onset) → B x → A x) where
  shows : (t local : ℤ) → ShowsBy (InForce A) t local → ShowsBy (InForce B) t local
  shows t local (p, at, e) = (p, in_force A B there back t p at, e)

  shows_back : (t local : ℤ) → ShowsBy (InForce B) t local → ShowsBy (InForce A) t local
  shows_back t local (p, at, e) = (p, in_force B A back there t p at, e)

  pub means : (local t : ℤ) → MeansBy (InForce A) A local t → MeansBy (InForce B) B local t
  means local t (inl h) = inl (record { shown = shows t local h.shown; least = λ u s. h.least u (shows_back u local s) })
  means local t (inr h) = inr (record {
    never = λ u s. h.never u (shows_back u local s);
    onset = h.onset;
    listed = there h.onset h.listed;
    set_from = h.set_from;
    set_past = h.set_past;
    read = h.read;
  })

run_in : (run : Run) (rest : List Run) (x : Onset) (Q : Type 0) → IsGeneralOnset (run ∷ rest) x → (IsRunOnset run x → Q) → (IsGeneralOnset rest x → Q) → Q
run_in run rest x Q (r, (zero, w, e), on) here later = here (subst (λ s. IsRunOnset s x) (sym e) on)
run_in run rest x Q (r, (suc k, w, e), on) here later = later (r, (k, omega (arith, w), e), on)

none : (x : Onset) → IsGeneralOnset [] x → ⊥
none x (r, (k, w, e), on) = omega (arith, w)

one_there : (a : Observance) (x : Onset) → IsZoneOnset (Single a) x → IsGeneralOnset (runs_of (Single a)) x
one_there a x is = (record { observance = a; end = Never }, (zero, omega arith, refl), record { is = is; in_time = tt })

one_back : (a : Observance) (x : Onset) → IsGeneralOnset (runs_of (Single a)) x → IsZoneOnset (Single a) x
one_back a x is = run_in (record { observance = a; end = Never }) [] x (IsOnset a x) is (λ h. h.is) (λ h. absurd (none x h))

two_there : (a b : Observance) (x : Onset) → IsZoneOnset (Pair a b) x → IsGeneralOnset (runs_of (Pair a b)) x
two_there a b x (inl is) = (record { observance = a; end = Never }, (zero, omega arith, refl), record { is = is; in_time = tt })
two_there a b x (inr is) = (record { observance = b; end = Never }, (1, omega arith, refl), record { is = is; in_time = tt })

two_back : (a b : Observance) (x : Onset) → IsGeneralOnset (runs_of (Pair a b)) x → IsZoneOnset (Pair a b) x
two_back a b x is =
    run_in (record { observance = a; end = Never }) (record { observance = b; end = Never } ∷ []) x (IsZoneOnset (Pair a b) x) is (λ h. inl h.is)
    (λ h. run_in (record { observance = b; end = Never }) [] x (IsZoneOnset (Pair a b) x) h (λ k. inr k.is) (λ k. absurd (none x k)))

pub single : (a : Observance) → IsGeneral (Single a)
single a =
    let A = IsZoneOnset (Single a) in
    let B = IsGeneralOnset (runs_of (Single a)) in
    record {
      offset = λ t p. (in_force A B (one_there a) (one_back a) t p, in_force B A (one_back a) (one_there a) t p);
      meaning = λ local t. (
        λ m. means A B (one_there a) (one_back a) local t (of_zone (Single a) local t m),
        λ m. by_zone (Single a) local t (means B A (one_back a) (one_there a) local t m),
      );
    }

pub pair : (a b : Observance) → IsGeneral (Pair a b)
pair a b =
    let A = IsZoneOnset (Pair a b) in
    let B = IsGeneralOnset (runs_of (Pair a b)) in
    record {
      offset = λ t p. (in_force A B (two_there a b) (two_back a b) t p, in_force B A (two_back a b) (two_there a b) t p);
      meaning = λ local t. (
        λ m. means A B (two_there a b) (two_back a b) local t (of_zone (Pair a b) local t m),
        λ m. by_zone (Pair a b) local t (means B A (two_back a b) (two_there a b) local t m),
      );
    }
