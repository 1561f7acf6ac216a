-- Runs that are the same up to an instant. For `ending`, and for loops over runs.
use Rattle.std.proofs.Common.{◌≡◌, ◌∙◌, refl, sym, ap, subst, zero, suc, ℕ, ◌+◌, ◌<◌, ◌≤◌, drop, length, get_or, arith, inl, inr, ◌⊎◌, List, [], ◌∷◌, ◌++◌, ℤ, ◌≤ℤ◌}
use Rattle.std.specs.Prelude.{◌↔◌}
use Rattle.std.specs.Int.Signed.{◌<ℤ◌}
use Rattle.std.proofs.lemmas.Int.{ints}
use Rattle.std.proofs.lemmas.List.{drop_all, drop_more, map_push}
use Rattle.std.proofs.lemmas.List.Elements.{Contains-push, Contains-append_left, Contains-push_cases}
use Rattle.profile.specs.series.Zones.{Onset}
use Rattle.profile.specs.series.GeneralZones.{Run, IsRunOnset, IsGeneralOnset}
use Rattle.cal_doors.specs.Runs.{run_of, runs_in}
use Rattle.cal_doors.specs.declared.run.Run as kept
use Rattle.cal_doors.specs.Between.{IsSameRunUpTo, IsSameEndUpTo, AreSameUpTo}

-- ---- one run

-- with another end
pub same_ending : (to : ℤ) (run other : Run) → other.observance ≡ run.observance → IsSameEndUpTo to run.end other.end → IsSameRunUpTo to run other
same_ending to run other same ends x l = (
  λ h. let is = subst (λ o. IsRunOnset (record { observance = o; end = run.end }) x) (sym same) h in record { is = is.is; in_time = (ends other.observance is.is.day x.instant l).0 is.in_time },
  λ h. let is = subst (λ o. IsRunOnset (record { observance = o; end = other.end }) x) same h in record { is = is.is; in_time = (ends run.observance is.is.day x.instant l).1 is.in_time },
)

-- ---- some runs

first_or_rest : (run : Run) (rest : List Run) (x : Onset) → IsGeneralOnset (run ∷ rest) x → IsRunOnset run x ⊎ IsGeneralOnset rest x
first_or_rest run rest x (r, (zero, w, e), on) = inl (subst (λ s. IsRunOnset s x) (sym e) on)
first_or_rest run rest x (r, (suc k, w, e), on) = inr (r, (k, omega (arith, w), e), on)

of_first : (run : Run) (rest : List Run) (x : Onset) → IsRunOnset run x → IsGeneralOnset (run ∷ rest) x
of_first run rest x on = (run, (zero, omega arith, refl), on)

of_rest : (run : Run) (rest : List Run) (x : Onset) → IsGeneralOnset rest x → IsGeneralOnset (run ∷ rest) x
of_rest run rest x (r, (k, w, e), on) = (r, (suc k, omega (arith, w), e), on)

pub no_onset_of_none : (x : Onset) → IsGeneralOnset [] x → ⊥
no_onset_of_none x (r, (k, w, e), on) = omega (arith, w)

pub of_pushed : (done : List Run) (run : Run) (x : Onset) → IsRunOnset run x → IsGeneralOnset (done ++ run ∷ []) x
of_pushed done run x on = (run, Contains-push done run, on)

pub of_done : (done : List Run) (run : Run) (x : Onset) → IsGeneralOnset done x → IsGeneralOnset (done ++ run ∷ []) x
of_done done run x (r, in_done, on) = (r, Contains-append_left done (run ∷ []) r in_done, on)

pub done_or_pushed : (done : List Run) (run : Run) (x : Onset) → IsGeneralOnset (done ++ run ∷ []) x → IsGeneralOnset done x ⊎ IsRunOnset run x
done_or_pushed done run x (r, among, on) = elim (Contains-push_cases done run r among) [
  | inl old ↦ inl (r, old, on)
  | inr e ↦ inr (subst (λ s. IsRunOnset s x) (sym e) on)
]

-- up to an instant the onsets of a zone are those of the runs that were made and of those that are left
abbrev pub AreParted : ℤ → List Run → List Run → List Run → Type 0
AreParted to zone done rest = (x : Onset) → x.instant ≤ℤ to → IsGeneralOnset zone x ↔ (IsGeneralOnset done x ⊎ IsGeneralOnset rest x)

pub parted_end : (to : ℤ) (zone done : List Run) → AreParted to zone done [] → AreSameUpTo to zone done
parted_end to zone done parted x l = (
  λ is. elim ((parted x l).0 is) [ inl h ↦ h | inr h ↦ absurd (no_onset_of_none x h) ],
  λ is. (parted x l).1 (inl is),
)

pub parted_more : (to : ℤ) (zone done rest : List Run) (run other : Run) → IsSameRunUpTo to run other → AreParted to zone done (run ∷ rest)
    → AreParted to zone (done ++ other ∷ []) rest
parted_more to zone done rest run other same parted x l = (
  λ is. elim ((parted x l).0 is) [
    | inl h ↦ inl (of_done done other x h)
    | inr h ↦ elim (first_or_rest run rest x h) [
      | inl on ↦ inl (of_pushed done other x ((same x l).0 on))
      | inr on ↦ inr on
    ]
  ],
  λ is. (parted x l).1 (elim is [
    | inl h ↦ elim (done_or_pushed done other x h) [
      | inl on ↦ inl on
      | inr on ↦ inr (of_first run rest x ((same x l).1 on))
    ]
    | inr h ↦ inr (of_rest run rest x h)
  ]),
)

-- a run that begins later is left out
pub parted_later : (to : ℤ) (zone done rest : List Run) (run : Run) → ((x : Onset) → IsRunOnset run x → to <ℤ x.instant) → AreParted to zone done (run ∷ rest)
    → AreParted to zone done rest
parted_later to zone done rest run later parted x l = (
  λ is. elim ((parted x l).0 is) [
    | inl h ↦ inl h
    | inr h ↦ elim (first_or_rest run rest x h) [
      | inl on ↦ let ahead = later x on in absurd (omega (arith, ints, ahead, l))
      | inr on ↦ inr on
    ]
  ],
  λ is. (parted x l).1 (elim is [
    | inl h ↦ inl h
    | inr h ↦ inr (of_rest run rest x h)
  ]),
)

-- ---- the loops over kept runs

module _ (runs : List kept.Run) (i : ℕ) where
  pub left_at : (run : kept.Run) → i < length runs → run ≡ get_or runs i run → runs_in (drop i runs) ≡ run_of run ∷ runs_in (drop (i + 1) runs)
  left_at run w e = ap runs_in (drop_more runs i run w ∙ ap (λ y. y ∷ drop (i + 1) runs) (sym e))

  pub left_none : length runs ≤ i → runs_in (drop i runs) ≡ []
  left_none w = ap runs_in (drop_all i runs w)

  pub made_more : (to : ℤ) (done more : List kept.Run) (run other : kept.Run) → i < length runs → run ≡ get_or runs i run → more ≡ done ++ other ∷ []
      → IsSameRunUpTo to (run_of run) (run_of other) → AreParted to (runs_in runs) (runs_in done) (runs_in (drop i runs))
      → AreParted to (runs_in runs) (runs_in more) (runs_in (drop (i + 1) runs))
  made_more to done more run other w e pushed same parted =
      subst (λ l. AreParted to (runs_in runs) l (runs_in (drop (i + 1) runs))) (sym (ap runs_in pushed ∙ map_push run_of done other))
      (parted_more to (runs_in runs) (runs_in done) (runs_in (drop (i + 1) runs)) (run_of run) (run_of other) same (subst (AreParted to (runs_in runs) (runs_in done)) (left_at run w e) parted))

  pub left_out : (to : ℤ) (done : List kept.Run) (run : kept.Run) → i < length runs → run ≡ get_or runs i run → ((x : Onset) → IsRunOnset (run_of run) x → to <ℤ x.instant)
      → AreParted to (runs_in runs) (runs_in done) (runs_in (drop i runs)) → AreParted to (runs_in runs) (runs_in done) (runs_in (drop (i + 1) runs))
  left_out to done run w e later parted =
      parted_later to (runs_in runs) (runs_in done) (runs_in (drop (i + 1) runs)) (run_of run) later (subst (AreParted to (runs_in runs) (runs_in done)) (left_at run w e) parted)

  pub made_all : (to : ℤ) (done : List kept.Run) → length runs ≤ i → AreParted to (runs_in runs) (runs_in done) (runs_in (drop i runs)) → AreSameUpTo to (runs_in runs) (runs_in done)
  made_all to done w parted = parted_end to (runs_in runs) (runs_in done) (subst (AreParted to (runs_in runs) (runs_in done)) (left_none w) parted)
