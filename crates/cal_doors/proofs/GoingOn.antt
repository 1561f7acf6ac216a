-- The zone that goes on where a table ends. For `Run::going_on`, `going_on` and `GeneralZone::beyond`.
use Rattle.std.proofs.Common.{◌≡◌, ◌∙◌, refl, sym, ap, subst, zero, suc, ℕ, ◌+◌, ◌<◌, ◌≤◌, drop, length, get_or, arith, inl, inr, ◌⊎◌, List, [], ◌∷◌, ◌++◌, ℤ, pos, ◌≤ℤ◌}
use Rattle.std.specs.Prelude.{◌↔◌}
use Rattle.std.specs.Int.Signed.{◌<ℤ◌}
use Rattle.std.proofs.lemmas.Int.{ints}
use Rattle.std.proofs.lemmas.List.{map_push}
use Rattle.profile.specs.series.Zones.{Observance, Onset, IsOnset, IsFirstOf, IsLatest, NoneBegun, onset_at}
use Rattle.profile.specs.series.GeneralZones.{End, Never, AfterCount, AtInstant, Run, IsInTime, IsRunOnset, IsGeneralOnset}
use Rattle.profile.specs.doors.Adapting.{GoesOnAt, IsRunOnsetBeyond, IsOnsetBeyond, IsGoneOn}
use Rattle.cal_doors.specs.Runs.{run_of, runs_in, HasOnsetIn}
use Rattle.cal_doors.specs.declared.run.Run as kept
use Rattle.cal_doors.specs.Between.{IsOnsetOf, AreSameUpTo}
use Rattle.cal_doors.proofs.RunsUpTo.{of_pushed, of_done, done_or_pushed, no_onset_of_none, left_at, left_none}

-- ---- one run

abbrev until_of : End → ℤ
until_of Never = pos 0
until_of (AfterCount count) = pos 0
until_of (AtInstant until) = until

pub one_until : (end : End) (u v : ℤ) → end ≡ AtInstant u → end ≡ AtInstant v → u ≡ v
one_until end u v a b = ap until_of (sym a ∙ b)

-- one that UNTIL doesn't end stays as it is
abbrev pub is_until : End → Type 0
is_until Never = ⊥
is_until (AfterCount count) = ⊥
is_until (AtInstant until) = Unit {0}

pub not_ended : (to : ℤ) (run : Run) → (is_until run.end → ⊥) → (x : Onset) → IsRunOnset run x ↔ IsOnsetOf to run x
not_ended to run never x = (λ is. inl is, λ is. elim is [ inl on ↦ on | inr on ↦ let g = on.0 in absurd (never (subst is_until (sym g.ends) tt)) ])

pub never_ended : (to : ℤ) (run : Run) → run.end ≡ Never → (x : Onset) → IsRunOnset run x ↔ IsOnsetOf to run x
never_ended to run e = not_ended to run (λ h. subst is_until e h)

pub ended_by_count : (to : ℤ) (run : Run) (count : ℕ) → run.end ≡ AfterCount count → (x : Onset) → IsRunOnset run x ↔ IsOnsetOf to run x
ended_by_count to run count e = not_ended to run (λ h. subst is_until e h)

-- one of which UNTIL leaves out an onset stays too
pub stays : (to until : ℤ) (run : Run) → run.end ≡ AtInstant until → HasOnsetIn run.observance until to → (x : Onset) → IsRunOnset run x ↔ IsOnsetOf to run x
stays to until run ends h x = (
  λ is. inl is,
  λ is. elim is [
    | inl on ↦ on
    | inr on ↦
        let g = on.0 in
        let e : until ≡ g.until = one_until run.end until g.until ends g.ends in
        let l = g.none_left_out h.onset h.is h.up_to in
        let later = h.later in
        absurd (omega (arith, ints, e, l, later))
  ],
)

-- one of which it leaves out none goes on
pub goes_on : (to until : ℤ) (run other : Run) → other.observance ≡ run.observance → other.end ≡ Never → run.end ≡ AtInstant until
    → ((x : Onset) → IsOnset run.observance x → x.instant ≤ℤ to → x.instant ≤ℤ until) → (x : Onset) → IsRunOnset other x ↔ IsOnsetOf to run x
goes_on to until run other same none ends quiet x = (
  λ is. inr (record { until = until; ends = ends; none_left_out = quiet }, subst (λ o. IsOnset o x) same is.is),
  λ is. of_own_rule (elim is [ inl on ↦ on.is | inr on ↦ on.1 ]),
)
  where
    of_own_rule : IsOnset run.observance x → IsRunOnset other x
    of_own_rule on =
        let there : IsOnset other.observance x = subst (λ o. IsOnset o x) (sym same) on in
        record { is = there; in_time = subst (λ end. IsInTime end other.observance there.day x.instant) (sym none) tt }

-- ---- the latest onset of a rule

pub no_onset : (o : Observance) (after until : ℤ) → NoneBegun o until → (x : Onset) → IsOnset o x → x.instant ≤ℤ until → x.instant ≤ℤ after
no_onset o after until (first, f, ahead) x is l = let m = f.least x is in absurd (omega (arith, ints, m, l, ahead))

pub later_onset : (o : Observance) (after until latest : ℤ) → IsLatest (IsOnset o) until (onset_at o latest) → after <ℤ latest → HasOnsetIn o after until
later_onset o after until latest h l = record { onset = onset_at o latest; is = h.listed; later = l; up_to = h.begun }

pub no_later_onset : (o : Observance) (after until latest : ℤ) → IsLatest (IsOnset o) until (onset_at o latest) → latest ≤ℤ after
    → (x : Onset) → IsOnset o x → x.instant ≤ℤ until → x.instant ≤ℤ after
no_later_onset o after until latest h l x is m = let n = h.latest x is m in omega (arith, ints, n, l)

-- ---- some runs

first_or_rest : (to : ℤ) (run : Run) (rest : List Run) (x : Onset) → IsOnsetBeyond (run ∷ rest) to x → IsRunOnsetBeyond to run x ⊎ IsOnsetBeyond rest to x
first_or_rest to run rest x (r, (zero, w, e), on) = inl (subst (λ s. IsRunOnsetBeyond to s x) (sym e) on)
first_or_rest to run rest x (r, (suc k, w, e), on) = inr (r, (k, omega (arith, w), e), on)

of_first : (to : ℤ) (run : Run) (rest : List Run) (x : Onset) → IsRunOnsetBeyond to run x → IsOnsetBeyond (run ∷ rest) to x
of_first to run rest x on = (run, (zero, omega arith, refl), on)

of_rest : (to : ℤ) (run : Run) (rest : List Run) (x : Onset) → IsOnsetBeyond rest to x → IsOnsetBeyond (run ∷ rest) to x
of_rest to run rest x (r, (k, w, e), on) = (r, (suc k, omega (arith, w), e), on)

none_beyond : (to : ℤ) (x : Onset) → IsOnsetBeyond [] to x → ⊥
none_beyond to x (r, (k, w, e), on) = omega (arith, w)

-- the onsets of the zone that goes on are those of the runs that were made and of those that are left
abbrev pub AreGoneOn : ℤ → List Run → List Run → List Run → Type 0
AreGoneOn to zone done rest = (x : Onset) → IsOnsetBeyond zone to x ↔ (IsGeneralOnset done x ⊎ IsOnsetBeyond rest to x)

pub gone_on_start : (to : ℤ) (zone : List Run) → AreGoneOn to zone [] zone
gone_on_start to zone x = (λ is. inr is, λ is. elim is [ inl h ↦ absurd (no_onset_of_none x h) | inr h ↦ h ])

gone_on_end : (to : ℤ) (zone done : List Run) → AreGoneOn to zone done [] → IsGoneOn zone to done
gone_on_end to zone done parted x = (
  λ is. (parted x).1 (inl is),
  λ is. elim ((parted x).0 is) [ inl h ↦ h | inr h ↦ absurd (none_beyond to x h) ],
)

gone_on_more : (to first : ℤ) (zone done rest : List Run) (run other : Run) → IsFirstOf run.observance first → first ≤ℤ to
    → ((x : Onset) → IsRunOnset other x ↔ IsOnsetOf to run x) → AreGoneOn to zone done (run ∷ rest) → AreGoneOn to zone (done ++ other ∷ []) rest
gone_on_more to first zone done rest run other f begun same parted x = (
  λ is. elim ((parted x).0 is) [
    | inl h ↦ inl (of_done done other x h)
    | inr h ↦ elim (first_or_rest to run rest x h) [
      | inl on ↦ inl (of_pushed done other x ((same x).1 on.is))
      | inr on ↦ inr on
    ]
  ],
  λ is. (parted x).1 (elim is [
    | inl h ↦ elim (done_or_pushed done other x h) [
      | inl on ↦ inl on
      | inr on ↦ inr (of_first to run rest x (record { first = onset_at run.observance first; begins = f.listed; by_end = begun; is = (same x).0 on }))
    ]
    | inr h ↦ inr (of_rest to run rest x h)
  ]),
)

-- a run that begins later is left out
gone_on_later : (to first : ℤ) (zone done rest : List Run) (run : Run) → IsFirstOf run.observance first → to <ℤ first → AreGoneOn to zone done (run ∷ rest) → AreGoneOn to zone done rest
gone_on_later to first zone done rest run f later parted x = (
  λ is. elim ((parted x).0 is) [
    | inl h ↦ inl h
    | inr h ↦ elim (first_or_rest to run rest x h) [
      | inl on ↦ let l = f.least on.first on.begins in let m = on.by_end in absurd (omega (arith, ints, later, l, m))
      | inr on ↦ inr on
    ]
  ],
  λ is. (parted x).1 (elim is [
    | inl h ↦ inl h
    | inr h ↦ inr (of_rest to run rest x h)
  ]),
)

-- up to where the table ends it has the onsets of the zone
of_rule : (to : ℤ) (run : Run) (x : Onset) → GoesOnAt to run → IsOnset run.observance x → x.instant ≤ℤ to → IsRunOnset run x
of_rule to run x g is l =
    let m = g.none_left_out x is l in
    record { is = is; in_time = subst (λ end. IsInTime end run.observance is.day x.instant) (sym g.ends) m }

own_onset : (to : ℤ) (run : Run) (x : Onset) → IsOnsetOf to run x → x.instant ≤ℤ to → IsRunOnset run x
own_onset to run x (inl on) l = on
own_onset to run x (inr on) l = of_rule to run x on.0 on.1 l

pub same_up_to : (zone longer : List Run) (to : ℤ) → IsGoneOn zone to longer → AreSameUpTo to zone longer
same_up_to zone longer to gone x l = (
  λ is. (gone x).1 (is.0, is.1, record { first = x; begins = is.2.is; by_end = l; is = inl is.2 }),
  λ is. let b = (gone x).0 is in (b.0, b.1, own_onset to b.0 x b.2.is l),
)

-- ---- the loop over kept runs

module _ (runs : List kept.Run) (i : ℕ) where
  pub made_more : (to first : ℤ) (done more : List kept.Run) (run other : kept.Run) → i < length runs → run ≡ get_or runs i run → more ≡ done ++ other ∷ []
      → IsFirstOf (run_of run).observance first → first ≤ℤ to → ((x : Onset) → IsRunOnset (run_of other) x ↔ IsOnsetOf to (run_of run) x)
      → AreGoneOn to (runs_in runs) (runs_in done) (runs_in (drop i runs)) → AreGoneOn to (runs_in runs) (runs_in more) (runs_in (drop (i + 1) runs))
  made_more to first done more run other w e pushed f begun same parted =
      subst (λ l. AreGoneOn to (runs_in runs) l (runs_in (drop (i + 1) runs))) (sym (ap runs_in pushed ∙ map_push run_of done other))
      (gone_on_more to first (runs_in runs) (runs_in done) (runs_in (drop (i + 1) runs)) (run_of run) (run_of other) f begun same
      (subst (AreGoneOn to (runs_in runs) (runs_in done)) (left_at runs i run w e) parted))

  pub left_out : (to first : ℤ) (done : List kept.Run) (run : kept.Run) → i < length runs → run ≡ get_or runs i run → IsFirstOf (run_of run).observance first → to <ℤ first
      → AreGoneOn to (runs_in runs) (runs_in done) (runs_in (drop i runs)) → AreGoneOn to (runs_in runs) (runs_in done) (runs_in (drop (i + 1) runs))
  left_out to first done run w e f later parted =
      gone_on_later to first (runs_in runs) (runs_in done) (runs_in (drop (i + 1) runs)) (run_of run) f later (subst (AreGoneOn to (runs_in runs) (runs_in done)) (left_at runs i run w e) parted)

  pub made_all : (to : ℤ) (done : List kept.Run) → length runs ≤ i → AreGoneOn to (runs_in runs) (runs_in done) (runs_in (drop i runs)) → IsGoneOn (runs_in runs) to (runs_in done)
  made_all to done w parted = gone_on_end to (runs_in runs) (runs_in done) (subst (AreGoneOn to (runs_in runs) (runs_in done)) (left_none runs i w) parted)
