-- What runs state of instants, and where a table ends. For `Run::last_stated`, `is_stated_late` and `later_stated`, and for `table_end`.
use Rattle.std.proofs.Common.{◌≡◌, ◌∙◌, refl, sym, subst, arith, zero, suc, ℕ, ◌+◌, ◌<◌, ◌≤◌, drop, length, get_or, inl, inr, ◌⊎◌, List, [], ◌∷◌, ℤ, pos, ◌+ℤ◌, ◌≤ℤ◌, MatchOption}
use Rattle.std.specs.Prelude.{Option, Some, None, Contains}
use Rattle.std.specs.Int.Signed.{◌<ℤ◌}
use Rattle.std.proofs.lemmas.Int.{ints}
use Rattle.profile.specs.series.Zones.{IsOnset, IsFirstOf, IsLatest, NoneBegun, onset_at}
use Rattle.profile.specs.series.GeneralZones.{End, Never, AfterCount, AtInstant, Run}
use Rattle.profile.specs.doors.Adapting.{tables_end, times_end, UntilAllows, StatesAt, by_onset, by_until, IsStatedLate, ReachesTablesEnd, IsTableEnd}
use Rattle.cal_doors.specs.Runs.{run_of, runs_in, StatesNothingBy, IsLastStated}
use Rattle.cal_doors.specs.declared.run.Run as kept
use Rattle.cal_doors.specs.Between.{IsStatedIn, IsLaterStated, IsLastOfAll}
use Rattle.cal_doors.proofs.RunsUpTo.{left_at, left_none}
use Rattle.cal_doors.proofs.GoingOn.{is_until, one_until}

-- ---- one run

-- UNTIL ends it behind an instant, if at all
abbrev pub EndsBehind : Run → ℤ → Type 0
EndsBehind run instant = (until : ℤ) → run.end ≡ AtInstant until → instant <ℤ until

pub no_end : (run : Run) (instant : ℤ) → run.end ≡ Never → EndsBehind run instant
no_end run instant e until is = absurd (subst is_until (sym is ∙ e) tt)

pub counted_end : (run : Run) (instant : ℤ) (count : ℕ) → run.end ≡ AfterCount count → EndsBehind run instant
counted_end run instant count e until is = absurd (subst is_until (sym is ∙ e) tt)

pub end_behind : (run : Run) (instant until : ℤ) → run.end ≡ AtInstant until → instant <ℤ until → EndsBehind run instant
end_behind run instant until e l other is = let s = one_until run.end until other e is in omega (arith, ints, s, l)

allowed : (end : End) (instant t : ℤ) → ((until : ℤ) → end ≡ AtInstant until → instant <ℤ until) → t ≤ℤ instant → UntilAllows end t
allowed Never instant t behind l = tt
allowed (AfterCount count) instant t behind l = tt
allowed (AtInstant until) instant t behind l = let b = behind until refl in omega (arith, ints, b, l)

none_stated : (run : Run) (instant first : ℤ) → IsFirstOf run.observance first → instant <ℤ first → EndsBehind run instant → StatesNothingBy run instant
none_stated run instant first f ahead behind t (by_onset x is e allows) = let l = f.least x is in omega (arith, ints, ahead, l, e)
none_stated run instant first f ahead behind t (by_until e) = behind t e

latest_stated : (run : Run) (instant last : ℤ) → IsLatest (IsOnset run.observance) instant (onset_at run.observance last) → EndsBehind run instant
    → (t : ℤ) → StatesAt run t → t ≤ℤ instant → t ≤ℤ last
latest_stated run instant last h behind t (by_onset x is e allows) l = let m = h.latest x is (omega (arith, ints, e, l)) in omega (arith, ints, e, m)
latest_stated run instant last h behind t (by_until e) l = let b = behind t e in absurd (omega (arith, ints, b, l))

-- where UNTIL doesn't end it up to an instant, the last that it states is its latest onset
pub of_latest : (run : Run) (instant : ℤ) (result : Option ℤ) → EndsBehind run instant
    → MatchOption result (NoneBegun run.observance instant) (λ t. IsLatest (IsOnset run.observance) instant (onset_at run.observance t))
    → MatchOption result (StatesNothingBy run instant) (IsLastStated run instant)
of_latest run instant None behind (first, f, ahead) = none_stated run instant first f ahead behind
of_latest run instant (Some t) behind h = record {
  states = by_onset (onset_at run.observance t) h.listed refl (allowed run.end instant t behind h.begun);
  by_then = h.begun;
  latest = latest_stated run instant t h behind;
}

up_to_until : (run : Run) (until : ℤ) → run.end ≡ AtInstant until → (t : ℤ) → StatesAt run t → t ≤ℤ until
up_to_until run until e t (by_onset x is f allows) = subst (λ end. UntilAllows end t) e allows
up_to_until run until e t (by_until f) = let s = one_until run.end until t e f in omega (arith, ints, s)

-- where it does, the last is UNTIL
pub of_until : (run : Run) (instant until : ℤ) → run.end ≡ AtInstant until → until ≤ℤ instant → IsLastStated run instant until
of_until run instant until e l = record {
  states = by_until e;
  by_then = l;
  latest = λ t states m. up_to_until run until e t states;
}

-- ---- one run, before times in 32 bits end

-- the last second before that end
abbrev pub IsSecondBefore : ℤ → Type 0
IsSecondBefore instant = (instant <ℤ times_end) × (times_end ≤ℤ (instant +ℤ pos 1))

pub stated_late : (run : Run) (instant last : ℤ) (found : Option ℤ) → found ≡ Some last → MatchOption found (StatesNothingBy run instant) (IsLastStated run instant)
    → IsSecondBefore instant → ((count : ℕ) → run.end ≡ AfterCount count → ⊥) → tables_end ≤ℤ last → IsStatedLate run
stated_late run instant last found e h at not_counted late =
    let s = subst (λ o. MatchOption o (StatesNothingBy run instant) (IsLastStated run instant)) e h in
    let l = s.by_then in
    record { not_counted = not_counted; instant = last; states = s.states; late = late; before = omega (arith, ints, l, at.0, at.1) }

pub not_stated_late : (run : Run) (instant last : ℤ) (found : Option ℤ) → found ≡ Some last → MatchOption found (StatesNothingBy run instant) (IsLastStated run instant)
    → IsSecondBefore instant → last <ℤ tables_end → IsStatedLate run → ⊥
not_stated_late run instant last found e h at early is =
    let s = subst (λ o. MatchOption o (StatesNothingBy run instant) (IsLastStated run instant)) e h in
    let before = is.before in
    let late = is.late in
    let l = s.latest is.instant is.states (omega (arith, ints, before, at.0, at.1)) in
    omega (arith, ints, l, late, early)

pub nothing_stated_late : (run : Run) (instant : ℤ) (found : Option ℤ) → found ≡ None → MatchOption found (StatesNothingBy run instant) (IsLastStated run instant)
    → IsSecondBefore instant → IsStatedLate run → ⊥
nothing_stated_late run instant found e h at is =
    let none = subst (λ o. MatchOption o (StatesNothingBy run instant) (IsLastStated run instant)) e h in
    let l = none is.instant is.states in
    let before = is.before in
    omega (arith, ints, l, before, at.0, at.1)

pub later_stated : (run : Run) (instant last stated new : ℤ) (found : Option ℤ) → found ≡ Some stated → MatchOption found (StatesNothingBy run instant) (IsLastStated run instant)
    → IsSecondBefore instant → last ≤ℤ new → stated ≤ℤ new → (new ≡ last) ⊎ (new ≡ stated) → IsLaterStated run last new
later_stated run instant last stated new found e h at l m one =
    let s = subst (λ o. MatchOption o (StatesNothingBy run instant) (IsLastStated run instant)) e h in
    let by_then = s.by_then in
    record {
      later = l;
      over = λ t states before. let n = s.latest t states (omega (arith, ints, before, at.0, at.1)) in omega (arith, ints, n, m);
      one = elim one [
        | inl same ↦ inl same
        | inr same ↦ inr (subst (StatesAt run) (sym same) s.states, omega (arith, ints, same, by_then, at.0, at.1))
      ];
    }

pub no_later_stated : (run : Run) (instant last : ℤ) (found : Option ℤ) → found ≡ None → MatchOption found (StatesNothingBy run instant) (IsLastStated run instant)
    → IsSecondBefore instant → IsLaterStated run last last
no_later_stated run instant last found e h at =
    let none = subst (λ o. MatchOption o (StatesNothingBy run instant) (IsLastStated run instant)) e h in
    record {
      later = omega (arith, ints);
      over = λ t states before. let n = none t states in absurd (omega (arith, ints, n, before, at.0, at.1));
      one = inl refl;
    }

-- ---- all runs

-- the last instant that those runs state that were looked at: `rest` is left of all
pub record IsLastSofar (zone rest : List Run) (last : ℤ) : Type 0 where
  pub over : (instant : ℤ) → IsStatedIn zone instant → (instant ≤ℤ last) ⊎ IsStatedIn rest instant
  pub stated : tables_end ≤ℤ last → IsStatedIn zone last

pub last_start : (zone : List Run) (last : ℤ) → last <ℤ tables_end → IsLastSofar zone zone last
last_start zone last early = record { over = λ t is. inr is; stated = λ late. absurd (omega (arith, ints, early, late)) }

first_or_rest : (run : Run) (rest : List Run) (t : ℤ) → IsStatedIn (run ∷ rest) t → (StatesAt run t × (t <ℤ times_end)) ⊎ IsStatedIn rest t
first_or_rest run rest t is = cases is.run is.among is.states
  where
    cases : (r : Run) → Contains (run ∷ rest) r → StatesAt r t → (StatesAt run t × (t <ℤ times_end)) ⊎ IsStatedIn rest t
    cases r (zero, w, e) states = inl (subst (λ s. StatesAt s t) (sym e) states, is.before)
    cases r (suc k, w, e) states = inr (record { run = r; among = (k, omega (arith, w), e); states = states; before = is.before })

last_next : (zone rest : List Run) (run : Run) (last new : ℤ) → Contains zone run → IsLaterStated run last new → IsLastSofar zone (run ∷ rest) last → IsLastSofar zone rest new
last_next zone rest run last new among h sofar =
    let l = h.later in
    record {
      over = λ t is. elim (sofar.over t is) [
        | inl m ↦ inl (omega (arith, ints, l, m))
        | inr left ↦ elim (first_or_rest run rest t left) [
          | inl on ↦ inl (h.over t on.0 on.1)
          | inr on ↦ inr on
        ]
      ];
      stated = λ late. elim h.one [
        | inl same ↦ subst (IsStatedIn zone) (sym same) (sofar.stated (omega (arith, ints, same, late)))
        | inr is ↦ record { run = run; among = among; states = is.0; before = is.1 }
      ];
    }

pub no_stated_in_none : (t : ℤ) → IsStatedIn [] t → ⊥
no_stated_in_none t is = cases is.run is.among
  where
    cases : (r : Run) → Contains [] r → ⊥
    cases r (k, w, e) = omega (arith, w)

last_end : (zone : List Run) (last : ℤ) → IsLastSofar zone [] last → IsLastOfAll zone last
last_end zone last sofar = record {
  over = λ t is. elim (sofar.over t is) [ inl l ↦ l | inr on ↦ absurd (no_stated_in_none t on) ];
  stated = sofar.stated;
}

-- so the table ends at the last of all, where one run states something late
pub ends_there : (zone : List Run) (last : ℤ) → ReachesTablesEnd zone → IsLastOfAll zone last → IsTableEnd zone last
ends_there zone last (run, among, is) h =
    let in_zone : IsStatedIn zone is.instant = record { run = run; among = among; states = is.states; before = is.before } in
    let l = h.over is.instant in_zone in
    let late = is.late in
    let s = h.stated (omega (arith, ints, l, late)) in
    record {
      reaches = (run, among, is);
      run = s.run;
      among = s.among;
      states = s.states;
      before = s.before;
      last = λ other t there states before. h.over t (record { run = other; among = there; states = states; before = before });
    }

-- a table ends once
pub one_end : (zone : List Run) (to other : ℤ) → IsTableEnd zone to → IsTableEnd zone other → to ≡ other
one_end zone to other a b =
    let l = b.last a.run to a.among a.states a.before in
    let m = a.last b.run other b.among b.states b.before in
    omega (arith, ints, l, m)

-- ---- the loop over kept runs

module _ (runs : List kept.Run) (i : ℕ) where
  pub last_more : (last new : ℤ) (run : kept.Run) → i < length runs → run ≡ get_or runs i run → Contains (runs_in runs) (run_of run) → IsLaterStated (run_of run) last new
      → IsLastSofar (runs_in runs) (runs_in (drop i runs)) last → IsLastSofar (runs_in runs) (runs_in (drop (i + 1) runs)) new
  last_more last new run w e among h sofar =
      last_next (runs_in runs) (runs_in (drop (i + 1) runs)) (run_of run) last new among h (subst (λ l. IsLastSofar (runs_in runs) l last) (left_at runs i run w e) sofar)

  pub last_all : (last : ℤ) → length runs ≤ i → IsLastSofar (runs_in runs) (runs_in (drop i runs)) last → IsLastOfAll (runs_in runs) last
  last_all last w sofar = last_end (runs_in runs) last (subst (λ l. IsLastSofar (runs_in runs) l last) (left_none runs i w) sofar)
