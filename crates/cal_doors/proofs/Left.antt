-- The runs that a loop has still to look at. For `all_hold` and `covers`.
use Rattle.std.proofs.Common.{◌≡◌, refl, ap, sym, subst, ℕ, zero, suc, ◌+◌, ◌<◌, ◌≤◌, List, [], ◌∷◌, length, get_or, drop, arith, ℤ, ◌≤ℤ◌, Option, Some, None}
use Rattle.std.specs.Prelude.{Contains}
use Rattle.std.specs.Int.Signed.{◌<ℤ◌}
use Rattle.std.proofs.lemmas.Int.{by_lt_z}
use Rattle.std.proofs.lemmas.List.{drop_all}
use Rattle.std.proofs.lemmas.Option.{none-some}
use Rattle.std.proofs.lemmas.List.Elements.{Contains-get_or}
use Rattle.ical_tree.proofs.OneLine.{at_place}
use Rattle.jiff_core.proofs.SignedLemmas.{signed_arith}
use Rattle.profile.specs.doors.Adapting.{HasEnd}
use Rattle.profile.specs.series.Zones.{IsFirstOf, Observance, Onset, IsOnset}
use Rattle.profile.specs.series.GeneralZones.{Never, Run, IsRunOnset, IsGeneralOnset}
use Rattle.cal_doors.specs.Runs.{IsEndless, run_of, runs_in}
use Rattle.cal_doors.specs.declared.run.Run as kept

-- a run of the list is one of those that it represents
in_list : (runs : List kept.Run) (run : kept.Run) → Contains runs run → Contains (runs_in runs) (run_of run)
in_list [] run (k, w, e) = absurd (omega (arith, w))
in_list (first ∷ rest) run (zero, w, e) = (zero, omega arith, ap run_of e)
in_list (first ∷ rest) run (suc k, w, e) = let there = in_list rest run (k, omega (arith, w), e) in (suc there.0, omega (arith, there.1), there.2)

pub at_index : (runs : List kept.Run) (i : ℕ) (run : kept.Run) → i < length runs → run ≡ get_or runs i run → Contains (runs_in runs) (run_of run)
at_index runs i run w e = in_list runs run (subst (Contains runs) (sym e) (Contains-get_or runs i run w))

-- where it holds of the onsets of the runs that are left, it holds of all
abbrev pub Left : (Onset → Type 0) → List kept.Run → ℕ → Type 0
Left Q runs i = ((x : Onset) → IsGeneralOnset (runs_in (drop i runs)) x → Q x) → (x : Onset) → IsGeneralOnset (runs_in runs) x → Q x

one_more : (Q : Onset → Type 0) (run : Run) (rest : List Run) → ((x : Onset) → IsRunOnset run x → Q x) → ((x : Onset) → IsGeneralOnset rest x → Q x)
    → (x : Onset) → IsGeneralOnset (run ∷ rest) x → Q x
one_more Q run rest here later x (r, (zero, w, e), on) = here x (subst (λ s. IsRunOnset s x) (sym e) on)
one_more Q run rest here later x (r, (suc k, w, e), on) = later x (r, (k, omega (arith, w), e), on)

pub left_more : (Q : Onset → Type 0) (runs : List kept.Run) (i : ℕ) (run : kept.Run) → i < length runs → run ≡ get_or runs i run → ((x : Onset) → IsRunOnset (run_of run) x → Q x)
    → Left Q runs i → Left Q runs (i + 1)
left_more Q runs i run w e here left later =
    left (λ x is. one_more Q (run_of run) (runs_in (drop (i + 1) runs)) here later x (subst (λ l. IsGeneralOnset (runs_in l) x) (at_place runs i run w e) is))

none : (x : Onset) → IsGeneralOnset [] x → ⊥
none x (r, (k, w, e), on) = omega (arith, w)

pub left_end : (Q : Onset → Type 0) (runs : List kept.Run) (i : ℕ) → length runs ≤ i → Left Q runs i → (x : Onset) → IsGeneralOnset (runs_in runs) x → Q x
left_end Q runs i w left = left (λ x is. absurd (none x (subst (λ l. IsGeneralOnset (runs_in l) x) (drop_all i runs w) is)))

-- where it holds of the runs that are left, it holds of all
abbrev pub RunsLeft : (Run → Type 0) → List kept.Run → ℕ → Type 0
RunsLeft P runs i = ((r : Run) → Contains (runs_in (drop i runs)) r → P r) → (r : Run) → Contains (runs_in runs) r → P r

one_run_more : (P : Run → Type 0) (run : Run) (rest : List Run) → P run → ((r : Run) → Contains rest r → P r) → (r : Run) → Contains (run ∷ rest) r → P r
one_run_more P run rest here later r (zero, w, e) = subst P e here
one_run_more P run rest here later r (suc k, w, e) = later r (k, omega (arith, w), e)

pub runs_more : (P : Run → Type 0) (runs : List kept.Run) (i : ℕ) (run : kept.Run) → i < length runs → run ≡ get_or runs i run → P (run_of run) → RunsLeft P runs i → RunsLeft P runs (i + 1)
runs_more P runs i run w e here left later =
    left (λ r is. one_run_more P (run_of run) (runs_in (drop (i + 1) runs)) here later r (subst (λ l. Contains (runs_in l) r) (at_place runs i run w e) is))

no_run : (r : Run) → Contains [] r → ⊥
no_run r (k, w, e) = omega (arith, w)

pub runs_end : (P : Run → Type 0) (runs : List kept.Run) (i : ℕ) → length runs ≤ i → RunsLeft P runs i → (r : Run) → Contains (runs_in runs) r → P r
runs_end P runs i w left = left (λ r is. absurd (no_run r (subst (λ l. Contains (runs_in l) r) (drop_all i runs w) is)))

-- it is no rule that began before an instant and goes on without an end
abbrev pub EndsBy : ℤ → Run → Type 0
EndsBy to run = (first : Onset) → IsOnset run.observance first → first.instant ≤ℤ to → run.end ≡ Never → run.observance.rule ≡ None

-- it began later, or its rule ends
pub ends_late : (to first : ℤ) (run : Run) → IsFirstOf run.observance first → to <ℤ first → EndsBy to run
ends_late to first run is later onset on by end = absurd (omega (arith, signed_arith, later, by, is.least onset on))

pub ends_once : (to : ℤ) (run : Run) → (IsEndless run → ⊥) → EndsBy to run
ends_once to run ends onset on by end = without run.observance.rule (λ some. ends (end, some))
  where
    without : {X : Type 0} (rule : Option X) → ((rule ≡ None → ⊥) → ⊥) → rule ≡ None
    without None h = refl
    without (Some x) h = absurd (h (λ e. none-some x (sym e)))

pub all_end : (to : ℤ) (runs : List kept.Run) (i : ℕ) → length runs ≤ i → RunsLeft (EndsBy to) runs i → HasEnd (runs_in runs) to
all_end to runs i w left run first among = runs_end (EndsBy to) runs i w left run among first

-- the onsets of an observance after an instant and up to another are those of a zone
abbrev pub AreThere : List Run → Observance → ℤ → ℤ → Type 0
AreThere zone whole from reach = (x : Onset) → IsOnset whole x → from <ℤ x.instant → x.instant ≤ℤ reach → IsGeneralOnset zone x

pub there_more : (zone : List Run) (run : Run) (whole : Observance) (from reach to : ℤ) → Contains zone run
    → ((x : Onset) → IsOnset whole x → reach <ℤ x.instant → x.instant ≤ℤ to → IsRunOnset run x) → AreThere zone whole from reach → AreThere zone whole from to
there_more zone run whole from reach to in_zone more done x is later l =
    by_lt_z reach x.instant (λ lt. (run, in_zone, more x is lt l)) (λ ge. done x is later ge)

pub there_all : (zone : List Run) (run : Run) (whole : Observance) (from reach : ℤ) → Contains zone run
    → ((x : Onset) → IsOnset whole x → reach <ℤ x.instant → IsRunOnset run x) → AreThere zone whole from reach → (x : Onset) → IsOnset whole x → from <ℤ x.instant → IsGeneralOnset zone x
there_all zone run whole from reach in_zone more done x is later =
    by_lt_z reach x.instant (λ lt. (run, in_zone, more x is lt)) (λ ge. done x is later ge)
