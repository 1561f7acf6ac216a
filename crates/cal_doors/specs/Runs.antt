-- What runs of onsets represent, and what is found of them.
use Rattle.std.specs.Prelude.{◌≡◌, ℕ, ◌<◌, ◌≤◌, true, Option, Some, None, List, map, ℤ, ◌≤ℤ◌, MatchOption}
use Rattle.std.specs.Int.Signed.{◌<ℤ◌}
use Rattle.profile.specs.series.Zones.{Observance, Onset, IsOnset, begins_on, local_time}
use Rattle.profile.specs.series.GeneralZones.{End, Never, Run, IsRunOnset}
use Rattle.profile.specs.doors.Adapting.{StatesAt}
use Rattle.cal_zones.specs.Onsets.{observance_of}
use Rattle.cal_zones.specs.Shapes.{yearly_pattern}
use Rattle.cal_doors.specs.Ends.{end_of}
use Rattle.cal_doors.specs.declared.end.YearDay.{YearDay}
use Rattle.cal_doors.specs.declared.run.Run as kept

abbrev pub run_of : kept.Run → Run
run_of run = record { observance = observance_of run.observance; end = end_of run.end }

abbrev pub runs_in : List kept.Run → List Run
runs_in runs = map run_of runs

-- the run of one day a year, from a DTSTART on and up to an end
pub record IsYearlyRun (start : ℤ) (each : YearDay) (from to : ℤ) (end : End) (run : Run) : Type 0 where
  pub start_there : local_time run.observance.day run.observance.second ≡ start
  pub second : run.observance.second < 86_400
  pub rule : run.observance.rule ≡ Some (yearly_pattern each.month each.days run.observance.day)
  pub before : run.observance.offset_from ≡ from
  pub after : run.observance.offset_to ≡ to
  pub end_there : run.end ≡ end

-- no onset of the run that is up to an instant is later than the bound; without a bound there is none
abbrev pub AreUpTo : Run → ℤ → Option ℤ → Type 0
AreUpTo run instant bound =
    MatchOption bound ((x : Onset) → IsRunOnset run x → instant <ℤ x.instant) (λ b. (x : Onset) → IsRunOnset run x → x.instant ≤ℤ instant → x.instant ≤ℤ b)

-- it begins on the days of another that aren't before its DTSTART, at the same second and with the same offsets
pub record IsAlike (o other : Observance) : Type 0 where
  pub second : o.second ≡ other.second
  pub before : o.offset_from ≡ other.offset_from
  pub after : o.offset_to ≡ other.offset_to
  pub days : (day : ℕ) → o.day ≤ day → begins_on other day ≡ true → begins_on o day ≡ true

-- after an instant and up to this one the onsets of an observance are a run's; or all after it are
abbrev pub ReachTo : Run → Observance → ℤ → Option ℤ → Type 0
ReachTo run whole from reach =
    MatchOption reach ((x : Onset) → IsOnset whole x → from <ℤ x.instant → IsRunOnset run x)
    (λ to. (x : Onset) → IsOnset whole x → from <ℤ x.instant → x.instant ≤ℤ to → IsRunOnset run x)

-- it states nothing up to an instant
abbrev pub StatesNothingBy : Run → ℤ → Type 0
StatesNothingBy run instant = (other : ℤ) → StatesAt run other → instant <ℤ other

-- the last instant up to another of which it states something
pub record IsLastStated (run : Run) (instant last : ℤ) : Type 0 where
  pub states : StatesAt run last
  pub by_then : last ≤ℤ instant
  pub latest : (other : ℤ) → StatesAt run other → other ≤ℤ instant → other ≤ℤ last

-- an onset of an observance comes after an instant and up to another
pub record HasOnsetIn (o : Observance) (after until : ℤ) : Type 0 where
  pub onset : Onset
  pub is : IsOnset o onset
  pub later : after <ℤ onset.instant
  pub up_to : onset.instant ≤ℤ until

-- it has a rule that never ends
abbrev pub IsEndless : Run → Type 0
IsEndless run = (run.end ≡ Never) × (run.observance.rule ≡ None → ⊥)
