-- Zones in general: a VTIMEZONE with any number of observances, which begin by DTSTART, by RDATE, by yearly rules that may end and on the listed
-- days of rules of any form that UNTIL ends (RFC 5545 3.6.5). The offset in force and what a local time means are those of Zones.antt, which are said there of any onsets.
use Rattle.std.specs.Prelude.{ℕ, ◌+◌, ◌-◌, ◌≤◌, Contains, List, [], ◌∷◌, ℤ, pos, ◌+ℤ◌, ◌≤ℤ◌}
use Rattle.profile.specs.series.Rules.{count_days}
use Rattle.profile.specs.series.Zones.{Observance, Zone, Constant, Single, Pair, Onset, IsOnset, begins_on, InForce, IsOffsetAt, Means, MeansBy}

-- WHAT IS WRITTEN

-- where the onsets of a rule end: never, after so many of them, or with the last one up to an instant (RFC 5545 3.3.10, COUNT and UNTIL)
pub data End : Type 0 where
  Never : End
  AfterCount : ℕ → End
  AtInstant : ℤ → End

-- a run of onsets: those of an observance, up to an end. A zone in general is a list of runs: STANDARD or DAYLIGHT is the run of its
-- DTSTART or of its RRULE, or one for each day of a rule of another form, and one more for each local time of its RDATEs
pub record Run : Type 0 where
  pub observance : Observance
  pub end : End

-- ONSETS

-- the onset on that day, at that instant, isn't past the end. COUNT counts from the first onset of the rule on
abbrev pub IsInTime : End → Observance → ℕ → ℤ → Type 0
IsInTime Never o day instant = Unit {0}
IsInTime (AfterCount count) o day instant = count_days (begins_on o) o.day (day + 1 - o.day) ≤ count
IsInTime (AtInstant until) o day instant = instant ≤ℤ until

-- an onset of a run
pub record IsRunOnset (run : Run) (onset : Onset) : Type 0 where
  pub is : IsOnset run.observance onset
  pub in_time : IsInTime run.end run.observance is.day onset.instant

-- the onsets of a zone are those of its runs
abbrev pub IsGeneralOnset : List Run → Onset → Type 0
IsGeneralOnset zone onset = (run : Run) × Contains zone run × IsRunOnset run onset

-- the offset of a zone at an instant: of the latest onset, and before every onset what the first one ends (RFC 5545 3.6.5)
abbrev pub IsGeneralOffsetAt : List Run → ℤ → ℤ → Type 0
IsGeneralOffsetAt zone instant offset = InForce (IsGeneralOnset zone) instant offset

-- WHAT A LOCAL TIME MEANS

-- what it means in a zone in general
abbrev pub MeansGenerally : List Run → ℤ → ℤ → Type 0
MeansGenerally zone local instant = MeansBy (IsGeneralOffsetAt zone) (IsGeneralOnset zone) local instant

-- THE ZONES OF ONE OBSERVANCE OR TWO

-- the runs that they are
abbrev pub runs_of : Zone → List Run
runs_of (Constant _) = []
runs_of (Single a) = record { observance = a; end = Never } ∷ []
runs_of (Pair a b) = record { observance = a; end = Never } ∷ record { observance = b; end = Never } ∷ []

-- such a zone does the same as a zone in general from an instant on: the same offset is in force at each instant, and each local time that no
-- clock shows before it means the same. No offset is a day or more
pub record IsSameFrom (zone : List Run) (other : Zone) (from : ℤ) : Type 0 where
  pub offset_there : (instant offset : ℤ) → from ≤ℤ instant → IsGeneralOffsetAt zone instant offset → IsOffsetAt other instant offset
  pub offset_back : (instant offset : ℤ) → from ≤ℤ instant → IsOffsetAt other instant offset → IsGeneralOffsetAt zone instant offset
  pub means_there : (local t : ℤ) → (from +ℤ pos 86_399) ≤ℤ local → MeansGenerally zone local t → Means other local t
  pub means_back : (local t : ℤ) → (from +ℤ pos 86_399) ≤ℤ local → Means other local t → MeansGenerally zone local t

-- it does the same as a zone in general from one instant to another: the same offset is in force at each instant between, and each local time
-- means the same that is shown neither before the one nor after the other
pub record IsSameBetween (zone : List Run) (other : Zone) (from to : ℤ) : Type 0 where
  pub offset_there : (instant offset : ℤ) → from ≤ℤ instant → instant ≤ℤ to → IsGeneralOffsetAt zone instant offset → IsOffsetAt other instant offset
  pub offset_back : (instant offset : ℤ) → from ≤ℤ instant → instant ≤ℤ to → IsOffsetAt other instant offset → IsGeneralOffsetAt zone instant offset
  pub means_there : (local t : ℤ) → (from +ℤ pos 86_399) ≤ℤ local → (local +ℤ pos 86_399) ≤ℤ to → MeansGenerally zone local t → Means other local t
  pub means_back : (local t : ℤ) → (from +ℤ pos 86_399) ≤ℤ local → (local +ℤ pos 86_399) ≤ℤ to → Means other local t → MeansGenerally zone local t
