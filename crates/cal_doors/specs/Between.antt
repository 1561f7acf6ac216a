-- What runs of onsets are up to an instant.
use Rattle.std.specs.Prelude.{◌≡◌, ◌↔◌, ℕ, ◌⊎◌, Bool, true, Contains, List, Option, Some, ℤ, pos, ◌+ℤ◌, ◌≤ℤ◌}
use Rattle.std.specs.Int.Signed.{◌<ℤ◌}
use Rattle.profile.specs.series.Zones.{Zone, Observance, Onset, IsOnset}
use Rattle.profile.specs.series.GeneralZones.{End, Run, IsInTime, IsRunOnset, IsGeneralOnset, IsSameFrom, IsSameBetween}
use Rattle.profile.specs.doors.Adapting.{tables_end, times_end, StatesAt, GoesOnAt, IsGoneOn, IsTableEnd, SetsBack}

-- an onset of a run has come
abbrev pub HasRunBegun : Run → ℤ → Type 0
HasRunBegun run instant = (onset : Onset) × IsRunOnset run onset × (onset.instant ≤ℤ instant)

-- an onset has come
abbrev pub HasOnsetBy : List Run → ℤ → Type 0
HasOnsetBy zone instant = (onset : Onset) × IsGeneralOnset zone onset × (onset.instant ≤ℤ instant)

-- up to an instant, an onset is in time for the one end where it is for the other
abbrev pub IsSameEndUpTo : ℤ → End → End → Type 0
IsSameEndUpTo to end other = (o : Observance) (day : ℕ) (x : ℤ) → x ≤ℤ to → IsInTime end o day x ↔ IsInTime other o day x

-- up to an instant a run has the onsets of another
abbrev pub IsSameRunUpTo : ℤ → Run → Run → Type 0
IsSameRunUpTo to run other = (onset : Onset) → onset.instant ≤ℤ to → IsRunOnset run onset ↔ IsRunOnset other onset

-- up to an instant the onsets of two zones are the same
abbrev pub AreSameUpTo : ℤ → List Run → List Run → Type 0
AreSameUpTo to zone other = (onset : Onset) → onset.instant ≤ℤ to → IsGeneralOnset zone onset ↔ IsGeneralOnset other onset

-- a zone does the same from an instant on, as long as local times go on that end by the last
abbrev pub LastsAsLong : List Run → Zone → ℤ → Option ℤ → Type 0
LastsAsLong zone other from last = (end : ℤ) × (last ≡ Some end) × IsSameBetween zone other from (end +ℤ pos 86_399)

-- it does up to the end of a table that reaches 2036, and always the same as the zone that goes on from there
pub record GoesOnFrom (zone : List Run) (other : Zone) (from to : ℤ) : Type 0 where
  pub same : IsSameBetween zone other from to
  pub longer : List Run
  pub gone_on : IsGoneOn zone to longer
  pub on : IsSameFrom longer other from
  pub sides : SetsBack other

-- a zone is chosen that goes on so
abbrev pub IsChosenBeyond : List Run → Zone → Bool → ℤ → Type 0
IsChosenBeyond zone other goes_on from = (to : ℤ) × (goes_on ≡ true) × IsTableEnd zone to × GoesOnFrom zone other from to

-- an onset of a run, or of its rule, where it goes on at an instant
abbrev pub IsOnsetOf : ℤ → Run → Onset → Type 0
IsOnsetOf to run onset = IsRunOnset run onset ⊎ (GoesOnAt to run × IsOnset run.observance onset)

-- ---- where a table ends

-- a run of these states something of that instant, which is before times in 32 bits end
pub record IsStatedIn (zone : List Run) (instant : ℤ) : Type 0 where
  pub run : Run
  pub among : Contains zone run
  pub states : StatesAt run instant
  pub before : instant <ℤ times_end

-- the later one of an instant and of the last before times in 32 bits end of which a run states something
pub record IsLaterStated (run : Run) (last new : ℤ) : Type 0 where
  pub later : last ≤ℤ new
  pub over : (instant : ℤ) → StatesAt run instant → instant <ℤ times_end → instant ≤ℤ new
  pub one : (new ≡ last) ⊎ (StatesAt run new × (new <ℤ times_end))

-- the last such instant of all runs, if they state something of 2036 or later
pub record IsLastOfAll (zone : List Run) (last : ℤ) : Type 0 where
  pub over : (instant : ℤ) → IsStatedIn zone instant → instant ≤ℤ last
  pub stated : tables_end ≤ℤ last → IsStatedIn zone last
