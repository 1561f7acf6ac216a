-- Where a run of onsets ends, and the rule that it has.
use Rattle.std.specs.Prelude.{◌≡◌, ℕ, ◌*◌, ◌⊎◌, Option, Some, None, ℤ, pos, negsuc, ◌+ℤ◌, ◌≤ℤ◌}
use Rattle.profile.specs.series.Rules.{Pattern}
use Rattle.profile.specs.series.Zones.{Observance}
use Rattle.profile.specs.series.GeneralZones.{End, Never, AfterCount, AtInstant, IsInTime}
use Rattle.cal_zones.specs.Shapes.{yearly_pattern}
use Rattle.cal_doors.specs.declared.end.YearDay.{YearDay}
use Rattle.cal_doors.specs.declared.end.End as rust
use Rattle.cal_doors.specs.declared.end.End.TheVariants as the

-- the rule of a day of the year, from a DTSTART on
abbrev pub rule_on : ℕ → Option YearDay → Option Pattern
rule_on day None = None
rule_on day (Some each) = Some (yearly_pattern each.month each.days day)

-- an instant of the calendar's years, or a day from them
abbrev pub IsNearInstant : ℤ → Type 0
IsNearInstant until = (negsuc 62_135_683_199 ≤ℤ until) × (until ≤ℤ pos 253_402_387_199)

-- UNTIL says such a one
abbrev pub IsNearEnd : rust.End → Type 0
IsNearEnd the.Never = Unit {0}
IsNearEnd (the.After count) = Unit {0}
IsNearEnd (the.At until) = IsNearInstant until

abbrev pub end_of : rust.End → End
end_of the.Never = Never
end_of (the.After count) = AfterCount count
end_of (the.At until) = AtInstant until

-- an onset up to an instant that is in time is up to the bound
abbrev pub IsBound : End → ℤ → ℤ → Type 0
IsBound end instant bound = (o : Observance) (day : ℕ) (x : ℤ) → x ≤ℤ instant → IsInTime end o day x → x ≤ℤ bound

-- so many whole days are between two local times
abbrev pub AreDaysApart : ℤ → ℤ → Type 0
AreDaysApart one other = (days : ℕ) × ((one ≡ other +ℤ pos (86_400 * days)) ⊎ (other ≡ one +ℤ pos (86_400 * days)))

-- both rules are there, and name the same day
abbrev pub AreSameDays : Option YearDay → Option YearDay → Type 0
AreSameDays None other = ⊥
AreSameDays (Some one) None = ⊥
AreSameDays (Some one) (Some other) = (one.month ≡ other.month) × (one.days ≡ other.days)
