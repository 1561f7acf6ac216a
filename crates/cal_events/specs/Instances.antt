-- The instances of an event that are left to come, and how the first of them is found.
use Rattle.std.specs.Prelude.{◌≡◌, ◌⊎◌, ℕ, ◌<◌, true, Contains, List, [], Option, Some, None, MatchOption, int_lt, if◌then◌else◌, ℤ, ◌≤ℤ◌, ◌<ℤ◌}
use Rattle.profile.specs.checker.Instances.{horizon}
use Rattle.profile.specs.series.Days.{day_index}
use Rattle.profile.specs.series.Rules.{Rule, is_rule_day}
use Rattle.profile.specs.series.Zones.{Means, local_time}
use Rattle.profile.specs.events.Properties.{first_second}
use Rattle.profile.specs.events.ZonedTimes.{clock_of}
use Rattle.profile.specs.events.EventRules.{IsOnDay}
use Rattle.profile.specs.events.EventComponents as profile
use Rattle.profile.specs.events.Starts.{IsReplaced, IsStart}
use Rattle.cal_zones.specs.Kinds.{zone_of}
use Rattle.cal_zones.specs.declared.clock.Clock.{Clock}
use Rattle.cal_events.specs.Recurrence.{recurring}
use Rattle.cal_events.specs.declared.component.EventComponent.{EventComponent}
use Rattle.cal_events.specs.declared.recurrence.Recurrence.{Recurrence}
use Rattle.cal_events.specs.declared.rule_days.RuleDays.{RuleDays}
use Rattle.cal_events.specs.RuleDays.{AreDaysOf}
use Rattle.cal_events.specs.declared.instances.Bound.{Bound}
use Rattle.cal_events.specs.declared.instances.InstancePlace.{InstancePlace}

-- ---- what is left

-- of one start
abbrev pub IsPastSlot : Option ℤ → ℤ → Type 0
IsPastSlot None slot = Unit {0}
IsPastSlot (Some last) slot = last <ℤ slot

-- that start and slot are still to come
abbrev pub IsAfter : Bound → ℤ → ℤ → Type 0
IsAfter bound start slot = (bound.start <ℤ start) ⊎ ((bound.start ≡ start) × IsPastSlot bound.slot slot)

-- one place comes before another
abbrev pub IsBefore : InstancePlace → InstancePlace → Type 0
IsBefore a b = (a.start <ℤ b.start) ⊎ ((a.start ≡ b.start) × (a.slot <ℤ b.slot))

-- an instant that the master's rule or an RDATE gives is one of its starts, and is still to come
pub record IsWanted (master : profile.EventComponent) (overrides : List profile.EventComponent) (bound : Bound) (instant : ℤ) : Type 0 where
  pub after : IsAfter bound instant instant
  pub in_dates : (first_second ≤ℤ instant) × (instant <ℤ horizon)
  pub not_excepted : Contains master.exceptions instant → ⊥
  pub not_replaced : IsReplaced (Contains overrides) instant → ⊥

-- of a rule's days before that one none has such a start
abbrev pub NoneBefore : profile.EventComponent → List profile.EventComponent → Bound → ℕ → Type 0
NoneBefore master overrides bound day =
    (rule : Rule) → master.rule ≡ Some rule → (first second n : ℕ) → IsOnDay master.times.local first second → n < day
    → is_rule_day rule n ≡ true → (instant : ℤ) → Means (clock_of master.times.zone) (local_time n second) instant
    → IsWanted master overrides bound instant → ⊥

-- the day that was put back is the first that is to come, and means no other instant than that
abbrev pub IsDayKept : profile.EventComponent → RuleDays → Type 0
IsDayKept master days =
    (day : ℤ) → days.first ≡ Some day
    → (days.from ≡ day_index day)
    × ((first second : ℕ) (instant : ℤ) → IsOnDay master.times.local first second → Means (clock_of master.times.zone) (local_time (day_index day) second) instant → instant ≡ days.start)

-- on no day of the rule other than those that are to come is a start that is wanted
pub record AreWalked (master : profile.EventComponent) (overrides : List profile.EventComponent) (bound : Bound) (days : RuleDays) : Type 0 where
  pub listed : (rule : Rule) → master.rule ≡ Some rule → AreDaysOf rule days
  pub none : NoneBefore master overrides bound days.from
  pub kept : IsDayKept master days

-- what held of the one holds of the other
abbrev pub StayWalked : Bound → RuleDays → RuleDays → Type 0
StayWalked bound old new = (master : profile.EventComponent) (overrides : List profile.EventComponent) → AreWalked master overrides bound old → AreWalked master overrides bound new

-- the least instant for which it holds, if there is one
abbrev pub IsLeast : (ℤ → Type 0) → Option ℤ → Type 0
IsLeast P found = MatchOption found ((t : ℤ) → P t → ⊥) (λ t. P t × ((u : ℤ) → P u → t ≤ℤ u))

-- the lesser of two instants, where there are any
abbrev pub lesser : Option ℤ → Option ℤ → Option ℤ
lesser None b = b
lesser (Some x) None = Some x
lesser (Some x) (Some y) = if int_lt y x then Some y else Some x

-- ---- overrides

-- the override is at that place
abbrev pub IsAtPlace : EventComponent → InstancePlace → Type 0
IsAtPlace o place = (o.recurrence ≡ Some place.slot) × (o.times.instant ≡ place.start)

-- it is, and that place is still to come
abbrev pub IsMovedTo : EventComponent → Bound → InstancePlace → Type 0
IsMovedTo o bound place = IsAtPlace o place × IsAfter bound place.start place.slot

-- the place for which it holds and that comes before all others for which it does, if there is one
abbrev pub IsSoonest : (InstancePlace → Type 0) → Option InstancePlace → Type 0
IsSoonest P found = MatchOption found ((p : InstancePlace) → P p → ⊥) (λ p. P p × ((q : InstancePlace) → P q → IsBefore q p → ⊥))

-- the one of two that comes first, where there are any
abbrev pub IsSooner : Option InstancePlace → Option InstancePlace → Option InstancePlace → Type 0
IsSooner None b r = r ≡ b
IsSooner (Some x) None r = r ≡ Some x
IsSooner (Some x) (Some y) r = ((r ≡ Some x) × (IsBefore y x → ⊥)) ⊎ ((r ≡ Some y) × IsBefore y x)

-- ---- both

-- on no other day of the rule is a start to come
abbrev pub HasPassed : Option Recurrence → Bound → RuleDays → Type 0
HasPassed recurrence bound days = (r : Recurrence) → recurrence ≡ Some r → AreWalked (recurring r) [] bound days

-- what a local time means on the clocks of DTSTART's zone is what it means on these
abbrev pub IsOfClock : profile.EventComponent → Clock → Type 0
IsOfClock event clock = (local t u : ℤ) → Means (zone_of clock.zone) local t → Means (clock_of event.times.zone) local u → u ≡ t

abbrev pub HasClock : Option Recurrence → Clock → Type 0
HasClock recurrence clock = (r : Recurrence) → recurrence ≡ Some r → IsOfClock (recurring r) clock

-- the place of the instance at a start
abbrev pub own_place : ℤ → InstancePlace
own_place start = record { start = start; slot = start }

-- at that place is a start, or an override
abbrev pub IsHeldAt : Option Recurrence → List EventComponent → InstancePlace → Type 0
IsHeldAt recurrence overrides place =
    ((r : Recurrence) × (recurrence ≡ Some r) × (place ≡ own_place place.start) × IsStart (recurring r) [] place.start)
    ⊎ ((o : EventComponent) × Contains overrides o × IsAtPlace o place)

-- and it is to come
abbrev pub IsHeld : Option Recurrence → List EventComponent → Bound → InstancePlace → Type 0
IsHeld recurrence overrides bound place = IsHeldAt recurrence overrides place × IsAfter bound place.start place.slot
