-- A series while it is made: its master by its rule alone, and the instants that overrides of its meeting replace.
use Rattle.std.specs.Prelude.{◌≡◌, ◌↔◌, ◌⊎◌, Bool, true, ℕ, Contains, List, Option, Some, is_some, length, ℤ}
use Rattle.std.specs.Ordering.{ordering_then, nat_cmp, is_lt, is_eq}
use Rattle.std.specs.Cmp.Lexicographic.{slice_cmp}
use Rattle.std.specs.declared.cmp.Ordering.{Ordering}
use Rattle.profile.specs.checker.Instances.{Key}
use Rattle.profile.specs.events.EventComponents.{EventComponent as Said, meeting_said}
use Rattle.profile.specs.events.Events.{Event as Whole}
use Rattle.profile.specs.events.Confirmed.{IsByItsRule}
use Rattle.cal_events.specs.Calendar.{MeetingName, key_in}
use Rattle.profile.specs.series.Rules.{Rule}
use Rattle.cal_events.specs.Times.{times_of}
use Rattle.cal_events.specs.declared.event_times.EventTimes.{EventTimes}
use Rattle.cal_events.specs.declared.event.Event.{Event}
use Rattle.cal_events.specs.declared.instance.InstanceKey.{InstanceKey}
use Rattle.cal_events.specs.declared.recurrence.Recurrence.{Recurrence}

-- an event that recurs by a rule alone: nothing is added to it, and it has no override
abbrev pub IsRuled : Event → Type 0
IsRuled event =
    (is_some event.recurrence ≡ true)
    × (((r : Recurrence) → event.recurrence ≡ Some r → (is_some r.rule ≡ true) × (length r.additions ≡ 0))
    × (length event.overrides.items ≡ 0))

-- a master of that organiser and UID starts and lasts so, by that rule
pub record IsOfRule (organiser : Option (List ℕ)) (uid : List ℕ) (times : EventTimes) (rule : Option Rule) (master : Said) : Type 0 where
  pub organiser_is : master.organiser ≡ organiser
  pub uid_is : master.uid ≡ uid
  pub times_are : master.times ≡ times_of times
  pub rule_is : master.rule ≡ rule

-- a series without its instances of which this holds
abbrev pub IsLeftOf : Said → (ℤ → Type 0) → Whole → Type 0
IsLeftOf master excepted = IsByItsRule master (λ t. Contains master.exceptions t ⊎ excepted t)

-- ---- the keys of one meeting

-- meetings are in order by organiser and UID as octets
abbrev pub meeting_name_cmp : MeetingName → MeetingName → Ordering
meeting_name_cmp a b = ordering_then (slice_cmp nat_cmp a.0 b.0) (slice_cmp nat_cmp a.1 b.1)

-- the meeting of a key beside another
abbrev pub cmp_to : MeetingName → InstanceKey → Ordering
cmp_to m key = meeting_name_cmp (key.organiser.now, key.uid.now) m

abbrev pub is_before : MeetingName → InstanceKey → Bool
is_before m key = is_lt (cmp_to m key)

abbrev pub is_key_of : MeetingName → InstanceKey → Bool
is_key_of m key = is_eq (cmp_to m key)

-- ---- what overrides replace

-- the slots of those of these keys that are of a meeting
abbrev pub AreSlotsOf : List Key → MeetingName → List ℤ → Type 0
AreSlotsOf keys m slots = (t : ℤ) → Contains slots t ↔ Contains keys (key_in m t)

-- the meeting is that of a master by its rule alone, where overrides replace the instances of these keys
abbrev pub IsRuledBeside : List Key → Said → Whole → Type 0
IsRuledBeside keys master = IsLeftOf master (λ t. Contains keys (key_in (meeting_said master) t))
