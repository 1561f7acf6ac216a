-- The UID of what a calendar is refused for: of the VEVENT that has the fault, or of the two that can't stand side by side.
use Rattle.std.specs.Prelude.{ℕ, List, filter, Contains, None, Some}
use Rattle.std.specs.Str.{bytes_eq}
use Rattle.profile.specs.text.Trees.{Tree, vevents}
use Rattle.profile.specs.events.EventComponents.{EventComponent, EventComponentFault, SaysAs, UID}
use Rattle.profile.specs.events.Properties.{IsUidLine}
use Rattle.profile.specs.events.Confirmed.{MastersDiffer, OverridesDiffer}
use Rattle.profile.specs.checker.Calendars.{IsCalendarText, SayEvents}

-- the lines of a VEVENT say this UID, and have the fault of this number
pub record HasFaultWith (object : Tree) (uid : List ℕ) (n : ℕ) (lines : List (List ℕ)) : Type 0 where
  pub says : SaysAs None UID IsUidLine lines (Some uid)
  pub fault : EventComponentFault object None lines n

-- the events of this UID
abbrev pub of_uid : List ℕ → List EventComponent → List EventComponent
of_uid uid events = filter (λ event. bytes_eq event.uid uid) events

-- a VEVENT of the object that says this UID has the fault of this number; or two events of this UID are masters of one meeting, or overrides for
-- one instance of it
pub data IsBlamedIn (object : Tree) (uid : List ℕ) : ℕ → Type 0 where
  for_event : {n : ℕ} → (lines : List (List ℕ)) → Contains (vevents object) lines → HasFaultWith object uid n lines → IsBlamedIn object uid n
  for_masters : (events : List EventComponent) → SayEvents object events → (MastersDiffer (of_uid uid events) → ⊥) → IsBlamedIn object uid 53
  for_overrides : (events : List EventComponent) → SayEvents object events → (OverridesDiffer (of_uid uid events) → ⊥) → IsBlamedIn object uid 54

-- this UID is one that the calendar which the octets are is refused for, with this number
pub record IsBlamed (octets : List ℕ) (n : ℕ) (uid : List ℕ) : Type 0 where
  pub object : Tree
  pub is : IsCalendarText object octets
  pub blamed : IsBlamedIn object uid n
