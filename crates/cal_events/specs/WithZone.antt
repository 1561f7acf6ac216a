-- The line that names the zone of a calendar's room, where it has none.
use Rattle.std.specs.Prelude.{◌≡◌, ℕ, true, List, [], codes}
use Rattle.profile.specs.faults.Faults.{is_object_fault}
use Rattle.profile.specs.text.Trees.{Tree, tree_own}
use Rattle.profile.specs.events.Properties.{lines_named, SomeLine}
use Rattle.profile.specs.checker.Calendars.{IsCalendarText, CalendarTextFault}

-- the VCALENDAR that the octets are has no line that names the zone of its room
abbrev pub NamesNoZone : List ℕ → Type 0
NamesNoZone octets = (tree : Tree) → IsCalendarText tree octets → lines_named (codes "X-ROOM-ZONE") (tree_own tree) ≡ []

-- own lines of a VCALENDAR have one
abbrev pub HasZoneLine : List (List ℕ) → Type 0
HasZoneLine own = SomeLine (codes "X-ROOM-ZONE") (λ _. Unit {0}) own

-- the octets have the fault of this number, as a calendar that is to get such a line: that of an object, or it has one already
pub data WithZoneFault (octets : List ℕ) : ℕ → Type 0 where
  in_object : {n : ℕ} → is_object_fault n ≡ true → CalendarTextFault octets n → WithZoneFault octets n
  is_named : (tree : Tree) → IsCalendarText tree octets → HasZoneLine (tree_own tree) → WithZoneFault octets 44
