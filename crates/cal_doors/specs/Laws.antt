-- What an object that was made readable says of its times.
use Rattle.std.specs.Prelude.{◌≡◌, ◌↔◌, ℕ, ◌+◌, ◌*◌, ◌≤◌, ◌⊎◌, Contains, List, codes, Option, Some, ℤ, pos, ◌+ℤ◌, ◌≤ℤ◌}
use Rattle.profile.specs.text.Trees.{Tree}
use Rattle.profile.specs.series.Zones.{Zone, IsOffsetAt, Means, Shows, local_time, ShowsBy}
use Rattle.profile.specs.series.ZoneTexts.{SaysZone}
use Rattle.profile.specs.series.GeneralZones.{Run, IsGeneralOffsetAt, MeansGenerally}
use Rattle.profile.specs.series.GeneralZoneTexts.{SaysGeneralZone}
use Rattle.profile.specs.events.Properties.{Length, LastsFor, lines_named}
use Rattle.profile.specs.events.EventRules.{IsOnDay}
use Rattle.profile.specs.events.ZonedTimes.{zone_named}
use Rattle.profile.specs.doors.Uses.{IsLineIn, SaysLocal}
use Rattle.profile.specs.doors.Adapting.{IsMeant, IsTableEnd, IsGoneOn}
use Rattle.profile.specs.doors.OnClocks.{IsDaysLaterOn, MayStart, SaysSameAs}

-- what the name means at the door says these runs, and so they are
pub record MeansRuns (listed : Option Tree) (before : Tree) (name : List ℕ) (AreSo : List Run → Type 0) : Type 0 where
  pub meant : Tree
  pub is_meant : IsMeant listed before name meant
  pub runs : List Run
  pub says : SaysGeneralZone meant runs
  pub so : AreSo runs

-- afterwards the name means a VTIMEZONE that a room reads: the one before, or one that is so beside the runs that the name means at the door
pub record IsMeantAfter (listed : Option Tree) (before after : Tree) (name : List ℕ) (AreSo : List Run → Zone → Type 0) : Type 0 where
  pub part : Tree
  pub there : zone_named name after ≡ Some part
  pub zone : Zone
  pub says : SaysZone part zone
  pub same : (zone_named name before ≡ Some part) ⊎ MeansRuns listed before name (λ runs. AreSo runs zone)

-- a VEVENT, which is these lines, says the same as before by its times in the zone of this name
abbrev pub SaysTheSame : Option Tree → Tree → Tree → List ℕ → List (List ℕ) → Type 0
SaysTheSame listed before after name lines = IsMeantAfter listed before after name (λ runs zone. SaysSameAs runs zone name lines)

-- it does up to the end of a table that reaches 2036, and always as the zone that goes on says it: each local time that it names means the same, and where
-- DTSTART is one of them, so does that second of each day from it on, the starts by a rule among these, and nominal days from a start on end at the same
-- instant. By local times all this is a day earlier than that end
pub record SaysSameUpTo (runs : List Run) (zone : Zone) (name : List ℕ) (lines : List (List ℕ)) : Type 0 where
  pub to : ℤ
  pub table_end : IsTableEnd runs to
  pub times : (line : List ℕ) (local t : ℤ) → IsLineIn name lines line → SaysLocal line local → (local +ℤ pos 86_399) ≤ℤ to
      → MeansGenerally runs local t ↔ Means zone local t
  pub starts : (start : List ℕ) (local : ℤ) (first second day : ℕ) (t : ℤ) → Contains (lines_named (codes "DTSTART") lines) start → IsLineIn name lines start
      → SaysLocal start local → IsOnDay local first second → first ≤ day → (local_time day second +ℤ pos 86_399) ≤ℤ to
      → MeansGenerally runs (local_time day second) t ↔ Means zone (local_time day second) t
  pub ends : (start line : List ℕ) (local : ℤ) (length : Length) (t end : ℤ) → Contains (lines_named (codes "DTSTART") lines) start → IsLineIn name lines start
      → SaysLocal start local → Contains (lines_named (codes "DURATION") lines) line → LastsFor line length → MayStart (Means zone) lines local t
      → (t +ℤ pos (86_400 * length.days + 172_798)) ≤ℤ to
      → IsDaysLaterOn (MeansGenerally runs) (ShowsBy (IsGeneralOffsetAt runs)) length.days t end ↔ IsDaysLaterOn (Means zone) (Shows zone) length.days t end
  pub longer : List Run
  pub gone_on : IsGoneOn runs to longer
  pub on : SaysSameAs longer zone name lines

-- two zones have the same offset in force from an instant on, and each local time means the same that no clock shows before it
pub record AgreeFrom (one other : Zone) (from : ℤ) : Type 0 where
  pub offset : (instant offset : ℤ) → from ≤ℤ instant → IsOffsetAt one instant offset ↔ IsOffsetAt other instant offset
  pub meaning : (local t : ℤ) → (from +ℤ pos 86_399) ≤ℤ local → Means one local t ↔ Means other local t

-- it says the same up to there
abbrev pub SaysTheSameUpTo : Option Tree → Tree → Tree → List ℕ → List (List ℕ) → Type 0
SaysTheSameUpTo listed before after name lines = IsMeantAfter listed before after name (λ runs zone. SaysSameUpTo runs zone name lines)
