-- An object made readable for a room: VTIMEZONEs that say more than a room reads give way to some that do the same at each time that the
-- object names there (RFC 5545 3.6.5). All other lines stay as they are.
use Rattle.std.specs.Prelude.{◌≡◌, ◌↔◌, ℕ, ◌⊎◌, Bool, true, false, not, List, [], filter, codes, Option, Some, None, Contains, ℤ, pos, ◌+ℤ◌, ◌-ℤ◌, ◌≤ℤ◌}
use Rattle.std.specs.Int.Signed.{◌<ℤ◌}
use Rattle.std.specs.List.{list_any}
use Rattle.std.specs.Str.{bytes_eq}
use Rattle.profile.specs.text.Lines.{logical_lines, reads_as_lines, is_same_name}
use Rattle.profile.specs.text.Objects.{IsObject}
use Rattle.profile.specs.text.Trees.{Tree, tree_name, tree_own, tree_inside}
use Rattle.profile.specs.series.Zones.{Zone, Constant, Single, Pair, Onset, IsOnset}
use Rattle.profile.specs.series.ZoneTexts.{SaysZone, is_part, parts_by}
use Rattle.profile.specs.series.GeneralZones.{End, Never, AfterCount, AtInstant, Run, IsRunOnset, IsGeneralOnset, IsSameFrom, IsSameBetween}
use Rattle.profile.specs.series.GeneralZoneTexts.{SaysGeneralZone}
use Rattle.profile.specs.events.ZonedTimes.{zone_named, SaysZoneOf}
use Rattle.profile.specs.doors.Uses.{NamesZone, BeginsBy, EndsBy}

-- ---- where a zone comes from

-- there is no such VTIMEZONE, or it has neither STANDARD nor DAYLIGHT
abbrev pub SaysNothing : Option Tree → Type 0
SaysNothing None = Unit {0}
SaysNothing (Some zone) = parts_by is_part zone ≡ []

-- the VTIMEZONE of that name in a list of VTIMEZONEs, which is an object of them, if there is a list
abbrev pub IsListedZone : Option Tree → List ℕ → Tree → Type 0
IsListedZone None name zone = ⊥
IsListedZone (Some zones) name zone = zone_named name zones ≡ Some zone

-- what a name means at the door: the VTIMEZONE of the object, or that of the list where it says nothing
abbrev pub IsMeant : Option Tree → Tree → List ℕ → Tree → Type 0
IsMeant listed object name zone =
    ((zone_named name object ≡ Some zone) × (SaysNothing (Some zone) → ⊥)) ⊎ (SaysNothing (zone_named name object) × IsListedZone listed name zone)

-- ---- what takes its place

-- 2036-01-01T00:00:00Z: programs write their zones up to some year not before this; this profile's choice
abbrev pub tables_end : ℤ
tables_end = pos 2_082_758_400

-- 2038-01-19T03:14:07Z, the last second of times in 32 bits. Where a table ends there, what it says from then on is made up
abbrev pub times_end : ℤ
times_end = pos 2_147_483_647

-- UNTIL allows an onset at that instant
abbrev pub UntilAllows : End → ℤ → Type 0
UntilAllows Never instant = Unit {0}
UntilAllows (AfterCount count) instant = Unit {0}
UntilAllows (AtInstant until) instant = instant ≤ℤ until

-- a run states something of an instant: an onset of its rule then, which UNTIL allows, or UNTIL itself (RFC 5545 3.3.10). COUNT is left aside here
pub data StatesAt (run : Run) (instant : ℤ) : Type 0 where
  by_onset : (onset : Onset) → IsOnset run.observance onset → onset.instant ≡ instant → UntilAllows run.end instant → StatesAt run instant
  by_until : run.end ≡ AtInstant instant → StatesAt run instant

-- it states something of 2036 or later, before times in 32 bits end, and its onsets aren't counted
pub record IsStatedLate (run : Run) : Type 0 where
  pub not_counted : (count : ℕ) → run.end ≡ AfterCount count → ⊥
  pub instant : ℤ
  pub states : StatesAt run instant
  pub late : tables_end ≤ℤ instant
  pub before : instant <ℤ times_end

-- a run of a zone does
abbrev pub ReachesTablesEnd : List Run → Type 0
ReachesTablesEnd zone = (run : Run) × Contains zone run × IsStatedLate run

-- the table of a zone reaches 2036, and ends at this instant: the last before times in 32 bits end of which a run states something
pub record IsTableEnd (zone : List Run) (to : ℤ) : Type 0 where
  pub reaches : ReachesTablesEnd zone
  pub run : Run
  pub among : Contains zone run
  pub states : StatesAt run to
  pub before : to <ℤ times_end
  pub last : (other : Run) (instant : ℤ) → Contains zone other → StatesAt other instant → instant <ℤ times_end → instant ≤ℤ to

-- a run goes on where a table ends: up to there UNTIL leaves out no onset of its rule
pub record GoesOnAt (to : ℤ) (run : Run) : Type 0 where
  pub until : ℤ
  pub ends : run.end ≡ AtInstant until
  pub none_left_out : (onset : Onset) → IsOnset run.observance onset → onset.instant ≤ℤ to → onset.instant ≤ℤ until

-- an onset of a run that began before the table ends: its own, or any of its rule, where it goes on
pub record IsRunOnsetBeyond (to : ℤ) (run : Run) (onset : Onset) : Type 0 where
  pub first : Onset
  pub begins : IsOnset run.observance first
  pub by_end : first.instant ≤ℤ to
  pub is : IsRunOnset run onset ⊎ (GoesOnAt to run × IsOnset run.observance onset)

-- the onsets of a zone that goes on by its last rules where its table ends
abbrev pub IsOnsetBeyond : List Run → ℤ → Onset → Type 0
IsOnsetBeyond zone to onset = (run : Run) × Contains zone run × IsRunOnsetBeyond to run onset

-- these runs are the zone that goes on
abbrev pub IsGoneOn : List Run → ℤ → List Run → Type 0
IsGoneOn zone to longer = (onset : Onset) → IsGeneralOnset longer onset ↔ IsOnsetBeyond zone to onset

-- no rule that began before this instant goes on without an end
abbrev pub HasEnd : List Run → ℤ → Type 0
HasEnd zone to = (run : Run) (first : Onset) → Contains zone run → IsOnset run.observance first → first.instant ≤ℤ to → run.end ≡ Never → run.observance.rule ≡ None

-- its table ends in 2036 or later, and local times don't that end by the last, if they end
pub record EndsBefore (zone : List Run) (last : Option ℤ) : Type 0 where
  pub endless : last ≡ None
  pub to : ℤ
  pub table_end : IsTableEnd zone to
  pub has_end : HasEnd zone to

-- a zone does the same as one in general for local times from the first on, which end by the last, if they end: always, but not where the table ends and
-- the times don't, or as long as they do. Or its table ends in 2036 or later: then it does the same up to there, and always the same as the zone that
-- goes on. That it goes on by the same rules is this profile's choice: the tables of the programs end there, their zones don't
pub data IsSameFor (zone : List Run) (other : Zone) (goes_on : Bool) (first : ℤ) (last : Option ℤ) : Type 0 where
  always : goes_on ≡ false → (EndsBefore zone last → ⊥) → IsSameFrom zone other (first -ℤ pos 86_399) → IsSameFor zone other goes_on first last
  as_long : (end : ℤ) → goes_on ≡ false → last ≡ Some end → IsSameBetween zone other (first -ℤ pos 86_399) (end +ℤ pos 86_399)
      → IsSameFor zone other goes_on first last
  beyond : (to : ℤ) (longer : List Run) → goes_on ≡ true → IsTableEnd zone to → IsSameBetween zone other (first -ℤ pos 86_399) to
      → IsGoneOn zone to longer → IsSameFrom longer other (first -ℤ pos 86_399) → IsSameFor zone other goes_on first last

-- of two observances STANDARD is the one that sets the clocks back
abbrev pub SetsBack : Zone → Type 0
SetsBack (Constant _) = Unit {0}
SetsBack (Single _) = Unit {0}
SetsBack (Pair standard daylight) = standard.offset_to <ℤ standard.offset_from

-- the zone does the same as what the name means at the door, for each time that the object names there, and for each that follows from these
pub record TakesPlace (listed : Option Tree) (object : Tree) (name : List ℕ) (goes_on : Bool) (other : Zone) : Type 0 where
  pub meant : Tree
  pub is_meant : IsMeant listed object name meant
  pub zone : List Run
  pub says : SaysGeneralZone meant zone
  pub first : ℤ
  pub from_first : BeginsBy object name first
  pub last : Option ℤ
  pub to_last : (end : ℤ) → last ≡ Some end → EndsBy object name end
  pub same : IsSameFor zone other goes_on first last
  pub sides : SetsBack other

-- no room reads what the name means in the object
abbrev pub IsZoneUnread : Tree → List ℕ → Type 0
IsZoneUnread object name = (zone : Zone) → SaysZoneOf (zone_named name object) zone → ⊥

-- the VTIMEZONE that a name means afterwards is one that a room reads: the one before, or one whose zone takes the place of that, which no room reads
pub record IsZoneGiven (listed : Option Tree) (before after : Tree) (name : List ℕ) (goes_on : Bool) : Type 0 where
  pub part : Tree
  pub there : zone_named name after ≡ Some part
  pub zone : Zone
  pub says : SaysZone part zone
  pub same : (zone_named name before ≡ Some part) ⊎ (IsZoneUnread before name × TakesPlace listed before name goes_on zone)

-- ---- the object

-- what is inside, but for its VTIMEZONEs
abbrev pub without_zones : Tree → List Tree
without_zones object = filter (λ part. not (is_same_name (tree_name part) (codes "VTIMEZONE"))) (tree_inside object)

-- the octets are an object within the limits of a message
pub record IsOf (octets : List ℕ) (object : Tree) : Type 0 where
  pub lines : reads_as_lines true octets ≡ true
  pub spelled : IsObject true object (logical_lines octets)

-- the octets came in, and these others are handed on: of the VTIMEZONEs that its times name one at least wasn't read by a room, and now each is.
-- Of those that weren't, the ones of these names go on beyond what is stated, and no others
pub record IsAdapted (listed : Option Tree) (octets : List ℕ) (going_on : List (List ℕ)) (adapted : List ℕ) : Type 0 where
  pub before : Tree
  pub came : IsOf octets before
  pub after : Tree
  pub goes : IsOf adapted after
  pub own : tree_own after ≡ tree_own before
  pub others : without_zones after ≡ without_zones before
  pub zones : (name : List ℕ) → NamesZone before name → IsZoneGiven listed before after name (list_any (bytes_eq name) going_on)
  pub unread : List ℕ
  pub named : NamesZone before unread
  pub needed : IsZoneUnread before unread
