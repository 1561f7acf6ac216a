-- What the table of the zones that an object names holds.
use Rattle.std.specs.Prelude.{◌≡◌, ℕ, ◌⊎◌, Bool, true, false, List, [], ◌∷◌, ◌++◌, Contains, codes, Option, Some, None, ℤ, pos, ◌+ℤ◌, ◌≤ℤ◌, String, string_bytes}
use Rattle.std.specs.Map.{lookup}
use Rattle.std.specs.Str.{bytes_eq}
use Rattle.profile.specs.text.Trees.{Tree, vevents}
use Rattle.profile.specs.events.Properties.{Length, LastsFor, is_of}
use Rattle.profile.specs.series.Rules.{RuleText, UntilLocal}
use Rattle.profile.specs.series.RuleTexts.{SpellsRule}
use Rattle.profile.specs.text.Lines.{line_value, line_param}
use Rattle.profile.specs.text.Values.{SpellsDuration}
use Rattle.profile.specs.doors.Uses.{is_time_line, SaysLocal, SaysOnClock, SaysStamp, IsLineIn, LastsDays, RuleEndsBy, EventBeginsBy, EventEndsBy}
use Rattle.cal_doors.specs.declared.uses.Use.{Use}

-- what the table holds under a name
abbrev pub held : {Y A : Type 0} → List ℕ → List (String Y × A) → Option A
held name entries = lookup (λ key. bytes_eq name (string_bytes key)) entries

-- a use is about what a VEVENT says in the zone of a name
pub record CoversEvent (name : List ℕ) (lines : List (List ℕ)) (u : Use) : Type 0 where
  pub from_first : EventBeginsBy name lines u.first
  pub to_last : (end : ℤ) → u.last ≡ Some end → EventEndsBy lines end

-- of each zone that these VEVENTs name there is a use that is about all of them that name it, and of no other zone
pub record AreUsesOf {Y : Type 0} (events : List (List (List ℕ))) (entries : List (String Y × Use)) : Type 0 where
  pub covered : (name : List ℕ) (lines : List (List ℕ)) (line : List ℕ) → Contains events lines → IsLineIn name lines line
      → (u : Use) × (held name entries ≡ Some u) × CoversEvent name lines u
  pub named : (name : List ℕ) (u : Use) → held name entries ≡ Some u
      → (lines : List (List ℕ)) × (line : List ℕ) × Contains events lines × IsLineIn name lines line

abbrev pub AreUses : {Y : Type 0} → Tree → List (String Y × Use) → Type 0
AreUses object entries = AreUsesOf (vevents object) entries

-- one VEVENT more
abbrev pub AreUsesWith : {Y : Type 0} → List (List ℕ) → List (String Y × Use) → List (String Y × Use) → Type 0
AreUsesWith lines old new = (events : List (List (List ℕ))) → AreUsesOf events old → AreUsesOf (events ++ lines ∷ []) new

-- what a line says of local times ends by then: its own, those of its rule; and it says no nominal days
pub record LineEndsBy (line : List ℕ) (last : ℤ) : Type 0 where
  pub times : (local : ℤ) → is_time_line line ≡ true → SaysLocal line local → local ≤ℤ last
  pub rules : is_of (codes "RRULE") line ≡ true → (rule : RuleText) × SpellsRule (line_value line) rule × RuleEndsBy rule last
  pub no_days : (length : Length) → is_of (codes "DURATION") line ≡ true → LastsFor line length → length.days ≡ 0

-- an end is there, and not later
abbrev pub EndsEarlier : Option ℤ → ℤ → Type 0
EndsEarlier last end = (earlier : ℤ) × (last ≡ Some earlier) × (earlier ≤ℤ end)

-- another use is about the local times of this one, and maybe more
pub record IsAsWide (u other : Use) : Type 0 where
  pub first : other.first ≤ℤ u.first
  pub last : (end : ℤ) → other.last ≡ Some end → EndsEarlier u.last end

-- what the table holds under a name is about this use too; what it holds under the others was there
pub record IsWidened {Y : Type 0} (name : List ℕ) (more : Use) (old new : List (String Y × Use)) : Type 0 where
  pub there : (u : Use) × (held name new ≡ Some u) × IsAsWide more u
  pub kept : (other : List ℕ) (u : Use) → held other old ≡ Some u → (wide : Use) × (held other new ≡ Some wide) × IsAsWide u wide
  pub no_more : (other : List ℕ) (u : Use) → held other new ≡ Some u → (other ≡ name) ⊎ ((narrow : Use) × (held other old ≡ Some narrow))

-- the local times of a line are in the table, if it names a zone, and a use that is about the whole VEVENT
pub data AddsUsesOf {Y : Type 0} (line : List ℕ) (whole : Use) (old new : List (String Y × Use)) : Type 0 where
  names_none : line_param (codes "TZID") line ≡ None → new ≡ old → AddsUsesOf line whole old new
  names_one : (name : List ℕ) (more : Use) → line_param (codes "TZID") line ≡ Some name → IsAsWide whole more
      → ((local : ℤ) → SaysLocal line local → more.first ≤ℤ local) → IsWidened name more old new → AddsUsesOf line whole old new

-- what a line says of local times that a VEVENT needs in each zone is not earlier than this: that of its UNTIL; and where days count, any that
-- is shown at one of its times
pub record LineBeginsBy (days : Bool) (line : List ℕ) (first : ℤ) : Type 0 where
  pub until : (rule : RuleText) (local : ℤ) → is_of (codes "RRULE") line ≡ true → SpellsRule (line_value line) rule
      → rule.until ≡ Some (UntilLocal local) → first ≤ℤ local
  pub local_days : days ≡ true → (local : ℤ) → is_time_line line ≡ true → SaysOnClock line local → (first +ℤ pos 86_399) ≤ℤ local
  pub utc_days : days ≡ true → (instant : ℤ) → is_time_line line ≡ true → SaysStamp line instant → first ≤ℤ instant

-- the line says no nominal days
abbrev pub HasNoDays : List ℕ → Type 0
HasNoDays line = is_of (codes "DURATION") line ≡ true → (days seconds : ℕ) → SpellsDuration (line_value line) days seconds → days ≡ 0

-- so it is with each line of a VEVENT, and days count where it lasts nominal days
pub record AllBeginBy (lines : List (List ℕ)) (first : ℤ) : Type 0 where
  pub days : Bool
  pub no_days : days ≡ false → LastsDays lines → ⊥
  pub each : (line : List ℕ) → Contains lines line → LineBeginsBy days line first
