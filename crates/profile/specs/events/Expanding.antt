-- What `expand` prints of an event: a line for each of its first instances.
use Rattle.std.specs.Prelude.{◌≡◌, ℕ, pos, ◌+ℤ◌, List, ◌++◌, codes, decimal, Option}
use Rattle.std.specs.List.{AllZip, concat}
use Rattle.profile.specs.text.Values.{WritesStamp}
use Rattle.profile.specs.checker.Instances.{Instance}
use Rattle.profile.specs.series.Zones.{Zone}
use Rattle.profile.specs.events.Events.{Event, SpellsEvent}
use Rattle.profile.specs.events.Starts.{AreFirst}

-- the line of an instance: its original start and its start in UTC, and how many seconds it lasts
pub record IsInstanceLine (instance : Instance) (line : List ℕ) : Type 0 where
  pub slot : List ℕ
  pub start : List ℕ
  pub seconds : ℕ
  pub writes_slot : WritesStamp slot instance.key.slot
  pub writes_start : WritesStamp start instance.start
  pub lasts : instance.end ≡ instance.start +ℤ pos seconds
  pub is : line ≡ slot ++ codes " " ++ start ++ codes " " ++ decimal seconds ++ codes "\n"

-- the lines of the first instances of the event that octets spell in a room of this zone, this many of them, or of all where there are fewer
pub record IsExpansion (room : Option Zone) (octets : List ℕ) (limit : ℕ) (text : List ℕ) : Type 0 where
  pub meeting : Event
  pub spelled : SpellsEvent room octets meeting
  pub instances : List Instance
  pub first : AreFirst meeting limit instances
  pub lines : List (List ℕ)
  pub each : AllZip IsInstanceLine instances lines
  pub is : text ≡ concat lines
