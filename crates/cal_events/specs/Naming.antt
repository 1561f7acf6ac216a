-- How the VEVENTs of a calendar that were read name a room.
use Rattle.std.specs.Prelude.{◌≡◌, ℕ, List, not}
use Rattle.std.specs.List.{list_any}
use Rattle.profile.specs.checker.Naming.{names, is_empty, not_accepted}
use Rattle.profile.specs.events.EventComponents.{EventComponent}
use Rattle.cal_events.specs.declared.naming.Naming.{Naming}

-- these events name the room so
pub record IsNaming (room : List ℕ) (events : List EventComponent) (naming : Naming) : Type 0 where
  pub any : naming.any ≡ not (is_empty events)
  pub named : naming.named ≡ list_any (names room) events
  pub counted : naming.not_accepted ≡ not_accepted room events
