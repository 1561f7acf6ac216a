-- What is written of a refresh.
use Rattle.std.specs.Prelude.{◌≡◌, ℕ, List, codes, Some}
use Rattle.profile.specs.text.Lines.{written}
use Rattle.profile.specs.rooms.Messages.{IsRefreshEvent, object_lines}
use Rattle.ical_values.specs.Octets.{text_octets, address_octets}
use Rattle.itip_messages.specs.declared.refresh.Refresh.{Refresh}

-- the lines of its VEVENT
abbrev pub IsRefreshLines : Refresh → List (List ℕ) → Type 0
IsRefreshLines refresh lines =
    IsRefreshEvent (address_octets refresh.room.now) (address_octets refresh.organiser.now) (text_octets refresh.uid.now) refresh.moment lines

-- the REFRESH that says this
pub record IsRefreshText (refresh : Refresh) (octets : List ℕ) : Type 0 where
  pub lines : List (List ℕ)
  pub shows : IsRefreshLines refresh lines
  pub is : octets ≡ written (object_lines (Some (codes "REFRESH")) lines)
