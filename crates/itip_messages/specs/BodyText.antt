-- What is written of a body and of a slot.
use Rattle.std.specs.Prelude.{◌≡◌, ℕ, List, [], ◌∷◌, ◌++◌, codes, decimal, map, take, drop, Option, None, Some}
use Rattle.std.specs.Option.{option_to_list}
use Rattle.std.specs.Str.{IsUtf8}
use Rattle.std.specs.Str.Lines.{lines as text_lines}
use Rattle.profile.specs.rooms.Revisions.{Slot}
use Rattle.profile.specs.rooms.Messages.{Content, TellsSlot}
use Rattle.profile.specs.rooms.Kept.{renamed, IsNamed}
use Rattle.profile.specs.text.Lines.{written}
use Rattle.itip_messages.specs.Body.{zone_place}
use Rattle.itip_messages.specs.Message.{IsDated}
use Rattle.itip_messages.specs.Zones.{with_zones}

-- ---- a body, read back

-- what comes after `BEGIN:VTIMEZONE`, `TZID:Z` and their line ends; None without a VTIMEZONE
abbrev pub zone_rest : List ℕ → Option (List ℕ)
zone_rest [] = None
zone_rest (c ∷ octets) = Some (drop 25 (c ∷ octets))

-- the octets of a body as a content: its lines, and its zone
abbrev pub content_in : List ℕ → Content
content_in octets = record { lines = text_lines (take (zone_place octets) octets); zone = zone_rest (drop (zone_place octets) octets) }

-- ---- what is written

-- the lines with DTSTART in the zone of this name
abbrev pub named_lines : List ℕ → List (List ℕ) → List (List ℕ)
named_lines name lines = map (renamed (codes "DTSTART;TZID=Z") (codes "DTSTART;TZID=" ++ name)) lines

-- the name of the zone with this number; without a zone that of a body
abbrev pub name_of : Option ℕ → List ℕ
name_of None = codes "Z"
name_of (Some number) = codes "Z" ++ decimal number

-- new is old and after it, written, the lines of the octets, if they are text, in the zone with this number
pub record WritesText (number : Option ℕ) (octets old new : List ℕ) : Type 0 where
  pub lines : List (List ℕ)
  pub text : IsUtf8 octets → lines ≡ named_lines (name_of number) (text_lines octets)
  pub is : new ≡ old ++ written lines

-- the body's zone is after the zones if it is new; and new is old and after it, written, the lines of the body, if it is text, in that zone
pub record WritesBody (body : List ℕ) (zones_old zones_new : List (List ℕ)) (old new : List ℕ) : Type 0 where
  pub zones : zones_new ≡ with_zones zones_old (option_to_list (content_in body).zone)
  pub name : List ℕ
  pub named : IsNamed zones_new (content_in body).zone name
  pub lines : List (List ℕ)
  pub text : IsUtf8 body → lines ≡ named_lines name (content_in body).lines
  pub is : new ≡ old ++ written lines

-- new is old and after it, written, RECURRENCE-ID, if a stamp can write it
pub record WritesSlot (slot : Slot) (old new : List ℕ) : Type 0 where
  pub lines : List (List ℕ)
  pub tells : IsDated slot → TellsSlot slot lines
  pub is : new ≡ old ++ written lines
