-- The line that names the zone of a room: there is none exactly where that is UTC.
-- Cited by write_room_zone.
use Rattle.std.proofs.Common.{◌≡◌, ◌∙◌, ℕ, Bool, true, false, List, [], ◌∷◌, ◌++◌, Option, None, Some, codes, refl, sym, ap, append-nil}
use Rattle.std.specs.Prelude.{is_none, if◌then◌else◌}
use Rattle.std.specs.Str.{bytes_eq}
use Rattle.std.proofs.lemmas.Bool.{true≢false}
use Rattle.std.proofs.lemmas.Slice.Eq.{bytes_eq-Decides}
use Rattle.cal_zones.specs.RoomZones.{room_of, words_of}
use Rattle.cal_zones.specs.declared.room_zone.RoomZone.{RoomZone}
use Rattle.cal_zones.proofs.OneRoomZone.{one_room_zone}
use Rattle.cal_zones.proofs.RoomZoneLemmas.{room_means}
use Rattle.profile.specs.rooms.Kept.{room_zone_lines}
use Rattle.profile.specs.series.RoomZones.{IsRoomZone}
use Rattle.profile.specs.series.Zones.{Zone}
use Rattle.profile.specs.text.Lines.{folded, written}
use Rattle.itip_messages.proofs.shared_lemmas.WrittenLines.{no_lines}

abbrev lines_by : List ℕ → Bool → List (List ℕ)
lines_by words utc = if utc then [] else (codes "X-ROOM-ZONE:" ++ words) ∷ []

is_utc : (words : List ℕ) → IsRoomZone words None → bytes_eq words (codes "+0000") ≡ true
is_utc words means = (bytes_eq-Decides words (codes "+0000")).1 means

is_not_utc : (words : List ℕ) (zone : Zone) → IsRoomZone words (Some zone) → bytes_eq words (codes "+0000") ≡ false
is_not_utc words zone means = by (bytes_eq words (codes "+0000")) refl
  where
    by : (b : Bool) → bytes_eq words (codes "+0000") ≡ b → b ≡ false
    by false e = refl
    by true e =
        let none : None ≡ Some zone = one_room_zone words None (Some zone) ((bytes_eq-Decides words (codes "+0000")).0 e) means in
        ap is_none none

none_by : (words : List ℕ) (zone : Option Zone) → IsRoomZone words zone → is_none zone ≡ true → room_zone_lines words ≡ []
none_by words None means h = ap (lines_by words) (is_utc words means)
none_by words (Some zone) means h = absurd (true≢false (sym h))

one_by : (words : List ℕ) (zone : Option Zone) → IsRoomZone words zone → is_none zone ≡ false → room_zone_lines words ≡ (codes "X-ROOM-ZONE:" ++ words) ∷ []
one_by words None means h = absurd (true≢false h)
one_by words (Some zone) means h = ap (lines_by words) (is_not_utc words zone means)

pub utc_unnamed : (zone : RoomZone) (octets : List ℕ) (utc : Bool) → utc ≡ is_none (room_of zone) → utc ≡ true → octets ≡ octets ++ written (room_zone_lines (words_of zone))
utc_unnamed zone octets utc is h =
    no_lines octets ∙ ap (λ l. octets ++ written l) (sym (none_by (words_of zone) (room_of zone) (room_means zone) (sym is ∙ h)))

one_line : (octets line : List ℕ) → octets ++ folded line ≡ octets ++ written (line ∷ [])
one_line octets line = ap (λ l. octets ++ l) (sym (append-nil (folded line)))

pub zone_named : (zone : RoomZone) (old new text : List ℕ) (utc : Bool) → utc ≡ is_none (room_of zone) → utc ≡ false → text ≡ words_of zone → new ≡ old ++ folded (codes "X-ROOM-ZONE:" ++ text)
    → new ≡ old ++ written (room_zone_lines (words_of zone))
zone_named zone old new text utc is h same own =
    own ∙ ap (λ t. old ++ folded (codes "X-ROOM-ZONE:" ++ t)) same ∙ one_line old (codes "X-ROOM-ZONE:" ++ words_of zone)
    ∙ ap (λ l. old ++ written l) (sym (one_by (words_of zone) (room_of zone) (room_means zone) (sym is ∙ h)))
