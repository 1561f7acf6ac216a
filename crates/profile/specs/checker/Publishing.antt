-- What is published of a room's agenda: an iCalendar object that people subscribe to, with a VEVENT of its own for each instance
-- (RFC 5545 3.6, 3.6.1). It has no METHOD, and no zone: all times are in UTC.
use Rattle.std.specs.Prelude.{◌≡◌, ℕ, ℤ, pos, negsuc, List, [], ◌∷◌, ◌++◌, codes, take, drop, if◌then◌else◌}
use Rattle.std.specs.Int.{int_max, int_min}
use Rattle.std.specs.List.{AllZip, flat_map}
use Rattle.std.specs.Str.{bytes_eq}
use Rattle.profile.specs.text.Lines.{written}
use Rattle.profile.specs.text.Values.{WritesStamp, escaped}
use Rattle.profile.specs.checker.Instances.{Key, Instance}

-- an address as people read it: without `mailto:`
abbrev pub plain_address : List ℕ → List ℕ
plain_address address = if bytes_eq (take 7 address) (codes "mailto:") then drop 7 address else address

-- an instant, or where its year is none from 1 to 9999 the nearest second of those years; this profile's choice
abbrev pub writable : ℤ → ℤ
writable instant = int_max (negsuc 62_135_596_799) (int_min instant (pos 253_402_300_799))

-- a UID of its own: the original start, the organiser, in which no space is, and the UID of its meeting (RFC 5545 3.8.4.7)
pub record IsOwnUid (key : Key) (uid : List ℕ) : Type 0 where
  pub slot : List ℕ
  pub writes_slot : WritesStamp slot (writable key.slot)
  pub is : uid ≡ slot ++ codes " " ++ key.organiser ++ codes " " ++ key.uid

-- the VEVENT of an instance, made at a moment; its SUMMARY is who booked it
pub record IsPublishedEvent (moment : ℤ) (instance : Instance) (lines : List (List ℕ)) : Type 0 where
  pub uid : List ℕ
  pub stamp : List ℕ
  pub start : List ℕ
  pub end : List ℕ
  pub own : IsOwnUid instance.key uid
  pub writes_stamp : WritesStamp stamp moment
  pub writes_start : WritesStamp start (writable instance.start)
  pub writes_end : WritesStamp end (writable instance.end)
  pub is : lines ≡ codes "BEGIN:VEVENT" ∷ (codes "UID:" ++ escaped uid) ∷ (codes "DTSTAMP:" ++ stamp) ∷ (codes "DTSTART:" ++ start) ∷ (codes "DTEND:" ++ end)
      ∷ (codes "SUMMARY:" ++ escaped (plain_address instance.key.organiser)) ∷ codes "TRANSP:OPAQUE" ∷ codes "END:VEVENT" ∷ []

-- the first lines of the object, with its name (RFC 7986 5.1), also as programs read it that are older
abbrev pub published_opening : List ℕ → List (List ℕ)
published_opening name =
    codes "BEGIN:VCALENDAR" ∷ codes "VERSION:2.0" ∷ codes "PRODID:-//iTIP room box//EN" ∷ (codes "NAME:" ++ escaped name) ∷ (codes "X-WR-CALNAME:" ++ escaped name) ∷ []

-- the octets are an object of this name with the VEVENTs of these instances, in order, and no others
pub record IsPublished (name : List ℕ) (moment : ℤ) (instances : List Instance) (octets : List ℕ) : Type 0 where
  pub events : List (List (List ℕ))
  pub each : AllZip (IsPublishedEvent moment) instances events
  pub is : octets ≡ written (published_opening name ++ flat_map (λ lines. lines) events ++ codes "END:VCALENDAR" ∷ [])
