-- The values of properties: which octets spell them (RFC 5545 3.3).
use Rattle.std.specs.Prelude.{◌≡◌, ℕ, ◌+◌, ◌*◌, ◌/◌, ◌%◌, ◌^◌, ◌<◌, ◌≤◌, ◌⊎◌, Bool, false, not, ◌&&◌, ◌||◌, ◌==◌, nat_lt, if◌then◌else◌, IsTrue, min, List, [], ◌∷◌, ◌++◌, length, map, codes, decimal, ℤ, pos, negsuc, neg_ℤ, unsigned_abs, take, ◌+ℤ◌, ◌*ℤ◌, ◌≤ℤ◌}
use Rattle.std.specs.List.{flat_map, list_all}
use Rattle.std.specs.Char.{to_ascii_lowercase, is_ascii_alphabetic}
use Rattle.std.specs.Int.{is_negative}
use Rattle.std.specs.Str.Parse.{AllDigits, digits_value}
use Rattle.profile.specs.faults.Faults.{is_between}
use Rattle.profile.specs.series.Days.{IsDate, number_of_date}

-- NUMBERS

-- the two digits of a number below 100
abbrev pub two_digits : ℕ → List ℕ
two_digits n = (48 + n / 10) ∷ (48 + n % 10) ∷ []

-- the four digits of a number below 10,000
abbrev pub four_digits : ℕ → List ℕ
four_digits n = two_digits (n / 100) ++ two_digits (n % 100)

-- one digit or more, with this value; leading zeros are allowed
abbrev pub IsNumber : List ℕ → ℕ → Type 0
IsNumber digits n = (0 < length digits) × AllDigits 10 digits × (digits_value 10 digits ≡ n)

-- DATES AND TIMES

-- `YYYYMMDD` is this day, of the years 1 to 9999 (RFC 5545 3.3.4)
pub record SpellsDate (text : List ℕ) (number : ℤ) : Type 0 where
  pub year : ℕ
  pub month : ℕ
  pub day : ℕ
  pub first : 1 ≤ year
  pub last : year ≤ 9999
  pub date : IsDate year month day
  pub spelled : text ≡ four_digits year ++ two_digits month ++ two_digits day
  pub counted : number ≡ number_of_date year month day

-- `HHMMSS` is this second of the day (RFC 5545 3.3.12). Second 60 is allowed where `limit` is 60, and means 59: this profile's choice
pub record SpellsTime (limit : ℕ) (text : List ℕ) (total : ℕ) : Type 0 where
  pub hour : ℕ
  pub minute : ℕ
  pub second : ℕ
  pub hours : hour ≤ 23
  pub minutes : minute ≤ 59
  pub seconds : second ≤ limit
  pub spelled : text ≡ two_digits hour ++ two_digits minute ++ two_digits second
  pub counted : total ≡ 3600 * hour + 60 * minute + min second 59

-- a date, `T` and a time: seconds from 1970-01-01T00:00:00 on the same clock (RFC 5545 3.3.5)
pub record SpellsClock (limit : ℕ) (text : List ℕ) (seconds : ℤ) : Type 0 where
  pub date : List ℕ
  pub time : List ℕ
  pub number : ℤ
  pub second : ℕ
  pub on : SpellsDate date number
  pub at_second : SpellsTime limit time second
  pub spelled : text ≡ date ++ codes "T" ++ time
  pub counted : seconds ≡ (number *ℤ pos 86_400) +ℤ pos second

-- the octets read as this local time, and the one form in which it is written
abbrev pub SpellsLocal : List ℕ → ℤ → Type 0
SpellsLocal = SpellsClock 60

abbrev pub WritesLocal : List ℕ → ℤ → Type 0
WritesLocal = SpellsClock 59

-- the same with `Z`, in UTC: the seconds are the instant
abbrev pub SpellsStamp : List ℕ → ℤ → Type 0
SpellsStamp text instant = (local : List ℕ) × SpellsLocal local instant × (text ≡ local ++ codes "Z")

abbrev pub WritesStamp : List ℕ → ℤ → Type 0
WritesStamp text instant = (local : List ℕ) × WritesLocal local instant × (text ≡ local ++ codes "Z")

-- from 0001-01-01T00:00:00 to 9999-12-31T23:59:59
abbrev pub IsClockSeconds : ℤ → Type 0
IsClockSeconds seconds = (negsuc 62_135_596_799 ≤ℤ seconds) × (seconds ≤ℤ pos 253_402_300_799)

-- SEQUENCE NUMBERS

-- digits with an optional `+`, up to 2,147,483,647 (RFC 5545 3.3.8, 3.8.7.4)
abbrev pub SpellsSequence : List ℕ → ℕ → Type 0
SpellsSequence text n =
    (digits : List ℕ) × ((text ≡ digits) ⊎ (text ≡ codes "+" ++ digits)) × IsNumber digits n × (n < 2 ^ 31)

-- TEXT

-- how an octet is written: LF as `\n`, a backslash before backslash, semicolon and comma (RFC 5545 3.3.11)
abbrev pub escaped_octet : ℕ → List ℕ
escaped_octet c =
    if c == 10 then codes "\\n"
    else (if (c == 92) || (c == 59) || (c == 44) then 92 ∷ c ∷ [] else c ∷ [])

-- how a text is written
abbrev pub escaped : List ℕ → List ℕ
escaped = flat_map escaped_octet

-- backslash, semicolon, comma, `n` and `N` make an escape with the backslash before them
abbrev pub is_escape : ℕ → Bool
is_escape c = (c == 92) || (c == 59) || (c == 44) || (c == 110) || (c == 78)

-- what such an escape represents
abbrev pub meant : ℕ → ℕ
meant c = if (c == 110) || (c == 78) then 10 else c

-- what a written text represents; a backslash that makes no escape stays a backslash, this profile's choice
unfoldable pub unescaped : List ℕ → List ℕ
unescaped [] = []
unescaped (c ∷ []) = c ∷ []
unescaped (c ∷ d ∷ cs) = if (c == 92) && is_escape d then meant d ∷ unescaped cs else c ∷ unescaped (d ∷ cs)

-- ADDRESSES

-- letters, digits, `+`, `-` and `.`
abbrev pub is_scheme_octet : ℕ → Bool
is_scheme_octet c = is_ascii_alphabetic c || is_between 48 57 c || (c == 43) || (c == 45) || (c == 46)

-- a scheme: a letter, then those (RFC 3986 3.1)
abbrev pub is_scheme : List ℕ → Bool
is_scheme [] = false
is_scheme (c ∷ cs) = is_ascii_alphabetic c && list_all is_scheme_octet cs

-- no control octet and no space; octets past ASCII are allowed
abbrev pub is_path_octet : ℕ → Bool
is_path_octet c = nat_lt 32 c && not (c == 127)

-- one octet or more of those
abbrev pub is_path : List ℕ → Bool
is_path octets = nat_lt 0 (length octets) && list_all is_path_octet octets

-- a scheme, `:` and what follows it, at most 1,024 octets; this profile's choice for RFC 5545 3.3.3
abbrev pub IsAddress : List ℕ → Type 0
IsAddress text =
    (scheme : List ℕ) × (path : List ℕ) × (text ≡ scheme ++ (codes ":" ++ path))
    × IsTrue (is_scheme scheme) × IsTrue (is_path path) × (length text ≤ 1024)

-- ASCII lower case
abbrev pub lower_case : List ℕ → List ℕ
lower_case = map to_ascii_lowercase

-- a UID's octets: 1 to 1,024, counted without escapes; this profile's choice for RFC 5545 3.8.4.7
abbrev pub IsUid : List ℕ → Type 0
IsUid octets = (1 ≤ length octets) × (length octets ≤ 1024)

-- DURATIONS

-- a number and its letter, or nothing, which counts as 0
abbrev pub SpellsPart : ℕ → List ℕ → ℕ → Type 0
SpellsPart letter text n =
    ((text ≡ []) × (n ≡ 0)) ⊎ ((digits : List ℕ) × IsNumber digits n × (text ≡ digits ++ letter ∷ []))

-- `T` and hours, minutes, seconds in order, at least one (RFC 5545 3.3.6); minutes may be missing between them: this profile's choice
pub record SpellsExact (text : List ℕ) (total : ℕ) : Type 0 where
  pub hour_part : List ℕ
  pub minute_part : List ℕ
  pub second_part : List ℕ
  pub hours : ℕ
  pub minutes : ℕ
  pub seconds : ℕ
  pub hour : SpellsPart 72 hour_part hours
  pub minute : SpellsPart 77 minute_part minutes
  pub second : SpellsPart 83 second_part seconds
  pub some : 0 < length (hour_part ++ minute_part ++ second_part)
  pub spelled : text ≡ codes "T" ++ hour_part ++ minute_part ++ second_part
  pub counted : total ≡ 3600 * hours + 60 * minutes + seconds

-- days; a time; or days and a time
abbrev pub SpellsDays : List ℕ → ℕ → ℕ → Type 0
SpellsDays text days seconds =
    ((digits : List ℕ) × IsNumber digits days × (text ≡ digits ++ codes "D") × (seconds ≡ 0))
    ⊎ ((SpellsExact text seconds × (days ≡ 0))
    ⊎ ((digits : List ℕ) × (exact : List ℕ) × IsNumber digits days × SpellsExact exact seconds × (text ≡ digits ++ (codes "D" ++ exact))))

-- what follows `P`: weeks, or those
abbrev pub SpellsCounts : List ℕ → ℕ → ℕ → Type 0
SpellsCounts text days seconds =
    ((digits : List ℕ) × (weeks : ℕ) × IsNumber digits weeks × (text ≡ digits ++ codes "W") × (days ≡ 7 * weeks) × (seconds ≡ 0))
    ⊎ SpellsDays text days seconds

-- a duration without its sign
abbrev pub SpellsUnsigned : List ℕ → ℕ → ℕ → Type 0
SpellsUnsigned text days seconds = (counts : List ℕ) × SpellsCounts counts days seconds × (text ≡ codes "P" ++ counts)

-- one that isn't negative, with an optional `+`
abbrev pub SpellsDuration : List ℕ → ℕ → ℕ → Type 0
SpellsDuration text days seconds =
    (body : List ℕ) × SpellsUnsigned body days seconds × ((text ≡ body) ⊎ (text ≡ codes "+" ++ body))

-- one that is negative
abbrev pub SpellsNegative : List ℕ → Type 0
SpellsNegative text =
    (body : List ℕ) × (days : ℕ) × (seconds : ℕ) × SpellsUnsigned body days seconds × (text ≡ codes "-" ++ body)

-- one that isn't negative, with more days or seconds than 32 bits count
abbrev pub SpellsLong : List ℕ → Type 0
SpellsLong text =
    (days : ℕ) × (seconds : ℕ) × SpellsDuration text days seconds × ((2 ^ 32 ≤ days) ⊎ (2 ^ 32 ≤ seconds))

-- the one form in which a duration is written
abbrev pub duration_text : ℕ → ℕ → List ℕ
duration_text days seconds =
    if days == 0 then codes "PT" ++ decimal seconds ++ codes "S"
    else (if seconds == 0 then codes "P" ++ decimal days ++ codes "D"
    else codes "P" ++ decimal days ++ codes "DT" ++ decimal seconds ++ codes "S")

-- OFFSETS

-- the digits `hhmmss` of an offset's size in seconds, or `hhmm` where the seconds are 0
abbrev pub SpellsSize : List ℕ → ℕ → Type 0
SpellsSize digits size = SpellsTime 59 digits size ⊎ SpellsTime 59 (digits ++ codes "00") size

-- a sign and those digits; nothing after a minus sign is refused (RFC 5545 3.3.14)
abbrev pub SpellsOffset : List ℕ → ℤ → Type 0
SpellsOffset text offset =
    (digits : List ℕ) × (size : ℕ) × SpellsSize digits size
    × (((text ≡ codes "+" ++ digits) × (offset ≡ pos size))
    ⊎ ((text ≡ codes "-" ++ digits) × (0 < size) × (offset ≡ neg_ℤ (pos size))))

-- the one form in which an offset is written: seconds only where they aren't 0
abbrev pub WritesOffset : List ℕ → ℤ → Type 0
WritesOffset text offset =
    (time : List ℕ) × SpellsTime 59 time (unsigned_abs offset)
    × (text ≡ (if is_negative offset then codes "-" else codes "+")
    ++ (if unsigned_abs offset % 60 == 0 then take 4 time else time))

-- less than a day to either side
abbrev pub IsOffset : ℤ → Type 0
IsOffset offset = unsigned_abs offset < 86_400
