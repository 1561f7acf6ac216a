-- Which instance of a meeting a VEVENT is for, which instants it adds to those of its rule and which it takes away, and whether it is
-- cancelled (RFC 5545 3.8.4.4, 3.8.5.2, 3.8.5.1, 3.8.1.11). Instants are seconds from 1970-01-01T00:00:00Z. A VEVENT is its lines, beside
-- the object that it is in.
use Rattle.std.specs.Prelude.{◌≡◌, ◌≢◌, ℕ, ◌<◌, ◌≤◌, ◌⊎◌, ◌==◌, ◌&&◌, ◌||◌, Bool, true, false, List, length, map, codes, Contains, Option, is_some, option_map, unwrap_or, Some, ℤ}
use Rattle.std.specs.List.{slice_split, flat_map, list_any, AllZip}
use Rattle.std.specs.Str.{bytes_eq}
use Rattle.profile.specs.text.Lines.{line_value, line_param, is_same_name}
use Rattle.profile.specs.text.Trees.{Tree}
use Rattle.profile.specs.series.Zones.{Zone, Means}
use Rattle.profile.specs.events.Properties.{Form, Fixed, is_of, lines_named, OccursAtMostOnce, SomeLine, Says}
use Rattle.profile.specs.events.ZonedTimes.{is_in_zone, clock_of, IsInDates, SaysZonedText, SaysInDates, SaysOutOfDates, SaysForm, ZonedTextFault, ZonedTimeFault}

-- ---- STATUS

-- the event is cancelled where its STATUS is CANCELLED, caseless; another word, and none, leaves it as it is
abbrev pub SaysStatus : List (List ℕ) → Bool → Type 0
SaysStatus lines cancelled =
    (line : Option (List ℕ)) × OccursAtMostOnce (codes "STATUS") lines line
    × (cancelled ≡ unwrap_or (option_map (λ status. is_same_name (line_value status) (codes "CANCELLED")) line) false)

-- ---- RECURRENCE-ID

-- RANGE is on the line, whatever it says
abbrev pub has_range : List ℕ → Bool
has_range line = is_some (line_param (codes "RANGE") line)

-- a time as it is written: its form, and the instant that it means
pub record Time : Type 0 where
  pub form : Form
  pub instant : ℤ

-- the line says this time, without RANGE
abbrev pub IsRecurrenceLine : Tree → List ℕ → Time → Type 0
IsRecurrenceLine object line time = (has_range line ≡ false) × SaysInDates false object line time.form time.instant

-- ---- RDATE and EXDATE

-- a time of a list: its line and its own text. VALUE and TZID of the line are those of all its texts
abbrev pub ListedTime : Type 0
ListedTime = List ℕ × List ℕ

-- the texts of a line, with commas between
abbrev pub entries_of : List ℕ → List ListedTime
entries_of line = map (λ text. (line, text)) (slice_split (λ c. c == 44) (line_value line))

-- the times of all lines of a property are one list, in the order of the text
abbrev pub entries_named : List ℕ → List (List ℕ) → List ListedTime
entries_named name lines = flat_map entries_of (lines_named name lines)

-- the most RDATEs of a VEVENT, and the most EXDATEs; this profile's choice
abbrev pub most_entries : ℕ
most_entries = 366

-- a text of RDATE with `/` is a period, which isn't supported
abbrev pub is_period : List ℕ → List ℕ → Bool
is_period name text = bytes_eq name (codes "RDATE") && list_any (λ c. c == 47) text

-- a time of a list of that property says this
abbrev pub IsListed : Tree → List ℕ → ListedTime → Time → Type 0
IsListed object name (line, text) time =
    (is_period name text ≡ false)
    × ((zone : Option Zone) × (local : ℤ) × SaysZonedText object line text time.form zone local × Means (clock_of zone) local time.instant)

-- it says this, in the dates that an event may name, or something outside of them
abbrev pub IsInside : Tree → ListedTime → Time → Type 0
IsInside object (line, text) time =
    (zone : Option Zone) × (local : ℤ) × SaysZonedText object line text time.form zone local × Means (clock_of zone) local time.instant
    × IsInDates false time.form (is_in_zone line) local time.instant

abbrev pub IsOutside : Tree → ListedTime → Type 0
IsOutside object (line, text) =
    (time : Time) × (zone : Option Zone) × (local : ℤ) × SaysZonedText object line text time.form zone local
    × Means (clock_of zone) local time.instant × (IsInDates false time.form (is_in_zone line) local time.instant → ⊥)

-- the times of a property are these
abbrev pub Lists : Tree → List ℕ → List ListedTime → List Time → Type 0
Lists object name entries times = AllZip (IsListed object name) entries times × (length times ≤ most_entries)

-- ---- together

-- RRULE or RDATE occurs in a VEVENT that is a single instance, by its RECURRENCE-ID or as one that is added: an instance doesn't recur
abbrev pub recurs_as_instance : Bool → List (List ℕ) → Bool
recurs_as_instance added lines =
    (added || list_any (is_of (codes "RECURRENCE-ID")) lines) && list_any (λ line. is_of (codes "RRULE") line || is_of (codes "RDATE") line) lines

-- which instance a VEVENT is, if one of a meeting, and what it adds and takes away, as they are written, in the order of the text
pub record WrittenTimes : Type 0 where
  pub recurrence : Option Time
  pub additions : List Time
  pub exceptions : List Time

-- where only a fixed time can name an instance, this is one
abbrev pub IsFixedWhere : Bool → Option Time → Type 0
IsFixedWhere fixed recurrence = fixed ≡ true → (time : Time) → recurrence ≡ Some time → time.form ≡ Fixed

-- the lines say these, EXDATE in any year from 1 to 9999. An organiser's meetings have no one zone, so that what it stores, and what is answered
-- to it, names instances by fixed times; this profile's choice
pub record SaysOccurrences (added fixed : Bool) (object : Tree) (lines : List (List ℕ)) (written : WrittenTimes) : Type 0 where
  pub is : Says (codes "RECURRENCE-ID") false (IsRecurrenceLine object) lines written.recurrence
  pub fixed_recurrence : IsFixedWhere fixed written.recurrence
  pub adds : Lists object (codes "RDATE") (entries_named (codes "RDATE") lines) written.additions
  pub inside : AllZip (IsInside object) (entries_named (codes "RDATE") lines) written.additions
  pub takes : Lists object (codes "EXDATE") (entries_named (codes "EXDATE") lines) written.exceptions
  pub alone : recurs_as_instance added lines ≡ false

-- ---- what can be wrong, by the number of its refusal

-- in a time of a list: 56 for a period, else as in a start or an end
abbrev pub EntryFault : Tree → List ℕ → ListedTime → ℕ → Type 0
EntryFault object name (line, text) number =
    ((is_period name text ≡ true) × (number ≡ 56)) ⊎ ((is_period name text ≡ false) × ZonedTextFault object line text number)

-- in the times of a property
pub data EntriesFault (object : Tree) (name : List ℕ) (entries : List ListedTime) : ℕ → Type 0 where
  in_entry : {n : ℕ} → (entry : ListedTime) → Contains entries entry → EntryFault object name entry n → EntriesFault object name entries n
  too_many : most_entries < length entries → EntriesFault object name entries 56

-- the lines of a VEVENT have the fault of this number
pub data OccurrenceFault (added fixed : Bool) (object : Tree) (lines : List (List ℕ)) : ℕ → Type 0 where
  bad_recurrence : {n : ℕ} → SomeLine (codes "RECURRENCE-ID") (λ line. ZonedTimeFault object line n) lines → OccurrenceFault added fixed object lines n
  bad_additions : {n : ℕ} → EntriesFault object (codes "RDATE") (entries_named (codes "RDATE") lines) n → OccurrenceFault added fixed object lines n
  bad_exceptions : {n : ℕ} → EntriesFault object (codes "EXDATE") (entries_named (codes "EXDATE") lines) n → OccurrenceFault added fixed object lines n
  -- outside of the dates that an event may name
  recurrence_out : SomeLine (codes "RECURRENCE-ID") (SaysOutOfDates false object) lines → OccurrenceFault added fixed object lines 52
  additions_out : (entry : ListedTime) → Contains (entries_named (codes "RDATE") lines) entry → IsOutside object entry → OccurrenceFault added fixed object lines 52
  -- where only a fixed time can name an instance, it is named by another one
  unfixed : fixed ≡ true → SomeLine (codes "RECURRENCE-ID") (λ line. (form : Form) × (form ≢ Fixed) × SaysForm object line form) lines
      → OccurrenceFault added fixed object lines 57
  ranged : SomeLine (codes "RECURRENCE-ID") (λ line. has_range line ≡ true) lines → OccurrenceFault added fixed object lines 65
  recurs : recurs_as_instance added lines ≡ true → OccurrenceFault added fixed object lines 67
