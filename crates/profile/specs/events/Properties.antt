-- Properties: what the content lines of a component say by their names (RFC 5545 3.1, 3.2, 3.6), whichever component it is.
use Rattle.std.specs.Prelude.{◌≡◌, ℕ, ◌+◌, ◌-◌, ◌*◌, Contains, ◌<◌, ◌⊎◌, Bool, true, false, if◌then◌else◌, ◌==◌, List, [], length, filter, codes, Option, Some, None, is_some, option_map, unwrap_or, slice_index, ℤ, negsuc}
use Rattle.std.specs.Option.{option_to_list}
use Rattle.profile.specs.text.Lines.{line_name, line_value, line_param, is_same_name}
use Rattle.profile.specs.text.Values.{SpellsStamp, SpellsLocal, SpellsDate, SpellsSequence, SpellsDuration, SpellsNegative, IsAddress, IsUid, lower_case, unescaped}

-- ---- lines by their names

-- the line is of this property; names are compared caseless
abbrev pub is_of : List ℕ → List ℕ → Bool
is_of name line = is_same_name (line_name line) name

-- the lines of this property, in order
abbrev pub lines_named : List ℕ → List (List ℕ) → List (List ℕ)
lines_named name lines = filter (is_of name) lines

-- the property occurs at most once; this is its line
abbrev pub OccursAtMostOnce : List ℕ → List (List ℕ) → Option (List ℕ) → Type 0
OccursAtMostOnce name lines line = lines_named name lines ≡ option_to_list line

-- the property occurs at least twice
abbrev pub OccursMoreThanOnce : List ℕ → List (List ℕ) → Type 0
OccursMoreThanOnce name lines = 1 < length (lines_named name lines)

abbrev pub IsMissing : List ℕ → List (List ℕ) → Type 0
IsMissing name lines = lines_named name lines ≡ []

-- there is a line of this property for which this holds
abbrev pub SomeLine : List ℕ → (List ℕ → Type 0) → List (List ℕ) → Type 0
SomeLine name P lines = (line : List ℕ) × Contains (lines_named name lines) line × P line

-- ---- the value of a property

-- both are there and related, or both are missing
abbrev pub BothOrNeither : {A B : Type 0} → (A → B → Type 0) → Option A → Option B → Type 0
BothOrNeither R None None = Unit {0}
BothOrNeither R (Some a) (Some b) = R a b
BothOrNeither R None (Some b) = ⊥
BothOrNeither R (Some a) None = ⊥

-- the property occurs at most once, and this is its value; it must occur where it is needed
pub record Says {V : Type 0} (name : List ℕ) (needed : Bool) (IsValue : List ℕ → V → Type 0) (lines : List (List ℕ)) (value : Option V) : Type 0 where
  pub line : Option (List ℕ)
  pub once : OccursAtMostOnce name lines line
  pub present : needed ≡ true → is_some line ≡ true
  pub is : BothOrNeither IsValue line value

abbrev pub IsStampLine : List ℕ → ℤ → Type 0
IsStampLine line instant = SpellsStamp (line_value line) instant

abbrev pub IsSequenceLine : List ℕ → ℕ → Type 0
IsSequenceLine line n = SpellsSequence (line_value line) n

-- an address, in ASCII lower case
abbrev pub IsAddressLine : List ℕ → List ℕ → Type 0
IsAddressLine line address = IsAddress (line_value line) × (address ≡ lower_case (line_value line))

abbrev pub IsUidLine : List ℕ → List ℕ → Type 0
IsUidLine line uid = (uid ≡ unescaped (line_value line)) × IsUid uid

-- the value of a line spells no address, no sequence number, no duration
abbrev pub IsNoAddress : List ℕ → Type 0
IsNoAddress line = IsAddress (line_value line) → ⊥

abbrev pub IsNoSequence : List ℕ → Type 0
IsNoSequence line = (n : ℕ) → SpellsSequence (line_value line) n → ⊥

-- ---- times: what VALUE says, and what is wrong with a time without TZID

-- what VALUE says that a line's value is (RFC 5545 3.2.20); without it a date-time or a date, by the text
pub data TimeKind : Type 0 where
  Unsaid : TimeKind
  DateTime : TimeKind
  Date : TimeKind
  Period : TimeKind
  Other : TimeKind

-- the kind that a word names, caseless
abbrev pub kind_named : List ℕ → TimeKind
kind_named word =
    if is_same_name word (codes "DATE-TIME") then DateTime
    else (if is_same_name word (codes "DATE") then Date
    else (if is_same_name word (codes "PERIOD") then Period else Other))

-- a start or an end without VALUE is a date-time (RFC 5545 3.8.2.4, 3.8.2.2). That it may also be a date is this profile's choice
abbrev pub time_kind : List ℕ → TimeKind
time_kind line = unwrap_or (option_map kind_named (line_param (codes "VALUE") line)) Unsaid

-- the forms of a time: fixed, in UTC (RFC 5545 3.3.5, form 2) or in the zone that TZID names (form 3); floating, a local time with neither
-- (form 1); or a whole day, a date (3.3.4)
pub data Form : Type 0 where
  Fixed : Form
  Floating : Form
  WholeDay : Form

abbrev pub is_fixed : Form → Bool
is_fixed Fixed = true
is_fixed Floating = false
is_fixed WholeDay = false

abbrev pub is_floating : Form → Bool
is_floating Fixed = false
is_floating Floating = true
is_floating WholeDay = false

abbrev pub is_whole_day : Form → Bool
is_whole_day Fixed = false
is_whole_day Floating = false
is_whole_day WholeDay = true

-- VALUE allows this form
abbrev pub allows_form : TimeKind → Form → Bool
allows_form Unsaid Fixed = true
allows_form Unsaid Floating = true
allows_form Unsaid WholeDay = true
allows_form DateTime Fixed = true
allows_form DateTime Floating = true
allows_form DateTime WholeDay = false
allows_form Date Fixed = false
allows_form Date Floating = false
allows_form Date WholeDay = true
allows_form Period Fixed = false
allows_form Period Floating = false
allows_form Period WholeDay = false
allows_form Other Fixed = false
allows_form Other Floating = false
allows_form Other WholeDay = false

-- VALUE says that the line's value is a date-time, or is absent
abbrev pub is_date_time : List ℕ → Bool
is_date_time line = unwrap_or (option_map (λ word. is_same_name word (codes "DATE-TIME")) (line_param (codes "VALUE") line)) true

-- the text ends as a UTC time does: with `Z`
abbrev pub ends_in_z : List ℕ → Bool
ends_in_z text = slice_index text (length text - 1) == 90

-- no instant is spelled
abbrev pub IsNoStamp : List ℕ → Type 0
IsNoStamp text = (t : ℤ) → SpellsStamp text t → ⊥

-- a date (RFC 5545 3.3.4), or a local time without zone (RFC 5545 3.3.5, form 1)
abbrev pub IsDateText : List ℕ → Type 0
IsDateText text = (number : ℤ) × SpellsDate text number

abbrev pub IsLocalText : List ℕ → Type 0
IsLocalText text = (t : ℤ) × SpellsLocal text t

-- the number of a text that is neither a date nor a time
abbrev pub malformed_number : List ℕ → ℕ
malformed_number text = if ends_in_z text then 10 else 11

-- the text is neither a UTC time nor a local one: it has the number of a malformed one
abbrev pub NoTimeFault : List ℕ → ℕ → Type 0
NoTimeFault text number = IsNoStamp text × (IsLocalText text → ⊥) × (number ≡ malformed_number text)

-- the number of what is wrong with a text of this kind, without TZID: there is at most one
abbrev pub KindFault : TimeKind → List ℕ → ℕ → Type 0
KindFault Unsaid text number = (IsDateText text → ⊥) × NoTimeFault text number
KindFault DateTime text number = NoTimeFault text number
KindFault Date text number = (IsDateText text → ⊥) × (number ≡ 11)
KindFault Period text number = number ≡ 56
KindFault Other text number = number ≡ 11

-- the number of what is wrong with a start or an end
abbrev pub TimeFault : List ℕ → ℕ → Type 0
TimeFault line number = KindFault (time_kind line) (line_value line) number

-- the first second that an event may name, 1969-12-31T00:00:00Z; this profile's choice
abbrev pub first_second : ℤ
first_second = negsuc 86_399

-- ---- lengths

-- how long an event lasts: whole days and seconds. In UTC a day is 86,400 seconds
pub record Length : Type 0 where
  pub days : ℕ
  pub seconds : ℕ

abbrev pub length_seconds : Length → ℕ
length_seconds length = 86_400 * length.days + length.seconds

abbrev pub LastsFor : List ℕ → Length → Type 0
LastsFor line length = SpellsDuration (line_value line) length.days length.seconds

-- the longest event in seconds, 366 days; this profile's choice
abbrev pub longest : ℕ
longest = 31_622_400

abbrev pub IsNoDuration : List ℕ → Type 0
IsNoDuration line = ((days seconds : ℕ) → SpellsDuration (line_value line) days seconds → ⊥) × (SpellsNegative (line_value line) → ⊥)

-- a duration that is negative, or of more than 366 days
abbrev pub IsNegativeOrLong : List ℕ → Type 0
IsNegativeOrLong line = SpellsNegative (line_value line) ⊎ ((length : Length) × LastsFor line length × (longest < length_seconds length))
