-- Zones: what a VTIMEZONE makes of instants and of local times (RFC 5545 3.6.5 and 3.3.5).
-- An instant is a number of seconds from 1970-01-01T00:00:00Z. A local time is a number of seconds from 1970-01-01T00:00:00 on the
-- local clock. An offset is a number of seconds, positive east of Greenwich.
use Rattle.std.specs.Prelude.{◌≡◌, ℕ, ◌+◌, ◌*◌, ◌≤◌, ◌⊎◌, Bool, true, ◌&&◌, ◌==◌, nat_le, Option, Some, None, ℤ, pos, negsuc, ◌+ℤ◌, ◌-ℤ◌, ◌≤ℤ◌}
use Rattle.std.specs.Int.Signed.{◌<ℤ◌}
use Rattle.profile.specs.series.Rules.{Pattern, is_base}

-- WHAT IS WRITTEN

-- a part of a VTIMEZONE, STANDARD or DAYLIGHT: the day of its DTSTART, by its index, and the second of that day; the parts of its
-- RRULE, if it has one; its TZOFFSETFROM and its TZOFFSETTO
pub record Observance : Type 0 where
  pub day : ℕ
  pub second : ℕ
  pub rule : Option Pattern
  pub offset_from : ℤ
  pub offset_to : ℤ

-- a zone: one offset for all time, or one observance, or two that follow each other
pub data Zone : Type 0 where
  Constant : ℤ → Zone
  Single : Observance → Zone
  Pair : Observance → Observance → Zone

-- ONSETS

-- the local time at that second of a day
abbrev pub local_time : ℕ → ℕ → ℤ
local_time day second = pos (86_400 * day + second) -ℤ pos 62_167_219_200

-- the observance begins on this day: only on DTSTART's where it has no rule, else on each that the rule's parts give, in every year, but none
-- before DTSTART. A DTSTART that its rule doesn't give sets the time of day and the first possible date; this profile's choice
abbrev pub begins_on : Observance → ℕ → Bool
begins_on o day =
    elim o.rule [
      | None ↦ day == o.day
      | Some parts ↦ nat_le o.day day && is_base parts day
    ]

-- an instant at which the offset is set anew, from one to another
pub record Onset : Type 0 where
  pub instant : ℤ
  pub before : ℤ
  pub after : ℤ

-- an onset of an observance: on a day on which it begins, at DTSTART's time of day, which is read with TZOFFSETFROM
pub record IsOnset (o : Observance) (onset : Onset) : Type 0 where
  pub day : ℕ
  pub begins : begins_on o day ≡ true
  pub read : onset.instant +ℤ o.offset_from ≡ local_time day o.second
  pub before : onset.before ≡ o.offset_from
  pub after : onset.after ≡ o.offset_to

-- the onsets of a zone are those of its observances
abbrev pub IsZoneOnset : Zone → Onset → Type 0
IsZoneOnset (Constant _) onset = ⊥
IsZoneOnset (Single a) onset = IsOnset a onset
IsZoneOnset (Pair a b) onset = IsOnset a onset ⊎ IsOnset b onset

-- an observance's onset at an instant
abbrev pub onset_at : Observance → ℤ → Onset
onset_at o instant = record { instant = instant; before = o.offset_from; after = o.offset_to }

-- its first onset
pub record IsFirstOf (o : Observance) (instant : ℤ) : Type 0 where
  pub listed : IsOnset o (onset_at o instant)
  pub least : (other : Onset) → IsOnset o other → instant ≤ℤ other.instant

-- none of its onsets has come
abbrev pub NoneBegun : Observance → ℤ → Type 0
NoneBegun o instant = (first : ℤ) × IsFirstOf o first × (instant <ℤ first)

-- the first onset of each observance: of none, of one, or of two
abbrev pub AreFirstOnsets : Zone → Option ℤ → Option ℤ → Type 0
AreFirstOnsets (Constant _) x y = (x ≡ None) × (y ≡ None)
AreFirstOnsets (Single a) x y = (first : ℤ) × IsFirstOf a first × (x ≡ Some first) × (y ≡ None)
AreFirstOnsets (Pair a b) x y =
    (first : ℤ) × (second : ℤ) × IsFirstOf a first × IsFirstOf b second × (x ≡ Some first) × (y ≡ Some second)

-- THE OFFSET IN FORCE
-- Its definitions are about any set of onsets, up to the offset of a zone.

-- the greatest onset that isn't later than an instant
pub record IsLatest (Is : Onset → Type 0) (instant : ℤ) (onset : Onset) : Type 0 where
  pub listed : Is onset
  pub begun : onset.instant ≤ℤ instant
  pub latest : (other : Onset) → Is other → other.instant ≤ℤ instant → other.instant ≤ℤ onset.instant

-- the least onset of all, where the instant is before it
pub record IsFirstAfter (Is : Onset → Type 0) (instant : ℤ) (onset : Onset) : Type 0 where
  pub listed : Is onset
  pub ahead : instant <ℤ onset.instant
  pub least : (other : Onset) → Is other → onset.instant ≤ℤ other.instant

-- the offset in force at an instant: what the latest onset sets, and before every onset what the first one ends (RFC 5545 3.6.5)
pub data InForce (Is : Onset → Type 0) (instant offset : ℤ) : Type 0 where
  Since : (onset : Onset) → IsLatest Is instant onset → offset ≡ onset.after → InForce Is instant offset
  Until : (onset : Onset) → IsFirstAfter Is instant onset → offset ≡ onset.before → InForce Is instant offset

-- the offset of a zone at an instant
abbrev pub IsOffsetAt : Zone → ℤ → ℤ → Type 0
IsOffsetAt (Constant k) instant offset = offset ≡ k
IsOffsetAt (Single a) instant offset = InForce (IsZoneOnset (Single a)) instant offset
IsOffsetAt (Pair a b) instant offset = InForce (IsZoneOnset (Pair a b)) instant offset

-- one offset is in force at an instant
abbrev pub IsOneOffset : Zone → Type 0
IsOneOffset z = (instant p q : ℤ) → IsOffsetAt z instant p → IsOffsetAt z instant q → p ≡ q

-- each onset of the zone sets one of two offsets to the other, at each instant one of them is in force, and each of them is at some
pub record IsBounds (z : Zone) (least greatest : ℤ) : Type 0 where
  pub ordered : least ≤ℤ greatest
  pub sides : (x : Onset) → IsZoneOnset z x → ((x.before ≡ least) × (x.after ≡ greatest)) ⊎ ((x.before ≡ greatest) × (x.after ≡ least))
  pub one : (instant offset : ℤ) → IsOffsetAt z instant offset → (offset ≡ least) ⊎ (offset ≡ greatest)
  pub reaches_least : (instant : ℤ) × IsOffsetAt z instant least
  pub reaches_greatest : (instant : ℤ) × IsOffsetAt z instant greatest

-- WHAT A LOCAL TIME MEANS
-- Its definitions are about any offsets at instants, `At`, and any onsets, `Is`, up to the clocks of a zone.

-- at this instant the clocks show this local time
abbrev pub ShowsBy : (ℤ → ℤ → Type 0) → ℤ → ℤ → Type 0
ShowsBy At instant local = (offset : ℤ) × At instant offset × (instant +ℤ offset ≡ local)

-- the least instant at which they show it: the first of two where the local time occurs twice
pub record IsShownFirstBy (At : ℤ → ℤ → Type 0) (local instant : ℤ) : Type 0 where
  pub shown : ShowsBy At instant local
  pub least : (other : ℤ) → ShowsBy At other local → instant ≤ℤ other

-- no instant shows it, since an onset sets the clocks from before it to after it; it is then read with the offset before that onset
pub record IsSkippedBy (At : ℤ → ℤ → Type 0) (Is : Onset → Type 0) (local instant : ℤ) : Type 0 where
  pub never : (other : ℤ) → ShowsBy At other local → ⊥
  pub onset : Onset
  pub listed : Is onset
  pub set_from : (onset.instant +ℤ onset.before) ≤ℤ local
  pub set_past : local <ℤ (onset.instant +ℤ onset.after)
  pub read : instant +ℤ onset.before ≡ local

-- the instant that a local time means (RFC 5545 3.3.5)
abbrev pub MeansBy : (ℤ → ℤ → Type 0) → (Onset → Type 0) → ℤ → ℤ → Type 0
MeansBy At Is local instant = IsShownFirstBy At local instant ⊎ IsSkippedBy At Is local instant

-- the clocks of a zone
abbrev pub Shows : Zone → ℤ → ℤ → Type 0
Shows zone instant local = ShowsBy (IsOffsetAt zone) instant local

abbrev pub Means : Zone → ℤ → ℤ → Type 0
Means zone local instant = MeansBy (IsOffsetAt zone) (IsZoneOnset zone) local instant

-- a local time means one instant
abbrev pub IsOneMeaning : Zone → Type 0
IsOneMeaning z = (local t u : ℤ) → Means z local t → Means z local u → t ≡ u

-- what local times mean is in this range
abbrev pub IsNearEpoch : ℤ → Type 0
IsNearEpoch t = (negsuc 100_000_000_000 ≤ℤ t) × (t ≤ℤ pos 1_000_000_000_000)

-- THE LAST DAY OF A TIME OF DAY

-- on each day from one on, up to 9999-12-31, that second of it is past the instant
abbrev pub NoneFrom : Zone → ℕ → ℤ → ℕ → Type 0
NoneFrom z second until from =
    (other : ℕ) → from ≤ other → other ≤ 3_652_424 → (start : ℤ) → Means z (local_time other second) start → until <ℤ start

-- on that day, which is at most 9999-12-31, it isn't, and on each later one it is
pub record IsLastDay (z : Zone) (second : ℕ) (until : ℤ) (day : ℕ) : Type 0 where
  pub to_9999 : day ≤ 3_652_424
  pub start : ℤ
  pub means : Means z (local_time day second) start
  pub not_past : start ≤ℤ until
  pub last : NoneFrom z second until (day + 1)
