-- What the clocks of a zone do again after each of its periods, once all its onsets are past that come once.
use Rattle.std.specs.Prelude.{◌≡◌, ◌↔◌, ℕ, ◌*◌, ◌<◌, ◌≤◌, Some, None, ℤ, pos, negsuc, ◌+ℤ◌, ◌-ℤ◌, ◌≤ℤ◌}
use Rattle.profile.specs.text.Values.{IsOffset}
use Rattle.profile.specs.events.Spans.{IsHalfDayPast, IsPastOnsets, IsZonePeriod}
use Rattle.profile.specs.series.Zones.{IsFirstOf, Zone, Constant, Single, Pair, Observance, Onset, IsZoneOnset, IsOffsetAt, Means}
use Rattle.profile.specs.series.ZoneTexts.{YearRule, AreMatched, year_pattern}

-- both offsets of an observance are less than a day
abbrev pub HasOffsets : Observance → Type 0
HasOffsets o = IsOffset o.offset_from × IsOffset o.offset_to

-- it begins on one day of the month every year
abbrev pub IsEachYear : Observance → Type 0
IsEachYear o = (each : YearRule) × (o.rule ≡ Some (year_pattern each o.day))

-- a zone as it is read: of one offset, of one observance that begins once, or of two that each begin every year
abbrev pub IsRegular : Zone → Type 0
IsRegular (Constant k) = IsOffset k
IsRegular (Single a) = HasOffsets a × (a.rule ≡ None) × AreMatched (Single a)
IsRegular (Pair a b) = HasOffsets a × IsEachYear a × IsEachYear b × AreMatched (Pair a b)

-- the same change of the clocks so many seconds later
abbrev pub later_by : ℤ → Onset → Onset
later_by seconds x = record { instant = x.instant +ℤ seconds; before = x.before; after = x.after }

-- from this instant on local times mean so many days later what they mean now, and the other way round. The offsets are the same already
-- from a second more than half a day before it on, and the onsets are from half a day before it on
pub record ZoneRepeats (z : Zone) (from : ℤ) (days : ℕ) : Type 0 where
  pub later : (local t : ℤ) → from ≤ℤ t → Means z local t → Means z (local +ℤ pos (86_400 * days)) (t +ℤ pos (86_400 * days))
  pub earlier : (local t : ℤ) → from ≤ℤ t → Means z (local +ℤ pos (86_400 * days)) (t +ℤ pos (86_400 * days)) → Means z local t
  pub offset_later : (t offset : ℤ) → (from -ℤ pos 43_201) ≤ℤ t → IsOffsetAt z t offset → IsOffsetAt z (t +ℤ pos (86_400 * days)) offset
  pub offset_earlier : (t offset : ℤ) → (from -ℤ pos 43_201) ≤ℤ t → IsOffsetAt z (t +ℤ pos (86_400 * days)) offset → IsOffsetAt z t offset
  pub onset_later : (x : Onset) → (from -ℤ pos 43_200) ≤ℤ x.instant → IsZoneOnset z x → IsZoneOnset z (later_by (pos (86_400 * days)) x)
  pub onset_earlier : (x : Onset) → (from -ℤ pos 43_200) ≤ℤ x.instant → IsZoneOnset z (later_by (pos (86_400 * days)) x) → IsZoneOnset z x

-- its offsets are within these bounds, which are half a day apart at most and less than a day
pub record AreOffsetsOf (z : Zone) (least greatest : ℤ) : Type 0 where
  pub offsets : (t offset : ℤ) → IsOffsetAt z t offset → (least ≤ℤ offset) × (offset ≤ℤ greatest)
  pub befores : (x : Onset) → IsZoneOnset z x → (least ≤ℤ x.before) × (x.before ≤ℤ greatest)
  pub close : greatest ≤ℤ (least +ℤ pos 43_200)
  pub low : negsuc 86_398 ≤ℤ least
  pub high : greatest ≤ℤ pos 86_399

-- an observance began more than half a day before each instant from this one on, and before no other
abbrev pub IsBegunFrom : Observance → ℤ → Type 0
IsBegunFrom o from = (t : ℤ) → (from ≤ℤ t) ↔ ((first : ℤ) × IsFirstOf o first × IsHalfDayPast t first)

-- the instants that are past its onsets are those from this one on; 0 where there are no onsets
abbrev pub IsRegularFrom : Zone → ℤ → Type 0
IsRegularFrom (Constant k) from = from ≡ pos 0
IsRegularFrom (Single a) from = (t : ℤ) → (from ≤ℤ t) ↔ IsPastOnsets (Single a) t
IsRegularFrom (Pair a b) from = (t : ℤ) → (from ≤ℤ t) ↔ IsPastOnsets (Pair a b) t

-- the least number of days after which a zone does the same
pub record IsLeastZonePeriod (z : Zone) (days : ℕ) : Type 0 where
  pub some : 0 < days
  pub is : IsZonePeriod z days
  pub least : (n : ℕ) → 0 < n → IsZonePeriod z n → days ≤ n
