-- What is found of some runs at an instant, and after it.
use Rattle.std.specs.Prelude.{◌≡◌, ◌↔◌, None, List, ℤ, ◌+ℤ◌}
use Rattle.std.specs.Int.Signed.{◌<ℤ◌}
use Rattle.profile.specs.series.Zones.{Observance, Onset, Zone, Constant, Single, local_time, IsZoneOnset, IsOffsetAt, Means}
use Rattle.profile.specs.doors.Adapting.{SetsBack}
use Rattle.profile.specs.series.GeneralZones.{Run, IsGeneralOnset, IsGeneralOffsetAt, MeansGenerally, runs_of}

-- one offset is in force at an instant
pub record IsOnlyOffset (zone : List Run) (instant offset : ℤ) : Type 0 where
  pub in_force : IsGeneralOffsetAt zone instant offset
  pub only : (other : ℤ) → IsGeneralOffsetAt zone instant other → other ≡ offset

-- the zone of one offset, which all onsets after an instant set
pub record IsStillAfter (zone : List Run) (instant offset : ℤ) (other : Zone) : Type 0 where
  pub is : other ≡ Constant offset
  pub sets : (x : Onset) → IsGeneralOnset zone x → instant <ℤ x.instant → x.after ≡ offset

-- after an instant the onsets are the same
pub record HasOnsetsAfter (zone : List Run) (instant : ℤ) (other : Zone) : Type 0 where
  pub there : (x : Onset) → instant <ℤ x.instant → IsGeneralOnset zone x → IsZoneOnset other x
  pub back : (x : Onset) → instant <ℤ x.instant → IsZoneOnset other x → IsGeneralOnset zone x
  pub sides : SetsBack other

-- the zone of one onset, at an instant and with these offsets
pub record IsOnceAt (only from to : ℤ) (zone : Zone) : Type 0 where
  pub o : Observance
  pub is : zone ≡ Single o
  pub no_rule : o.rule ≡ None
  pub local : local_time o.day o.second ≡ only +ℤ from
  pub before : o.offset_from ≡ from
  pub after : o.offset_to ≡ to

-- the zone in general of its runs has the same offset in force, and its local times mean the same
pub record IsGeneral (z : Zone) : Type 0 where
  pub offset : (instant offset : ℤ) → IsOffsetAt z instant offset ↔ IsGeneralOffsetAt (runs_of z) instant offset
  pub meaning : (local t : ℤ) → Means z local t ↔ MeansGenerally (runs_of z) local t

-- two zones in general have the same offset in force, and their local times mean the same
pub record AreSameZones (zone other : List Run) : Type 0 where
  pub offset : (instant offset : ℤ) → IsGeneralOffsetAt zone instant offset ↔ IsGeneralOffsetAt other instant offset
  pub meaning : (local t : ℤ) → MeansGenerally zone local t ↔ MeansGenerally other local t
