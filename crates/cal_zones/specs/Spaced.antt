-- Two observances whose onsets keep two days apart.
use Rattle.std.specs.Prelude.{◌≡◌, ℕ, ◌+◌, ◌<◌, ◌≤◌, ◌⊎◌, ℤ, pos, unsigned_abs, ◌+ℤ◌, ◌-ℤ◌, ◌≤ℤ◌}
use Rattle.profile.specs.series.Days.{year_of}
use Rattle.profile.specs.series.Zones.{local_time}
use Rattle.cal_zones.specs.Yearly.{IsOn}
use Rattle.cal_zones.specs.declared.yearly.Yearly.{Yearly}
use Rattle.cal_zones.specs.declared.observance.Observance.{Observance}

-- the onset of the one on a day and that of the other on a day
abbrev pub IsApart : Observance → Observance → ℕ → ℕ → Type 0
IsApart a b n m =
    (x y : ℤ) → x +ℤ a.offset_from ≡ local_time n a.second → y +ℤ b.offset_from ≡ local_time m b.second
    → ((x +ℤ pos 172_800) ≤ℤ y) ⊎ ((y +ℤ pos 172_800) ≤ℤ x)

-- that of the one in a year and those of the other in that year and in the years beside it
abbrev pub IsYearSpaced : Observance → Observance → Yearly → Yearly → ℕ → Type 0
IsYearSpaced a b first second year =
    (n m : ℕ) → IsOn first n → year_of n ≡ year → IsOn second m → year_of m ≤ year + 1 → year ≤ year_of m + 1
    → IsApart a b n m

-- those of the years from 401 on up to one
abbrev pub IsSpaced : Observance → Observance → Yearly → Yearly → ℕ → Type 0
IsSpaced a b first second end = (year : ℕ) → 401 ≤ year → year < end → IsYearSpaced a b first second year

-- the onset of the one on a day and that of the other on a day are closer
abbrev pub AreNear : Observance → Observance → ℕ → ℕ → Type 0
AreNear a b n m =
    (x : ℤ) × (y : ℤ) × (x +ℤ a.offset_from ≡ local_time n a.second) × (y +ℤ b.offset_from ≡ local_time m b.second)
    × (unsigned_abs (x -ℤ y) < 172_800)

-- those on two days of their rules
abbrev pub HasNear : Observance → Observance → Yearly → Yearly → Type 0
HasNear a b first second = (n : ℕ) × (m : ℕ) × IsOn first n × IsOn second m × AreNear a b n m
