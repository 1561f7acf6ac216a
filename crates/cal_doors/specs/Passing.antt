-- Conditions on onsets.
use Rattle.std.specs.Prelude.{◌≡◌, ◌⊎◌, ℤ, ◌≤ℤ◌}
use Rattle.std.specs.Int.Signed.{◌<ℤ◌}
use Rattle.profile.specs.series.Zones.{Observance, Onset, IsOnset}

-- after an instant it sets that offset
abbrev pub PassesStill : ℤ → ℤ → Onset → Type 0
PassesStill instant offset x = instant <ℤ x.instant → x.after ≡ offset

-- up to an instant it isn't later than the latest one, and sets that offset where it is at the same instant
abbrev pub PassesLatest : ℤ → ℤ → ℤ → Onset → Type 0
PassesLatest instant latest offset x = x.instant ≤ℤ instant → (x.instant ≤ℤ latest) × (x.instant ≡ latest → x.after ≡ offset)

-- it isn't earlier than the first one, and ends that offset where it is at the same instant
abbrev pub PassesFirst : ℤ → ℤ → Onset → Type 0
PassesFirst first offset x = (first ≤ℤ x.instant) × (x.instant ≡ first → x.before ≡ offset)

-- after an instant it is at this one, with these offsets
abbrev pub PassesOnly : ℤ → ℤ → ℤ → ℤ → Onset → Type 0
PassesOnly instant only from to x = instant <ℤ x.instant → (x.instant ≡ only) × (x.before ≡ from) × (x.after ≡ to)

-- after an instant it is one of these two
abbrev pub PassesPair : ℤ → Observance → Observance → Onset → Type 0
PassesPair instant one other x = instant <ℤ x.instant → IsOnset one x ⊎ IsOnset other x
