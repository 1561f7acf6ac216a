-- What a calendar that hands out its instances one by one shows of itself.
use Rattle.std.specs.Prelude.{◌≡◌, List, ℕ, pos, true, ◌+◌, ◌-◌, ◌^◌, ◌<◌, ◌≤◌, ℤ, ◌+ℤ◌, ◌-ℤ◌, ◌≤ℤ◌, ◌<ℤ◌, if◌then◌else◌, min, Option, Some, is_some, Contains}
use Rattle.std.specs.List.{slice_get}
use Rattle.profile.specs.checker.Instances.{Instance, AreClear}
use Rattle.profile.specs.events.Events.{Event}
use Rattle.profile.specs.events.Starts.{IsInstance}
use Rattle.profile.specs.events.Confirmed.{Confirmed}
use Rattle.profile.specs.events.Residues.{IsResidue, ResiduesHold}
use Rattle.profile.specs.events.Spans.{IsWidthOf, SpanHolds}
use Rattle.profile.specs.series.Repeating.{IsCongruent}
use Rattle.cal_events.specs.Calendar.{HaveDifferentKeys, HaveOwnKeys}
use Rattle.cal_events.specs.Series.{AreKnownByStart}

-- one of n, counted from 1
abbrev pub IsPlaceIn : ℕ → ℕ → Type 0
IsPlaceIn n i = (0 < i) × (i ≤ n)

-- an instance of the series starts and ends then
abbrev pub IsInstanceSpan : Event → ℤ → ℤ → Type 0
IsInstanceSpan series start end = (b : Instance) × IsInstance series b × (b.start ≡ start) × (b.end ≡ end)

-- it starts from an instant on and before a bound
abbrev pub IsSpanBetween : Event → ℤ → ℤ → ℤ → ℤ → Type 0
IsSpanBetween series from bound start end = IsInstanceSpan series start end × (from ≤ℤ start) × (start <ℤ bound)

-- the single at a place, counted from 1
abbrev pub IsSingleAt : Confirmed → ℕ → Instance → Type 0
IsSingleAt confirmed place single = slice_get confirmed.singles (place - 1) ≡ Some single

-- an instance of the series of this width lasts no longer than that, and a third of it at least: its days are nominal, so its length may
-- differ from theirs by half a day at most
pub record LastsAbout (series : Event) (width : ℤ) : Type 0 where
  pub most : (b : Instance) → IsInstance series b → b.end ≤ℤ (b.start +ℤ width)
  pub least : (b : Instance) → IsInstance series b → width ≤ℤ ((b.end -ℤ b.start) +ℤ ((b.end -ℤ b.start) +ℤ (b.end -ℤ b.start)))

-- different instances have different keys; those of a series are known by their starts, last about as long as its width says, start each at one of
-- its residues, and are settled by a span that holds and by residues that do
pub record IsDrawable (all : Confirmed) : Type 0 where
  pub keys : HaveDifferentKeys all.singles
  pub own : HaveOwnKeys all
  pub known : (series : Event) → Contains all.series series → AreKnownByStart series
  pub lengths : (series : Event) → Contains all.series series → (width : ℤ) → IsWidthOf series width → LastsAbout series width
  pub settled : (those : List Event) → ((series : Event) → Contains those series → Contains all.series series) → (from : ℤ) (days : ℕ) → SpanHolds those those from days
      → (series : Event) → Contains those series → AreClear (IsInstance series) (IsInstance series)
  pub apart : (series : Event) → Contains all.series series → (m : ℕ) → ResiduesHold true series series m → AreClear (IsInstance series) (IsInstance series)
  pub starts : (series : Event) → Contains all.series series → (m : ℕ) → 0 < m → (b : Instance) → IsInstance series b
      → ((residue : ℕ) → IsResidue series m residue → IsCongruent m b.start (pos residue) → ⊥) → ⊥

-- so many more are drawn, as far as 64 bits go
abbrev pub drawn_more : ℕ → ℕ → ℕ
drawn_more before more = min (before + more) (2 ^ 64 - 1)

-- one where there is one
abbrev pub one_if : {X : Type 0} → Option X → ℕ
one_if found = if is_some found then 1 else 0
