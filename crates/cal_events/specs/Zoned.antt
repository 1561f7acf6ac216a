-- What the readers of times in zones see of components.
use Rattle.std.specs.Prelude.{◌≡◌, ◌↔◌, ℕ, Bool, true, false, IsTrue, List, codes, Option, Some, None, ℤ, pos, negsuc, ◌≤ℤ◌, ◌+ℤ◌}
use Rattle.profile.specs.text.Trees.{Tree}
use Rattle.profile.specs.series.Zones.{Zone, Means}
use Rattle.profile.specs.faults.Blame.{Numbered}
use Rattle.profile.specs.events.EventBlame.{may_have}
use Rattle.profile.specs.events.EventComponents.{DTSTART, DTEND, DURATION}
use Rattle.profile.specs.events.EventRules.{IsRuleText}
use Rattle.profile.specs.events.Properties.{LastsFor, OccursAtMostOnce, IsMissing, Says}
use Rattle.profile.specs.events.ZonedTimes.{is_in_zone, IsInDates, SaysZonedTime, clock_of}
use Rattle.cal_events.specs.Component.{length_of, form_of, form_said, zone_said, local_said}
use Rattle.cal_events.specs.Occurrences.{IsLineNamed}
use Rattle.cal_events.specs.declared.event_rule.SaidRule.{SaidRule}
use Rattle.cal_events.specs.declared.event_times.Extent.{Extent}
use Rattle.cal_events.specs.declared.event_times.Extent.TheVariants.{To, For, Open}
use Rattle.cal_events.specs.declared.event_times.SaidEnd.{SaidEnd}
use Rattle.cal_events.specs.declared.event_times.SaidTimes.{SaidTimes}
use Rattle.cal_events.specs.declared.event_times.SaidTimes.TheVariants.{From, Alone}
use Rattle.cal_events.specs.declared.when.When.{When}

-- whether an end is in the dates that an event may name; also without one
abbrev pub ends_in : Extent → Bool
ends_in (To end) = end.in_dates
ends_in (For duration) = true
ends_in Open = true

-- the line says an end of this form, so many seconds after a start, which is in the dates that an event may name, or isn't
abbrev pub EndsSo : Tree → List ℕ → ℤ → SaidEnd → Type 0
EndsSo object line start end =
    (zone : Option Zone) × (local : ℤ) × SaysZonedTime object line (form_of end.form) zone local
    × Means (clock_of zone) local (start +ℤ end.seconds)
    × (IsTrue end.in_dates ↔ IsInDates true (form_of end.form) (is_in_zone line) local (start +ℤ end.seconds))

-- DTEND says this, or DURATION does, or there is neither
abbrev pub IsExtentIn : Tree → List (List ℕ) → ℤ → Extent → Type 0
IsExtentIn object lines start (To end) =
    (line : List ℕ) × OccursAtMostOnce (codes "DTEND") lines (Some line) × OccursAtMostOnce (codes "DURATION") lines None
    × EndsSo object line start end
IsExtentIn object lines start (For duration) =
    (line : List ℕ) × OccursAtMostOnce (codes "DTEND") lines None × OccursAtMostOnce (codes "DURATION") lines (Some line)
    × LastsFor line (length_of duration)
IsExtentIn object lines start Open =
    OccursAtMostOnce (codes "DTEND") lines None × OccursAtMostOnce (codes "DURATION") lines None

-- the line says this start, at an instant in the dates that an event may name, or not
pub record IsStartSaid (object : Tree) (line : List ℕ) (start : When) (instant : ℤ) (in_dates : Bool) : Type 0 where
  pub says : SaysZonedTime object line (form_said start) (zone_said start) (local_said start)
  pub means : Means (clock_of (zone_said start)) (local_said start) instant
  pub dates : IsTrue in_dates ↔ IsInDates false (form_said start) (is_in_zone line) (local_said start) instant

-- what DTSTART, DTEND and DURATION say
pub record AreSaid (object : Tree) (lines : List (List ℕ)) (start : When) (instant : ℤ) (in_dates : Bool) (extent : Extent) : Type 0 where
  pub line : List ℕ
  pub once : OccursAtMostOnce (codes "DTSTART") lines (Some line)
  pub start_said : IsStartSaid object line start instant in_dates
  pub extent_in : IsExtentIn object lines instant extent

-- what DTEND and DURATION say without DTSTART
pub record AreSaidAlone (object : Tree) (lines : List (List ℕ)) (extent : Extent) : Type 0 where
  pub missing : IsMissing (codes "DTSTART") lines
  pub extent_in : IsExtentIn object lines (pos 0) extent

-- what the three say, where DTSTART may be missing or not
abbrev pub AreSaidBy : Bool → Tree → List (List ℕ) → SaidTimes → Type 0
AreSaidBy may_lack object lines (From start instant in_dates extent _) = AreSaid object lines start instant in_dates extent
AreSaidBy may_lack object lines (Alone extent _) = (may_lack ≡ true) × AreSaidAlone object lines extent

-- ---- at which lines

-- DTEND or DURATION is at this line of the VEVENT
abbrev pub IsExtentLine : Numbered → Extent → ℕ → Type 0
IsExtentLine event (To end) at = IsLineNamed DTEND event at
IsExtentLine event (For duration) at = IsLineNamed DURATION event at
IsExtentLine event Open at = Unit {0}

abbrev pub AreLinesSaid : Numbered → SaidTimes → Type 0
AreLinesSaid event (From _ _ _ extent lines) = IsLineNamed DTSTART event lines.start × IsExtentLine event extent lines.extent
AreLinesSaid event (Alone extent lines) = IsExtentLine event extent lines.extent

-- DTEND or DURATION may have the fault of this number beside DTSTART
abbrev pub MayHave : Extent → ℕ → Type 0
MayHave (To end) n = may_have DTEND n ≡ true
MayHave (For duration) n = may_have DURATION n ≡ true
MayHave Open n = ⊥

-- what RRULE says by itself
abbrev pub IsRuleSaid : List (List ℕ) → SaidRule → Type 0
IsRuleSaid lines said = Says (codes "RRULE") false IsRuleText lines said.text

-- seconds of some ten million years on each side, where no sum of a few of them goes past 64 bits
abbrev pub IsInYears : ℤ → Type 0
IsInYears t = (negsuc 999_999_999_999_999 ≤ℤ t) × (t ≤ℤ pos 1_000_000_000_000_000)
