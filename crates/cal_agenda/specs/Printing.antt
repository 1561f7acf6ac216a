-- An agenda, and what is free, as lines of text.
use Rattle.std.specs.Prelude.{◌≡◌, ◌⊎◌, ◌++◌, ◌∷◌, ℕ, ℤ, List, [], codes, Option, Some, None}
use Rattle.profile.specs.text.Values.{WritesStamp, WritesLocal, IsClockSeconds, escaped}
use Rattle.profile.specs.series.Zones.{Zone, Shows}
use Rattle.profile.specs.checker.Instances.{Instance}

-- a line of that kind for each, one after another
abbrev pub LinesOf : {X : Type 0} → (X → List ℕ → Type 0) → List X → List ℕ → Type 0
LinesOf IsLine [] text = text ≡ []
LinesOf IsLine (x ∷ xs) text = (line : List ℕ) × (rest : List ℕ) × IsLine x line × LinesOf IsLine xs rest × (text ≡ line ++ rest)

-- an instant in UTC; `-` where its year is none from 1 to 9999
abbrev pub IsInstantText : ℤ → List ℕ → Type 0
IsInstantText instant text = WritesStamp text instant ⊎ ((IsClockSeconds instant → ⊥) × (text ≡ codes "-"))

-- the local time that the clocks of a zone show at an instant, by the offset in force; `-` where its year is none from 1 to 9999
abbrev pub IsLocalTimeText : Zone → ℤ → List ℕ → Type 0
IsLocalTimeText zone instant text =
    (local : ℤ) × Shows zone instant local × (WritesLocal text local ⊎ ((IsClockSeconds local → ⊥) × (text ≡ codes "-")))

-- those of two instants, with a blank before each; nothing where no zone is given
abbrev pub AreLocalTimes : Option Zone → ℤ → ℤ → List ℕ → Type 0
AreLocalTimes None start end text = text ≡ []
AreLocalTimes (Some zone) start end text =
    (first : List ℕ) × (last : List ℕ) × IsLocalTimeText zone start first × IsLocalTimeText zone end last × (text ≡ codes " " ++ first ++ codes " " ++ last)

-- two instants in UTC, with a blank between, and behind them their local times
abbrev pub IsTimesText : Option Zone → ℤ → ℤ → List ℕ → Type 0
IsTimesText zone start end text =
    (first : List ℕ) × (last : List ℕ) × (local : List ℕ) × IsInstantText start first × IsInstantText end last × AreLocalTimes zone start end local
    × (text ≡ first ++ codes " " ++ last ++ local)

-- when an instance starts and ends, its UID as it is written in a calendar, and its organiser
abbrev pub IsAgendaLine : Option Zone → Instance → List ℕ → Type 0
IsAgendaLine zone instance line =
    (times : List ℕ) × IsTimesText zone instance.start instance.end times
    × (line ≡ times ++ codes " " ++ escaped instance.key.uid ++ codes " " ++ instance.key.organiser ++ codes "\n")

-- when a free span starts and ends
abbrev pub IsFreeLine : Option Zone → ℤ × ℤ → List ℕ → Type 0
IsFreeLine zone span line = (times : List ℕ) × IsTimesText zone span.0 span.1 times × (line ≡ times ++ codes "\n")
