-- What a text of a time spells by its form (RFC 5545 3.3.4, 3.3.5).
use Rattle.std.specs.Prelude.{◌≡◌, ℕ, true, List, codes, None, MatchOption, ℤ}
use Rattle.profile.specs.text.Lines.{line_param}
use Rattle.profile.specs.text.Values.{SpellsStamp, SpellsLocal}
use Rattle.profile.specs.events.Properties as properties
use Rattle.profile.specs.events.Properties.{Form, Fixed, Floating, WholeDay, allows_form, time_kind, IsLocalText}
use Rattle.profile.specs.events.ZonedTimes.{SpellsMidnight}
use Rattle.cal_events.specs.Times.{form_said, zone_said, local_said}
use Rattle.cal_events.specs.declared.when.TimeKind.{TimeKind}
use Rattle.cal_events.specs.declared.when.TimeKind.TheVariants.{Unsaid, Date, DateTime, Period, Other}
use Rattle.cal_events.specs.declared.when.When.{When}

abbrev pub said_kind : TimeKind → properties.TimeKind
said_kind Unsaid = properties.Unsaid
said_kind DateTime = properties.DateTime
said_kind Date = properties.Date
said_kind Period = properties.Period
said_kind Other = properties.Other

-- without TZID the text is a time of this form
abbrev pub IsAlone : List ℕ → Form → ℤ → Type 0
IsAlone text Fixed local = SpellsStamp text local
IsAlone text Floating local = SpellsLocal text local
IsAlone text WholeDay local = SpellsMidnight text local

-- it says this time, of no zone
abbrev pub SpellsAlone : List ℕ → When → Type 0
SpellsAlone text time = (zone_said time ≡ None) × IsAlone text (form_said time) (local_said time)

-- a text of a line is a time, whichever zone TZID names
abbrev pub IsReadable : List ℕ → List ℕ → Type 0
IsReadable line text =
    MatchOption (line_param (codes "TZID") line) ((form : Form) × (local : ℤ) × (allows_form (time_kind line) form ≡ true) × IsAlone text form local)
    (λ _. (allows_form (time_kind line) Fixed ≡ true) × IsLocalText text)
