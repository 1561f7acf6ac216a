-- Where the starts of a series fall, modulo a number m of seconds: on the days that the form of a rule allows, at one second of the day, by one of
-- two offsets. At most fourteen of them stand for all in each turn of the form's cycle.
use Rattle.std.specs.Prelude.{◌≡◌, ◌≢◌, ◌⊎◌, ℕ, ◌+◌, ◌*◌, ◌/◌, ◌%◌, ◌<◌, ◌==◌, Bool, true, if◌then◌else◌, Some, ℤ, pos, ◌-ℤ◌}
use Rattle.profile.specs.series.Rules.{Pattern}
use Rattle.profile.specs.series.Periods.{IsMultiple}
use Rattle.profile.specs.series.Zones.{local_time}
use Rattle.profile.specs.series.Repeating.{ArcsMeet, IsCongruent}
use Rattle.profile.specs.series.Residues.{is_in_form}
use Rattle.cal_rules.specs.Forms.{form_cycle, listed_day}

-- so many seconds, fewer than m, past a multiple of m it is that second of a day that the form allows, by one of the offsets
pub record IsPhase (p : Pattern) (second : ℕ) (least greatest : ℤ) (m residue : ℕ) : Type 0 where
  pub below : residue < m
  pub day : ℕ
  pub in_form : is_in_form p day ≡ true
  pub offset : ℤ
  pub of_zone : (offset ≡ least) ⊎ (offset ≡ greatest)
  pub same : IsCongruent m (local_time day second -ℤ offset) (pos residue)

-- the offsets take turns
abbrev pub nth_offset : ℤ → ℤ → ℕ → ℤ
nth_offset least greatest number = if (number % 2) == 0 then least else greatest

-- the day of that number that stands for others; each has two numbers, one for each offset, in each turn of the cycle
abbrev pub nth_phase_number : ℕ → ℕ
nth_phase_number number = number / 2 % 7

-- so many turns later
abbrev pub turned : Pattern → ℕ → ℕ → ℕ
turned p day number = day + form_cycle p * (number / 14)

-- the phase of that number
pub record IsNth (p : Pattern) (second : ℕ) (least greatest : ℤ) (m number residue : ℕ) : Type 0 where
  pub below : residue < m
  pub day : ℕ
  pub listed : listed_day p (nth_phase_number number) ≡ Some day
  pub same : IsCongruent m (local_time (turned p day number) second -ℤ nth_offset least greatest number) (pos residue)

-- after so many turns of its cycle the form is where it was, modulo m
abbrev pub AreTurns : Pattern → ℕ → ℕ → Type 0
AreTurns p m turns = (0 < turns) × IsMultiple (86_400 * (form_cycle p * turns)) m

-- ---- arcs

-- the arc of a residue meets that of another; where they are of one series (`own`), one with itself doesn't count
abbrev pub MeetsOther : Bool → ℕ → ℕ → ℤ → ℕ → ℤ → Type 0
MeetsOther own m r width s other = (own ≡ true → r ≢ s) × ArcsMeet m r width s other
