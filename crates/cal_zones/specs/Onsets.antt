-- The onsets of one observance.
use Rattle.std.specs.Prelude.{◌≡◌, ℕ, ◌+◌, ◌*◌, ◌^◌, ◌≤◌, true, Option, Some, None, ℤ, pos, ◌+ℤ◌, ◌≤ℤ◌, ◌<ℤ◌}
use Rattle.profile.specs.series.Rules.{Pattern}
use Rattle.profile.specs.series.Zones.{Observance, begins_on}
use Rattle.cal_zones.specs.Shapes.{yearly_pattern}
use Rattle.cal_zones.specs.Yearly.{IsOn}
use Rattle.cal_zones.specs.declared.yearly.Yearly.{Yearly}
use Rattle.cal_zones.specs.declared.observance.Observance as rust

-- the parts of its rule, as they are written
abbrev pub yearly_rule : ℕ → Option Yearly → Option Pattern
yearly_rule day None = None
yearly_rule day (Some r) = Some (yearly_pattern r.month r.days day)

-- what it represents
abbrev pub observance_of : rust.Observance → Observance
observance_of o = record {
  day = o.day;
  second = o.second;
  rule = yearly_rule o.day o.rule;
  offset_from = o.offset_from;
  offset_to = o.offset_to;
}

-- their DTSTARTs and their offsets are the same
pub record HasTimesOf (o other : rust.Observance) : Type 0 where
  pub day : o.day ≡ other.day
  pub second : o.second ≡ other.second
  pub before : o.offset_from ≡ other.offset_from
  pub after : o.offset_to ≡ other.offset_to

-- the first day on which it begins
pub record IsFirstDayOf (o : Observance) (day : ℕ) : Type 0 where
  pub begins : begins_on o day ≡ true
  pub least : (other : ℕ) → begins_on o other ≡ true → day ≤ other

-- of the days of a rule, one onset a day, this many days after the first onset, the latest up to an instant
pub record IsLatestAfter (r : Yearly) (first_day : ℕ) (first instant result : ℤ) : Type 0 where
  pub day : ℕ
  pub on : IsOn r day
  pub from : first_day ≤ day
  pub place : result +ℤ pos (86_400 * first_day) ≡ first +ℤ pos (86_400 * day)
  pub begun : result ≤ℤ instant
  pub latest : (other : ℕ) → IsOn r other → (first +ℤ pos (86_400 * other)) ≤ℤ (instant +ℤ pos (86_400 * first_day)) → other ≤ day

-- the first of them later than an instant
pub record IsNextAfter (r : Yearly) (first_day : ℕ) (first after result : ℤ) : Type 0 where
  pub day : ℕ
  pub on : IsOn r day
  pub from : first_day ≤ day
  pub place : result +ℤ pos (86_400 * first_day) ≡ first +ℤ pos (86_400 * day)
  pub ahead : after <ℤ result
  pub first_one : (other : ℕ) → IsOn r other → (after +ℤ pos (86_400 * first_day)) <ℤ (first +ℤ pos (86_400 * other)) → day ≤ other

-- 64 bits hold none of the later ones
abbrev pub IsNoneAfter : Yearly → ℕ → ℤ → ℤ → Type 0
IsNoneAfter r first_day first after =
    (other : ℕ) → IsOn r other → (after +ℤ pos (86_400 * first_day)) <ℤ (first +ℤ pos (86_400 * other)) → pos (2 ^ 63 + 86_400 * first_day) ≤ℤ (first +ℤ pos (86_400 * other))
