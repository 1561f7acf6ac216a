-- The last day of a rule up to one.
use Rattle.std.specs.Prelude.{◌≡◌, ℕ, ◌<◌, ◌≤◌, true, false}
use Rattle.profile.specs.series.Rules.{Rule, is_rule_day}

-- no rule day up to a day
abbrev pub NoDayTo : Rule → ℕ → Type 0
NoDayTo r to = (n : ℕ) → n ≤ to → is_rule_day r n ≡ false

-- the greatest rule day up to a day
pub record IsLastDayTo (r : Rule) (to day : ℕ) : Type 0 where
  pub not_after : day ≤ to
  pub holds : is_rule_day r day ≡ true
  pub last : (n : ℕ) → day < n → n ≤ to → is_rule_day r n ≡ false
