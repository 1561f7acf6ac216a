-- The days of a rule apart from COUNT, and where COUNT ends.
use Rattle.std.specs.Prelude.{◌≡◌, ℕ, ◌<◌, ◌≤◌, Bool, true, false, ◌&&◌, nat_le}
use Rattle.profile.specs.series.Rules.{Pattern, Rule, is_base, is_placed, is_counted, is_rule_day}

-- no day from that one on and before the end passes the test
abbrev pub NoneIn : (ℕ → Bool) → ℕ → ℕ → Type 0
NoneIn test from end = (n : ℕ) → from ≤ n → n < end → test n ≡ false

-- the first of them that does
pub record IsFirstIn (test : ℕ → Bool) (from end day : ℕ) : Type 0 where
  pub not_before : from ≤ day
  pub inside : day < end
  pub holds : test day ≡ true
  pub least : NoneIn test from day

-- a base day with one of the set positions (RFC 5545 3.3.10, BYSETPOS)
abbrev pub is_chosen : Pattern → ℕ → Bool
is_chosen p n = is_base p n && is_placed p n

-- no rule day apart from COUNT from a day on
abbrev pub HasNoDayFrom : Rule → ℕ → Type 0
HasNoDayFrom r from = (n : ℕ) → from ≤ n → is_counted r n ≡ false

-- none of them from a day on up to another
abbrev pub NoneBetween : Rule → ℕ → ℕ → Type 0
NoneBetween r from day = (n : ℕ) → from ≤ n → n < day → is_counted r n ≡ false

-- the least of them from a day on
pub record IsNextCounted (r : Rule) (from day : ℕ) : Type 0 where
  pub not_before : from ≤ day
  pub counted : is_counted r day ≡ true
  pub least : NoneBetween r from day

-- the rule days are those up to the end
abbrev pub RuleEndsAt : Rule → ℕ → Type 0
RuleEndsAt r end = (n : ℕ) → is_rule_day r n ≡ (is_counted r n && nat_le n end)
