-- Where a listing of the days of a rule is.
use Rattle.std.specs.Prelude.{◌≡◌, ℕ, ◌-◌, ◌<◌, ◌≤◌, Bool, true, false, nat_lt, ℤ, pos, negsuc}
use Rattle.std.specs.List.{list_any}
use Rattle.profile.specs.series.Rules.{Pattern, Rule, passes, count_days, is_in_step, is_missing}
use Rattle.cal_rules.specs.declared.cursor.Cursor.{Cursor}
use Rattle.cal_rules.specs.Known.{AreFacts}
use Rattle.cal_rules.specs.Spans.{IsPeriodSpan}
use Rattle.cal_rules.specs.Counted.{IsFirstIn, IsNextCounted, is_chosen}

-- a set position counts from the first day, not from the last
abbrev pub is_from_first : ℤ → Bool
is_from_first (pos _) = true
is_from_first (negsuc _) = false

-- a set position is among this many last ones
abbrev pub is_among_last : ℕ → ℤ → Bool
is_among_last depth (pos _) = false
is_among_last depth (negsuc n) = nat_lt n depth

-- the days are those of the period of the day, which is in step; where BYSETPOS is written, this many of them pass each part from
-- the day on, and at least this many before it: exactly this many, where a set position counts from the first day
pub record IsInsidePeriod (p : Pattern) (c : Cursor) : Type 0 where
  pub facts : AreFacts c.day
  pub period : IsPeriodSpan p.frequency p.week_start c.day.index c.span.first c.span.end
  pub in_step : is_in_step p c.day.index ≡ true
  pub earlier : is_missing p.positions ≡ false → c.earlier ≤ count_days (passes p) c.span.first (c.day.index - c.span.first)
  pub exact : list_any is_from_first p.positions ≡ true → c.earlier ≡ count_days (passes p) c.span.first (c.day.index - c.span.first)
  pub later : is_missing p.positions ≡ false → c.later ≡ count_days (passes p) c.day.index (c.span.end - c.day.index)

-- it is in its period, or where that ends
pub record IsCursorOf (p : Pattern) (c : Cursor) : Type 0 where
  pub range : (366 ≤ c.day.index) × (c.day.index ≤ c.span.end) × (c.span.end ≤ 3_653_155)
  pub inside : c.day.index < c.span.end → IsInsidePeriod p c

-- it is after the first base day with a set position from one day on and before another
pub record IsPastFirst (p : Pattern) (from end : ℕ) (c : Cursor) : Type 0 where
  pub is_cursor : IsCursorOf p c
  pub first : IsFirstIn (is_chosen p) from end (c.day.index - 1)

-- it is after the least rule day apart from COUNT from a day on
pub record IsPastNext (r : Rule) (from : ℕ) (c : Cursor) : Type 0 where
  pub is_cursor : IsCursorOf r.pattern c
  pub next : IsNextCounted r from (c.day.index - 1)
  pub range : (367 ≤ c.day.index) × (c.day.index ≤ 3_652_425)
