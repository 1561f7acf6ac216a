-- The rule of a VEVENT: on which days its RRULE lets it start (RFC 5545 3.3.10, 3.8.5.3). The days are those of the start's own clocks,
-- which are those of the zone that DTSTART names, or of UTC; beside a start that isn't fixed UNTIL is read as a local time, its `Z` without
-- meaning, so that here too the clocks of UTC serve. A day is given by its index.
use Rattle.std.specs.Prelude.{◌≡◌, ℕ, ◌<◌, ◌⊎◌, false, true, if◌then◌else◌, List, [], ◌∷◌, codes, Option, Some, None, ℤ, pos, ◌-ℤ◌}
use Rattle.std.specs.Int.Signed.{lt_z}
use Rattle.profile.specs.checker.Instances.{horizon}
use Rattle.profile.specs.series.Days.{day_index}
use Rattle.profile.specs.text.Lines.{line_value}
use Rattle.profile.specs.text.Trees.{Tree}
use Rattle.profile.specs.series.Rules.{Rule, RuleText, Until, UntilDay, UntilLocal, UntilInstant, rule_of, is_rule_day, last_rule_day}
use Rattle.profile.specs.series.RuleTexts.{SpellsRule, IsLeastRuleFault}
use Rattle.profile.specs.series.Zones.{Zone, Means, NoneFrom, IsLastDay, local_time}
use Rattle.profile.specs.events.Properties.{Form, first_second, lines_named, BothOrNeither, Says, SomeLine}
use Rattle.profile.specs.events.ZonedTimes.{SaysZonedTime, clock_of, EventTimes}

-- ---- the last day that UNTIL allows

-- the instant up to which UNTIL allows starts, where it says this one: at the least the second before the first that an event may name, and
-- at the most the last before year 10000, as no start is outside of these; this profile's choice
abbrev pub as_end : ℤ → ℤ
as_end instant =
    if lt_z instant first_second then first_second -ℤ pos 1
    else (if lt_z instant horizon then instant else horizon -ℤ pos 1)

-- of starts at that second of their days on the clocks of a zone: without UNTIL 9999-12-31; a date is that day; a local time allows
-- the days on which the start isn't past what it means in the zone, a UTC time those on which the start isn't past it
abbrev pub IsLastAllowed : Zone → ℕ → Option Until → ℕ → Type 0
IsLastAllowed zone second None last = last ≡ last_rule_day
IsLastAllowed zone second (Some (UntilDay number)) last = last ≡ day_index number
IsLastAllowed zone second (Some (UntilLocal local)) last = (instant : ℤ) × Means zone local instant × IsLastDay zone second (as_end instant) last
IsLastAllowed zone second (Some (UntilInstant instant)) last = IsLastDay zone second (as_end instant) last

-- UNTIL allows no day from 0001-01-01 on, whose index is 366
abbrev pub AllowsNone : Zone → ℕ → Option Until → Type 0
AllowsNone zone second None = ⊥
AllowsNone zone second (Some (UntilDay number)) = ⊥
AllowsNone zone second (Some (UntilLocal local)) = (instant : ℤ) × Means zone local instant × NoneFrom zone second (as_end instant) 366
AllowsNone zone second (Some (UntilInstant instant)) = NoneFrom zone second (as_end instant) 366

-- ---- what RRULE says

-- the local time is on that day, at that second of it
abbrev pub IsOnDay : ℤ → ℕ → ℕ → Type 0
IsOnDay local day second = (second < 86_400) × (local ≡ local_time day second)

-- the rule that a text gives to an event: from the start's day, one of its days (RFC 5545 3.8.5.3), to the last one that UNTIL allows
pub record GivesRule (zone : Zone) (local : ℤ) (text : RuleText) (rule : Rule) : Type 0 where
  pub day : ℕ
  pub second : ℕ
  pub on : IsOnDay local day second
  pub last : ℕ
  pub allowed : IsLastAllowed zone second text.until last
  pub is : rule ≡ rule_of text day last
  pub starts : is_rule_day rule day ≡ true

-- the RRULE line has this text
abbrev pub IsRuleText : List ℕ → RuleText → Type 0
IsRuleText line text = SpellsRule (line_value line) text

-- the rule that a text gives beside the lines of DTSTART. Without a start, as what is cancelled may be, it gives none
abbrev pub GivesBeside : List (List ℕ) → EventTimes → Option RuleText → Option Rule → Type 0
GivesBeside [] times text rule = rule ≡ None
GivesBeside (start ∷ _) times text rule = BothOrNeither (GivesRule (clock_of times.zone) times.local) text rule

-- RRULE occurs at most once: with its text the event has this rule, or there is none
pub record SaysEventRule (lines : List (List ℕ)) (times : EventTimes) (rule : Option Rule) : Type 0 where
  pub text : Option RuleText
  pub spells : Says (codes "RRULE") false IsRuleText lines text
  pub gives : GivesBeside (lines_named (codes "DTSTART") lines) times text rule

-- ---- what can be wrong with it, by the number of its refusal

-- of a start at a local time in a zone: UNTIL allows no day, or the start's day isn't one of the rule that the text gives from it on
pub record IsOutsideRule (zone : Zone) (local : ℤ) (text : RuleText) : Type 0 where
  pub day : ℕ
  pub second : ℕ
  pub on : IsOnDay local day second
  pub none : AllowsNone zone second text.until
      ⊎ ((last : ℕ) × IsLastAllowed zone second text.until last × (is_rule_day (rule_of text day last) day ≡ false))

-- the start that a line says is outside of the rule that another line spells
pub record StartsOutside (object : Tree) (start line : List ℕ) : Type 0 where
  pub form : Form
  pub zone : Option Zone
  pub local : ℤ
  pub says : SaysZonedTime object start form zone local
  pub text : RuleText
  pub spelled : SpellsRule (line_value line) text
  pub outside : IsOutsideRule (clock_of zone) local text

-- the rule of a VEVENT has the fault of this number
pub data EventRuleFault (object : Tree) (lines : List (List ℕ)) : ℕ → Type 0 where
  -- 30 to 33: in the text
  bad_rule : {n : ℕ} → SomeLine (codes "RRULE") (λ line. IsLeastRuleFault (line_value line) n) lines → EventRuleFault object lines n
  starts_outside : SomeLine (codes "DTSTART") (λ start. SomeLine (codes "RRULE") (StartsOutside object start) lines) lines
      → EventRuleFault object lines 34
