-- On the clocks of a zone that a room reads a VEVENT says what the room makes of it. For
-- `zones_are_clocks` of cal_doors and `instances_are_on_clocks` of cal_events.
use Rattle.std.proofs.Common.{ℕ, Option, Some, None, ℤ}
use Rattle.std.specs.Prelude.{◌↔◌}
use Rattle.profile.specs.series.Rules.{Rule, RuleText, Until, UntilDay, UntilLocal, UntilInstant}
use Rattle.profile.specs.series.Zones.{Zone, Means, Shows, IsLastDay}
use Rattle.profile.specs.events.Properties.{Fixed}
use Rattle.profile.specs.events.ZonedTimes.{EventTimes, clock_of}
use Rattle.profile.specs.events.EventRules.{GivesRule, IsLastAllowed}
use Rattle.profile.specs.events.Starts.{IsRuleStart, IsDaysLater}
use Rattle.profile.specs.doors.OnClocks.{GivesRuleOn, IsLastAllowedOn, IsLastDayOn, IsRuleStartOn, IsDaysLaterOn}

day_there : (z : Zone) (second : ℕ) (until : ℤ) (day : ℕ) → IsLastDay z second until day → IsLastDayOn (Means z) second until day
day_there z second until day h = record { to_9999 = h.to_9999; start = h.start; means = h.means; not_past = h.not_past; last = h.last }

day_back : (z : Zone) (second : ℕ) (until : ℤ) (day : ℕ) → IsLastDayOn (Means z) second until day → IsLastDay z second until day
day_back z second until day h = record { to_9999 = h.to_9999; start = h.start; means = h.means; not_past = h.not_past; last = h.last }

allowed_there : (z : Zone) (second : ℕ) (until : Option Until) (last : ℕ) → IsLastAllowed z second until last → IsLastAllowedOn (Means z) second until last
allowed_there z second None last h = h
allowed_there z second (Some (UntilDay number)) last h = h
allowed_there z second (Some (UntilLocal local)) last (instant, m, h) = (instant, m, day_there z second _ last h)
allowed_there z second (Some (UntilInstant instant)) last h = day_there z second _ last h

allowed_back : (z : Zone) (second : ℕ) (until : Option Until) (last : ℕ) → IsLastAllowedOn (Means z) second until last → IsLastAllowed z second until last
allowed_back z second None last h = h
allowed_back z second (Some (UntilDay number)) last h = h
allowed_back z second (Some (UntilLocal local)) last (instant, m, h) = (instant, m, day_back z second _ last h)
allowed_back z second (Some (UntilInstant instant)) last h = day_back z second _ last h

pub rule_there : (z : Zone) (local : ℤ) (text : RuleText) (rule : Rule) → GivesRule z local text rule → GivesRuleOn (Means z) local text rule
rule_there z local text rule g = record {
  day = g.day;
  second = g.second;
  on = g.on;
  last = g.last;
  allowed = allowed_there z g.second text.until g.last g.allowed;
  is = g.is;
  starts = g.starts;
}

pub rule_back : (z : Zone) (local : ℤ) (text : RuleText) (rule : Rule) → GivesRuleOn (Means z) local text rule → GivesRule z local text rule
rule_back z local text rule g = record {
  day = g.day;
  second = g.second;
  on = g.on;
  last = g.last;
  allowed = allowed_back z g.second text.until g.last g.allowed;
  is = g.is;
  starts = g.starts;
}

pub same_rules : (z : Zone) (local : ℤ) (text : RuleText) (rule : Rule) → GivesRule z local text rule ↔ GivesRuleOn (Means z) local text rule
same_rules z local text rule = (rule_there z local text rule, rule_back z local text rule)

pub same_starts : (times : EventTimes) (rule : Rule) (t : ℤ) → IsRuleStart times rule t ↔ IsRuleStartOn (Means (clock_of times.zone)) times.local rule t
same_starts times rule t = (
  λ h. record { first = h.first; second = h.second; on = h.on; day = h.day; listed = h.listed; means = h.means },
  λ h. record { first = h.first; second = h.second; on = h.on; day = h.day; listed = h.listed; means = h.means },
)

pub same_days : (z : Zone) (days : ℕ) (t later : ℤ) → IsDaysLater Fixed z days t later ↔ IsDaysLaterOn (Means z) (Shows z) days t later
same_days z days t later = (λ h. h, λ h. h)
