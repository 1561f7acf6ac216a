-- What is known of a series that a VEVENT says.
use Rattle.std.proofs.Common.{◌≡◌, ◌∙◌, refl, sym, subst, ap, inl, inr, arith, ℕ, ◌<◌, ◌≤◌, Bool, true, false, ◌||◌, ◌&&◌, List, [], ◌∷◌, ℤ, ◌≤ℤ◌, ◌<ℤ◌, true≢false}
use Rattle.std.proofs.lemmas.Int.{ints}
use Rattle.std.proofs.lemmas.Bool.{and_parts}
use Rattle.std.proofs.lemmas.Option.{same_Some, none-some}
use Rattle.std.specs.Prelude.{Option, None, Some, is_some, Contains, codes}
use Rattle.std.specs.List.{list_all}
use Rattle.profile.specs.text.Trees.{Tree}
use Rattle.profile.specs.text.Lines.{line_value, line_param}
use Rattle.profile.specs.checker.Instances.{horizon}
use Rattle.profile.specs.series.Rules.{Rule, RuleText, is_long, is_plain, is_missing, last_rule_day, go_together}
use Rattle.profile.specs.series.RuleTexts.{SpellsRule, SpellsWeekday, SaysOr}
use Rattle.profile.specs.series.Zones.{Zone, Means, local_time}
use Rattle.profile.specs.series.ZoneTexts.{SaysZone}
use Rattle.profile.specs.events.Properties.{Form, Fixed, Floating, WholeDay, BothOrNeither, lines_named, first_second}
use Rattle.profile.specs.events.ZonedTimes.{EventTimes, clock_of, is_in_zone, IsInDates, SpellsZoned, SpellsForm, SaysZoneOf, SaysEventTimes, zone_named}
use Rattle.profile.specs.events.EventRules.{IsRuleText, IsOnDay, GivesRule, GivesBeside, IsLastAllowed}
use Rattle.profile.specs.events.EventComponents.{EventComponent}
use Rattle.profile.specs.events.Placed.{IsInstantIn, zone_in}
use Rattle.profile.specs.events.Events.{Event}
use Rattle.profile.specs.events.Spans.{IsSaidSeries, IsPastAll, IsPastOnsets, IsPeriodOf, IsRulePeriod, IsZonePeriod, has_end}
use Rattle.profile.specs.events.Starts.{IsRuleStart}
use Rattle.cal_zones.specs.Repeats.{IsRegular}
use Rattle.cal_events.proofs.shared_lemmas.DraftKeys.{some_there}
use Rattle.cal_events.proofs.shared_lemmas.Meanings.{utc_instant}
use Rattle.cal_events.proofs.shared_lemmas.Placing.{placed_sound}
use Rattle.cal_events.proofs.shared_lemmas.RoomClocks.{room_clock}

-- a rule and the times beside it
pub record IsSaid (times : EventTimes) (r : Rule) : Type 0 where
  pub second : ℕ
  pub on : IsOnDay times.local r.pattern.start second
  pub means : Means (clock_of times.zone) times.local times.start
  pub regular : IsRegular (clock_of times.zone)
  pub not_before : first_second ≤ℤ times.start
  pub early : 731 ≤ r.pattern.start
  pub week : r.pattern.week_start < 7
  pub plain : is_long r.pattern.frequency ≡ false → list_all (λ entry. is_plain entry.number) r.pattern.weekdays ≡ true
  pub last : has_end r ≡ false → r.last ≡ last_rule_day
  pub count : has_end r ≡ false → r.count ≡ None

-- ---- the rule

weekday_below : (values : List (List ℕ)) (n : ℕ) → SaysOr SpellsWeekday 0 values n → n < 7
weekday_below [] n e = omega (arith, e)
weekday_below (v ∷ []) n s = s.0
weekday_below (v ∷ w ∷ vs) n s = absurd s

or_false : (a b : Bool) → (a || b) ≡ true → b ≡ false → a ≡ true
or_false true b h e = refl
or_false false b h e = absurd (true≢false (sym h ∙ e))

neither : (a b : Bool) → (a || b) ≡ false → (a ≡ false) × (b ≡ false)
neither true b h = absurd (true≢false h)
neither false b h = (refl, h)

is_none : {X : Type 0} (o : Option X) → is_some o ≡ false → o ≡ None
is_none None h = refl
is_none (Some x) h = absurd (true≢false h)

both_there : (z : Zone) (local : ℤ) (text : Option RuleText) (r : Rule) → BothOrNeither (GivesRule z local) text (Some r) → (t : RuleText) × (text ≡ Some t) × GivesRule z local t r
both_there z local None r h = absurd h
both_there z local (Some t) r h = (t, refl, h)

-- ---- the zone

spelled_regular : ((tree : Tree) (z : Zone) → SaysZone tree z → IsRegular z) → (object : Tree) (name : Option (List ℕ)) (text : List ℕ) (zone : Option Zone) (local : ℤ)
    → SpellsZoned object name text zone local → IsRegular (clock_of zone)
spelled_regular said object None text None local s = omega arith
spelled_regular said object None text (Some z) local s = absurd s
spelled_regular said object (Some name) text None local s = absurd s
spelled_regular said object (Some name) text (Some z) local s = by (zone_named name object) s.1
  where
    by : (part : Option Tree) → SaysZoneOf part z → IsRegular z
    by None h = absurd h
    by (Some part) h = said part z h

-- ---- in a room

-- the clocks that show a start there
regular_there : ((tree : Tree) (z : Zone) → SaysZone tree z → IsRegular z) → (room : Option Zone) → IsRegular (clock_of room) → (object : Tree) (name : Option (List ℕ)) (text : List ℕ) (form : Form)
    (zone : Option Zone) (local : ℤ) → SpellsForm object name text form zone local → IsRegular (clock_of (zone_in room form zone))
regular_there said room here object name text Fixed own local s = spelled_regular said object name text own local s
regular_there said room here object name text Floating _ local s = here
regular_there said room here object name text WholeDay _ local s = here

-- by UTC's clocks a time that isn't fixed is its own instant
means_floating : (room own : Option Zone) (local t u : ℤ) → own ≡ None → Means (clock_of own) local t → Means (clock_of room) t u → Means (clock_of room) local u
means_floating room own local t u none m there =
    subst (λ l. Means (clock_of room) l u) (utc_instant local t (subst (λ (z : Option Zone). Means (clock_of z) local t) none m)) there

-- the start means there what its local time does
means_there : (room : Option Zone) (object : Tree) (name : Option (List ℕ)) (text : List ℕ) (form : Form) (zone : Option Zone) (local t u : ℤ) → SpellsForm object name text form zone local
    → Means (clock_of zone) local t → IsInstantIn room form t u → Means (clock_of (zone_in room form zone)) local u
means_there room object name text Fixed own local t u s m there = subst (Means (clock_of own) local) (sym there) m
means_there room object name text Floating own local t u (_, none, _) m there = means_floating room own local t u none m there
means_there room object name text WholeDay own local t u (_, none, _) m there = means_floating room own local t u none m there

first_date : (form : Form) (in_zone : Bool) (local instant : ℤ) → IsInDates false form in_zone local instant → first_second ≤ℤ local
first_date Fixed true local instant h = omega (arith, ints, h.0)
first_date Fixed false local instant h = h.0
first_date Floating in_zone local instant h = omega (arith, ints, h.0)
first_date WholeDay in_zone local instant h = omega (arith, ints, h.0)

-- ---- both

no_start_no_rule : (lines : List (List ℕ)) (times : EventTimes) (text : Option RuleText) (r : Rule) → lines ≡ [] → GivesBeside lines times text (Some r) → ⊥
no_start_no_rule lines times text r e h = none-some r (sym (subst (λ x. GivesBeside x times text (Some r)) e h))

given_there : (lines : List (List ℕ)) (times : EventTimes) (text : Option RuleText) (r : Rule) → GivesBeside lines times text (Some r) → BothOrNeither (GivesRule (clock_of times.zone) times.local) text (Some r)
given_there [] times text r h = absurd (none-some r (sym h))
given_there (line ∷ lines) times text r h = h

last_allowed : (z : Zone) (second last : ℕ) (t : RuleText) → t.until ≡ None → IsLastAllowed z second t.until last → last ≡ last_rule_day
last_allowed z second last t e h = subst (λ u. IsLastAllowed z second u last) e h

pub plain_of : (t : RuleText) → go_together t ≡ true → is_long t.frequency ≡ false → list_all (λ entry. is_plain entry.number) t.weekdays ≡ true
unfolding go_together
plain_of t h e =
    let a = and_parts _ (is_missing t.positions || _) h in
    let b = and_parts _ (list_all (λ entry. is_plain entry.number) t.weekdays || (is_long t.frequency && is_missing t.month_days)) a.0 in
    or_false _ (is_long t.frequency && is_missing t.month_days) b.1 (ap (λ x. x && is_missing t.month_days) e)

-- the times in a room where the start is that instant
abbrev times_there : Option Zone → EventTimes → ℤ → EventTimes
times_there room times start = record times { zone = zone_in room times.form times.zone; start = start }

said_rule : ((tree : Tree) (z : Zone) → SaysZone tree z → IsRegular z) → (object : Tree) (lines own : List (List ℕ)) (times : EventTimes) (text : Option RuleText) (r : Rule) (room : Option Zone) (start : ℤ)
    → ((t : RuleText) → text ≡ Some t → (value : List ℕ) × SpellsRule value t) → SaysEventTimes object lines times → GivesBeside own times text (Some r)
    → IsRegular (clock_of room) → IsInstantIn room times.form times.start start → first_second ≤ℤ start → IsSaid (times_there room times start) r
said_rule said object lines own times text r room start spelled says gives here there not_before =
    let given = both_there (clock_of times.zone) times.local text r (given_there own times text r gives) in
    let t = given.0 in
    let g = given.2 in
    let s = (spelled t given.1).1 in
    let first : r.pattern.start ≡ g.day = ap (λ (x : Rule). x.pattern.start) g.is in
    let local = g.on.1 in
    let few = g.on.0 in
    let date = first_date times.form (is_in_zone says.line) times.local times.start says.in_dates in
    let ends : has_end r ≡ (is_some t.count || is_some t.until) = ap has_end g.is in
    let name = line_param (codes "TZID") says.line in
    record {
      second = g.second;
      on = (few, local ∙ ap (λ d. local_time d g.second) (sym first));
      means = means_there room object name (line_value says.line) times.form times.zone times.local times.start start says.says.1 says.means there;
      regular = regular_there said room here object name (line_value says.line) times.form times.zone times.local says.says.1;
      not_before = not_before;
      early = omega (arith, ints, first, local, few, date);
      week = subst (λ (x : Rule). x.pattern.week_start < 7) (sym g.is) (weekday_below _ t.week_start s.says.week_start);
      plain = subst (λ (x : Rule). is_long x.pattern.frequency ≡ false → list_all (λ entry. is_plain entry.number) x.pattern.weekdays ≡ true) (sym g.is) (plain_of t s.together);
      last = λ none.
          let n = neither (is_some t.count) (is_some t.until) (sym ends ∙ none) in
          ap (λ (x : Rule). x.last) g.is ∙ last_allowed (clock_of times.zone) g.second g.last t (is_none t.until n.1) g.allowed;
      count = λ none.
          let n = neither (is_some t.count) (is_some t.until) (sym ends ∙ none) in
          ap (λ (x : Rule). x.count) g.is ∙ is_none t.count n.0;
    }

-- ---- the master of a series, and its rule

pub record HasSaid (a : Event) : Type 0 where
  pub master : EventComponent
  pub is : a ≡ record { master = Some master; overrides = [] }
  pub none_added : master.additions ≡ []
  pub rule : Rule
  pub ruled : master.rule ≡ Some rule
  pub said : IsSaid master.times rule

pub has_said : ((tree : Tree) (z : Zone) → SaysZone tree z → IsRegular z) → (a : Event) → IsSaidSeries a → HasSaid a
has_said said a s =
    let (event, says, placed) = s.says in
    let there = some_there s.event.rule s.recurs in
    let r = there.0 in
    let rule = says.rule in
    let ruled : event.rule ≡ Some r = sym (ap (λ (x : EventComponent). x.rule) placed.is) ∙ there.1 in
    let start : s.event.times.start ≡ placed.start = ap (λ (x : EventComponent). x.times.start) placed.is in
    let sound = placed_sound s.words s.room s.named s.object s.lines s.event s.says in
    let gives = subst (λ o. GivesBeside (lines_named (codes "DTSTART") s.lines) event.times rule.text o) ruled rule.gives in
    record {
      master = s.master;
      is = s.is;
      none_added = s.none_added;
      rule = r;
      ruled = s.rule ∙ there.1;
      said = subst (λ times. IsSaid times r) (sym (s.times ∙ ap (λ (x : EventComponent). x.times) placed.is))
          (elim says.times [
            | inl times ↦
                said_rule said s.object s.lines (lines_named (codes "DTSTART") s.lines) event.times rule.text r s.room placed.start
                (spelled_by rule.spells.line rule.text rule.spells.is) times gives (room_clock s.words s.room s.named).regular placed.starts
                (subst (λ t. first_second ≤ℤ t) start sound.starts.0)
            | inr (lacks, none) ↦ absurd (no_start_no_rule (lines_named (codes "DTSTART") s.lines) event.times rule.text r none.missing gives)
          ]);
    }
  where
    spelled_by : (line : Option (List ℕ)) (text : Option RuleText) → BothOrNeither IsRuleText line text → (t : RuleText) → text ≡ Some t → (value : List ℕ) × SpellsRule value t
    spelled_by None None h t e = absurd (none-some t e)
    spelled_by None (Some u) h t e = absurd h
    spelled_by (Some line) None h t e = absurd h
    spelled_by (Some line) (Some u) h t e = (line_value line, subst (SpellsRule (line_value line)) (same_Some u t e) h)

-- ---- what is past, and which are its periods

pub record IsPastFor (m : EventComponent) (r : Rule) (from : ℤ) : Type 0 where
  pub start : m.times.start <ℤ from
  pub onsets : IsPastOnsets (clock_of m.times.zone) from
  pub exceptions : (e : ℤ) → Contains m.exceptions e → first_second ≤ℤ e → e <ℤ horizon → e <ℤ from
  pub last : has_end r ≡ true → (t : ℤ) → IsRuleStart m.times r t → t <ℤ horizon → t <ℤ from

pub past_for : (a : Event) (h : HasSaid a) (from : ℤ) → IsPastAll a from → IsPastFor h.master h.rule from
past_for a h from p =
    subst (λ (m : EventComponent). (e : m.rule ≡ Some h.rule) → IsPastFor m h.rule from) (same_Some p.master h.master (sym p.is ∙ ap (λ (x : Event). x.master) h.is))
    (λ e. record { start = p.start; onsets = p.onsets; exceptions = p.exceptions; last = λ ends. p.last h.rule e ends }) h.ruled

pub record IsPeriodFor (m : EventComponent) (r : Rule) (days : ℕ) : Type 0 where
  pub rule : IsRulePeriod r days
  pub zone : IsZonePeriod (clock_of m.times.zone) days

pub period_for : (a : Event) (h : HasSaid a) (days : ℕ) → IsPeriodOf a days → IsPeriodFor h.master h.rule days
period_for a h days p =
    subst (λ (m : EventComponent). (e : m.rule ≡ Some h.rule) → IsPeriodFor m h.rule days) (same_Some p.master h.master (sym p.is ∙ ap (λ (x : Event). x.master) h.is))
    (λ e. record { rule = p.rule h.rule e; zone = p.zone }) h.ruled
