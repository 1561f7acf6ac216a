-- Two clocks by which local times mean the same, from a first one on and up to a last one, if there is one: then a VEVENT whose times and starts are
-- among these says the same by both. For `adapted_says_the_same`.
use Rattle.std.proofs.Common.{◌≡◌, ◌∙◌, sym, refl, subst, arith, inl, inr, ℕ, ◌*◌, ◌<◌, Bool, true, List, [], ◌∷◌, Option, Some, None, ℤ, pos, ◌+ℤ◌, ◌≤ℤ◌}
use Rattle.std.specs.Prelude.{◌↔◌, ◌||◌, false, Contains, codes}
use Rattle.std.proofs.lemmas.Int.{ints}
use Rattle.std.proofs.lemmas.Bool.Decides.{nat_tests}
use Rattle.std.proofs.lemmas.List.Elements.{All-contains, All-contains_itself, All-filter, filter_passes}
use Rattle.profile.specs.text.Lines.{line_value}
use Rattle.profile.specs.text.Values.{SpellsDate}
use Rattle.profile.specs.events.Properties.{Length, LastsFor, lines_named, is_of}
use Rattle.profile.specs.events.EventRules.{IsOnDay}
use Rattle.profile.specs.series.Rules.{Rule, RuleText, Until, UntilDay, UntilLocal, is_rule_day}
use Rattle.profile.specs.series.RuleTexts.{SpellsRule, SpellsUntil, SaysOr, IsGivenPart, values_of}
use Rattle.profile.specs.series.Zones.{local_time}
use Rattle.profile.specs.doors.Uses.{IsLineIn, SaysLocal, SaysOnClock, is_time_line, LastsDays, EventBeginsBy, EventEndsBy, RuleEndsBy}
use Rattle.profile.specs.doors.OnClocks.{GivesRuleOn, IsRuleStartOn, IsDaysLaterOn, MayStart, by_rule, added, added_local, SaysSameOn}
use Rattle.profile.specs.doors.OnClocks as clocks
use Rattle.cal_doors.proofs.LawClocks.{AreNear, IsCovered, IsDayKnown, EndsSo, gives_there, start_covered}

-- a text spells one rule
abbrev pub OneRule : Type 0
OneRule = (text : List ℕ) (a b : RuleText) → SpellsRule text a → SpellsRule text b → a ≡ b

none_is : (u : ℤ) → None ≡ Some u → ⊥
none_is u e = subst (λ (o : Option ℤ). elim o as (λ _. Type 0) [ None ↦ Unit {0} | Some _ ↦ ⊥ ]) e tt

-- ---- lines

fourth : (a b c d e : Bool) → d ≡ true → (a || (b || (c || (d || e)))) ≡ true
fourth a b c d e h = grind (arith, nat_tests)

-- a line of RDATE is one of times
pub of_dates : (line : List ℕ) → is_of (codes "RDATE") line ≡ true → is_time_line line ≡ true
of_dates line h =
    fourth (is_of (codes "DTSTART") line) (is_of (codes "DTEND") line) (is_of (codes "RECURRENCE-ID") line) (is_of (codes "RDATE") line) (is_of (codes "EXDATE") line || false) h

pub in_lines : (name : List ℕ) (lines : List (List ℕ)) (line : List ℕ) → Contains (lines_named name lines) line → Contains lines line × (is_of name line ≡ true)
in_lines name lines line h = (
  All-contains (Contains lines) (lines_named name lines) line (All-filter (is_of name) (Contains lines) lines (All-contains_itself lines)) h,
  All-contains (λ x. is_of name x ≡ true) (lines_named name lines) line (filter_passes (is_of name) lines) h,
)

-- ---- a date of UNTIL

some_given : (number : ℤ) (values : List (List ℕ)) (until : Option Until) → SaysOr (IsGivenPart SpellsUntil) None values until → until ≡ Some (UntilDay number)
    → (text : List ℕ) × SpellsDate text number
some_given number [] until s e = absurd (subst (λ (o : Option Until). elim o as (λ _. Type 0) [ None ↦ Unit {0} | Some _ ↦ ⊥ ]) (sym s ∙ e) tt)
some_given number (value ∷ []) until s e = (value, subst (IsGivenPart SpellsUntil value) e s)
some_given number (_ ∷ _ ∷ _) until s e = absurd s

day_spelled : (text : List ℕ) (rule : RuleText) → SpellsRule text rule → IsDayKnown rule
day_spelled text rule s number e = some_given number (values_of (codes "UNTIL=") text) rule.until s.says.until e

-- ---- nominal days

pub later_there : (M S N R : ℤ → ℤ → Type 0) (days : ℕ) (t end : ℤ)
    → (0 < days → (local : ℤ) → S t local → R t local × (M (local +ℤ pos (86_400 * days)) end → N (local +ℤ pos (86_400 * days)) end))
    → IsDaysLaterOn M S days t end → IsDaysLaterOn N R days t end
later_there M S N R days t end f (inl h) = inl h
later_there M S N R days t end f (inr (some, (local, s, m))) = let g = f some local s in inr (some, (local, g.0, g.1 m))

-- ---- starts on one clock

on_clock : (line : List ℕ) (local : ℤ) → SaysLocal line local → SaysOnClock line local
on_clock line local (text, among, spelled) = (text, among, inl spelled)

module _ (N : ℤ → ℤ → Type 0) (near_other : AreNear N) (first : ℤ) (name : List ℕ) (lines : List (List ℕ)) (begins : EventBeginsBy name lines first) where
  -- an event that lasts nominal days starts at no earlier instant
  pub start_from : LastsDays lines → (start : List ℕ) (local t : ℤ) → IsLineIn name lines start → SaysLocal start local → MayStart N lines local t → first ≤ℤ t
  start_from days start local t is says (clocks.first m) =
      let l = begins.local_days days start local is.among is.says_times (on_clock start local says) in
      let n = near_other.earlier local t m in
      omega (arith, ints, l, n)
  start_from days start local t is says (by_rule line text rule there spelled given h) =
      let l = begins.local_days days start local is.among is.says_times (on_clock start local says) in
      let c = start_covered N near_other None (first +ℤ pos 86_399) local text rule h.first h.second h.day l (day_spelled (line_value line) text spelled) (λ end e. absurd (none_is end e)) given h.on h.listed in
      let f = c.0 in
      let n = near_other.earlier (local_time h.day h.second) t h.means in
      omega (arith, ints, f, n)
  start_from days start local t is says (added line there stamp) =
      let i = in_lines (codes "RDATE") lines line there in
      begins.utc_days days line t i.0 (of_dates line i.1) stamp
  start_from days start local t is says (added_local line other there said near_t) =
      let i = in_lines (codes "RDATE") lines line there in
      let l = begins.local_days days line other i.0 (of_dates line i.1) said in
      omega (arith, ints, l, near_t)

-- ---- two clocks

module _ (M S N R : ℤ → ℤ → Type 0) (near : AreNear M) (near_other : AreNear N) (first : ℤ) (last : Option ℤ)
    (same : (local t : ℤ) → IsCovered first last local → M local t ↔ N local t)
    (near_shown : (t local : ℤ) → S t local → t ≤ℤ (local +ℤ pos 86_399)) (near_shown_other : (t local : ℤ) → R t local → t ≤ℤ (local +ℤ pos 86_399))
    (same_shown : last ≡ None → (t local : ℤ) → first ≤ℤ t → S t local ↔ R t local)
    (one_rule : OneRule) (name : List ℕ) (lines : List (List ℕ)) (begins : EventBeginsBy name lines first)
    (ends : (end : ℤ) → last ≡ Some end → EventEndsBy lines end) where
  covered_time : (line : List ℕ) (local : ℤ) → IsLineIn name lines line → SaysLocal line local → IsCovered first last local
  covered_time line local is says = (begins.times line local is says, λ end e. (ends end e).times line local is.among is.says_times says)

  rule_ends : (start line : List ℕ) (local : ℤ) (text : RuleText) → IsLineIn name lines start → SaysLocal start local → pos 0 ≤ℤ local
      → Contains (lines_named (codes "RRULE") lines) line → SpellsRule (line_value line) text → EndsSo text last
  rule_ends start line local text is says from there spelled end e =
      let r = (ends end e).rules line there in
      let l = (ends end e).times start local is.among is.says_times says in
      (subst (λ x. RuleEndsBy x end) (one_rule (line_value line) r.0 text r.1 spelled) r.2, omega (arith, ints, from, l))

  until_from : (line : List ℕ) (text : RuleText) → Contains (lines_named (codes "RRULE") lines) line → SpellsRule (line_value line) text
      → (until : ℤ) → text.until ≡ Some (UntilLocal until) → first ≤ℤ until
  until_from line text there spelled until e = begins.until line text until there spelled e

  -- nominal days later it is the same
  days_later : (length : Length) (line : List ℕ) (t end : ℤ) → Contains (lines_named (codes "DURATION") lines) line → LastsFor line length
      → (LastsDays lines → first ≤ℤ t) → (l : Option ℤ) → last ≡ l → IsDaysLaterOn M S length.days t end ↔ IsDaysLaterOn N R length.days t end
  days_later length line t end there lasts from None e = (
    later_there M S N R length.days t end (λ some local s.
        let f = from (line, length, there, lasts, some) in
        let n = near_shown t local s in
        ((same_shown e t local f).0 s, (same (local +ℤ pos (86_400 * length.days)) end (covered_later local f n some)).0)),
    later_there N R M S length.days t end (λ some local s.
        let f = from (line, length, there, lasts, some) in
        let n = near_shown_other t local s in
        ((same_shown e t local f).1 s, (same (local +ℤ pos (86_400 * length.days)) end (covered_later local f n some)).1)),
  )
    where
      covered_later : (local : ℤ) → first ≤ℤ t → t ≤ℤ (local +ℤ pos 86_399) → 0 < length.days → IsCovered first last (local +ℤ pos (86_400 * length.days))
      covered_later local f n some = (omega (arith, ints, f, n, some), λ u g. absurd (none_is u (sym e ∙ g)))
  days_later length line t end there lasts from (Some last_end) e =
      (later_there M S N R length.days t end (λ some local s. absurd (none some)), later_there N R M S length.days t end (λ some local s. absurd (none some)))
    where
      none : 0 < length.days → ⊥
      none some = let z = (ends last_end e).no_days line length there lasts in omega (arith, some, z)

  -- a start by the rule is among the covered local times
  rule_covered : (start line : List ℕ) (local : ℤ) (text : RuleText) (rule : Rule) (from second day : ℕ) → IsLineIn name lines start → SaysLocal start local → pos 0 ≤ℤ local
      → Contains (lines_named (codes "RRULE") lines) line → SpellsRule (line_value line) text → GivesRuleOn N local text rule
      → IsOnDay local from second → is_rule_day rule day ≡ true → IsCovered first last (local_time day second)
  rule_covered start line local text rule from second day is says past there spelled given on listed =
      start_covered N near_other last first local text rule from second day (begins.times start local is says) (day_spelled (line_value line) text spelled)
      (rule_ends start line local text is says past there spelled) given on listed

  starts_same : (start line : List ℕ) (local : ℤ) (text : RuleText) (rule : Rule) (t : ℤ) → IsLineIn name lines start → SaysLocal start local → pos 0 ≤ℤ local
      → Contains (lines_named (codes "RRULE") lines) line → SpellsRule (line_value line) text → GivesRuleOn N local text rule
      → IsRuleStartOn M local rule t ↔ IsRuleStartOn N local rule t
  starts_same start line local text rule t is says past there spelled given = (
    λ h. record {
      first = h.first;
      second = h.second;
      on = h.on;
      day = h.day;
      listed = h.listed;
      means = (same (local_time h.day h.second) t (rule_covered start line local text rule h.first h.second h.day is says past there spelled given h.on h.listed)).0 h.means;
    },
    λ h. record {
      first = h.first;
      second = h.second;
      on = h.on;
      day = h.day;
      listed = h.listed;
      means = (same (local_time h.day h.second) t (rule_covered start line local text rule h.first h.second h.day is says past there spelled given h.on h.listed)).1 h.means;
    },
  )

  pub says_same : SaysSameOn M S N R name lines
  says_same = record {
    times = λ line local t is says. same local t (covered_time line local is says);
    rules = λ start line local text rule _ is says from there spelled.
        let f = begins.times start local is says in
        let u = until_from line text there spelled in
        let e = rule_ends start line local text is says from there spelled in (
          gives_there M N near near_other first last same local text rule f u e,
          gives_there N M near_other near first last (λ l t c. ((same l t c).1, (same l t c).0)) local text rule f u e,
        );
    starts = λ start line local text rule t _ is says from there spelled given. starts_same start line local text rule t is says from there spelled given;
    ends = λ start line local length t end _ is says there lasts may.
        days_later length line t end there lasts (λ days. start_from N near_other first name lines begins days start local t is says may) last refl;
  }
