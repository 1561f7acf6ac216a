-- The rule that a text gives from the start of an event on.
-- Cited by SaidRule::judge, day_until, last_day, rule_from.
use Rattle.std.specs.List.{list_any}
use Rattle.std.proofs.Common.{◌≡◌, ℕ, Bool, true, false, List, filter, codes, sym, ap, refl, subst, inr, ℤ, pos, ◌-ℤ◌, to_z, of_z, w64, arith, ◌∙◌, cond, length, suc, [], ◌∷◌, ◌||◌}
use Rattle.std.specs.Prelude.{Option, Some, None, Result, Ok, Err, IfOk, IfErr, IfSome, IsSome, MatchOption, ◌↔◌}
use Rattle.std.proofs.lemmas.Bool.{false≢true, or_parts}
use Rattle.ical_lines.specs.Fault.{RefusesBy}
use Rattle.ical_lines.specs.declared.fault.Fault.{Fault}
use Rattle.ical_lines.specs.declared.fault.Fault.TheVariants.{Refused, Memory}
use Rattle.profile.specs.series.Days.{day_index, number_of_day, IsDayDate, days_before_year, days_of_months}
use Rattle.profile.specs.text.Lines.{line_value}
use Rattle.profile.specs.text.Values.{IsClockSeconds}
use Rattle.profile.specs.text.Trees.{Tree}
use Rattle.profile.specs.series.Rules.{Rule, RuleText, Until, UntilLocal, UntilInstant, rule_of, is_rule_day}
use Rattle.profile.specs.series.RuleTexts.{SpellsRule}
use Rattle.std.specs.Int.Signed.{lt_z}
use Rattle.std.proofs.lemmas.Int.{ints}
use Rattle.profile.specs.checker.Instances.{horizon}
use Rattle.profile.specs.series.Zones.{Zone, Means, NoneFrom, IsLastDay, IsNearEpoch}
use Rattle.profile.specs.events.Properties.{first_second, OccursAtMostOnce, Says, BothOrNeither, is_of, lines_named}
use Rattle.profile.specs.events.ZonedTimes.{clock_of, EventTimes, SaysEventTimes}
use Rattle.profile.specs.events.EventRules.{as_end, IsLastAllowed, AllowsNone, IsOnDay, GivesRule, IsRuleText, GivesBeside, SaysEventRule, IsOutsideRule, StartsOutside, EventRuleFault, starts_outside}
use Rattle.cal_events.proofs.shared_lemmas.EventLemmas.{some_line}

-- ---- the last day

abbrev IsFound : Zone → ℕ → Option Until → Option ℤ → Type 0
IsFound zone second until r = MatchOption r (AllowsNone zone second until) (λ day. IsLastAllowed zone second until (day_index day))

last_of_9999 : day_index (number_of_day (pos 9999) 12 31) ≡ 3_652_424
unfolding days_before_year days_of_months
last_of_9999 = refl

pub without_until : (zone : Zone) (second : ℕ) (until : Option Until) (r : Option ℤ) → until ≡ None → (IsSome r ↔ IsDayDate (pos 9999) 12 31)
    → IfSome r (λ d. d ≡ number_of_day (pos 9999) 12 31) → IsFound zone second until r
without_until zone second until r e found value = subst (λ (u : Option Until). IsFound zone second u r) (sym e) (go r found value)
  where
    go : (r : Option ℤ) → (IsSome r ↔ IsDayDate (pos 9999) 12 31) → IfSome r (λ d. d ≡ number_of_day (pos 9999) 12 31) → IsFound zone second None r
    go None found value = absurd (false≢true (found.1 (omega arith, omega arith, (omega arith, omega arith, omega arith, omega arith))))
    go (Some d) found value = ap day_index value ∙ last_of_9999

pub local_until : (zone : Zone) (second : ℕ) (until : Option Until) (r : Option ℤ) (local t : ℤ) → until ≡ Some (UntilLocal local) → Means zone local t
    → MatchOption r (NoneFrom zone second (as_end t) 366) (λ day. IsLastDay zone second (as_end t) (day_index day)) → IsFound zone second until r
local_until zone second until r local t e means h = subst (λ (u : Option Until). IsFound zone second u r) (sym e) (go r h)
  where
    go : (r : Option ℤ) → MatchOption r (NoneFrom zone second (as_end t) 366) (λ day. IsLastDay zone second (as_end t) (day_index day)) → IsFound zone second (Some (UntilLocal local)) r
    go None h = (t, means, h)
    go (Some day) h = (t, means, h)

pub instant_until : (zone : Zone) (second : ℕ) (until : Option Until) (r : Option ℤ) (t : ℤ) → until ≡ Some (UntilInstant t)
    → MatchOption r (NoneFrom zone second (as_end t) 366) (λ day. IsLastDay zone second (as_end t) (day_index day)) → IsFound zone second until r
instant_until zone second until r t e h = subst (λ (u : Option Until). IsFound zone second u r) (sym e) (go r h)
  where
    go : (r : Option ℤ) → MatchOption r (NoneFrom zone second (as_end t) 366) (λ day. IsLastDay zone second (as_end t) (day_index day)) → IsFound zone second (Some (UntilInstant t)) r
    go None h = h
    go (Some day) h = h

-- ---- where UNTIL ends

end_near : (t : ℤ) → IsNearEpoch t → IsNearEpoch (as_end t)
end_near t near = by (lt_z t first_second) (lt_z t horizon)
  where
    by : (a b : Bool) → IsNearEpoch (cond a (first_second -ℤ pos 1) (cond b t (horizon -ℤ pos 1)))
    by true b = (omega (arith, ints), omega (arith, ints))
    by false true = near
    by false false = (omega (arith, ints), omega (arith, ints))

pub until_said : (t r : ℤ) → IsNearEpoch t → r ≡ as_end (to_z w64 (of_z w64 t)) → to_z w64 (of_z w64 r) ≡ as_end t
until_said t r near e =
    let same : to_z w64 (of_z w64 t) ≡ t = omega (arith, ints, near) in
    ap (λ x. to_z w64 (of_z w64 x)) (e ∙ ap as_end same) ∙ (let n = end_near t near in omega (arith, ints, n))

pub stamp_near : (t : ℤ) → IsClockSeconds t → IsNearEpoch t
stamp_near t h = (omega (arith, ints, h.0), omega (arith, ints, h.1))

-- ---- the rule

module _ (zone : Zone) (local : ℤ) (text : RuleText) (day second last : ℕ) (on : IsOnDay local day second) (allowed : IsLastAllowed zone second text.until last) where
  pub rule_given : (r : Result Rule Fault) → IfOk r (λ rule. rule ≡ rule_of text day last) → IfOk r (λ _. is_rule_day (rule_of text day last) day ≡ true) → IfOk r (GivesRule zone local text)
  rule_given (Ok rule) made starts =
      record { day = day; second = second; on = on; last = last; allowed = allowed; is = made; starts = subst (λ (x : Rule). is_rule_day x day ≡ true) (sym made) starts }
  rule_given (Err e) made starts = tt

  pub rule_refused : (r : Result Rule Fault) → IfErr r (RefusesBy (λ n. (n ≡ 34) × (is_rule_day (rule_of text day last) day ≡ false)))
      → IfErr r (RefusesBy (λ n. (n ≡ 34) × IsOutsideRule zone local text))
  rule_refused (Ok rule) h = tt
  rule_refused (Err Memory) h = tt
  rule_refused (Err (Refused r)) (is, never) = (is, record { day = day; second = second; on = on; none = inr (last, allowed, never) })

-- ---- the fault of a start

spelled_by : (line : Option (List ℕ)) (text : RuleText) → BothOrNeither IsRuleText line (Some text) → (x : List ℕ) × (line ≡ Some x) × SpellsRule (line_value x) text
spelled_by None text h = absurd h
spelled_by (Some x) text h = (x, refl, h)

-- a line is among some exactly where there are such
none_named : (p : List ℕ → Bool) (lines : List (List ℕ)) → list_any p lines ≡ false → filter p lines ≡ []
none_named p [] h = refl
none_named p (line ∷ lines) h =
    let both = or_parts (p line) (list_any p lines) h in
    ap (λ b. cond b (line ∷ filter p lines) (filter p lines)) both.0 ∙ none_named p lines both.1

pub some_named : (p : List ℕ → Bool) (lines : List (List ℕ)) → list_any p lines ≡ true → filter p lines ≡ [] → ⊥
some_named p [] h missing = false≢true h
some_named p (line ∷ lines) h missing = go (some_named p lines) (p line) h missing
  where
    go : (list_any p lines ≡ true → filter p lines ≡ [] → ⊥) → (b : Bool) → (b || list_any p lines) ≡ true → cond b (line ∷ filter p lines) (filter p lines) ≡ [] → ⊥
    go rest true h e = let k : suc (length (filter p lines)) ≡ 0 = ap length e in absurd (omega (arith, k))
    go rest false h e = rest h e

-- ---- what is said

module _ (lines : List (List ℕ)) (times : EventTimes) (text : Option RuleText) (spells : Says (codes "RRULE") false IsRuleText lines text) where
  -- beside a start
  pub says_beside : (rule : Option Rule) → list_any (is_of (codes "DTSTART")) lines ≡ true → BothOrNeither (GivesRule (clock_of times.zone) times.local) text rule
      → SaysEventRule lines times rule
  says_beside rule starts gives = record { text = text; spells = spells; gives = go (lines_named (codes "DTSTART") lines) (some_named (is_of (codes "DTSTART")) lines starts) }
    where
      go : (starts : List (List ℕ)) → (starts ≡ [] → ⊥) → GivesBeside starts times text rule
      go [] some = absurd (some refl)
      go (start ∷ more) some = gives

  -- without a start
  pub says_without : list_any (is_of (codes "DTSTART")) lines ≡ false → SaysEventRule lines times None
  says_without none = record {
    text = text;
    spells = spells;
    gives = subst (λ (starts : List (List ℕ)). GivesBeside starts times text None) (sym (none_named (is_of (codes "DTSTART")) lines none)) refl;
  }

pub outside_refuses : (object : Tree) (lines : List (List ℕ)) (times : EventTimes) (said : Option RuleText) (text : RuleText) (n : ℕ) → said ≡ Some text
    → Says (codes "RRULE") false IsRuleText lines said → SaysEventTimes object lines times → (n ≡ 34) × IsOutsideRule (clock_of times.zone) times.local text
    → EventRuleFault object lines n
outside_refuses object lines times said text n e s t (is, out) =
    let l = spelled_by s.line text (subst (λ (o : Option RuleText). BothOrNeither IsRuleText s.line o) e s.is) in
    let once = subst (λ (o : Option (List ℕ)). OccursAtMostOnce (codes "RRULE") lines o) l.1 s.once in
    subst (EventRuleFault object lines) (sym is)
    (starts_outside (some_line (codes "DTSTART") _ lines t.line t.once (some_line (codes "RRULE") (StartsOutside object t.line) lines l.0 once
    (record { form = times.form; zone = times.zone; local = times.local; says = t.says; text = text; spelled = l.2; outside = out }))))
