-- The lines of a VEVENT say at most one rule, and none where it has a fault.
-- Behind one_event.
use Rattle.std.proofs.Common.{◌≡◌, ◌∙◌, ℕ, ◌<◌, ◌≤◌, Bool, true, false, List, [], ◌∷◌, codes, subst, sym, ap, refl, inl, inr, arith, ℤ, negsuc, ◌≤ℤ◌}
use Rattle.std.specs.Prelude.{Option, Some, None}
use Rattle.std.proofs.lemmas.Bool.{true≢false, cases_order}
use Rattle.std.proofs.lemmas.Bool.Decides.{nat_tests}
use Rattle.std.proofs.lemmas.Int.{ints}
use Rattle.std.proofs.lemmas.Option.{same_Some}
use Rattle.profile.specs.text.Lines.{line_value}
use Rattle.profile.specs.text.Trees.{Tree}
use Rattle.profile.specs.series.Rules.{Rule, RuleText, Until, UntilDay, UntilLocal, UntilInstant, rule_of, is_rule_day, is_counted}
use Rattle.profile.specs.series.RuleTexts.{SpellsRule, RuleFault, IsLeastRuleFault}
use Rattle.profile.specs.series.Zones.{Zone, IsOneMeaning, NoneFrom, IsLastDay}
use Rattle.profile.specs.events.Properties.{Form, Fixed, Floating, WholeDay, BothOrNeither, SomeLine, lines_named}
use Rattle.profile.specs.events.ZonedTimes.{SaysZonedTime, clock_of, is_in_zone, IsInDates, EventTimes, SaysEventTimes, SaysTimes}
use Rattle.profile.specs.events.EventRules.{as_end, IsLastAllowed, AllowsNone, IsOnDay, GivesRule, IsRuleText, GivesBeside, SaysEventRule, IsOutsideRule, EventRuleFault, bad_rule, starts_outside}
use Rattle.ical_tree.proofs.OneLine.{IsFunctional, only_line}
use Rattle.cal_events.proofs.shared_lemmas.OneTimes.{Lines, OneZonedTime, OneDuration, clock_one, one_times_by, clock_by, none_there}
use Rattle.cal_events.proofs.component_lemmas.Said.{same_said, said_by}

abbrev pub OneRule : Type 0
OneRule = (text : List ℕ) (a b : RuleText) → SpellsRule text a → SpellsRule text b → a ≡ b

abbrev pub NoRuleFault : Type 0
NoRuleFault = (text : List ℕ) (n : ℕ) (a : RuleText) → RuleFault text n → SpellsRule text a → ⊥

-- ---- one last day

not_later : (zone : Zone) (second : ℕ) (until : ℤ) (a b : ℕ) → IsLastDay zone second until a → IsLastDay zone second until b → a < b → ⊥
not_later zone second until a b s t l = let past = s.last b (omega (arith, l)) t.to_9999 t.start t.means in omega (arith, ints, past, t.not_past)

same_last_day : (zone : Zone) (second : ℕ) (until : ℤ) (a b : ℕ) → IsLastDay zone second until a → IsLastDay zone second until b → a ≡ b
same_last_day zone second until a b s t =
    elim (cases_order a b) [ inl e ↦ e | inr (inl l) ↦ absurd (not_later zone second until a b s t l) | inr (inr l) ↦ absurd (not_later zone second until b a t s l) ]

same_last : (zone : Zone) (second : ℕ) → IsOneMeaning zone → (u : Option Until) (a b : ℕ) → IsLastAllowed zone second u a → IsLastAllowed zone second u b → a ≡ b
same_last zone second one None a b h k = h ∙ sym k
same_last zone second one (Some (UntilDay number)) a b h k = h ∙ sym k
same_last zone second one (Some (UntilLocal local)) a b (t, means, h) (v, meant, k) =
    same_last_day zone second (as_end t) a b h (subst (λ (i : ℤ). IsLastDay zone second (as_end i) b) (one local v t meant means) k)
same_last zone second one (Some (UntilInstant instant)) a b h k = same_last_day zone second (as_end instant) a b h k

-- where a day from 0001-01-01 on is the last one, some are allowed
none_left : (zone : Zone) (second : ℕ) (until : ℤ) (last : ℕ) → 366 ≤ last → NoneFrom zone second until 366 → IsLastDay zone second until last → ⊥
none_left zone second until last from none s = let past = none last from s.to_9999 s.start s.means in omega (arith, ints, past, s.not_past)

not_none : (zone : Zone) (second : ℕ) → IsOneMeaning zone → (u : Option Until) (last : ℕ) → 366 ≤ last → IsLastAllowed zone second u last → AllowsNone zone second u → ⊥
not_none zone second one None last from h k = k
not_none zone second one (Some (UntilDay number)) last from h k = k
not_none zone second one (Some (UntilLocal local)) last from (t, means, h) (v, meant, k) =
    none_left zone second (as_end t) last from (subst (λ (i : ℤ). NoneFrom zone second (as_end i) 366) (one local v t meant means) k) h
not_none zone second one (Some (UntilInstant instant)) last from h k = none_left zone second (as_end instant) last from k h

-- ---- one rule

same_day : (local : ℤ) (d s e t : ℕ) → IsOnDay local d s → IsOnDay local e t → (d ≡ e) × (s ≡ t)
same_day local d s e t h k = (omega (arith, ints, h.0, h.1, k.0, k.1), omega (arith, ints, h.0, h.1, k.0, k.1))

pub same_given : (zone : Zone) (local : ℤ) → IsOneMeaning zone → (text : RuleText) (a b : Rule) → GivesRule zone local text a → GivesRule zone local text b → a ≡ b
same_given zone local one text a b g h =
    let e = same_day local g.day g.second h.day h.second g.on h.on in
    let last = same_last zone h.second one text.until g.last h.last (subst (λ (s : ℕ). IsLastAllowed zone s text.until g.last) e.1 g.allowed) h.allowed in
    g.is ∙ ap (λ d. rule_of text d g.last) e.0 ∙ ap (λ l. rule_of text h.day l) last ∙ sym h.is

text_one : OneRule → IsFunctional IsRuleText
text_one rules line a b h k = rules (line_value line) a b h k

same_beside : (starts : Lines) (times : EventTimes) → IsOneMeaning (clock_of times.zone) → (text : Option RuleText) (a b : Option Rule) → GivesBeside starts times text a → GivesBeside starts times text b → a ≡ b
same_beside [] times one text a b g h = g ∙ sym h
same_beside (start ∷ more) times one None None None g h = refl
same_beside (start ∷ more) times one None None (Some b) g h = absurd h
same_beside (start ∷ more) times one None (Some a) b g h = absurd g
same_beside (start ∷ more) times one (Some text) None b g h = absurd g
same_beside (start ∷ more) times one (Some text) (Some a) None g h = absurd h
same_beside (start ∷ more) times one (Some text) (Some a) (Some b) g h = ap Some (same_given (clock_of times.zone) times.local one text a b g h)

pub one_event_rule : OneZonedTime → OneDuration → OneRule → {may : Bool} (object : Tree) (lines : Lines) (s t : EventTimes) (a b : Option Rule) → SaysTimes may object lines s → SaysTimes may object lines t
    → SaysEventRule lines s a → SaysEventRule lines t b → a ≡ b
one_event_rule zoned two rules object lines s t a b h k p q =
    let starts = lines_named (codes "DTSTART") lines in
    let text : p.text ≡ q.text = same_said IsRuleText (codes "RRULE") false lines p.text q.text (text_one rules) p.spells q.spells in
    same_beside starts t (clock_by object lines t k) q.text a b
    (subst (λ (x : Option RuleText). GivesBeside starts t x a) text (subst (λ (x : EventTimes). GivesBeside starts x p.text a) (one_times_by zoned two object lines s t h k) p.gives)) q.gives

-- ---- there is no fault where a rule is said

-- a rule day is not past the last one
is_up_to_last : (rule : Rule) (day : ℕ) → is_rule_day rule day ≡ true → day ≤ rule.last
unfolding is_rule_day is_counted
is_up_to_last rule day h = grind (arith, nat_tests)

no_text_fault : OneRule → NoRuleFault → (lines : Lines) (times : EventTimes) (rule : Option Rule) → SaysEventRule lines times rule → (n : ℕ)
    → SomeLine (codes "RRULE") (λ line. IsLeastRuleFault (line_value line) n) lines → ⊥
no_text_fault rules none lines times rule r n l =
    let f = said_by IsRuleText _ (codes "RRULE") false lines r.text r.spells l in none (line_value l.0) n f.0 l.2.fault f.1

-- a time in the dates that an event may name is from 1969-12-31 on
since_1969 : (form : Form) (in_zone : Bool) (local t : ℤ) → IsInDates false form in_zone local t → negsuc 86_399 ≤ℤ local
since_1969 Fixed true local t h = omega (arith, ints, h.0)
since_1969 Fixed false local t h = h.0
since_1969 Floating in_zone local t h = omega (arith, ints, h.0)
since_1969 WholeDay in_zone local t h = omega (arith, ints, h.0)

module _ (zoned : OneZonedTime) (rules : OneRule) (none : NoRuleFault) (object : Tree) (lines : Lines) (times : EventTimes) (rule : Option Rule) (s : SaysEventTimes object lines times) (r : SaysEventRule lines times rule) where
  the_clock : IsOneMeaning (clock_of times.zone)
  the_clock = clock_one object s.line (line_value s.line) times.form times.zone times.local s.says

  -- the local times of an event are in the years from 1969 on
  late : (day second : ℕ) → IsOnDay times.local day second → 366 ≤ day
  late day second on = let h = since_1969 times.form (is_in_zone s.line) times.local times.start s.in_dates in omega (arith, ints, h, on.0, on.1)

  not_outside : (text : RuleText) (x : Rule) → GivesRule (clock_of times.zone) times.local text x → IsOutsideRule (clock_of times.zone) times.local text → ⊥
  not_outside text x g out =
      let e = same_day times.local out.day out.second g.day g.second out.on g.on in
      let zone = clock_of times.zone in
      let starts : is_rule_day (rule_of text g.day g.last) g.day ≡ true = subst (λ (y : Rule). is_rule_day y g.day ≡ true) g.is g.starts in
      let from : g.day ≤ g.last = is_up_to_last (rule_of text g.day g.last) g.day starts in
      elim out.none [
        | inl h ↦ not_none zone g.second the_clock text.until g.last (omega (arith, from, late g.day g.second g.on)) g.allowed
            (subst (λ (t : ℕ). AllowsNone zone t text.until) e.1 h)
        | inr (last, allowed, never) ↦
            let same = same_last zone g.second the_clock text.until last g.last (subst (λ (t : ℕ). IsLastAllowed zone t text.until last) e.1 allowed) g.allowed in
            let false_there = subst (λ (l : ℕ). is_rule_day (rule_of text g.day l) g.day ≡ false) same (subst (λ (d : ℕ). is_rule_day (rule_of text d last) d ≡ false) e.0 never) in
            true≢false (sym starts ∙ false_there)
      ]

  -- the rule that the text gives from the start that is there
  given : (text : RuleText) → r.text ≡ Some text → (x : Rule) × GivesRule (clock_of times.zone) times.local text x
  given text e =
      both rule
      (subst (λ (t : Option RuleText). BothOrNeither (GivesRule (clock_of times.zone) times.local) t rule) e
      (subst (λ (starts : Lines). GivesBeside starts times r.text rule) s.once r.gives))
    where
      both : (o : Option Rule) → BothOrNeither (GivesRule (clock_of times.zone) times.local) (Some text) o → (x : Rule) × GivesRule (clock_of times.zone) times.local text x
      both None g = absurd g
      both (Some x) g = (x, g)

  pub no_rule_fault : (n : ℕ) → EventRuleFault object lines n → ⊥
  no_rule_fault n (bad_rule l) = no_text_fault rules none lines times rule r n l
  no_rule_fault n (starts_outside (start, there, l)) =
      let f = said_by IsRuleText _ (codes "RRULE") false lines r.text r.spells l in
      let g = given f.0 f.2 in
      let out = l.2 in
      let line = same_Some s.line start (only_line (codes "DTSTART") lines (Some s.line) start s.once there) in
      let z = zoned object start (line_value start) out.form times.form out.zone times.zone out.local times.local out.says (subst (λ (x : List ℕ). SaysZonedTime object x times.form times.zone times.local) line s.says) in
      let text = rules (line_value l.0) out.text f.0 out.spelled f.1 in
      not_outside f.0 g.0 g.1
      (subst (λ (t : RuleText). IsOutsideRule (clock_of times.zone) times.local t) text
      (subst (λ (x : ℤ). IsOutsideRule (clock_of times.zone) x out.text) z.2 (subst (λ (x : Option Zone). IsOutsideRule (clock_of x) out.local out.text) z.1 out.outside)))

pub no_rule_fault_by : OneZonedTime → OneRule → NoRuleFault → {may : Bool} (object : Tree) (lines : Lines) (times : EventTimes) (rule : Option Rule) → SaysTimes may object lines times → SaysEventRule lines times rule
    → (n : ℕ) → EventRuleFault object lines n → ⊥
no_rule_fault_by zoned rules none object lines times rule (inl s) r n f = no_rule_fault zoned rules none object lines times rule s r n f
no_rule_fault_by zoned rules none object lines times rule (inr (_, s)) r n (bad_rule l) = no_text_fault rules none lines times rule r n l
no_rule_fault_by zoned rules none object lines times rule (inr (_, s)) r n (starts_outside l) = none_there _ lines s.missing l
