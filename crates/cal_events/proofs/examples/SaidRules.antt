-- What is known of a rule that the lines of a VEVENT say: of which text it is, and where there is none.
use Rattle.std.proofs.Common.{◌≡◌, ◌∙◌, ℕ, true, false, List, [], ◌∷◌, length, codes, subst, sym, ap, refl, true≢false, arith}
use Rattle.std.specs.Prelude.{Option, Some, None}
use Rattle.std.specs.Option.{option_to_list}
use Rattle.std.proofs.lemmas.Option.{same_Some}
use Rattle.profile.specs.text.Lines.{line_value}
use Rattle.profile.specs.series.Rules.{Rule, RuleText}
use Rattle.profile.specs.series.RuleTexts.{SpellsRule}
use Rattle.profile.specs.events.Properties.{BothOrNeither, OccursAtMostOnce, lines_named}
use Rattle.profile.specs.events.ZonedTimes.{clock_of, EventTimes}
use Rattle.profile.specs.events.EventRules.{GivesRule, IsRuleText, GivesBeside, SaysEventRule}

abbrev Lines : Type 0
Lines = List (List ℕ)

-- the rule is what the text of the one RRULE gives
pub record IsFound (lines : Lines) (times : EventTimes) (rule : Rule) : Type 0 where
  pub line : List ℕ
  pub once : OccursAtMostOnce (codes "RRULE") lines (Some line)
  pub text : RuleText
  pub spelled : SpellsRule (line_value line) text
  pub gives : GivesRule (clock_of times.zone) times.local text rule

none_or_some : {A : Type 0} (x : A) → None ≡ Some x → ⊥
none_or_some x e = true≢false (ap (λ (o : Option _). elim o [ None ↦ true | Some _ ↦ false ]) e)

module _ (lines : Lines) (times : EventTimes) (rule : Option Rule) (s : SaysEventRule lines times rule) where
  abbrev Gives : RuleText → Rule → Type 0
  Gives = GivesRule (clock_of times.zone) times.local

  -- without RRULE, and without DTSTART, there is no rule
  pub no_rule : lines_named (codes "RRULE") lines ≡ [] → rule ≡ None
  no_rule missing = beside (lines_named (codes "DTSTART") lines) s.text rule (no_text s.spells.line s.text (sym missing ∙ s.spells.once) s.spells.is) s.gives
    where
      no_text : (line : Option (List ℕ)) (text : Option RuleText) → [] ≡ option_to_list line → BothOrNeither IsRuleText line text → text ≡ None
      no_text None None e b = refl
      no_text None (Some t) e b = absurd b
      no_text (Some l) text e b = let k : 0 ≡ 1 = ap length e in absurd (omega (arith, k))

      beside : (starts : Lines) (text : Option RuleText) (rule : Option Rule) → text ≡ None → GivesBeside starts times text rule → rule ≡ None
      beside [] text rule e g = g
      beside (start ∷ more) None None e g = refl
      beside (start ∷ more) None (Some r) e g = absurd g
      beside (start ∷ more) (Some t) rule e g = absurd (none_or_some t (sym e))

  pub rule_found : (r : Rule) → rule ≡ Some r → IsFound lines times r
  rule_found r is =
      let found = beside (lines_named (codes "DTSTART") lines) s.text rule s.gives is in
      let line = of_text s.spells.line s.text found.0 found.1 s.spells.is in
      record { line = line.0; once = s.spells.once ∙ ap (λ (o : Option (List ℕ)). option_to_list o) line.1; text = found.0; spelled = line.2; gives = found.2 }
    where
      beside : (starts : Lines) (text : Option RuleText) (rule : Option Rule) → GivesBeside starts times text rule → rule ≡ Some r → (t : RuleText) × (text ≡ Some t) × Gives t r
      beside [] text rule g e = absurd (none_or_some r (sym g ∙ e))
      beside (start ∷ more) None None g e = absurd (none_or_some r e)
      beside (start ∷ more) None (Some q) g e = absurd g
      beside (start ∷ more) (Some t) None g e = absurd g
      beside (start ∷ more) (Some t) (Some q) g e = (t, refl, subst (Gives t) (same_Some q r e) g)

      of_text : (line : Option (List ℕ)) (text : Option RuleText) (t : RuleText) → text ≡ Some t → BothOrNeither IsRuleText line text → (l : List ℕ) × (line ≡ Some l) × SpellsRule (line_value l) t
      of_text None None t e b = absurd (none_or_some t e)
      of_text None (Some u) t e b = absurd b
      of_text (Some l) None t e b = absurd b
      of_text (Some l) (Some u) t e b = (l, refl, subst (λ (x : RuleText). SpellsRule (line_value l) x) (same_Some u t e) b)
