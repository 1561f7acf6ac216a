use Rattle.std.proofs.Common.{◌≡◌, ◌∙◌, codes, subst, sym, inl, inr, rules}
use Rattle.std.specs.Prelude.{Option, Some}
use Rattle.ical_lines.specs.Fault.{RefusesBy}
use Rattle.profile.specs.series.Rules.{Rule, RuleText}
use Rattle.profile.specs.events.Properties.{BothOrNeither, is_of}
use Rattle.profile.specs.events.ZonedTimes.{clock_of}
use Rattle.profile.specs.events.EventRules.{GivesRule, IsOutsideRule, EventRuleFault}
use Rattle.cal_events.specs.Component.{times_of}
use Rattle.cal_events.proofs.event_rule_lemmas.RuleLemmas.{outside_refuses, some_named, says_beside, says_without}
use Rattle.cal_events.proofs.shared_lemmas.ZonedLemmas.{still_by, weaker_fault}
use Rattle.cal_events.proofs.event_rule.SaidRule.judge.Goals as goal

pub returns-in-Some-clause-says : goal.returns-in-Some-clause-says
returns-in-Some-clause-says c lines said has = says_without lines (times_of c.args.times.now) c.args.self.text said (sym has ∙ c.if-not-has_start.true)

pub returns-in-Ok-clause-says : goal.returns-in-Ok-clause-says
returns-in-Ok-clause-says c lines said has =
    let t = times_of c.args.times.now in
    let rule : Rule = c.in-Ok.rule in
    let gives : GivesRule (clock_of t.zone) t.local c.in-Some-2.text rule = search rules in
    says_beside lines t c.args.self.text said (Some rule) (sym has ∙ c.if-not-has_start.false)
    (subst (λ (o : Option RuleText). BothOrNeither (GivesRule (clock_of t.zone) t.local) o (Some rule)) (sym c.in-Some-2.is) gives)

pub returns-in-Err-clause-fault : goal.returns-in-Err-clause-fault
returns-in-Err-clause-fault c may object lines said has times =
    let t = times_of c.args.times.now in
    let outside : RefusesBy (λ n. (n ≡ 34) × IsOutsideRule (clock_of t.zone) t.local c.in-Some-2.text) c.in-Err.fault = search rules in
    rw c.at.ensures (still_by (EventRuleFault object lines) _ c.in-Err.fault
    (weaker_fault _ (λ n. (n ≡ 34) × IsOutsideRule (clock_of t.zone) t.local c.in-Some-2.text) (EventRuleFault object lines)
    (λ n h. elim times [
      | inl starts ↦ outside_refuses object lines t c.args.self.text c.in-Some-2.text n c.in-Some-2.is said starts h
      | inr (_, none) ↦ absurd (some_named (is_of (codes "DTSTART")) lines (sym has ∙ c.if-not-has_start.false) none.missing)
    ])
    outside))
