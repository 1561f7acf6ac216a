use Rattle.std.proofs.Common.{◌≡◌, ◌∙◌, List, ℤ, ap, refl, sym, subst, rules}
use Rattle.std.specs.Prelude.{Option, Contains, is_some, IfOk}
use Rattle.profile.specs.events.Confirmed.{IsByItsRule}
use Rattle.profile.specs.series.Rules.{Rule}
use Rattle.cal_events.specs.Component.{component_of, times_of}
use Rattle.cal_events.specs.Said.{AreSaidWith}
use Rattle.cal_events.specs.Series.{series_said}
use Rattle.cal_events.proofs.series.Series.by_itself.Goals as goal

pub by_rule-requires-clause-steady : goal.by_rule-requires-clause-steady
by_rule-requires-clause-steady c = c.args.master.now.steady

pub by_rule-requires-clause-rule : goal.by_rule-requires-clause-rule
by_rule-requires-clause-rule c =
    let rule : c.in_ok-rule.rule ≡ c.args.master.now.rule = search rules in
    ap (λ (o : Option Rule). is_some o) rule ∙ c.requires

pub by_rule-requires-clause-said : goal.by_rule-requires-clause-said
by_rule-requires-clause-said c =
    let rule : c.in_ok-rule.rule ≡ c.args.master.now.rule = search rules in
    subst (λ (o : Option Rule). ∥ AreSaidWith (times_of c.args.master.now.times) o ∥₁) (sym rule) (c.args.master.now.said c.requires)

pub returns : goal.returns
returns c =
    let master = component_of c.args.master.now in
    let rule : c.in_ok-rule.rule ≡ c.args.master.now.rule = search rules in
    let made = c.by_rule.ensures master (record { organiser_is = sym c.in_ok-name.ensures.organiser; uid_is = sym c.in_ok-name.ensures.uid; times_are = refl; rule_is = sym rule }) in
    subst (λ (l : List ℤ). IfOk c.by_rule.result (λ series. IsByItsRule master (Contains l) (series_said series))) (c.in_ok-exceptions.ensures ∙ c.deref.ensures.value) made
