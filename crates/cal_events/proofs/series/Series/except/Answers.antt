use Rattle.std.proofs.Common.{◌≡◌, ◌∙◌, ap, sym, refl, subst, rules}
use Rattle.std.specs.Prelude.{Option, Contains, is_some, IfOk}
use Rattle.std.proofs.lemmas.Option.{same_Some}
use Rattle.profile.specs.events.Confirmed.{IsByItsRule}
use Rattle.profile.specs.events.EventComponents.{EventComponent as Said}
use Rattle.profile.specs.series.Rules.{Rule}
use Rattle.ical_values.specs.Octets.{text_octets}
use Rattle.cal_events.specs.Recurrence.{master_of, organiser_of}
use Rattle.cal_events.specs.declared.event.Event.{Event}
use Rattle.cal_events.specs.Series.{series_said}
use Rattle.cal_events.proofs.shared_lemmas.SeriesLemmas.{said_times}
use Rattle.cal_events.proofs.series.Series.except.Goals as goal

pub by_rule-requires-clause-steady : goal.by_rule-requires-clause-steady
by_rule-requires-clause-steady c = c.recurrence-recurrence.result.now.steady

pub by_rule-requires-clause-rule : goal.by_rule-requires-clause-rule
by_rule-requires-clause-rule c =
    let rule : c.in_ok-rule.rule ≡ c.recurrence-recurrence.result.now.rule = search rules in
    ap (λ (o : Option Rule). is_some o) rule ∙ c.recurrence-recurrence.ensures.ruled

pub by_rule-requires-clause-said : goal.by_rule-requires-clause-said
by_rule-requires-clause-said c =
    let rule : c.in_ok-rule.rule ≡ c.recurrence-recurrence.result.now.rule = search rules in
    said_times c.args.self.now.event.value c.args.self.now.said c.recurrence-recurrence.result.now c.recurrence-recurrence.ensures.master c.in_ok-rule.rule rule

pub returns : goal.returns
returns c = λ master is.
    let r = c.recurrence-recurrence.result.now in
    let name = c.args.self.now.event.value.name in
    let rule : c.in_ok-rule.rule ≡ r.rule = search rules in
    let same : master_of name r ≡ master = same_Some (master_of name r) master (sym c.recurrence-recurrence.ensures.master ∙ is) in
    subst (λ (m : Said). IfOk c.by_rule.result (λ series. IsByItsRule m (Contains c.args.exceptions.items) (series_said series))) same
    (c.by_rule.ensures (master_of name r) (record { organiser_is = sym (c.in_ok-name.ensures.organiser ∙ ap (λ (e : Event). organiser_of e.name) c.deref.ensures); uid_is = sym (c.in_ok-name.ensures.uid ∙ ap (λ (e : Event). text_octets e.name.uid) c.deref.ensures); times_are = refl; rule_is = sym rule }))
