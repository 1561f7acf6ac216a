use Rattle.std.proofs.Common.{◌≡◌, ◌∙◌, ◌++◌, List, ℤ, ap, refl, sym, subst, inl, inr, ◌⊎◌, map}
use Rattle.std.specs.Prelude.{Contains}
use Rattle.std.proofs.lemmas.Result.{IfOk-weaker}
use Rattle.std.proofs.lemmas.List.Elements.{Contains-append_left, Contains-append_right, Contains-append_cases}
use Rattle.profile.specs.events.Confirmed.{IsByItsRule}
use Rattle.profile.specs.events.EventComponents.{meeting_said}
use Rattle.cal_events.specs.Calendar.{key_of, key_in}
use Rattle.cal_events.specs.Component.{component_of}
use Rattle.cal_events.specs.Ruled.{IsRuledBeside}
use Rattle.cal_events.specs.Series.{series_said}
use Rattle.cal_events.proofs.shared_lemmas.SeriesLemmas.{ruled_so}
use Rattle.cal_events.proofs.series.Series.of.Goals as goal

pub by_rule-requires-clause-steady : goal.by_rule-requires-clause-steady
by_rule-requires-clause-steady c = c.args.master.steady

pub by_rule-requires-clause-said : goal.by_rule-requires-clause-said
by_rule-requires-clause-said c = c.args.master.said c.requires.rule

pub returns : goal.returns
returns c =
    let master = component_of c.args.master in
    let keys = map key_of c.args.overrides.now in
    let slots = c.in_ok-exceptions.exceptions.items in
    let all = c.extend_from_slice.new.self.items in
    let is : all ≡ slots ++ master.exceptions = c.in_ok-extend_from_slice.ensures.items ∙ ap (λ (l : List ℤ). slots ++ l) c.deref.ensures.value in
    IfOk-weaker c.by_rule.result (λ series. IsByItsRule master (Contains all) (series_said series)) (λ series. IsRuledBeside keys master (series_said series))
    (λ series s.
    ruled_so master (Contains all) (series_said series) s (λ t. Contains master.exceptions t ⊎ Contains keys (key_in (meeting_said master) t))
    (λ t h. elim (Contains-append_cases slots master.exceptions t (subst (λ (l : List ℤ). Contains l t) is h)) [
      | inl l ↦ inr ((c.in_ok-exceptions.ensures t).0 l)
      | inr l ↦ inl l
    ])
    (λ t h. subst (λ (l : List ℤ). Contains l t) (sym is) (elim h [
      | inl l ↦ Contains-append_right slots master.exceptions t l
      | inr l ↦ Contains-append_left slots master.exceptions t ((c.in_ok-exceptions.ensures t).1 l)
    ])))
    (c.by_rule.ensures master (record { organiser_is = refl; uid_is = refl; times_are = refl; rule_is = refl }))
