use Rattle.std.proofs.Common.{◌≡◌, ◌∙◌, ◌++◌, List, ℤ, ap, sym, subst, inl, inr}
use Rattle.std.specs.Prelude.{Contains}
use Rattle.std.proofs.lemmas.List.Elements.{Contains-append_left, Contains-append_right, Contains-append_cases}
use Rattle.cal_events.specs.Component.{component_of, times_of}
use Rattle.cal_events.specs.Instants.{AreStartsOf}
use Rattle.cal_events.proofs.component.EventComponent.without.Goals as goal

pub of-requires : goal.of-requires
of-requires c = c.args.self.steady

pub returns-clause-recurrence : goal.returns-clause-recurrence
returns-clause-recurrence c =
    let master = component_of c.args.self in
    let instants = c.args.instants.items in
    let made = c.in_ok-recurrence.ensures in
    let r = c.in_ok-recurrence.recurrence in
    let all = c.extend_from_slice.new.self.items in
    let is : all ≡ instants ++ master.exceptions = c.in_ok-extend_from_slice.ensures.items ∙ ap (λ (l : List ℤ). instants ++ l) c.deref.ensures.value in
    record {
      times = ap times_of made.times;
      rule = made.rule;
      exceptions = λ t. (
        (λ h. elim (Contains-append_cases instants master.exceptions t (subst (λ (l : List ℤ). Contains l t) is ((made.exceptions t).0 h))) [ inl i ↦ inr i | inr e ↦ inl e ]),
        λ h. (made.exceptions t).1 (subst (λ (l : List ℤ). Contains l t) (sym is) (elim h [ inl e ↦ Contains-append_right instants master.exceptions t e | inr i ↦ Contains-append_left instants master.exceptions t i ])),
      );
      additions = subst (λ (l : List ℤ). AreStartsOf l r.exceptions r.additions) c.deref-2.ensures.value made.additions;
    }
