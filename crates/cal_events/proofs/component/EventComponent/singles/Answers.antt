use Rattle.std.proofs.Common.{◌≡◌, ◌∷◌, [], None, Some, map, List, sym, subst, inl, inr, ℤ, to_z, of_z, w64, rules}
use Rattle.std.specs.List.{AllZip}
use Rattle.std.proofs.lemmas.Result.{IfOk-weaker}
use Rattle.profile.specs.events.Confirmed.{AreApart}
use Rattle.cal_events.specs.Component.{component_of}
use Rattle.cal_events.specs.OwnInstances.{own_instance_at, IsInstanceAt}
use Rattle.cal_events.specs.SingleStarts.{AreSingleStarts}
use Rattle.cal_events.specs.declared.component.EventComponent.{EventComponent}
use Rattle.cal_events.specs.declared.instance.Single.{Single}
use Rattle.cal_events.proofs.component_lemmas.OwnInstances.{master_apart, own_apart, apart_once, timely}
use Rattle.cal_events.proofs.shared_lemmas.OwnSingles.{of_both}
use Rattle.cal_events.proofs.component.EventComponent.singles.Goals as goal

abbrev Apart : EventComponent → List Single → Type 0
Apart component singles = AreApart (component_of component) (map (own_instance_at (component_of component)) singles)

own : (component : EventComponent) (slot : ℤ) → component.recurrence ≡ Some slot → (singles : List Single)
    → (s : Single) × (singles ≡ s ∷ []) × IsInstanceAt (component_of component) slot component.times.instant s → Apart component singles
own component slot is singles h = subst (Apart component) (sym h.1) (own_apart (component_of component) (timely component) slot h.0 is h.2)

all : (component : EventComponent) → ((slot : ℤ) → component.recurrence ≡ Some slot → ⊥) → (starts : List ℤ) → AreSingleStarts (component_of component) starts
    → (singles : List Single) → AllZip (λ start single. IsInstanceAt (component_of component) start start single) starts singles → Apart component singles
all component instances starts are singles h =
    let none : (component_of component).recurrence ≡ None = elim (of_both (component_of component)) [ inl e ↦ e | inr (slot, e) ↦ absurd (instances slot e) ] in
    master_apart (component_of component) (timely component) none starts singles are h

pub single_starts-requires : goal.single_starts-requires
single_starts-requires c = λ _. (c.args.self.now.steady.meaning, c.args.self.now.steady.ascends)

pub returns-in-Some-clause-apart : goal.returns-in-Some-clause-apart
returns-in-Some-clause-apart c =
    let component = c.args.self.now in
    let slot = c.in-Some.slot in
    let kept : to_z w64 (of_z w64 slot) ≡ slot = search rules in
    IfOk-weaker c.own_single.result (λ singles. (s : Single) × (singles.items ≡ s ∷ []) × IsInstanceAt (component_of component) (to_z w64 (of_z w64 slot)) component.times.instant s) (λ singles. Apart component singles.items)
    (λ singles h. own component slot c.in-Some.is singles.items (subst (λ (x : ℤ). (s : Single) × (singles.items ≡ s ∷ []) × IsInstanceAt (component_of component) x component.times.instant s) kept h))
    c.own_single.ensures

pub returns-in-Some-clause-once : goal.returns-in-Some-clause-once
returns-in-Some-clause-once c =
    let component = c.args.self.now in
    IfOk-weaker c.own_single.result (λ singles. Apart component singles.items) _
    (λ singles h once. apart_once (component_of component) (timely component) (map (own_instance_at (component_of component)) singles.items) once h) (returns-in-Some-clause-apart c)

pub returns-clause-apart : goal.returns-clause-apart
returns-clause-apart c =
    let component = c.args.self.now in
    let starts = c.in_ok-starts.starts.items in
    IfOk-weaker c.singles_at.result (λ singles. AllZip (λ start single. IsInstanceAt (component_of component) start start single) c.deref.result.now singles.items) (λ singles. Apart component singles.items)
    (λ singles h. all component c.in_default.not-Some starts c.in_ok-starts.ensures singles.items
    (subst (λ (l : List ℤ). AllZip (λ start single. IsInstanceAt (component_of component) start start single) l singles.items) c.deref.ensures.value h))
    c.singles_at.ensures

pub returns-clause-once : goal.returns-clause-once
returns-clause-once c =
    let component = c.args.self.now in
    IfOk-weaker c.singles_at.result (λ singles. Apart component singles.items) _
    (λ singles h once. apart_once (component_of component) (timely component) (map (own_instance_at (component_of component)) singles.items) once h) (returns-clause-apart c)
