use Rattle.std.proofs.Common.{◌≡◌, List, map, sym, subst, inr}
use Rattle.std.specs.Prelude.{Option, Some, None}
use Rattle.std.proofs.lemmas.Option.{same_Some}
use Rattle.profile.specs.events.Events.{AreOfOne, components_of}
use Rattle.cal_events.specs.Component.{component_of, meeting_with}
use Rattle.cal_events.specs.Event.{AreAlike}
use Rattle.cal_events.specs.Overlapping.{HaveOneEnd, AreDated}
use Rattle.cal_events.specs.Instants.{AreReplacedIn}
use Rattle.cal_events.specs.Recurrence.{AreNamed, recurring_with}
use Rattle.cal_events.specs.Places.{ArePlaces}
use Rattle.cal_events.specs.declared.component.EventComponent.{EventComponent}
use Rattle.cal_events.specs.declared.recurrence.Recurrence.{Recurrence}
use Rattle.cal_events.proofs.event_lemmas.Alike.{alike, same_name, ends_alike, dated_alike, named_with}
use Rattle.cal_events.proofs.shared_lemmas.HiddenLemmas.{replaced_in}
use Rattle.cal_events.proofs.event.Event.of.Goals as goal

pub invariant_of-result : goal.invariant_of-result
invariant_of-result c =
    let overrides = c.args.components.overrides.items in
    let os = map component_of overrides in
    let instants = c.args.components.instants.items in
    let said = c.requires.said in
    let name = c.in_ok-name-in-Some.name in
    let r = c.in_ok-name-in-Some.recurrence in
    let master = component_of c.in-Some.master in
    let made = c.in_ok-name-in-Some.ensures in
    let same = alike name r master os instants said made.organiser made.uid made.recurrence in
    let is = c.in-Some.is in
    record {
      replaced = λ other e. subst (λ (x : Recurrence). AreReplacedIn os x.exceptions) (same_Some r other e) (replaced_in os instants said r.exceptions (λ t h. (made.recurrence.exceptions t).1 (inr h)));
      ends = ends_alike _ _ same (subst (λ (o : Option EventComponent). HaveOneEnd (meeting_with o overrides)) is c.requires.ends);
      dated = dated_alike _ _ same (subst (λ (o : Option EventComponent). AreDated (meeting_with o overrides)) is c.requires.dated);
      placed = subst (λ (l : List EventComponent). ArePlaces l c.in_ok-places.places) c.deref.ensures.value c.in_ok-places.ensures;
      named = named_with name master overrides (subst (λ (o : Option EventComponent). AreOfOne (components_of (meeting_with o overrides))) is c.requires.one)
          (same_name name r master os instants said made.organiser made.uid made.recurrence);
    }

pub invariant_of-result-in-None : goal.invariant_of-result-in-None
invariant_of-result-in-None c =
    let overrides = c.args.components.overrides.items in
    let is = c.in-None.is in
    let one = subst (λ (o : Option EventComponent). AreOfOne (components_of (meeting_with o overrides))) is c.requires.one in
    record {
      replaced = λ r e. absurd (nothing r e);
      ends = subst (λ (o : Option EventComponent). HaveOneEnd (meeting_with o overrides)) is c.requires.ends;
      dated = subst (λ (o : Option EventComponent). AreDated (meeting_with o overrides)) is c.requires.dated;
      placed = subst (λ (l : List EventComponent). ArePlaces l c.in_ok-places.places) c.deref.ensures.value c.in_ok-places.ensures;
      named = subst (λ (l : List EventComponent). AreOfOne (map component_of l) → AreNamed c.in_ok-first_name-in-None.field-0 l) c.deref-in-None.ensures.value c.in_ok-first_name-in-None.ensures one;
    }
  where
    nothing : (r : Recurrence) → None ≡ Some r → ⊥
    nothing r e = cc

pub returns-in_ok-name-in-Some : goal.returns-in_ok-name-in-Some
returns-in_ok-name-in-Some c =
    let overrides = c.args.components.overrides.items in
    let os = map component_of overrides in
    let name = c.in_ok-name-in-Some.name in
    let r = c.in_ok-name-in-Some.recurrence in
    let made = c.in_ok-name-in-Some.ensures in
    let same = alike name r (component_of c.in-Some.master) os c.args.components.instants.items c.requires.said made.organiser made.uid made.recurrence in
    subst (λ (o : Option EventComponent). AreAlike (recurring_with name (Some r) overrides) (meeting_with o overrides)) (sym c.in-Some.is) same
