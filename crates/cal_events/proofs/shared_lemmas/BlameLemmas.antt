-- At which line a VEVENT is refused that names a VTIMEZONE.
-- Cited by ZonesOfObject::named, When::read_text, SaidInstant::read_recurrence, SaidInstants::read, SaidTimes::from_start and read_extent.
use Rattle.std.proofs.Common.{◌≡◌, ◌∙◌, ap, sym, refl, subst, inl, inr, ℕ, zero, suc, Bool, true, false, cond, codes, ◌&&◌, List, [], ◌∷◌, map, filter, arith}
use Rattle.std.specs.Prelude.{Option, Some, None, Contains, find, Result, Ok, Err, IfErr}
use Rattle.std.proofs.lemmas.Bool.{false≢true}
use Rattle.std.proofs.lemmas.Option.{none-some, same_Some}
use Rattle.std.proofs.lemmas.List.Elements.{Contains-append_right}
use Rattle.cal_zones.specs.ZoneNames.{is_zone_called}
use Rattle.cal_zones.specs.declared.zone.Zone.{Zone}
use Rattle.ical_lines.specs.declared.fault.Refusal.{Refusal}
use Rattle.ical_tree.specs.Tree.{component_name, component_lines, component_children, zone_of_component, zones_in}
use Rattle.ical_tree.specs.declared.component.Component.{Component}
use Rattle.ical_tree.proofs.OwnLemmas.{texts_of_component}
use Rattle.profile.specs.text.Lines.{is_same_name}
use Rattle.profile.specs.series.ZoneBlame.{NumberedZone}
use Rattle.profile.specs.events.Properties.{BothOrNeither}
use Rattle.profile.specs.events.ZonedTimes.{has_zone_name}
use Rattle.profile.specs.faults.Blame.{Numbered}
use Rattle.profile.specs.events.EventBlame.{EventBlame, IsWrong, IsWrongTime, NamedBlame, in_zone, zone_has_name}
use Rattle.profile.specs.events.EventComponents.{Method}
use Rattle.ical_lines.specs.Text.{line_text, numbered}
use Rattle.ical_lines.specs.declared.line.Line.{Line}
use Rattle.cal_events.specs.Blame.{TextBlame}
use Rattle.cal_events.specs.Property.{property_said, IsLineOf}
use Rattle.cal_events.specs.declared.property.Property.{Property}
use Rattle.cal_events.proofs.shared_lemmas.LineBlame.{alone_blamed}
use Rattle.cal_events.specs.Zones.{IsZoneRead}

-- ---- the VTIMEZONE of a name

abbrev is_zone : Component → Bool
is_zone c = is_same_name (component_name c) (codes "VTIMEZONE")

abbrev zones_among : List Component → List NumberedZone
zones_among cs = map zone_of_component (filter is_zone cs)

module _ (name : List ℕ) where
  has_name : (c : Component) → zone_has_name name (zone_of_component c) ≡ has_zone_name name (component_lines c)
  has_name c = ap (has_zone_name name) (texts_of_component c)

  abbrev IsFoundAmong : List NumberedZone → Component → Type 0
  IsFoundAmong zones c = Contains zones (zone_of_component c) × (zone_has_name name (zone_of_component c) ≡ true)

  found_among : (cs : List Component) (c : Component) → find (is_zone_called name) cs ≡ Some c → IsFoundAmong (zones_among cs) c
  found_among [] c e = absurd (none-some c e)
  found_among (x ∷ cs) c e = go (is_zone x) (has_zone_name name (component_lines x)) (has_name x) e (found_among cs c)
    where
      go : (p q : Bool) → zone_has_name name (zone_of_component x) ≡ q → cond (p && q) (Some x) (find (is_zone_called name) cs) ≡ Some c
          → (find (is_zone_called name) cs ≡ Some c → IsFoundAmong (zones_among cs) c)
          → IsFoundAmong (map zone_of_component (cond p (x ∷ filter is_zone cs) (filter is_zone cs))) c
      go true true has e later = subst (λ (c : Component). IsFoundAmong (zone_of_component x ∷ zones_among cs) c) (same_Some x c e) ((zero, omega arith, refl), has)
      go true false has e later = let h = later e in (Contains-append_right (zone_of_component x ∷ []) (zones_among cs) (zone_of_component c) h.0, h.1)
      go false q has e later = later e

  none_among : (cs : List Component) → find (is_zone_called name) cs ≡ None → (zone : NumberedZone) → Contains (zones_among cs) zone → zone_has_name name zone ≡ true → ⊥
  none_among [] e zone (k, w, is) has = absurd (omega (arith, w))
  none_among (x ∷ cs) e zone among has = go (is_zone x) (has_zone_name name (component_lines x)) (has_name x) e among (λ is there. none_among cs is zone there has)
    where
      go : (p q : Bool) → zone_has_name name (zone_of_component x) ≡ q → cond (p && q) (Some x) (find (is_zone_called name) cs) ≡ None
          → Contains (map zone_of_component (cond p (x ∷ filter is_zone cs) (filter is_zone cs))) zone
          → (find (is_zone_called name) cs ≡ None → Contains (zones_among cs) zone → ⊥) → ⊥
      go true true h e among later = none-some x (sym e)
      go true false h e (zero, w, is) later = false≢true (sym h ∙ ap (zone_has_name name) is ∙ has)
      go true false h e (suc k, w, is) later = later e (k, omega (arith, w), is)
      go false q h e among later = later e among

  module _ (object : Component) (line : ℕ) where
    -- what the table has of a name
    pub zone_blamed : (r : Result Zone Refusal) → BothOrNeither IsZoneRead (find (is_zone_called name) (component_children object)) (Some r)
        → IfErr r (λ e. NamedBlame (zones_in object) line name e.number e.line)
    zone_blamed (Ok zone) h = tt
    zone_blamed (Err e) h = go (find (is_zone_called name) (component_children object)) refl h
      where
        go : (f : Option Component) → find (is_zone_called name) (component_children object) ≡ f → BothOrNeither IsZoneRead f (Some (Err e)) → NamedBlame (zones_in object) line name e.number e.line
        go (Some c) is h = let found = found_among (component_children object) c is in inr (zone_of_component c, found.0, found.1, h.1)
        go None is h = absurd h

    pub no_zone_blamed : BothOrNeither IsZoneRead (find (is_zone_called name) (component_children object)) None → NamedBlame (zones_in object) line name 43 line
    no_zone_blamed h = go (find (is_zone_called name) (component_children object)) refl h
      where
        go : (f : Option Component) → find (is_zone_called name) (component_children object) ≡ f → BothOrNeither IsZoneRead f None → NamedBlame (zones_in object) line name 43 line
        go None is h = inl (refl, refl, none_among (component_children object) is)
        go (Some c) is h = absurd h

-- ---- lines of a VEVENT

-- a text of a line of this property
pub text_blamed : (m : Option Method) (zones : List NumberedZone) (property : Property) (event : Numbered) (line : Line) → IsLineOf property event line → (text : List ℕ)
    → (refusal : Refusal) → (IsWrongTime (line_text line) text refusal.number → IsWrong (property_said property) (line_text line) refusal.number)
    → TextBlame zones (numbered line) text refusal.number refusal.line → EventBlame m zones event refusal.number refusal.line
text_blamed m zones property event line is text refusal wrong (inl (here, time)) = alone_blamed m zones property event line is refusal (wrong time) here
text_blamed m zones property event line (among, named) text refusal wrong (inr (name, names, blame)) =
    in_zone line.number name (record { line = line_text line; among = among; holds = names }) blame
