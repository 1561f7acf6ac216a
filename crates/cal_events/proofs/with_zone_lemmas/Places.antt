-- Where the line that names the zone of a room is put, and when it is not.
-- Cited by Calendar::with_zone, judge_unnamed, put_words and zone_place of with_zone.
use Rattle.std.proofs.Common.{◌≡◌, ◌||◌, ◌<◌, ℕ, true, false, List, [], ◌∷◌, ◌++◌, Option, Some, None, length, take, drop, codes, refl, sym, subst, ap, ◌∙◌, arith}
use Rattle.std.specs.Prelude.{Contains, is_some}
use Rattle.std.specs.Option.{option_map}
use Rattle.std.proofs.lemmas.List.{append_assoc, take-append-drop}
use Rattle.std.proofs.lemmas.Bool.{lt-ltb}
use Rattle.profile.specs.faults.Faults.{is_between, is_line_fault, is_object_fault}
use Rattle.profile.specs.text.Lines.{logical_lines}
use Rattle.profile.specs.text.Objects.{SpellsTree}
use Rattle.profile.specs.text.Trees.{Tree, tree_own}
use Rattle.profile.specs.series.Zones.{Zone}
use Rattle.profile.specs.series.RoomZones.{IsRoomZone}
use Rattle.profile.specs.events.Properties.{lines_named, OccursAtMostOnce, OccursMoreThanOnce}
use Rattle.profile.specs.checker.Calendars.{IsWithZone}
use Rattle.ical_lines.specs.FirstLine.{EndsFirstLine}
use Rattle.ical_lines.specs.Fault.{RefusesBy, RefusesOnly}
use Rattle.ical_lines.specs.declared.fault.Fault.{Fault}
use Rattle.ical_lines.specs.declared.fault.Fault.TheVariants.{Refused, Memory}
use Rattle.ical_tree.specs.Tree.{component_lines, IsObjectOf, tree_of}
use Rattle.ical_tree.specs.Reading.{IsRefusalOf}
use Rattle.ical_tree.specs.declared.component.Component.{Component}
use Rattle.ical_tree.proofs.TreeOfLemmas.{tree_of-own, object_tree}
use Rattle.cal_events.specs.WithZone.{NamesNoZone, WithZoneFault, in_object, is_named, HasZoneLine}
use Rattle.cal_events.proofs.shared_lemmas.TreeLemmas.{no_object}
use Rattle.cal_events.proofs.with_zone_lemmas.Worded.{zone_line, shown_words, line_whole}

-- ---- a line of its name

pub first_of_two : (own : List (List ℕ)) (lines : List (List ℕ)) → lines_named (codes "X-ROOM-ZONE") own ≡ lines → 0 < length lines → HasZoneLine own
first_of_two own [] e l = absurd (omega (arith, l))
first_of_two own (line ∷ lines) e l =
    (line, subst (λ (ls : List (List ℕ)). Contains ls line) (sym e) (0, omega arith, refl), tt)

pub not_alone : (own : List (List ℕ)) → OccursMoreThanOnce (codes "X-ROOM-ZONE") own → HasZoneLine own
not_alone own l = first_of_two own (lines_named (codes "X-ROOM-ZONE") own) refl (omega (arith, l))

pub given_line : {A : Type 0} (text : A → List ℕ) (own : List (List ℕ)) (given : Option A) → OccursAtMostOnce (codes "X-ROOM-ZONE") own (option_map text given) → is_some given ≡ true → HasZoneLine own
given_line text own None e h = cc
given_line text own (Some x) e h = first_of_two own (text x ∷ []) e (omega arith)

-- ---- the object

pub unnamed_object : ((depth other : ℕ) (lines : List (List ℕ)) (a b : Tree) → SpellsTree depth a lines → SpellsTree other b lines → a ≡ b) → (octets : List ℕ) (c : Component) → IsObjectOf false c (logical_lines octets) → lines_named (codes "X-ROOM-ZONE") (component_lines c) ≡ [] → NamesNoZone octets
unnamed_object one octets c object none other is =
    let same : other ≡ tree_of c = one 7 7 (logical_lines octets) other (tree_of c) is.spelled (object_tree false c (logical_lines octets) object).spelled in
    ap (λ (t : Tree). lines_named (codes "X-ROOM-ZONE") (tree_own t)) same ∙ (ap (lines_named (codes "X-ROOM-ZONE")) (tree_of-own c) ∙ none)

pub named_object : (octets : List ℕ) (c : Component) (f : Fault) → IsObjectOf false c (logical_lines octets) → RefusesBy (λ n. (n ≡ 44) × HasZoneLine (component_lines c)) f → RefusesBy (WithZoneFault octets) f
named_object octets c Memory object h = tt
named_object octets c (Refused r) object (e, has) =
    subst (WithZoneFault octets) (sym e) (is_named (tree_of c) (object_tree false c (logical_lines octets) object) (subst HasZoneLine (sym (tree_of-own c)) has))

pub no_text : (octets : List ℕ) (f : Fault) → IsRefusalOf false octets f → RefusesOnly is_object_fault f → RefusesBy (WithZoneFault octets) f
no_text octets Memory h k = tt
no_text octets (Refused r) h k = in_object k (no_object octets (Refused r) h)

pub line_object : (f : Fault) → RefusesOnly is_line_fault f → RefusesOnly is_object_fault f
line_object Memory h = tt
line_object (Refused r) h = ap (λ b. b || is_between 20 25 r.number) h

-- ---- the octets

pub put_together : (i0 i1 i2 i3 i4 i5 before line words break after : List ℕ) → i0 ≡ [] → i1 ≡ i0 ++ before → i2 ≡ i1 ++ line → i3 ≡ i2 ++ words → i4 ≡ i3 ++ break → i5 ≡ i4 ++ after → i5 ≡ before ++ (line ++ words ++ break) ++ after
put_together i0 i1 i2 i3 i4 i5 before line words break after e0 e1 e2 e3 e4 e5 =
    let first : i1 ≡ before = e1 ∙ ap (λ z. z ++ before) e0 in
    let fourth : i4 ≡ ((before ++ line) ++ words) ++ break = e4 ∙ ap (λ z. z ++ break) (e3 ∙ ap (λ z. z ++ words) (e2 ∙ ap (λ z. z ++ line) first)) in
    let joined : ((before ++ line) ++ words) ++ break ≡ before ++ (line ++ words ++ break) = append_assoc (before ++ line) words break ∙ (append_assoc before line (words ++ break) ∙ ap (λ z. before ++ z) (sym (append_assoc line words break))) in
    e5 ∙ ap (λ z. z ++ after) (fourth ∙ joined)

pub with_zone_by : (words bytes octets : List ℕ) (zone : Option Zone) (end : ℕ) → IsRoomZone words zone → EndsFirstLine bytes end → octets ≡ take end bytes ++ (codes "X-ROOM-ZONE:" ++ words ++ codes "\r\n") ++ drop end bytes → IsWithZone words bytes octets
with_zone_by words bytes octets zone end means e is =
    let shown = shown_words words zone means in
    record {
      before = take end bytes;
      after = drop end bytes;
      is = sym (take-append-drop end bytes);
      begins = (e.first, e.rest, e.alone, e.whole, ap logical_lines is ∙ e.with_line (zone_line words) (lt-ltb 0 (length (zone_line words)) (omega arith)) (line_whole words shown) refl);
      added = is;
    }
