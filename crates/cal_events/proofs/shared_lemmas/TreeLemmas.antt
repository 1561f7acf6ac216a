-- The tree of a component that lines spell has the same VEVENTs.
-- Cited by Draft::of_object of draft, Draft::read of draft, MeetingComponents::read of meeting_components, MeetingComponents::read_in_order of meeting_components.
use Rattle.std.proofs.Common.{◌≡◌, ℕ, Bool, true, false, cond, List, [], ◌∷◌, map, filter, codes, subst, sym, refl, ap, ◌∙◌, inl, inr, arith, rules}
use Rattle.ical_lines.specs.Fault.{RefusesBy, RefusesOnly}
use Rattle.std.specs.Prelude.{IsTrue, Result, Ok, Err, IfOk, IfErr}
use Rattle.std.specs.Result.{IsErrAnd}
use Rattle.std.proofs.lemmas.Bool.Decides.{nat_tests}
use Rattle.ical_lines.specs.declared.fault.Fault.{Fault}
use Rattle.ical_lines.specs.declared.fault.Fault.TheVariants.{Refused, Memory}
use Rattle.ical_tree.specs.Tree.{component_lines, component_children, IsObjectOf, tree_of, SpellsComponent}
use Rattle.ical_tree.proofs.TreeOfLemmas.{tree_of-name, tree_of-own, tree_of-inside, spells_tree, object_tree}
use Rattle.ical_tree.specs.Reading.{IsRefusalOf, calendar_has}
use Rattle.ical_tree.specs.declared.component.Component.{Component}
use Rattle.profile.specs.text.Lines.{is_same_name, logical_lines, reads_as_lines}
use Rattle.profile.specs.text.Objects.{has_version}
use Rattle.profile.specs.text.Trees.{Tree, tree_name, tree_own, vevents}
use Rattle.profile.specs.checker.Calendars.{CalendarFault, CalendarTextFault, in_lines, in_tree, no_version, in_vevents}
use Rattle.cal_events.specs.Draft.{IsDraftOf, IsDraftIn}
use Rattle.profile.specs.faults.Faults.{is_calendar_fault, is_meeting_event_fault}
use Rattle.cal_events.specs.Component.{is_vevent, vevents_of}
use Rattle.cal_events.specs.declared.draft.Draft.{Draft}
use Rattle.cal_events.proofs.shared_lemmas.ReadingLemmas.{events_in}
use Rattle.ical_values.proofs.Exits.{err_exit}

abbrev Lines : Type 0
Lines = List (List ℕ)

one_event : (p q : Bool) (ts : List Tree) (t : Tree) (cs : List Component) (c : Component) → p ≡ q → tree_own t ≡ component_lines c
    → map tree_own ts ≡ map component_lines cs → map tree_own (cond p (t ∷ ts) ts) ≡ map component_lines (cond q (c ∷ cs) cs)
one_event p true ts t cs c h own rest =
    ap (λ x. map tree_own (cond x (t ∷ ts) ts)) h ∙ ap (λ l. l ∷ map tree_own ts) own ∙ ap (λ ls. component_lines c ∷ ls) rest
one_event p false ts t cs c h own rest = ap (λ x. map tree_own (cond x (t ∷ ts) ts)) h ∙ rest

-- the VEVENTs among the trees are those among the components
same_events : (cs : List Component) → map tree_own (filter (λ t. is_same_name (tree_name t) (codes "VEVENT")) (map tree_of cs)) ≡ events_in cs
same_events [] = refl
same_events (c ∷ cs) =
    one_event (is_same_name (tree_name (tree_of c)) (codes "VEVENT")) (is_vevent c)
    (filter (λ t. is_same_name (tree_name t) (codes "VEVENT")) (map tree_of cs)) (tree_of c) (filter is_vevent cs) c
    (ap (λ n. is_same_name n (codes "VEVENT")) (tree_of-name c)) (tree_of-own c) (same_events cs)

pub vevents_tree : (c : Component) → vevents (tree_of c) ≡ vevents_of c
vevents_tree c =
    ap (λ (ts : List Tree). map tree_own (filter (λ t. is_same_name (tree_name t) (codes "VEVENT")) ts)) (tree_of-inside c) ∙ same_events (component_children c)

pub faults_there : (r : Result Draft Fault) (octets : List ℕ) (c : Component) → IsObjectOf false c (logical_lines octets)
    → IfErr r (RefusesBy (CalendarFault (tree_of c))) → IfErr r (RefusesBy (CalendarTextFault octets))
faults_there (Ok all) octets c object h = tt
faults_there (Err Memory) octets c object h = tt
faults_there (Err (Refused x)) octets c object h =
    in_vevents (tree_of c) (object_tree false c (logical_lines octets) object) h

-- what is wrong with the one VCALENDAR: nothing counts its VEVENTs here
version_wrong : (octets : List ℕ) (n : ℕ) (c : Component) → SpellsComponent 7 c (logical_lines octets) → IsTrue (calendar_has false n c)
    → CalendarTextFault octets n
version_wrong octets n c s h =
    let e : n ≡ 24 = grind (arith, nat_tests) in
    let v : has_version (component_lines c) ≡ false = grind (arith, nat_tests) in
    subst (CalendarTextFault octets) (sym e) (no_version (tree_of c) (spells_tree 7 c (logical_lines octets) s) (ap has_version (tree_of-own c) ∙ v))

pub no_object : (octets : List ℕ) (f : Fault) → IsRefusalOf false octets f → RefusesBy (CalendarTextFault octets) f
no_object octets Memory h = tt
no_object octets (Refused x) (inl h) = in_lines h
no_object octets (Refused x) (inr (inl h)) = in_tree h
no_object octets (Refused x) (inr (inr (c, (s, h)))) = version_wrong octets x.number c s h

pub object_refused : (r : Result Draft Fault) (octets : List ℕ) (f : Fault) → IsErrAnd r (λ e. e ≡ f) → IsRefusalOf false octets f
    → IfErr r (RefusesBy (CalendarTextFault octets))
object_refused r octets f e h = err_exit r (RefusesBy (CalendarTextFault octets)) f e (no_object octets f h)

pub draft_spelled : (r : Result Draft Fault) (room octets : List ℕ) (c : Component) → reads_as_lines false octets ≡ true
    → IsObjectOf false c (logical_lines octets) → IfOk r (IsDraftOf room (tree_of c)) → IfOk r (IsDraftIn room octets)
draft_spelled (Ok draft) room octets c lines object says =
    record { lines = lines; tree = tree_of c; object = object_tree false c (logical_lines octets) object; of = says }
draft_spelled (Err e) room octets c lines object says = tt

pub only_calendar : (f : Fault) → RefusesOnly is_meeting_event_fault f → RefusesOnly is_calendar_fault f
only_calendar Memory h = tt
only_calendar (Refused x) h = search rules
