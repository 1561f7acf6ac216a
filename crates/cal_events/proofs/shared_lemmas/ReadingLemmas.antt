-- An object's VEVENTs, what they say, and the calendar's entries.
-- Cited by Draft::of_object of draft, read_events of reading.
use Rattle.std.proofs.Common.{◌≡◌, ℕ, zero, ◌+◌, ◌<◌, true, false, cond, codes, inl, inr, List, [], ◌∷◌, ◌++◌, length, map, filter, get_or, take, drop, subst, sym, refl, ap, ◌∙◌, arith, Option, None}
use Rattle.ical_lines.specs.Fault.{RefusesAt, RefusesBy, RefusesOnly, RefusesWhere}
use Rattle.std.specs.Prelude.{Contains, Some, Result, Ok, Err, IfOk, IfErr}
use Rattle.std.specs.List.{AllZip}
use Rattle.std.proofs.lemmas.List.{map-append, take-append-drop, append-nil}
use Rattle.std.proofs.lemmas.List.Elements.{Contains-append_right, filter_more, filter-append}
use Rattle.ical_lines.specs.declared.fault.Fault.{Fault}
use Rattle.ical_lines.specs.declared.fault.Fault.TheVariants.{Refused, Memory}
use Rattle.ical_tree.specs.Tree as tree
use Rattle.ical_tree.specs.Tree.{component_lines, component_numbered, tree_of, zones_in}
use Rattle.ical_tree.proofs.TreeOfLemmas.{tree_of-own}
use Rattle.profile.specs.faults.Blame.{Numbered}
use Rattle.profile.specs.faults.Faults.{is_calendar_fault}
use Rattle.profile.specs.series.ZoneBlame.{NumberedZone}
use Rattle.profile.specs.events.EventBlame as blame
use Rattle.profile.specs.events.EventBlame.{EventBlame, EventsBlame}
use Rattle.profile.specs.series.RoomZones.{IsRoomZone, IsNoRoomZone, NamesRoomZone, RoomZoneFault}
use Rattle.profile.specs.text.Lines.{line_value}
use Rattle.profile.specs.events.Properties.{OccursAtMostOnce}
use Rattle.cal_zones.specs.RoomZones.{room_of}
use Rattle.cal_zones.specs.declared.room_zone.RoomZone.{RoomZone}
use Rattle.ical_tree.specs.declared.component.Component.{Component}
use Rattle.ical_tree.proofs.OneLine.{at_place}
use Rattle.profile.specs.text.Trees.{Tree, vevents}
use Rattle.profile.specs.events.EventComponents.{EventComponent as SaidComponent, EventComponentFault, Method}
use Rattle.profile.specs.events.Placed.{SaysPlaced}
use Rattle.profile.specs.series.Zones.{Zone}
use Rattle.profile.specs.checker.Calendars.{CalendarFault, in_event, in_zone}
use Rattle.cal_events.specs.declared.component.EventComponent.{EventComponent}
use Rattle.cal_events.specs.Begins.{begins_of}
use Rattle.cal_events.specs.Blame.{CalendarBlame, IsZoneLine}
use Rattle.cal_events.specs.Component.{component_of, is_vevent}
use Rattle.cal_events.proofs.shared_lemmas.EventLemmas.{push_zip, some_line}

-- ---- the VEVENTs among some components

abbrev pub events_by : {X : Type 0} → (Component → X) → List Component → List X
events_by see cs = map see (filter is_vevent cs)

abbrev pub events_in : List Component → List (List (List ℕ))
events_in cs = events_by component_lines cs

abbrev Lines : Type 0
Lines = List (List ℕ)

event_first : {X : Type 0} (see : Component → X) (c : Component) (cs : List Component) → is_vevent c ≡ true → events_by see (c ∷ cs) ≡ see c ∷ events_by see cs
event_first see c cs h = ap (λ b. map see (cond b (c ∷ filter is_vevent cs) (filter is_vevent cs))) h

pub take_other : {X : Type 0} (see : Component → X) (cs : List Component) (i : ℕ) (c : Component) → i < length cs → c ≡ get_or cs i c → is_vevent c ≡ false
    → events_by see (take (i + 1) cs) ≡ events_by see (take i cs)
take_other see cs i c w e h =
    ap (map see) (filter_more is_vevent cs i c w ∙ ap (λ x. filter is_vevent (take i cs) ++ cond (is_vevent x) (x ∷ []) []) (sym e)
    ∙ ap (λ b. filter is_vevent (take i cs) ++ cond b (c ∷ []) []) h ∙ append-nil (filter is_vevent (take i cs)))

pub take_event : {X : Type 0} (see : Component → X) (cs : List Component) (i : ℕ) (c : Component) → i < length cs → c ≡ get_or cs i c → is_vevent c ≡ true
    → events_by see (take (i + 1) cs) ≡ events_by see (take i cs) ++ see c ∷ []
take_event see cs i c w e h =
    ap (map see) (filter_more is_vevent cs i c w ∙ ap (λ x. filter is_vevent (take i cs) ++ cond (is_vevent x) (x ∷ []) []) (sym e)
    ∙ ap (λ b. filter is_vevent (take i cs) ++ cond b (c ∷ []) []) h) ∙ map-append see (filter is_vevent (take i cs)) (c ∷ [])

split : {X : Type 0} (see : Component → X) (cs : List Component) (i : ℕ) → events_by see cs ≡ events_by see (take i cs) ++ events_by see (drop i cs)
split see cs i =
    ap (events_by see) (sym (take-append-drop i cs)) ∙ ap (map see) (filter-append is_vevent (take i cs) (drop i cs))
    ∙ map-append see (filter is_vevent (take i cs)) (filter is_vevent (drop i cs))

-- a VEVENT that the loop comes to is one of them
pub is_among : {X : Type 0} (see : Component → X) (cs : List Component) (i : ℕ) (c : Component) → i < length cs → c ≡ get_or cs i c → is_vevent c ≡ true → Contains (events_by see cs) (see c)
is_among {X} see cs i c w e h =
    let left : events_by see (drop i cs) ≡ see c ∷ events_by see (drop (i + 1) cs) = ap (events_by see) (at_place cs i c w e) ∙ event_first see c (drop (i + 1) cs) h in
    let whole : events_by see cs ≡ events_by see (take i cs) ++ see c ∷ events_by see (drop (i + 1) cs) = split see cs i ∙ ap (λ l. events_by see (take i cs) ++ l) left in
    subst (λ (l : List X). Contains l (see c)) (sym whole)
    (Contains-append_right (events_by see (take i cs)) (see c ∷ events_by see (drop (i + 1) cs)) (see c) (zero, omega arith, refl))

-- of each the number of its BEGIN
pub begin_pushed : (events : List Numbered) (event : Numbered) (begins : List ℕ) (begun : ℕ) → begins ≡ map (λ x. x.begun) events → begun ≡ event.begun
    → begins ++ begun ∷ [] ≡ map (λ x. x.begun) (events ++ event ∷ [])
begin_pushed events event begins begun same is =
    ap (λ (l : List ℕ). l ++ begun ∷ []) same ∙ ap (λ (at : ℕ). map (λ x. x.begun) events ++ at ∷ []) is ∙ sym (map-append (λ x. x.begun) events (event ∷ []))

pub begun_pushed : (events : List Numbered) (event : Numbered) (old new : List EventComponent) (read : EventComponent)
    → begins_of old ≡ map (λ x. x.begun) events → read.begun ≡ event.begun → new ≡ old ++ read ∷ [] → begins_of new ≡ map (λ x. x.begun) (events ++ event ∷ [])
begun_pushed events event old new read same is n =
    ap begins_of n ∙ map-append (λ x. x.begun) old (read ∷ []) ∙ begin_pushed events event (begins_of old) read.begun same is

-- a VEVENT that is refused at a line is one of those of the object
pub event_blamed : (m : Option Method) (zones others : List NumberedZone) (event : Numbered) (events : List Numbered) (f : Fault) → zones ≡ others → Contains events event
    → RefusesWhere (EventBlame m zones event) f → RefusesWhere (EventsBlame m others events) f
event_blamed m zones others event events Memory e among h = tt
event_blamed m zones others event events (Refused r) e among h =
    blame.in_event event among (subst (λ (zones : List NumberedZone). EventBlame m zones event r.number r.line) e h)

-- so is it refused in a calendar
pub events_blamed : (object : Component) (f : Fault) → RefusesWhere (EventsBlame None (zones_in object) (tree.events_in object)) f → RefusesWhere (CalendarBlame object) f
events_blamed object Memory h = tt
events_blamed object (Refused r) h = inr h

-- and the zone of its room
pub zone_blamed : (object : Component) (numbers : List (ℕ × List ℕ)) (Holds : ℕ → Type 0) (f : Fault) → numbers ≡ component_numbered object
    → RefusesBy (λ n. (n ≡ 44) × Holds n) f → RefusesAt (IsZoneLine numbers) f → RefusesWhere (CalendarBlame object) f
zone_blamed object numbers Holds Memory same n at = tt
zone_blamed object numbers Holds (Refused r) same n at = inl (n.0, subst (λ (ls : List (ℕ × List ℕ)). IsZoneLine ls r.line) same at)

-- ---- events, and entries

pub event_pushed : (room : Option Zone) (object : Tree) (m : Option Method) (vs : List Lines) (lines : Lines) (old new : List EventComponent) (event : EventComponent)
    → AllZip (SaysPlaced room object m) vs (map component_of old) → SaysPlaced room object m lines (component_of event) → new ≡ old ++ event ∷ []
    → AllZip (SaysPlaced room object m) (vs ++ lines ∷ []) (map component_of new)
event_pushed room object m vs lines old new event zip says n =
    subst (λ (es : List SaidComponent). AllZip (SaysPlaced room object m) (vs ++ lines ∷ []) es) (sym (ap (map component_of) n ∙ map-append component_of old (event ∷ [])))
    (push_zip (SaysPlaced room object m) vs (map component_of old) lines (component_of event) zip says)

-- a VEVENT that is refused has a fault, which the object has
pub event_refuses : (object : Tree) (vs : List Lines) (lines : Lines) (f : Fault) → vevents object ≡ vs → Contains vs lines → RefusesBy (EventComponentFault object None lines) f
    → RefusesBy (CalendarFault object) f
event_refuses object vs lines Memory e h s = tt
event_refuses object vs lines (Refused r) e h s = in_event lines (subst (λ (xs : List Lines). Contains xs lines) (sym e) h) s

-- so has a zone of its room that is refused
pub zone_refuses : (object : Component) (f : Fault) → RefusesBy (λ n. (n ≡ 44) × RoomZoneFault (component_lines object)) f → RefusesBy (CalendarFault (tree_of object)) f
zone_refuses object Memory h = tt
zone_refuses object (Refused r) (n, fault) =
    subst (CalendarFault (tree_of object)) (sym n) (in_zone (subst RoomZoneFault (sym (tree_of-own object)) fault))

pub zone_number : (own : Lines) (f : Fault) → RefusesBy (λ n. (n ≡ 44) × RoomZoneFault own) f → RefusesOnly is_calendar_fault f
zone_number own Memory h = tt
zone_number own (Refused r) (n, fault) = ap is_calendar_fault n

-- the zone that its one line names
pub room_named : (r : Result RoomZone Fault) (own : Lines) (line value : List ℕ) → OccursAtMostOnce (codes "X-ROOM-ZONE") own (Some line) → value ≡ line_value line
    → IfOk r (λ x. IsRoomZone value (room_of x)) → IfOk r (λ x. NamesRoomZone own (room_of x))
room_named (Ok x) own line value once is h =
    (Some (room_of x), record { line = Some line; once = once; present = λ e. refl; is = subst (λ (v : List ℕ). IsRoomZone v (room_of x)) is h }, refl)
room_named (Err f) own line value once is h = tt

pub room_unnamed : (r : Result RoomZone Fault) (own : Lines) (line value : List ℕ) → OccursAtMostOnce (codes "X-ROOM-ZONE") own (Some line) → value ≡ line_value line
    → IfErr r (RefusesBy (λ n. (n ≡ 44) × IsNoRoomZone value)) → IfErr r (RefusesBy (λ n. (n ≡ 44) × RoomZoneFault own))
room_unnamed (Ok x) own line value once is h = tt
room_unnamed (Err Memory) own line value once is h = tt
room_unnamed (Err (Refused x)) own line value once is (n, none) =
    (n, inr (some_line (codes "X-ROOM-ZONE") (λ l. IsNoRoomZone (line_value l)) own line once (subst IsNoRoomZone is none)))
