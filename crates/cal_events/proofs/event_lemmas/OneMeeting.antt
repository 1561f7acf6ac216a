-- Octets spell at most one event with its instances in a room of a zone that words mean, and none where they have a fault.
-- Cited by one_meeting.
use Rattle.std.proofs.Common.{◌≡◌, ◌∙◌, ℕ, ◌<◌, ◌≤◌, true, List, filter, length, sym, ap, subst, arith}
use Rattle.std.specs.Prelude.{Option, Some, None}
use Rattle.std.specs.Option.{option_to_list}
use Rattle.std.specs.List.{AllZip}
use Rattle.std.proofs.lemmas.Bool.{true≢false}
use Rattle.ical_lines.proofs.ContentLemmas.{read_fine}
use Rattle.ical_tree.proofs.OneLine.{same_option}
use Rattle.profile.specs.text.Lines.{logical_lines}
use Rattle.profile.specs.text.Trees.{Tree, vevents}
use Rattle.profile.specs.series.Zones.{Zone}
use Rattle.profile.specs.series.RoomZones.{IsRoomZone}
use Rattle.profile.specs.events.EventComponents.{EventComponent, Method}
use Rattle.profile.specs.events.Placed.{SaysPlaced}
use Rattle.profile.specs.events.Events.{Event, taken_by, is_master, is_override, AreOfOne, OverridesApart, SaysEvent, SpellsEvent, EventFault, in_event, two_masters, two_overrides, two_meetings, no_event, EventTextFault, in_lines, in_tree, no_version, many_events, in_vevents}
use Rattle.cal_events.proofs.reading_lemmas.OneCalendar.{OneEvent, NoFault}
use Rattle.cal_events.proofs.reading_lemmas.OneText.{OneTree, PairsUp}
use Rattle.cal_events.proofs.shared_lemmas.Placing.{one_said_placed}
use Rattle.cal_events.proofs.shared_lemmas.ObjectFaults.{has_version_only, has_few_events}
use Rattle.cal_events.proofs.shared_lemmas.Zips.{zip_one, zip_at, zip_length}

-- ---- an object

-- its VEVENTs say one list of events
one_list : OneEvent → (words : List ℕ) (room : Option Zone) → IsRoomZone words room → (object : Tree) (m : Option Method) (xs ys : List EventComponent) → AllZip (SaysPlaced room object m) (vevents object) xs → AllZip (SaysPlaced room object m) (vevents object) ys → xs ≡ ys
one_list one words room named object m xs ys h k = zip_one (SaysPlaced room object m) (λ lines a b s t. one_said_placed one words room named object m lines a b s t) (vevents object) xs ys h k

meeting_same : (a b : Event) → a.master ≡ b.master → a.overrides ≡ b.overrides → a ≡ b
meeting_same a b p q = λ i. record { master = p i; overrides = q i }

pub one_said : OneEvent → (words : List ℕ) (room : Option Zone) → IsRoomZone words room → (object : Tree) (m : Option Method) (a b : Event) → SaysEvent room object m a → SaysEvent room object m b → a ≡ b
one_said one words room named object m a b s t =
    let same = ap (taken_by m) (one_list one words room named object m s.events t.events s.says t.says) in
    meeting_same a b (same_option a.master b.master (sym s.master ∙ ap (filter is_master) same ∙ t.master)) (sym s.overrides ∙ ap (filter is_override) same ∙ t.overrides)

at_most : (o : Option EventComponent) → length (option_to_list o) ≤ 1
at_most None = omega arith
at_most (Some x) = omega arith

pub no_meeting_fault : OneEvent → NoFault → (words : List ℕ) (room : Option Zone) → IsRoomZone words room → (object : Tree) (m : Option Method) (a : Event) (n : ℕ) → SaysEvent room object m a → EventFault room object m n → ⊥
no_meeting_fault one none words room named object m a n s (in_event lines c f) =
    let x = zip_at (SaysPlaced room object m) (vevents object) s.events lines s.says c in none object m lines x.1.0 n x.1.1 f
no_meeting_fault one none words room named object m a n s (two_masters events says more) =
    let same = ap (taken_by m) (one_list one words room named object m events s.events says s.says) in
    let few : length (filter is_master (taken_by m events)) ≤ 1 = subst (λ (l : List EventComponent). length l ≤ 1) (sym (ap (filter is_master) same ∙ s.master)) (at_most a.master) in
    absurd (omega (arith, few, more))
no_meeting_fault one none words room named object m a n s (two_overrides events says not) =
    let same = ap (taken_by m) (one_list one words room named object m events s.events says s.says) in not (subst (OverridesApart m) (sym (ap (filter is_override) same ∙ s.overrides)) s.differ)
no_meeting_fault one none words room named object m a n s (two_meetings events says not) =
    let same = one_list one words room named object m events s.events says s.says in not (subst AreOfOne (sym same) s.one)
no_meeting_fault one none words room named object m a n s (no_event h) =
    let l = zip_length (SaysPlaced room object m) (vevents object) s.events s.says in
    let e = ap length h in
    let some : 0 < length s.events = s.some in absurd (omega (arith, l, e, some))

-- ---- octets

pub one_spelled : OneTree → OneEvent → (words : List ℕ) (room : Option Zone) (octets : List ℕ) (a b : Event) → IsRoomZone words room → SpellsEvent room octets a → SpellsEvent room octets b → a ≡ b
one_spelled tree one words room octets a b named s t =
    let same : s.tree ≡ t.tree = tree 7 7 (logical_lines octets) s.tree t.tree s.object.spelled t.object.spelled in
    one_said one words room named t.tree None a b (subst (λ (x : Tree). SaysEvent room x None a) same s.says) t.says

pub no_fault : OneTree → PairsUp → OneEvent → NoFault → (words : List ℕ) (room : Option Zone) (octets : List ℕ) (a : Event) (n : ℕ) → IsRoomZone words room → SpellsEvent room octets a
    → EventTextFault room octets n → ⊥
no_fault tree pairs one none words room octets a n named s (in_lines h) = true≢false (sym h ∙ read_fine true octets n s.lines)
no_fault tree pairs one none words room octets a n named s (in_tree h) = pairs true s.tree (logical_lines octets) n s.object h
no_fault tree pairs one none words room octets a n named s (no_version t spelled h) = has_version_only tree octets s.tree s.object t (spelled, h)
no_fault tree pairs one none words room octets a n named s (many_events t spelled h) = has_few_events tree octets s.tree s.object t (spelled, h)
no_fault tree pairs one none words room octets a n named s (in_vevents t object fault) =
    let same : s.tree ≡ t = tree 7 7 (logical_lines octets) s.tree t s.object.spelled object.spelled in
    no_meeting_fault one none words room named t None a n (subst (λ (x : Tree). SaysEvent room x None a) same s.says) fault
