-- The VEVENTs of an object say at most one calendar for a room, and none where they have a fault.
-- Cited by one_calendar.
use Rattle.std.proofs.Common.{◌≡◌, ◌∙◌, ℕ, false, List, codes, filter, subst, sym, ap, refl, inl, inr, arith, Option, None, Some}
use Rattle.std.specs.Prelude.{unwrap_or}
use Rattle.std.specs.List.{AllZip, flat_map}
use Rattle.profile.specs.text.Lines.{line_value}
use Rattle.profile.specs.text.Trees.{Tree, tree_own, vevents}
use Rattle.profile.specs.series.Zones.{Zone}
use Rattle.profile.specs.series.RoomZones.{IsRoomZone, IsNoRoomZone, IsRoomZoneLine, NamesRoomZone, RoomZoneFault}
use Rattle.profile.specs.events.Properties.{BothOrNeither}
use Rattle.profile.specs.events.Placed.{SaysPlaced}
use Rattle.profile.specs.checker.Instances.{Instance}
use Rattle.profile.specs.events.EventComponents.{EventComponent, SaysEventComponent, EventComponentFault, Method}
use Rattle.profile.specs.events.Confirmed.{Confirmed, IsSingle, AreSingles, IsSeries, is_series, MastersDiffer, OverridesDiffer, IsExcepted}
use Rattle.profile.specs.checker.Calendars.{SayEvents, SaysCalendar, CalendarFault, in_zone, in_event, two_masters, two_overrides}
use Rattle.std.proofs.lemmas.Int.{ints}
use Rattle.std.proofs.lemmas.List.Elements.{All-contains}
use Rattle.profile.specs.events.Starts.{ComesBefore}
use Rattle.ical_tree.proofs.OneLine.{IsFunctional}
use Rattle.cal_events.proofs.component_lemmas.Said.{same_said, said_by}
use Rattle.cal_events.proofs.shared_lemmas.OneTimes.{at_most_one}
use Rattle.cal_events.proofs.shared_lemmas.Placing.{one_said_placed}
use Rattle.cal_events.proofs.shared_lemmas.InOneOrder.{one_order}
use Rattle.cal_events.proofs.shared_lemmas.SeriesLemmas.{one_ruled}
use Rattle.cal_events.proofs.shared_lemmas.Zips.{zip_one, zip_at}

abbrev pub OneEvent : Type 0
OneEvent = (object : Tree) (m : Option Method) (lines : List (List ℕ)) (a b : EventComponent) → SaysEventComponent object m lines a → SaysEventComponent object m lines b → a ≡ b

abbrev pub NoFault : Type 0
NoFault = (object : Tree) (m : Option Method) (lines : List (List ℕ)) (a : EventComponent) (n : ℕ) → SaysEventComponent object m lines a → EventComponentFault object m lines n → ⊥

-- words of a room mean one zone
abbrev pub OneRoomZone : Type 0
OneRoomZone = (words : List ℕ) (a b : Option Zone) → IsRoomZone words a → IsRoomZone words b → a ≡ b

zone_given : OneRoomZone → IsFunctional IsRoomZoneLine
zone_given one line a b h k = one (line_value line) a b h k

pub one_room : OneRoomZone → (own : List (List ℕ)) (a b : Option Zone) → NamesRoomZone own a → NamesRoomZone own b → a ≡ b
one_room one own a b (x, s, p) (y, t, q) =
    p ∙ ap (λ (g : Option (Option Zone)). unwrap_or g None) (same_said IsRoomZoneLine (codes "X-ROOM-ZONE") false own x y (zone_given one) s t) ∙ sym q

-- which words mean, as no words are those of UTC
pub room_words : (own : List (List ℕ)) (zone : Option Zone) → NamesRoomZone own zone → (words : List ℕ) × IsRoomZone words zone
room_words own named (None, s, is) = (codes "+0000", subst (IsRoomZone (codes "+0000")) (sym is) refl)
room_words own named (Some given, s, is) = go s.line s.is
  where
    go : (l : Option (List ℕ)) → BothOrNeither IsRoomZoneLine l (Some given) → (words : List ℕ) × IsRoomZone words named
    go None h = absurd h
    go (Some l) h = (line_value l, subst (IsRoomZone (line_value l)) (sym is) h)

pub no_room_fault : (own : List (List ℕ)) (zone : Option Zone) → NamesRoomZone own zone → RoomZoneFault own → ⊥
no_room_fault own named (x, s, is) (inl twice) = let few = at_most_one (codes "X-ROOM-ZONE") own s.line s.once in absurd (omega (arith, few, twice))
no_room_fault own named (x, s, is) (inr l) =
    let f = said_by IsRoomZoneLine (λ line. IsNoRoomZone (line_value line)) (codes "X-ROOM-ZONE") false own x s l in l.2 f.0 f.1

pub same_events : OneEvent → OneRoomZone → (object : Tree) (a b : List EventComponent) → SayEvents object a → SayEvents object b → a ≡ b
same_events one words object a b s t =
    let zone : s.zone ≡ t.zone = one_room words (tree_own object) s.zone t.zone s.names t.names in
    let named = room_words (tree_own object) t.zone t.names in
    zip_one (SaysPlaced t.zone object None) (λ lines x y h k. one_said_placed one named.0 t.zone named.1 object None lines x y h k) (vevents object) a b
    (subst (λ (z : Option Zone). AllZip (SaysPlaced z object None) (vevents object) a) zone s.each) t.each

never_first : (x : Instance) → ComesBefore x x → ⊥
never_first x (inl l) = absurd (omega (arith, ints, l))
never_first x (inr (e, l)) = absurd (omega (arith, ints, l))

first_of_three : (x y z : Instance) → ComesBefore x y → ComesBefore y z → ComesBefore x z
first_of_three x y z (inl l) (inl m) = inl (omega (arith, ints, l, m))
first_of_three x y z (inl l) (inr (e, m)) = inl (omega (arith, ints, l, e))
first_of_three x y z (inr (e, l)) (inl m) = inl (omega (arith, ints, e, m))
first_of_three x y z (inr (e, l)) (inr (f, m)) = inr (e ∙ f, omega (arith, ints, l, m))

-- the singles of an event are one list
one_list : (room : List ℕ) (events : List EventComponent) (event : EventComponent) (a b : List Instance) → AreSingles room events event a → AreSingles room events event b → a ≡ b
one_list room events event a b s t =
    one_order ComesBefore never_first first_of_three a b s.ordered t.ordered
    (λ x c. t.all x (All-contains (IsSingle room events event) a x s.each c)) (λ x c. s.all x (All-contains (IsSingle room events event) b x t.each c))

confirmed_same : (a b : Confirmed) → a.series ≡ b.series → a.singles ≡ b.singles → a ≡ b
confirmed_same a b p q = λ i. record { series = p i; singles = q i }

pub one_calendar : OneEvent → OneRoomZone → (room : List ℕ) (object : Tree) (a b : Confirmed) → SaysCalendar room object a → SaysCalendar room object b → a ≡ b
one_calendar one words room object a b s t =
    let same : s.events ≡ t.events = same_events one words object s.events t.events s.says t.says in
    let lists : s.are.lists ≡ t.are.lists =
    zip_one (AreSingles room t.events) (one_list room t.events) t.events s.are.lists t.are.lists (subst (λ (es : List EventComponent). AllZip (AreSingles room es) es s.are.lists) same s.are.each) t.are.each in
    let series : a.series ≡ b.series =
    zip_one (IsSeries t.events) (λ m. one_ruled m (IsExcepted t.events m)) (filter (is_series room) t.events) a.series b.series
    (subst (λ (es : List EventComponent). AllZip (IsSeries es) (filter (is_series room) es) a.series) same s.are.series) t.are.series in
    confirmed_same a b series (s.are.singles ∙ ap (flat_map (λ own. own)) lists ∙ sym t.are.singles)

pub no_fault : OneEvent → NoFault → OneRoomZone → (room : List ℕ) (object : Tree) (a : Confirmed) (n : ℕ) → SaysCalendar room object a → CalendarFault object n → ⊥
no_fault one sound words room object a n s (in_zone fault) = no_room_fault (tree_own object) s.says.zone s.says.names fault
no_fault one sound words room object a n s (in_event lines at fault) =
    let e = zip_at (SaysPlaced s.says.zone object None) (vevents object) s.events lines s.says.each at in sound object None lines e.1.0 n e.1.1 fault
no_fault one sound words room object a n s (two_masters events says twins) = twins (subst MastersDiffer (same_events one words object s.events events s.says says) s.masters)
no_fault one sound words room object a n s (two_overrides events says twins) = twins (subst OverridesDiffer (same_events one words object s.events events s.says says) s.overrides)
