-- Events in a room: there is one, and in a room that goes by UTC it is as it is written.
-- Behind EventComponent::times_in and EventComponent::placed of place, one_meeting and one_instance of event, one_calendar of reading.
use Rattle.std.proofs.Common.{◌≡◌, ◌∙◌, ℕ, ◌+◌, ◌<◌, Bool, false, List, [], ◌∷◌, ◌++◌, length, get_or, take, map, codes, subst, sym, refl, ap, inl, inr, arith, ℤ}
use Rattle.std.specs.Prelude.{Option, Some, None, All, option_map}
use Rattle.std.specs.List.{AllZip, AllByRecursion}
use Rattle.std.proofs.lemmas.Int.{ints}
use Rattle.std.proofs.lemmas.List.{take_more, map-append}
use Rattle.std.proofs.lemmas.List.Elements.{All-from_recursion}
use Rattle.profile.specs.text.Lines.{line_value, line_param}
use Rattle.profile.specs.text.Trees.{Tree}
use Rattle.profile.specs.series.Zones.{Zone, IsOneMeaning, Means}
use Rattle.profile.specs.series.RoomZones.{IsRoomZone}
use Rattle.profile.specs.events.Properties.{Form, Fixed, Floating, WholeDay, BothOrNeither}
use Rattle.profile.specs.events.ZonedTimes.{clock_of, SpellsForm, IsInDates, is_in_zone, EventTimes, SaysTimes}
use Rattle.profile.specs.events.Occurrences.{Time, IsRecurrenceLine}
use Rattle.profile.specs.events.EventComponents.{Method, EventComponent, SaysEventComponent, instants_of}
use Rattle.profile.specs.events.Placed.{IsInstantIn, IsAt, zone_in, IsPlaced, SaysPlaced}
use Rattle.cal_events.specs.Clocks.{IsSteady, HasGoodClock}
use Rattle.cal_events.specs.MeetingComponents.{IsInEventDates}
use Rattle.cal_events.specs.Said.{AreSaidWith, IsWritten}
use Rattle.cal_events.proofs.shared_lemmas.Meanings.{utc_means, utc_instant}
use Rattle.cal_events.proofs.shared_lemmas.OneInstance.{IsSound, times_sound}
use Rattle.cal_events.proofs.shared_lemmas.RoomClocks.{IsRoomClock, room_clock}
use Rattle.cal_events.proofs.shared_lemmas.EventLemmas.{push_zip}
use Rattle.cal_events.proofs.shared_lemmas.Zips.{zip_one}

abbrev Lines : Type 0
Lines = List (List ℕ)

-- ---- there is one

pub instant_one : (room : Option Zone) → IsOneMeaning (clock_of room) → (form : Form) (t u v : ℤ) → IsInstantIn room form t u → IsInstantIn room form t v → u ≡ v
instant_one room one Fixed t u v h k = h ∙ sym k
instant_one room one Floating t u v h k = one t u v h k
instant_one room one WholeDay t u v h k = one t u v h k

slot_one : (room : Option Zone) → IsOneMeaning (clock_of room) → (w : Option Time) (a b : Option ℤ) → BothOrNeither (IsAt room) w a → BothOrNeither (IsAt room) w b → a ≡ b
slot_one room one None None None h k = refl
slot_one room one None None (Some b) h k = absurd k
slot_one room one None (Some a) b h k = absurd h
slot_one room one (Some w) None b h k = absurd h
slot_one room one (Some w) (Some a) None h k = absurd k
slot_one room one (Some w) (Some a) (Some b) h k = ap Some (instant_one room one w.form w.instant a b h k)

pub one_placed : (room : Option Zone) → IsOneMeaning (clock_of room) → (event a b : EventComponent) → IsPlaced room event a → IsPlaced room event b → a ≡ b
one_placed room one event a b h k =
    let start : h.start ≡ k.start = instant_one room one event.times.form event.times.start h.start k.start h.starts k.starts in
    let slot : h.recurrence ≡ k.recurrence = slot_one room one event.written.recurrence h.recurrence k.recurrence h.slot k.slot in
    let adds : h.additions ≡ k.additions =
    zip_one (IsAt room) (λ w x y p q. instant_one room one w.form w.instant x y p q) event.written.additions h.additions k.additions h.adds k.adds in
    let takes : h.exceptions ≡ k.exceptions =
    zip_one (IsAt room) (λ w x y p q. instant_one room one w.form w.instant x y p q) event.written.exceptions h.exceptions k.exceptions h.takes k.takes in
    h.is
    ∙ (λ i. record event {
      recurrence = slot i;
      times = record event.times { zone = zone_in room event.times.form event.times.zone; start = start i };
      additions = adds i;
      exceptions = takes i;
    })
    ∙ sym k.is

abbrev pub OneEvent : Type 0
OneEvent = (object : Tree) (m : Option Method) (lines : Lines) (a b : EventComponent) → SaysEventComponent object m lines a → SaysEventComponent object m lines b → a ≡ b

pub one_said_placed : OneEvent → (words : List ℕ) (room : Option Zone) → IsRoomZone words room → (object : Tree) (m : Option Method) (lines : Lines) (a b : EventComponent)
    → SaysPlaced room object m lines a → SaysPlaced room object m lines b → a ≡ b
one_said_placed one words room named object m lines a b (e, s, p) (f, t, q) =
    one_placed room (room_clock words room named).steady.meaning f a b (subst (λ (x : EventComponent). IsPlaced room x a) (one object m lines e f s t) p) q

-- ---- in a room that goes by UTC

instant_as_written : (form : Form) (t : ℤ) → IsInstantIn None form t t
instant_as_written Fixed t = refl
instant_as_written Floating t = utc_means t
instant_as_written WholeDay t = utc_means t

slot_as_written : (w : Option Time) → BothOrNeither (IsAt None) w (option_map (λ time. time.instant) w)
slot_as_written None = tt
slot_as_written (Some w) = instant_as_written w.form w.instant

times_as_written : (ws : List Time) → AllZip (IsAt None) ws (instants_of ws)
times_as_written [] = tt
times_as_written (w ∷ ws) = (instant_as_written w.form w.instant, times_as_written ws)

pub no_zone : (object : Tree) (name : Option (List ℕ)) (text : List ℕ) (form : Form) (zone : Option Zone) (local : ℤ) → SpellsForm object name text form zone local → zone_in None form zone ≡ zone
no_zone object name text Fixed z local h = refl
no_zone object name text Floating z local h = sym h.1
no_zone object name text WholeDay z local h = sym h.1

zone_as_written : {may : Bool} (object : Tree) (lines : Lines) (times : EventTimes) → SaysTimes may object lines times → zone_in None times.form times.zone ≡ times.zone
zone_as_written object lines times (inl t) = no_zone object (line_param (codes "TZID") t.line) (line_value t.line) times.form times.zone times.local t.says.1
zone_as_written object lines times (inr (_, t)) = subst (λ (f : Form). zone_in None f times.zone ≡ times.zone) (sym t.form) refl

pub as_written : (object : Tree) {m : Option Method} (lines : Lines) (event : EventComponent) → SaysEventComponent object m lines event → IsPlaced None event event
as_written object lines event s = record {
  start = event.times.start;
  recurrence = event.recurrence;
  additions = event.additions;
  exceptions = event.exceptions;
  starts = instant_as_written event.times.form event.times.start;
  slot = subst (BothOrNeither (IsAt None) event.written.recurrence) (sym s.instants.slot) (slot_as_written event.written.recurrence);
  adds = subst (AllZip (IsAt None) event.written.additions) (sym s.instants.added) (times_as_written event.written.additions);
  takes = subst (AllZip (IsAt None) event.written.exceptions) (sym s.instants.taken) (times_as_written event.written.exceptions);
  is = ap (λ (z : Option Zone). record event { times = record event.times { zone = z } }) (sym (zone_as_written object lines event.times s.times));
}

pub placed_in_utc : (object : Tree) (m : Option Method) (lines : Lines) (event : EventComponent) → SaysEventComponent object m lines event → SaysPlaced None object m lines event
placed_in_utc object m lines event s = (event, s, as_written object lines event s)

pub written_in_utc : (object : Tree) (m : Option Method) (lines : Lines) (event : EventComponent) → SaysPlaced None object m lines event → SaysEventComponent object m lines event
written_in_utc object m lines event (e, s, p) =
    subst (SaysEventComponent object m lines) (one_placed None (room_clock (codes "+0000") None refl).steady.meaning e e event (as_written object lines e s) p) s

pub all_written : (object : Tree) (m : Option Method) (vs : List Lines) (es : List EventComponent) → AllZip (SaysPlaced None object m) vs es → AllZip (SaysEventComponent object m) vs es
all_written object m [] [] z = tt
all_written object m [] (e ∷ es) z = absurd z
all_written object m (v ∷ vs) [] z = absurd z
all_written object m (v ∷ vs) (e ∷ es) z = (written_in_utc object m v e z.0, all_written object m vs es z.1)

pub said_as_written : (object : Tree) {m : Option Method} (lines : Lines) (event : EventComponent) → SaysEventComponent object m lines event → AreSaidWith event.times event.rule
said_as_written object {m} lines event s = record {
  words = codes "+0000";
  room = None;
  named = refl;
  object = object;
  method = m;
  lines = lines;
  event = event;
  says = placed_in_utc object m lines event s;
  times_are = refl;
  rule_is = refl;
}

-- ---- its clocks, and where it starts

pub zone_steady : (room : Option Zone) (form : Form) (zone : Option Zone) → IsSteady (clock_of zone) → IsSteady (clock_of room) → IsSteady (clock_of (zone_in room form zone))
zone_steady room Fixed z own here = own
zone_steady room Floating z own here = here
zone_steady room WholeDay z own here = here

-- a time in the dates that an event may name is so in any room
in_dates_there : (room : Option Zone) → IsRoomClock (clock_of room) → (object : Tree) (name : Option (List ℕ)) (text : List ℕ) (in_zone : Bool) (form : Form) (zone : Option Zone) (local t u : ℤ)
    → SpellsForm object name text form zone local → Means (clock_of zone) local t → IsInDates false form in_zone local t → IsInstantIn room form t u → IsInEventDates u
in_dates_there room clock object name text in_zone Fixed z local t u h m d p = subst IsInEventDates (sym p) (d.1, d.2)
in_dates_there room clock object name text in_zone Floating z local t u h m d p =
    let same : t ≡ local = utc_instant local t (subst (λ (z : Option Zone). Means (clock_of z) local t) h.1 m) in
    let n = clock.near t u p in
    (omega (arith, ints, same, n.0, d.0), omega (arith, ints, same, n.1, d.1))
in_dates_there room clock object name text in_zone WholeDay z local t u h m d p =
    let same : t ≡ local = utc_instant local t (subst (λ (z : Option Zone). Means (clock_of z) local t) h.1 m) in
    let n = clock.near t u p in
    (omega (arith, ints, same, n.0, d.0), omega (arith, ints, same, n.1, d.1))

pub starts_there : {may : Bool} (room : Option Zone) → IsRoomClock (clock_of room) → (object : Tree) (lines : Lines) (times : EventTimes) (u : ℤ) → SaysTimes may object lines times
    → IsInstantIn room times.form times.start u → IsInEventDates u
starts_there room clock object lines times u (inl t) p =
    in_dates_there room clock object (line_param (codes "TZID") t.line) (line_value t.line) (is_in_zone t.line) times.form times.zone times.local times.start u t.says.1 t.means t.in_dates p
starts_there room clock object lines times u (inr (_, t)) p =
    let e : u ≡ times.start = subst (λ (f : Form). IsInstantIn room f times.start u) t.form p in
    let zero = t.start in
    (omega (arith, ints, e, zero), omega (arith, ints, e, zero))

pub slot_there : (room : Option Zone) → IsRoomClock (clock_of room) → (object : Tree) (l : Option (List ℕ)) (w : Option Time) (r : Option ℤ) (slot : ℤ) → BothOrNeither (IsRecurrenceLine object) l w
    → BothOrNeither (IsAt room) w r → r ≡ Some slot → IsInEventDates slot
slot_there room clock object l w r slot h p e = go l w h (subst (BothOrNeither (IsAt room) w) e p)
  where
    go : (l : Option (List ℕ)) (w : Option Time) → BothOrNeither (IsRecurrenceLine object) l w → BothOrNeither (IsAt room) w (Some slot) → IsInEventDates slot
    go l None h p = absurd p
    go None (Some w) h p = absurd h
    go (Some l) (Some w) (_, (zone, local, says, means, dates)) p =
        in_dates_there room clock object (line_param (codes "TZID") l) (line_value l) (is_in_zone l) w.form zone local w.instant slot says.1 means dates p

pub placed_sound : (words : List ℕ) (room : Option Zone) → IsRoomZone words room → (object : Tree) {m : Option Method} (lines : Lines) (event : EventComponent) → SaysPlaced room object m lines event
    → IsSound event
placed_sound words room named object lines event (e, s, p) =
    let clock = room_clock words room named in
    let own = times_sound object lines e.times s.times in
    let slot : event.recurrence ≡ p.recurrence = ap (λ (x : EventComponent). x.recurrence) p.is in
    record {
      steady = subst (λ (x : EventComponent). IsSteady (clock_of x.times.zone)) (sym p.is) (zone_steady room e.times.form e.times.zone own.0 clock.steady);
      starts = subst (λ (x : EventComponent). IsInEventDates x.times.start) (sym p.is) (starts_there room clock object lines e.times p.start s.times p.starts);
      names = λ t is. slot_there room clock object s.occurrences.is.line e.written.recurrence p.recurrence t s.occurrences.is.is p.slot (sym slot ∙ is);
    }

pub placed_good : (words : List ℕ) (room : Option Zone) → IsRoomZone words room → (object : Tree) {m : Option Method} (lines : Lines) (event : EventComponent) → SaysPlaced room object m lines event
    → HasGoodClock event
placed_good words room named object lines event s = let x = placed_sound words room named object lines event s in (x.steady.meaning, x.steady.ascends)

pub all_sound : (words : List ℕ) (room : Option Zone) → IsRoomZone words room → (object : Tree) (m : Option Method) (vs : List Lines) (es : List EventComponent) → AllZip (SaysPlaced room object m) vs es
    → All IsSound es
all_sound words room named object m vs es z = All-from_recursion IsSound es (go vs es z)
  where
    go : (vs : List Lines) (es : List EventComponent) → AllZip (SaysPlaced room object m) vs es → AllByRecursion IsSound es
    go [] [] z = tt
    go [] (e ∷ es) z = absurd z
    go (v ∷ vs) [] z = absurd z
    go (v ∷ vs) (e ∷ es) z = (placed_sound words room named object v e z.0, go vs es z.1)

-- ---- one more of a list, with its value

pub zip_more : {A B C : Type 0} (R : B → C → Type 0) (f : A → B) (xs : List A) (k : ℕ) (d : A) (old new : List C) (y : C) → k < length xs → AllZip R (map f (take k xs)) old → new ≡ old ++ y ∷ []
    → R (f (get_or xs k d)) y → AllZip R (map f (take (k + 1) xs)) new
zip_more R f xs k d old new y w z n r =
    let taken = ap (map f) (take_more xs k d w) ∙ map-append f (take k xs) (get_or xs k d ∷ []) in
    subst (λ vs. AllZip R vs new) (sym taken) (subst (AllZip R (map f (take k xs) ++ f (get_or xs k d) ∷ [])) (sym n) (push_zip R (map f (take k xs)) old (f (get_or xs k d)) y z r))

-- ---- an event that was read, placed

pub started : (room : Option Zone) (f g : Form) (t u v : ℤ) → f ≡ g → t ≡ u → IsInstantIn room f t v → IsInstantIn room g u v
started room f g t u v p q h = subst (λ (x : Form). IsInstantIn room x u v) p (subst (λ (x : ℤ). IsInstantIn room f x v) q h)

-- what a VEVENT says is written, as it is
pub is_written : (object : Tree) (m : Option Method) (lines : Lines) (event : EventComponent) → SaysEventComponent object m lines event → IsWritten event
is_written object m lines event s = record {
  object = object;
  method = m;
  lines = lines;
  said = event;
  says = s;
  times = refl;
  rule = refl;
  additions = refl;
  exceptions = refl;
  slot = λ _. refl;
}

-- where it starts
pub written_start : (words : List ℕ) (room : Option Zone) → IsRoomZone words room → (event : EventComponent) → IsWritten event → (u : ℤ) → IsInstantIn room event.times.form event.times.start u → IsInEventDates u
written_start words room named event w u p =
    starts_there room (room_clock words room named) w.object w.lines w.said.times u w.says.times (subst (λ (t : EventTimes). IsInstantIn room t.form t.start u) w.times p)
