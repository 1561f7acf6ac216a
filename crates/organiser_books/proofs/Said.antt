-- What was read of an object says what its events do.
use Rattle.std.proofs.Common.{◌≡◌, ◌∙◌, ℕ, max, ℤ, Bool, true, false, not, is_some, ◌&&◌, ◌||◌, cond, List, [], ◌∷◌, ◌++◌, Option, None, Some, refl, sym, ap, subst}
use Rattle.std.specs.Prelude.{nat_lt}
use Rattle.std.specs.List.{AllZip, flat_map, filter, list_any, Contains}
use Rattle.std.specs.Str.{bytes_eq}
use Rattle.itip_order.proofs.Lists.{in_head, in_tail}
use Rattle.profile.specs.events.EventComponents.{Attendee, EventComponent}
use Rattle.profile.specs.rooms.Revisions as Revisions
use Rattle.profile.specs.rooms.Messages.{slot_named}
use Rattle.profile.specs.rooms.Kept.{each_once}
use Rattle.profile.specs.events.Messages.{AreOfMeeting}
use Rattle.profile.specs.organisers.Organisers as profile
use Rattle.profile.specs.organisers.Organisers.{Heard, attendees_of, gone_from, heard_in, is_attendee, is_called_off, own_sequence, left_to_server, scheduled_in, without}
use Rattle.itip_order.specs.declared.part.Slot.{Slot}
use Rattle.itip_order.specs.declared.part.Slot.TheVariants.{Whole, At}
use Rattle.itip_order.specs.Parts.{slot_of}
use Rattle.itip_messages.specs.Message.{SaysComponent}
use Rattle.itip_messages.specs.declared.message_component.MessageComponent.{MessageComponent}
use Rattle.organiser_books.specs.Attending.{addresses_in, attendance_of, gone_among, lists_of, lists_said, names, scheduled_among, schedules_line, sent_among, Attends, AreAttending, Entries}
use Rattle.organiser_books.specs.declared.attending.Attendance.{Attendance}
use Rattle.organiser_books.specs.declared.meeting.StoredMeeting.{StoredMeeting}
use Rattle.organiser_books.specs.Representation.{heard_by, heard_said, is_unknown}
use Rattle.organiser_books.specs.Storing.{calls_off, is_whole_slot, own_in}
use Rattle.organiser_books.proofs.Loops.{any_flat, any_map, flat_of_map}

-- ---- events and their lines

pub attendees_are : (events : List EventComponent) → attendees_of events ≡ each_once (flat_map addresses_in (lists_said events))
attendees_are events = ap each_once (sym (flat_of_map addresses_in (λ (e : EventComponent). e.attendees) events))

pub left_are : (events : List EventComponent) → left_to_server events ≡ scheduled_among (lists_said events)
left_are events =
    same_filters (λ a. list_any (profile.schedules a) events) (λ a. list_any (schedules_line a) (lists_said events)) (λ a. sym (any_map (schedules_line a) (λ (e : EventComponent). e.attendees) events)) (attendees_of events)
    ∙ ap (filter (λ a. list_any (schedules_line a) (lists_said events))) (attendees_are events)
  where
    same_filters : {X : Type 0} (p q : X → Bool) → ((y : X) → p y ≡ q y) → (xs : List X) → filter p xs ≡ filter q xs
    same_filters p q h [] = refl
    same_filters p q h (x ∷ xs) = (λ i. cond (h x i) (x ∷ same_filters p q h xs i) (same_filters p q h xs i))

pub scheduled_are : (organiser : List ℕ) (events : List EventComponent) → scheduled_in organiser events ≡ sent_among organiser (lists_said events)
scheduled_are organiser events = ap (filter (λ address. not (bytes_eq address organiser))) (left_are events)

-- those who are gone, by the events and by their lines
pub gone_are : (called_off : Bool) (organiser : List ℕ) (before now : List EventComponent) → gone_among called_off organiser (lists_said before) (lists_said now) ≡ gone_from called_off organiser before now
gone_are true organiser before now = λ i. without (sym (scheduled_are organiser before) i) (sym (scheduled_are organiser now) i)
gone_are false organiser before now = λ i. without (sym (scheduled_are organiser before) i) (sym (attendees_are now) i)

pub attendee_is : (q : List ℕ) (events : List EventComponent) → is_attendee q events ≡ list_any (names q) (lists_said events)
attendee_is q events = sym (any_map (names q) (λ (e : EventComponent). e.attendees) events)

-- one who is known in memory is an attendee
pub known_is : (lists : List (List Attendee)) (es : Entries) (q : List ℕ) → AreAttending lists es → is_some (attendance_of q es) ≡ list_any (names q) lists
known_is lists es q are = by (attendance_of q es) (are.each q)
  where
    by : (r : Option Attendance) → Attends lists q r → is_some r ≡ list_any (names q) lists
    by None h = sym h
    by (Some a) h = sym h.named

-- ---- components and their events

pub lists_are : (events : List EventComponent) (components : List MessageComponent) → AllZip SaysComponent events components → lists_of components ≡ lists_said events
lists_are [] [] z = refl
lists_are [] (c ∷ cs) z = absurd z
lists_are (e ∷ es) [] z = absurd z
lists_are (e ∷ es) (c ∷ cs) z = λ i. z.0.attendees i ∷ lists_are es cs z.1 i

-- one reply's answer
one_heard : (uid : List ℕ) (e : EventComponent) (c : MessageComponent) → SaysComponent e c → e.uid ≡ uid → (lines : List Attendee) → heard_by uid c lines ≡ profile.heard_of e lines
one_heard uid e c says u [] = refl
one_heard uid e c says u (a ∷ rest) = λ i. record { uid = sym u i; attendee = a.address; slot = says.slot i; revision = says.revision i; answer = a.participation } ∷ []

pub heard_are : (uid : List ℕ) (events : List EventComponent) (components : List MessageComponent) → AllZip SaysComponent events components → ((e : EventComponent) → Contains events e → e.uid ≡ uid)
    → flat_map (heard_said uid) components ≡ heard_in events
heard_are uid [] [] z own = refl
heard_are uid [] (c ∷ cs) z own = absurd z
heard_are uid (e ∷ es) [] z own = absurd z
heard_are uid (e ∷ es) (c ∷ cs) z own =
    let one = ap (heard_by uid c) z.0.attendees ∙ one_heard uid e c z.0 (own e (in_head e es)) e.attendees in
    let rest = heard_are uid es cs z.1 (λ x k. own x (in_tail e es x k)) in
    λ i. one i ++ rest i

sequence_is : (e : EventComponent) (c : MessageComponent) → SaysComponent e c → c.revision.sequence ≡ e.sequence
sequence_is e c says = ap (λ (r : Revisions.Revision). r.sequence) says.revision

pub ahead_are : (n : ℕ) (events : List EventComponent) (components : List MessageComponent) → AllZip SaysComponent events components
    → list_any (λ (c : MessageComponent). nat_lt n c.revision.sequence) components ≡ list_any (λ (e : EventComponent). nat_lt n e.sequence) events
ahead_are n [] [] z = refl
ahead_are n [] (c ∷ cs) z = absurd z
ahead_are n (e ∷ es) [] z = absurd z
ahead_are n (e ∷ es) (c ∷ cs) z = λ i. nat_lt n (sequence_is e c z.0 i) || ahead_are n es cs z.1 i

pub own_are : (events : List EventComponent) (components : List MessageComponent) → AllZip SaysComponent events components → own_in components ≡ own_sequence events
own_are [] [] z = refl
own_are [] (c ∷ cs) z = absurd z
own_are (e ∷ es) [] z = absurd z
own_are (e ∷ es) (c ∷ cs) z = λ i. max (sequence_is e c z.0 i) (own_are es cs z.1 i)

whole_is : (slot : Slot) (recurrence : Option ℤ) → slot_of slot ≡ slot_named recurrence → is_whole_slot slot ≡ not (is_some recurrence)
whole_is Whole None e = refl
whole_is Whole (Some t) e = absurd (cc)
whole_is (At a) None e = absurd (cc)
whole_is (At a) (Some t) e = refl

pub off_are : (events : List EventComponent) (components : List MessageComponent) → AllZip SaysComponent events components → calls_off components ≡ is_called_off events
off_are [] [] z = refl
off_are [] (c ∷ cs) z = absurd z
off_are (e ∷ es) [] z = absurd z
off_are (e ∷ es) (c ∷ cs) z = λ i. (whole_is c.slot e.recurrence z.0.slot i && z.0.cancelled i) || off_are es cs z.1 i

-- ---- those who speak

-- those of a component who aren't attendees
one_stranger : (events : List EventComponent) (m : StoredMeeting) → AreAttending (lists_said events) m.attending.entries → (uid : List ℕ) (c : MessageComponent) (lines : List Attendee)
    → is_unknown m lines ≡ list_any (λ (h : Heard). not (is_attendee h.attendee events)) (heard_by uid c lines)
one_stranger events m are uid c [] = refl
one_stranger events m are uid c (a ∷ rest) =
    ap not (known_is (lists_said events) m.attending.entries a.address are ∙ sym (attendee_is a.address events)) ∙ sym (or_false _)
  where
    or_false : (b : Bool) → (b || false) ≡ b
    or_false true = refl
    or_false false = refl

pub strangers_are : (events : List EventComponent) (m : StoredMeeting) → AreAttending (lists_said events) m.attending.entries → (uid : List ℕ) (cs : List MessageComponent)
    → list_any (λ (c : MessageComponent). is_unknown m c.attendees) cs ≡ list_any (λ (h : Heard). not (is_attendee h.attendee events)) (flat_map (heard_said uid) cs)
strangers_are events m are uid cs = each cs ∙ sym (any_flat (λ (h : Heard). not (is_attendee h.attendee events)) (heard_said uid) cs)
  where
    each : (xs : List MessageComponent) → list_any (λ (c : MessageComponent). is_unknown m c.attendees) xs ≡ list_any (λ c. list_any (λ (h : Heard). not (is_attendee h.attendee events)) (heard_said uid c)) xs
    each [] = refl
    each (x ∷ xs) = λ i. one_stranger events m are uid x x.attendees i || each xs i

-- all events are of the meeting
pub uids_are : (organiser uid : List ℕ) (events : List EventComponent) → AreOfMeeting organiser uid events → (e : EventComponent) → Contains events e → e.uid ≡ uid
uids_are organiser uid events are e c = ap (λ (p : List ℕ × List ℕ). p.1) (are.of_it e c)
