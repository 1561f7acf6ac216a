-- Worked examples of what an organiser keeps, sends and shows (RFC 6638 3.2, RFC 5546 2.1.4, 2.1.5).
use Rattle.std.proofs.Common.{◌≡◌, ℕ, ℤ, pos, Bool, true, false, List, [], ◌∷◌, codes, Option, None, Some, refl, lit<}
use Rattle.profile.specs.events.Properties.{Fixed}
use Rattle.profile.specs.events.EventComponents.{EventComponent, Attendee, NeedsAction, Accepted, Declined, Participation}
use Rattle.profile.specs.rooms.Revisions.{Whole, At}
use Rattle.profile.specs.events.Messages.{has_one_attendee}
use Rattle.profile.specs.organisers.Organisers.{Stored, Heard, OrganiserBook, attendees_of, scheduled_in, gone_from, is_attendee, is_called_off, sequence_after, answers_store, IsSeenOf}

abbrev ann : List ℕ
ann = codes "m:ann"

abbrev r1 : List ℕ
r1 = codes "r:1"

abbrev r2 : List ℕ
r2 = codes "r:2"

abbrev r3 : List ℕ
r3 = codes "r:3"

-- an attendee without an answer, which the server is to send messages to or isn't
abbrev attendee : List ℕ → Bool → Attendee
attendee address scheduled = record { address = address; participation = NeedsAction; scheduled = scheduled }

-- an event of a second with this SEQUENCE and these attendees
abbrev event : Option ℤ → ℕ → Bool → List Attendee → EventComponent
event recurrence sequence cancelled attendees = record {
  uid = codes "s";
  organiser = Some ann;
  stamp = Some (pos 1);
  sequence = sequence;
  cancelled = cancelled;
  recurrence = recurrence;
  times = record { form = Fixed; zone = None; local = pos 100; start = pos 100; length = record { days = 0; seconds = 1 } };
  rule = None;
  additions = [];
  exceptions = [];
  written = record { recurrence = None; additions = []; exceptions = [] };
  summary = [];
  attendees = attendees;
}

-- the whole meeting is for r1 and r2, of which a client sends messages to r2; the instance is for r2 and r3, by the server
abbrev events : List EventComponent
events =
    event None 2 false (attendee r1 true ∷ attendee r2 false ∷ attendee r2 true ∷ [])
    ∷ event (Some (pos 100)) 1 true (attendee r2 true ∷ attendee r3 true ∷ []) ∷ []

in_order_of_first_appearance : attendees_of events ≡ r1 ∷ r2 ∷ r3 ∷ []
in_order_of_first_appearance = refl

-- the server sends to r2 by the instance
by_one_of_the_events : scheduled_in ann events ≡ r1 ∷ r2 ∷ r3 ∷ []
by_one_of_the_events = refl

-- the organiser is an attendee, and is sent nothing
not_to_itself : scheduled_in ann (event None 0 false (attendee ann true ∷ attendee r1 true ∷ []) ∷ []) ≡ r1 ∷ []
not_to_itself = refl

-- by the first of its lines a client sends to r2
the_first_line_counts : scheduled_in ann (event None 0 false (attendee r1 true ∷ attendee r2 false ∷ attendee r2 true ∷ []) ∷ []) ≡ r1 ∷ []
the_first_line_counts = refl

-- r2 was sent messages by the last store and is left to a client by this one, which gets it no CANCEL; r3 is gone
abbrev later : Bool → List EventComponent
later cancelled = event None 0 cancelled (attendee r1 true ∷ attendee r2 false ∷ []) ∷ []

who_is_gone : gone_from false ann events (later false) ≡ r3 ∷ []
who_is_gone = refl

-- where the meeting is called off, its CANCEL is for r2 too
who_is_gone_with_it : gone_from true ann events (later true) ≡ r2 ∷ r3 ∷ []
who_is_gone_with_it = refl

r3_is_an_attendee : is_attendee r3 events ≡ true
r3_is_an_attendee = refl

-- an instance that is cancelled doesn't call the meeting off
an_instance_is_cancelled : is_called_off events ≡ false
an_instance_is_cancelled = refl

the_whole_is_cancelled : is_called_off (event None 0 true [] ∷ []) ≡ true
the_whole_is_cancelled = refl

two_lines_of_one_address : has_one_attendee (event None 0 false (attendee r1 true ∷ attendee r1 false ∷ [])) ≡ true
two_lines_of_one_address = refl

two_attendees : has_one_attendee (event None 0 false (attendee r1 true ∷ attendee r2 true ∷ [])) ≡ false
two_attendees = refl

no_attendee : has_one_attendee (event None 0 false []) ≡ false
no_attendee = refl

-- ---- SEQUENCE

the_greatest_at_first : sequence_after None events ≡ 2
the_greatest_at_first = refl

abbrev stored_at : ℕ → Stored
stored_at sequence = record { uid = codes "s"; events = events; revision = record { sequence = sequence; stamp = pos 5 }; object = []; told = [] }

one_more_than_the_last : sequence_after (Some (stored_at 2)) events ≡ 3
one_more_than_the_last = refl

its_own_where_that_is_greater : sequence_after (Some (stored_at 0)) events ≡ 2
its_own_where_that_is_greater = refl

-- ---- what is seen

abbrev heard : ℕ → ℤ → Participation → Heard
heard sequence stamp answer =
    record { uid = codes "s"; attendee = r1; slot = Whole; revision = record { sequence = sequence; stamp = stamp }; answer = answer }

abbrev book : List Heard → OrganiserBook
book replies = record { stores = stored_at 1 ∷ stored_at 0 ∷ []; replies = replies }

-- nobody has answered
at_first : IsSeenOf (book []) (stored_at 1) Whole r1 NeedsAction
at_first = refl

-- an answer to the last store but one says nothing of the last
an_old_answer : IsSeenOf (book (heard 0 (pos 9) Accepted ∷ [])) (stored_at 1) Whole r1 NeedsAction
an_old_answer = refl

an_answer_for_another_instance : answers_store (stored_at 1) (At (pos 100)) r1 (heard 1 (pos 9) Accepted) ≡ false
an_answer_for_another_instance = refl

-- of two answers at one moment, in either order, to decline counts
abbrev accepted : Heard
accepted = heard 1 (pos 9) Accepted

abbrev declined : Heard
declined = heard 1 (pos 9) Declined

a_tie : IsSeenOf (book (accepted ∷ declined ∷ [])) (stored_at 1) Whole r1 Declined
a_tie = (declined, (1, lit< tt, refl), refl, refl)

the_other_way_round : IsSeenOf (book (declined ∷ accepted ∷ [])) (stored_at 1) Whole r1 Declined
the_other_way_round = (declined, (0, lit< tt, refl), refl, refl)
