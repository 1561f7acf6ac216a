-- Worked examples of definitions, computed. Those of the other files are beside the crates that meet them: Lines in ical_lines,
-- Objects in ical_tree, Days and Values in cal_days and ical_values, Instances in cal_events, Certificates in clash_cert,
-- Revisions in itip_order, Messages in itip_messages, Rooms in room_books.
use Rattle.std.proofs.Common.{decimal, ◌≡◌, ◌<◌, ◌∙◌, ℕ, ℤ, zero, suc, pos, negsuc, true, false, List, [], ◌∷◌, ◌++◌, Some, None, refl, sym, codes, length, ap, arith, get_or, lit<, ◌^◌}
use Rattle.std.proofs.lemmas.Bool.{false≢true}
use Rattle.std.proofs.lemmas.Fmt.{decimal_digit}
use Rattle.std.proofs.lemmas.List.Elements.{All-nil}
use Rattle.profile.specs.faults.Faults.{is_event_fault, is_calendar_fault, is_message_fault}
use Rattle.profile.specs.text.Lines.{line_param}
use Rattle.profile.specs.checker.Calendars.{CalendarTextFault, in_lines, in_tree}
use Rattle.profile.specs.text.Trees.{Tree, tree, none, more, vevents}
use Rattle.profile.specs.text.Values.{unescaped}
use Rattle.profile.specs.events.EventComponents.{Method, Store, Request, Add, Cancel, Reply, ORGANIZER, RRULE, RDATE, ATTENDEE, presence, Once, AtMostOnce, Never, OfOne, occurs_once, may_lack_start, EventComponent, Participation, Accepted, Declined, NeedsAction, answer_named, answer_of, is_by_server, summary_of}
use Rattle.profile.specs.events.Properties.{Fixed, lines_named}
use Rattle.profile.specs.rooms.Revisions.{Part, Whole, At, Set, Absent, Cancelled, same_meeting}
use Rattle.profile.specs.events.Events.{start_written, Event, taken_by}
use Rattle.profile.specs.events.Messages.{Message, NamesMethod}
use Rattle.profile.specs.rooms.Messages.{Accept, SinglesLimit, no_content, list_lines, is_in_dates, cancels, is_addressed, parts_for, revision_beside, IsBody, object_lines, word}
use Rattle.profile.specs.checker.Instances.{Instance}
use Rattle.profile.specs.rooms.Rooms.{PartAnswer, Book, Claim, confirmed_singles, confirmed_series, is_confirmed, is_hidden, wants_whole}
use Rattle.profile.specs.checker.Certificates.{Claims, IsApart, IsClaims, IsGroup, SpellsCertificate}
use Rattle.profile.specs.rooms.Kept.{IsKept, first_parts, each_once, renamed}
use Rattle.profile.specs.streams.Streams.{Now, Room, moments, organisers, Organiser, rooms, refused_line, AreObjects}

-- ---- lists of refusals

two_masters_are_a_calendars : is_calendar_fault 53 ≡ true
two_masters_are_a_calendars = refl

two_meetings_are_a_messages_alone : is_calendar_fault 62 ≡ false
two_meetings_are_a_messages_alone = refl

no_organizer_is_an_events : is_event_fault 63 ≡ true
no_organizer_is_an_events = refl

no_refusal_is_17 : is_message_fault 17 ≡ false
no_refusal_is_17 = refl

-- ---- trees

calendar_of_two : Tree
calendar_of_two =
    tree (codes "VCALENDAR") (codes "VERSION:2.0" ∷ []) (more (tree (codes "vevent") (codes "UID:a" ∷ []) none) (more (tree (codes "VTODO") [] none) none))

-- VEVENT in any case, and nothing else
its_events : vevents (tree (codes "VCALENDAR") [] (more (tree (codes "vevent") (codes "UID:a" ∷ []) none) (more (tree (codes "VTODO") [] none) none)))
    ≡ (codes "UID:a" ∷ []) ∷ []
its_events = refl

no_events : vevents (tree (codes "VCALENDAR") (codes "VERSION:2.0" ∷ []) none) ≡ []
no_events = refl

-- a component inside a VEVENT isn't one of the calendar's
no_events_deeper : vevents (tree (codes "VCALENDAR") [] (more (tree (codes "VTODO") [] (more (tree (codes "VEVENT") [] none) none)) none)) ≡ []
no_events_deeper = refl

-- ---- what can be wrong with a calendar's octets

a_line_without_a_colon : CalendarTextFault (codes "hello") 1
a_line_without_a_colon = in_lines refl

a_calendar_that_ends_too_early : CalendarTextFault (codes "BEGIN:VCALENDAR") 21
a_calendar_that_ends_too_early = in_tree refl

no_octets_are_no_calendar : CalendarTextFault [] 23
no_octets_are_no_calendar = in_tree refl

-- ---- events

uids : lines_named (codes "UID") (codes "uid:a" ∷ codes "SUMMARY:UID:b" ∷ codes "UID;X=1:c" ∷ []) ≡ codes "uid:a" ∷ codes "UID;X=1:c" ∷ []
uids = refl

the_word_is_caseless : answer_named (line_param (codes "PARTSTAT") (codes "ATTENDEE;RSVP=TRUE;PARTSTAT=accepted:mailto:r1@example.com")) ≡ Accepted
the_word_is_caseless = refl

no_word_is_no_answer : answer_named (line_param (codes "PARTSTAT") (codes "ATTENDEE:mailto:r1@example.com")) ≡ NeedsAction
no_word_is_no_answer = refl

-- SCHEDULE-AGENT is SERVER, or missing
the_server_schedules : is_by_server (codes "ATTENDEE;SCHEDULE-AGENT=server:mailto:r1@example.com") ≡ true
the_server_schedules = refl

without_an_agent_it_does : is_by_server (codes "ATTENDEE;RSVP=TRUE:mailto:r1@example.com") ≡ true
without_an_agent_it_does = refl

a_client_schedules : is_by_server (codes "ATTENDEE;SCHEDULE-AGENT=CLIENT:mailto:r1@example.com") ≡ false
a_client_schedules = refl

nobody_schedules : is_by_server (codes "ATTENDEE;SCHEDULE-AGENT=NONE:mailto:r1@example.com") ≡ false
nobody_schedules = refl

-- of two SUMMARYs the first counts, and its escapes are read
the_first_summary : summary_of (codes "UID:a" ∷ codes "SUMMARY;LANGUAGE=en:Plan\\, and\\nmore" ∷ codes "SUMMARY:b" ∷ []) ≡ codes "Plan, and\nmore"
unfolding unescaped
the_first_summary = refl

no_summary_is_empty : summary_of (codes "UID:a" ∷ []) ≡ []
no_summary_is_empty = refl

-- from second 100 for a day and a second
abbrev event_with : Participation → Participation → EventComponent
event_with first second = record {
  uid = codes "a";
  organiser = None;
  stamp = None;
  sequence = 0;
  cancelled = false;
  recurrence = None;
  additions = [];
  exceptions = [];
  written = record { recurrence = None; additions = []; exceptions = [] };
  times = record { form = Fixed; zone = None; local = pos 100; start = pos 100; length = record { days = 1; seconds = 1 } };
  rule = None;
  summary = [];
  attendees = record { address = codes "r:1"; participation = first; scheduled = true } ∷ record { address = codes "r:1"; participation = second; scheduled = true } ∷ [];
}

-- of two lines of one address the first counts
the_first_line_accepts : answer_of (codes "r:1") (event_with Accepted Declined) ≡ Some Accepted
the_first_line_accepts = refl

the_first_line_declines : answer_of (codes "r:1") (event_with Declined Accepted) ≡ Some Declined
the_first_line_declines = refl

another_room_has_nothing : answer_of (codes "r:2") (event_with Accepted Accepted) ≡ None
another_room_has_nothing = refl

-- ---- messages

-- some fields of the table
a_calendar_may_lack_its_organiser : presence ORGANIZER None ≡ AtMostOnce
a_calendar_may_lack_its_organiser = refl

a_message_may_not : (method : Method) → presence ORGANIZER (Some method) ≡ Once
a_message_may_not method = refl

an_added_instance_has_no_rule : (presence RRULE (Some Add) ≡ Never) × (presence RDATE (Some Add) ≡ Never)
an_added_instance_has_no_rule = (refl, refl)

a_reply_is_of_one : presence ATTENDEE (Some Reply) ≡ OfOne
a_reply_is_of_one = refl

a_rule_occurs_once : (occurs_once RRULE ≡ true) × (occurs_once RDATE ≡ false)
a_rule_occurs_once = (refl, refl)

a_cancel_may_lack_its_start : may_lack_start (Some Cancel) ≡ true
a_cancel_may_lack_its_start = refl

so_may_a_reply : may_lack_start (Some Reply) ≡ true
so_may_a_reply = refl

a_store_may_not : may_lack_start (Some Store) ≡ false
a_store_may_not = refl

a_request_may_not : may_lack_start (Some Request) ≡ false
a_request_may_not = refl

abbrev cancelled_event : EventComponent
cancelled_event = record (event_with NeedsAction NeedsAction) { cancelled = true }

a_cancelled_request_cancels : cancels Request cancelled_event ≡ true
a_cancelled_request_cancels = refl

another_request_does_not : cancels Request (event_with NeedsAction NeedsAction) ≡ false
another_request_does_not = refl

abbrev event_of_nobody : EventComponent
event_of_nobody = record (event_with NeedsAction NeedsAction) { attendees = [] }

-- a message of these events
abbrev of_events : Method → List EventComponent → Message
of_events method events = record { method = method; organiser = codes "m:ann"; uid = codes "a"; events = events }

-- a message of a whole meeting alone
abbrev of_one : Method → EventComponent → Message
of_one method event = of_events method (event ∷ [])

a_cancel_to_nobody_is_for_each_room : is_addressed (codes "r:2") (of_one Cancel event_of_nobody) ≡ true
a_cancel_to_nobody_is_for_each_room = refl

a_request_to_nobody_is_for_none : is_addressed (codes "r:2") (of_one Request event_of_nobody) ≡ false
a_request_to_nobody_is_for_none = refl

a_cancel_to_another_is_not_for_it : is_addressed (codes "r:2") (of_one Cancel (event_with NeedsAction NeedsAction)) ≡ false
a_cancel_to_another_is_not_for_it = refl

-- what is for an organiser is for no room, also where it names one
a_store_is_for_no_room : is_addressed (codes "r:1") (of_one Store (event_with NeedsAction NeedsAction)) ≡ false
a_store_is_for_no_room = refl

a_reply_is_for_no_room : parts_for (codes "r:1") (of_one Reply (event_with NeedsAction NeedsAction)) ≡ []
a_reply_is_for_no_room = refl

-- without METHOD it is a store
no_method_is_a_store : NamesMethod (codes "VERSION:2.0" ∷ []) Store
no_method_is_a_store = refl

-- a meeting of nobody, and of it one instance, of an earlier revision, to which r:1 is asked
abbrev whole : EventComponent
whole = record event_of_nobody { sequence = 2; stamp = Some (pos 50) }

abbrev instance : EventComponent
instance = record (event_with NeedsAction NeedsAction) { sequence = 1; stamp = Some (pos 60); recurrence = Some (pos 7) }

abbrev of_both : Method → Message
of_both method = of_events method (whole ∷ instance ∷ [])

-- named in one instance alone, a room has a part for each
a_room_of_one_instance_has_both : parts_for (codes "r:1") (of_both Request) ≡ whole ∷ instance ∷ []
a_room_of_one_instance_has_both = refl

the_whole_is_absent_for_it : IsBody (codes "r:1") Request whole no_content Absent
the_whole_is_absent_for_it = (refl, refl, refl)

-- of a CANCEL those alone that name it, or nobody
a_cancel_of_another_instance : parts_for (codes "r:2") (of_both Cancel) ≡ whole ∷ []
a_cancel_of_another_instance = refl

-- an ADD that names a room anywhere has a part for it for each of its instances, and each is that of its own start
an_add_has_all_instances : parts_for (codes "r:1") (of_events Add (event_of_nobody ∷ instance ∷ [])) ≡ event_of_nobody ∷ instance ∷ []
an_add_has_all_instances = refl

an_add_takes_its_start : taken_by (Some Add) (instance ∷ []) ≡ record instance { recurrence = Some (pos 100); written = record instance.written { recurrence = Some (start_written instance) } } ∷ []
an_add_takes_its_start = refl

an_add_is_no_whole : taken_by (Some Add) (whole ∷ []) ≡ record whole { recurrence = Some (pos 100); written = record whole.written { recurrence = Some (start_written whole) } } ∷ []
an_add_is_no_whole = refl

a_request_takes_them_as_they_are : taken_by (Some Request) (whole ∷ instance ∷ []) ≡ whole ∷ instance ∷ []
a_request_takes_them_as_they_are = refl

-- the revision of an instance is no earlier than that of its whole
raised : revision_beside (Some whole) instance ≡ record { sequence = 2; stamp = pos 50 }
raised = refl

not_lowered : revision_beside (Some whole) (record instance { sequence = 3 }) ≡ record { sequence = 3; stamp = pos 60 }
not_lowered = refl

alone_it_has_its_own : revision_beside None instance ≡ record { sequence = 1; stamp = pos 60 }
alone_it_has_its_own = refl

-- ---- what says when an event is

a_list_of_two : list_lines (codes "RDATE") (codes "20250310T090000Z" ∷ codes "20250311T090000Z" ∷ []) ≡ codes "RDATE:20250310T090000Z,20250311T090000Z" ∷ []
a_list_of_two = refl

no_list : list_lines (codes "EXDATE") [] ≡ []
no_list = refl

the_first_second_counts : is_in_dates (negsuc 86_399) ≡ true
the_first_second_counts = refl

the_one_before_does_not : is_in_dates (negsuc 86_400) ≡ false
the_one_before_does_not = refl

nor_year_10000 : is_in_dates (pos 253_402_300_800) ≡ false
nor_year_10000 = refl

-- ---- the zones of a kept calendar

a_start_gets_its_name : renamed (codes "DTSTART;TZID=Z") (codes "DTSTART;TZID=" ++ codes "Z2") (codes "DTSTART;TZID=Z:20250310T090000") ≡ codes "DTSTART;TZID=Z2:20250310T090000"
a_start_gets_its_name = refl

a_start_in_utc_has_none : renamed (codes "DTSTART;TZID=Z") (codes "DTSTART;TZID=" ++ codes "Z2") (codes "DTSTART:20250310T090000Z") ≡ codes "DTSTART:20250310T090000Z"
a_start_in_utc_has_none = refl

each_zone_once : each_once (codes "a" ∷ codes "b" ∷ codes "a" ∷ codes "c" ∷ codes "b" ∷ []) ≡ codes "a" ∷ codes "b" ∷ codes "c" ∷ []
each_zone_once = refl

-- ---- what a room writes

an_object_of_nothing : object_lines None [] ≡ codes "BEGIN:VCALENDAR" ∷ codes "VERSION:2.0" ∷ codes "PRODID:-//iTIP room box//EN" ∷ codes "END:VCALENDAR" ∷ []
an_object_of_nothing = refl

a_word_has_no_comma : word (codes "a,b") ≡ codes "a%2Cb"
a_word_has_no_comma = refl

-- the certificate of a calendar that confirms nothing, and of one that confirms a single
abbrev counts_alone : ℕ → Claims
counts_alone singles = record { singles = singles; series = 0; groups = None; pairs = [] }

abbrev lines_alone : ℕ → List (List ℕ)
lines_alone singles = codes "ROOMCERT 1" ∷ (codes "SINGLES " ++ decimal singles) ∷ (codes "SERIES " ++ decimal 0) ∷ codes "DONE" ∷ []

no_series_claimed : {singles : ℕ} → singles < 2 ^ 64 → IsClaims (counts_alone singles)
no_series_claimed few = record {
  singles = few;
  series = lit< tt;
  groups = All-nil (IsGroup 0);
  groups_ordered = λ i j d e l. absurd (omega (arith, l));
  pairs = All-nil (IsApart 0 []);
  pairs_ordered = λ i j d e l. absurd (omega (arith, l));
  all = λ i j p. let a = p.0 in let b = p.1 in let c = p.2 in absurd (omega (arith, a, b, c));
}

nothing_said : SpellsCertificate (codes "ROOMCERT 1\nSINGLES 0\nSERIES 0\nDONE\n") (counts_alone 0)
nothing_said = record {
  claims = no_series_claimed (lit< tt);
  lines = lines_alone 0;
  are = record { groups = []; are_groups = tt; pairs = []; are_pairs = tt; is = refl };
  is = sym (ap (λ (d : List ℕ). codes "ROOMCERT 1\nSINGLES " ++ (d ++ (codes "\nSERIES " ++ (decimal 0 ++ codes "\nDONE\n")))) (decimal_digit 0 (lit< tt))
      ∙ ap (λ (d : List ℕ). codes "ROOMCERT 1\nSINGLES 0\nSERIES " ++ (d ++ codes "\nDONE\n")) (decimal_digit 0 (lit< tt)));
}

one_said : SpellsCertificate (codes "ROOMCERT 1\nSINGLES 1\nSERIES 0\nDONE\n") (counts_alone 1)
one_said = record {
  claims = no_series_claimed (lit< tt);
  lines = lines_alone 1;
  are = record { groups = []; are_groups = tt; pairs = []; are_pairs = tt; is = refl };
  is = sym (ap (λ (d : List ℕ). codes "ROOMCERT 1\nSINGLES " ++ (d ++ (codes "\nSERIES " ++ (decimal 0 ++ codes "\nDONE\n")))) (decimal_digit 1 (lit< tt))
      ∙ ap (λ (d : List ℕ). codes "ROOMCERT 1\nSINGLES 1\nSERIES " ++ (d ++ codes "\nDONE\n")) (decimal_digit 0 (lit< tt)));
}

abbrev part_of : List ℕ → ℕ → Part
part_of uid sequence = record {
  organiser = codes "o:1";
  uid = uid;
  slot = Whole;
  revision = record { sequence = sequence; stamp = pos 7 };
  body = Set (codes "x");
}

abbrev claim_of : List ℕ → ℕ → Claim
claim_of uid sequence = record { part = part_of uid sequence; content = record { lines = codes "DTSTART:19700101T000000Z" ∷ codes "DURATION:PT1S" ∷ []; zone = None }; singles = record { key = record { organiser = codes "o:1"; uid = uid; slot = pos 0 }; start = pos 0; end = pos 1 } ∷ []; series = None }

-- b came first and was declined; a was accepted
abbrev two_meetings : Book
two_meetings = record {
  taken = part_of (codes "b") 0 ∷ part_of (codes "a") 0 ∷ part_of (codes "b") 0 ∷ [];
  answers = record { claim = claim_of (codes "b") 0; moment = pos 9; outcome = SinglesLimit } ∷ record { claim = claim_of (codes "a") 0; moment = pos 9; outcome = Accept } ∷ [];
}

in_order_of_arrival : first_parts two_meetings.taken ≡ part_of (codes "b") 0 ∷ part_of (codes "a") 0 ∷ []
in_order_of_arrival = refl

the_accepted_is_kept : IsKept two_meetings (part_of (codes "a") 0) (claim_of (codes "a") 0)
the_accepted_is_kept = record {
  of_meeting = refl;
  answer = record { claim = claim_of (codes "a") 0; moment = pos 9; outcome = Accept };
  given = (1, lit< tt, refl);
  to = refl;
  confirms = refl;
}

the_declined_is_not_kept : IsKept two_meetings (part_of (codes "b") 0) (claim_of (codes "b") 0) → ⊥
the_declined_is_not_kept k = by_place k.given.0 k.given.1 k.given.2
  where
    by_place : (place : ℕ) → place < 2 → get_or two_meetings.answers place k.answer ≡ k.answer → ⊥
    by_place zero l at = false≢true (ap (λ a. is_confirmed two_meetings.taken a) at ∙ k.confirms)
    by_place (suc zero) l at = false≢true (ap (λ (a : PartAnswer). same_meeting (part_of (codes "b") 0) a.claim.part) at ∙ ap (λ (c : Claim). same_meeting (part_of (codes "b") 0) c.part) k.to)
    by_place (suc (suc place)) l at = absurd (omega arith)

-- ---- what makes a room ask for a whole meeting

-- an instance of the meeting a
abbrev instance_part : Part
instance_part = record (part_of (codes "a") 1) { slot = At (pos 7) }

abbrev instance_claim : Claim
instance_claim = record (claim_of (codes "a") 1) { part = instance_part }

asked_where_there_is_no_whole : wants_whole true [] (instance_part ∷ []) (instance_claim ∷ []) ≡ true
asked_where_there_is_no_whole = refl

not_by_another_method : wants_whole false [] (instance_part ∷ []) (instance_claim ∷ []) ≡ false
not_by_another_method = refl

not_on_a_repeat : wants_whole true (instance_part ∷ []) (instance_part ∷ instance_part ∷ []) (instance_claim ∷ []) ≡ false
not_on_a_repeat = refl

not_where_there_is_one : wants_whole true (part_of (codes "a") 0 ∷ []) (part_of (codes "a") 0 ∷ instance_part ∷ []) (instance_claim ∷ []) ≡ false
not_where_there_is_one = refl

-- a whole that was cancelled is one
nor_where_it_was_cancelled : wants_whole true (record (part_of (codes "a") 0) { body = Cancelled } ∷ []) (record (part_of (codes "a") 0) { body = Cancelled } ∷ instance_part ∷ []) (instance_claim ∷ []) ≡ false
nor_where_it_was_cancelled = refl

that_of_another_meeting_is_none : wants_whole true (part_of (codes "b") 0 ∷ []) (part_of (codes "b") 0 ∷ instance_part ∷ []) (instance_claim ∷ []) ≡ true
that_of_another_meeting_is_none = refl

-- ---- a series in a room

abbrev no_meeting : Event
no_meeting = record { master = None; overrides = [] }

-- an instance of the meeting a that is cancelled
abbrev cancelled_at : ℤ → Part
cancelled_at t = record (part_of (codes "a") 1) { slot = At t; body = Cancelled }

-- a series was accepted; these parts were taken with it
abbrev one_series : List Part → Book
one_series taken = record {
  taken = part_of (codes "a") 0 ∷ taken;
  answers = record { claim = record (claim_of (codes "a") 0) { singles = []; series = Some no_meeting }; moment = pos 9; outcome = Accept } ∷ [];
}

its_instances_are_no_singles : confirmed_singles (one_series []) ≡ []
its_instances_are_no_singles = refl

-- an instance of it that another part hides is still one of a series, and the series counts
it_counts : length (confirmed_series (one_series (cancelled_at (pos 0) ∷ []))) ≡ 1
it_counts = refl

abbrev booked_at : ℕ → Instance
booked_at n = record { key = record { organiser = codes "o:1"; uid = codes "a"; slot = pos n }; start = pos n; end = pos (suc n) }

one_is_hidden : is_hidden (one_series (cancelled_at (pos 9) ∷ [])).taken (part_of (codes "a") 0) (booked_at 9) ≡ true
one_is_hidden = refl

another_is_not : is_hidden (one_series (cancelled_at (pos 9) ∷ [])).taken (part_of (codes "a") 0) (booked_at 0) ≡ false
another_is_not = refl

-- ---- streams

refused_for_its_size : refused_line 1 6 ≡ codes "REFUSED;OBJECT=1:6\r\n"
refused_for_its_size = rw (decimal_digit 1 (lit< tt), decimal_digit 6 (lit< tt)) refl

the_moment : moments (Room (codes "r:1") ∷ Now (pos 5) ∷ Room (codes "r:2") ∷ []) ≡ pos 5 ∷ []
the_moment = refl

the_organisers : organisers (Organiser (codes "m:a") ∷ Now (pos 5) ∷ Room (codes "r:2") ∷ []) ≡ codes "m:a" ∷ []
the_organisers = refl

the_rooms : rooms (Room (codes "r:1") ∷ Now (pos 5) ∷ Room (codes "r:2") ∷ []) ≡ codes "r:1" ∷ codes "r:2" ∷ []
the_rooms = refl

empty_lines_are_no_object : AreObjects (codes "\r\n\n") []
empty_lines_are_no_object = (_, refl, refl)

-- the second object begins after the first one's line break; a line that goes on isn't the last
two_objects : AreObjects (codes "A:1\nEND:VCALENDAR\n\nEND:\n VCALENDAR") (codes "A:1\nEND:VCALENDAR\n" ∷ codes "\nEND:\n VCALENDAR" ∷ [])
two_objects = (_, (refl, refl, (refl, refl, refl)), refl)
