-- Worked examples of worlds and of what holds in them: what a step does, what it leaves as it is, and which part of a meeting is booked.
use Rattle.std.proofs.Common.{◌≡◌, ◌≢◌, ◌∙◌, ℕ, zero, suc, ℤ, pos, negsuc, unsigned_abs, ◌+ℤ◌, ◌≤ℤ◌, ◌<ℤ◌, Bool, true, false, List, [], ◌∷◌, ◌++◌, codes, length, Option, None, Some, is_some, inl, inr, refl, sym, ap, subst, lit<, arith, append-nil}
use Rattle.std.specs.Prelude.{Contains, if◌then◌else◌}
use Rattle.std.specs.Fmt.{digits}
use Rattle.std.specs.List.{AllZip}
use Rattle.std.specs.Str.{bytes_eq}
use Rattle.std.proofs.lemmas.Bool.{false≢true, true≢false}
use Rattle.std.proofs.lemmas.Int.{ints}
use Rattle.std.proofs.lemmas.List.Elements.{All-from_recursion}
use Rattle.std.proofs.lemmas.Option.{same_Some}
use Rattle.std.proofs.lemmas.Slice.Eq.{bytes_eq-Decides}
use Rattle.profile.specs.checker.Instances.{Instance, horizon}
use Rattle.profile.specs.events.Confirmed.{IsOfSeries, alone}
use Rattle.profile.specs.events.EventComponents.{Accepted, EventComponent, Method, NeedsAction, Reply, Request, is_accepted}
use Rattle.profile.specs.events.Messages.{Message, SpellsMessage, master_in}
use Rattle.profile.specs.events.Placed.{IsPlaced}
use Rattle.profile.specs.events.Properties.{Fixed, Floating, Form, first_second}
use Rattle.profile.specs.events.Starts.{IsInstance, key_at}
use Rattle.profile.specs.events.ZonedTimes.{EventTimes, SpellsMidnight, clock_of}
use Rattle.profile.specs.organisers.Organisers.{Heard, IsSeen, IsSeenOf, Stored, empty_organiser}
use Rattle.profile.specs.rooms.Kept.{IsKeptCalendar, room_zone_lines}
use Rattle.profile.specs.rooms.Messages.{Accept, AreParts, Busy, Content, IsContent, IsPart, IsSlotIn, Outcome, WritesListed, WritesTimes, opening_lines, parts_for, revision_beside}
use Rattle.profile.specs.rooms.Revisions.{At, Part, Revision, Set, Slot, Whole, in_view}
use Rattle.profile.specs.rooms.Rooms.{Book, Confirms, PartAnswer, empty_book, is_accept}
use Rattle.profile.specs.series.Days.{days_before_year, days_of_months}
use Rattle.profile.specs.series.RoomZones.{IsRoomZone}
use Rattle.profile.specs.series.Zones.{Constant, Means, Zone}
use Rattle.profile.specs.streams.Schedules.{HasBooked, IsBooked, SeenIsBooked, SeesBooked}
use Rattle.profile.specs.streams.Streams.{AsksFor, Hosted, HostedOrganiser, TakesMessage, ZonedRoom, in_utc, new_room}
use Rattle.profile.specs.streams.Worlds.{Delivering, Delivers, IsWorldStep, Storing, World, new_world, no_organiser, no_room, nobody, other_organiser, refused_answer}
use Rattle.profile.specs.text.Lines.{written}
use Rattle.profile.specs.text.Values.{WritesLocal, WritesStamp}
use Rattle.cal_events.proofs.shared_lemmas.Meanings.{utc_means}
use Rattle.cal_zones.proofs.RoomZoneLemmas.{offset_said}
use Rattle.cal_events.proofs.shared_lemmas.OwnSingles.{master_alone}
use Rattle.itip_order.proofs.Lists.{none_in_nil}
use Rattle.itip_order.proofs.Registers.{part_le_refl}

abbrev ann : List ℕ
ann = codes "m:ann"

abbrev ben : List ℕ
ben = codes "m:ben"

abbrev r1 : List ℕ
r1 = codes "r:1"

abbrev r2 : List ℕ
r2 = codes "r:2"

-- a room and an organiser
abbrev both : List ℕ
both = codes "m:both"

-- ---- a meeting of ann with r1, from second 100 to 101, and its REQUEST, which was made at second 5

abbrev meeting : ℕ → EventComponent
meeting sequence = record {
  uid = codes "s";
  organiser = Some ann;
  stamp = Some (pos 5);
  sequence = sequence;
  cancelled = false;
  recurrence = None;
  times = record { form = Fixed; zone = None; local = pos 100; start = pos 100; length = record { days = 0; seconds = 1 } };
  rule = None;
  additions = [];
  exceptions = [];
  written = record { recurrence = None; additions = []; exceptions = [] };
  summary = [];
  attendees = record { address = r1; participation = NeedsAction; scheduled = true } ∷ [];
}

abbrev request : ℕ → Message
request sequence = record { method = Request; organiser = ann; uid = codes "s"; events = meeting sequence ∷ [] }

-- the same by another METHOD
abbrev said : Method → Message
said method = record (request 0) { method = method }

-- ---- new worlds

-- a room of this address that goes by UTC
abbrev utc_room : List ℕ → Hosted
utc_room address = new_room (in_utc address)

-- a room whose clocks are five hours behind
abbrev behind : ZonedRoom
behind = record { address = r2; words = codes "-0500"; zone = Some (Constant (negsuc 17_999)) }

abbrev new_organiser : List ℕ → HostedOrganiser
new_organiser address = record { address = address; book = empty_organiser }

-- an address that is given twice counts once, where it was given first
given_twice : new_world (in_utc r1 ∷ in_utc r2 ∷ in_utc r1 ∷ []) (ann ∷ ann ∷ [])
    ≡ record { rooms = utc_room r1 ∷ utc_room r2 ∷ []; organisers = new_organiser ann ∷ []; sent = [] }
given_twice = refl

-- its zone too is that which was given first
given_in_two_zones : new_world (behind ∷ in_utc r1 ∷ in_utc r2 ∷ []) [] ≡ record { rooms = new_room behind ∷ utc_room r1 ∷ []; organisers = []; sent = [] }
given_in_two_zones = refl

-- its words mean that zone
five_behind : IsRoomZone behind.words behind.zone
five_behind = inl (negsuc 17_999, (λ same. let none : unsigned_abs (negsuc 17_999) ≡ unsigned_abs (pos 0) = ap unsigned_abs same in absurd (omega (arith, none))), offset_said (negsuc 17_999) (lit< tt), refl)

-- one that is given as a room and as an organiser is hosted as both
given_as_both : new_world (in_utc both ∷ []) (both ∷ [])
    ≡ record { rooms = utc_room both ∷ []; organisers = new_organiser both ∷ []; sent = [] }
given_as_both = refl

-- nobody is there
nobody_at_first : new_world [] [] ≡ record { rooms = []; organisers = []; sent = [] }
nobody_at_first = refl

-- ---- a number that wasn't sent

abbrev world : List (List ℕ) → World
world sent = record {
  rooms = utc_room r1 ∷ utc_room both ∷ [];
  organisers = new_organiser ann ∷ new_organiser ben ∷ new_organiser both ∷ [];
  sent = sent;
}

-- message 1 wasn't sent: its delivery is a step that changes nothing,
wasn't_sent : IsWorldStep (Delivering 1 r1 (pos 5)) (world (codes "a" ∷ [])) (world (codes "a" ∷ []))
wasn't_sent = inr (refl, refl)

-- and no other step;
changes_nothing : (after : World) → IsWorldStep (Delivering 1 r1 (pos 5)) (world (codes "a" ∷ [])) after → after ≡ world (codes "a" ∷ [])
changes_nothing after (inl (octets, there, does)) = absurd (false≢true (ap (λ (o : Option (List ℕ)). is_some o) there))
changes_nothing after (inr (none, same)) = same

-- so no message is sent by it
nothing_is_sent : IsWorldStep (Delivering 1 r1 (pos 5)) (world (codes "a" ∷ [])) (world (codes "a" ∷ codes "b" ∷ [])) → ⊥
nothing_is_sent step =
    let n : 2 ≡ 1 = ap (λ (w : World). length w.sent) (changes_nothing (world (codes "a" ∷ codes "b" ∷ [])) step) in omega (arith, n)

-- nor does an organiser who isn't hosted store anything
nobody_stores : (object : List ℕ) → IsWorldStep (Storing r1 object (pos 5)) (world []) (world [])
nobody_stores object = inr (nobody refl, refl)

-- ---- whom a message is for

-- octets that are a REQUEST, delivered to an organiser who is no room, change nothing
to_no_room : (octets : List ℕ) → SpellsMessage octets (said Request)
    → IsWorldStep (Delivering 0 ann (pos 5)) (world (octets ∷ [])) (world (octets ∷ []))
to_no_room octets spells = inl (octets, refl, inr (inr (said Request, spells, no_room refl refl), refl))

-- and a REPLY that is delivered to a room which is no organiser
to_no_organiser : (octets : List ℕ) → SpellsMessage octets (said Reply)
    → IsWorldStep (Delivering 0 r1 (pos 5)) (world (octets ∷ [])) (world (octets ∷ []))
to_no_organiser octets spells = inl (octets, refl, inr (inr (said Reply, spells, no_organiser refl refl), refl))

-- a REPLY of ann's meeting changes nothing where it is delivered to ben,
to_another_organiser : (octets : List ℕ) → SpellsMessage octets (said Reply)
    → IsWorldStep (Delivering 0 ben (pos 5)) (world (octets ∷ [])) (world (octets ∷ []))
to_another_organiser octets spells = inl (octets, refl, inr (inr (said Reply, spells, refused_answer refl (other_organiser other)), refl))
  where
    other : ann ≢ ben
    other same = true≢false (sym (ap (bytes_eq ben) same))

-- who doesn't take it
not_taken : (after : World) → Delivers ben (pos 5) (said Reply) (world []) after → ⊥
not_taken after (inl rooms) = false≢true rooms.takes.changes.for_rooms
not_taken after (inr (answer, organisers)) = true≢false (sym (ap (bytes_eq ben) organisers.takes.changes.named))

-- the message says which of the two takes it at an address that is both: of a REQUEST no organiser does, nor does a room of a REPLY
a_request_is_for_rooms : (before after : World) → Delivers both (pos 5) (said Request) before after → after.organisers ≡ before.organisers
a_request_is_for_rooms before after (inl rooms) = rooms.others
a_request_is_for_rooms before after (inr (answer, organisers)) = absurd (false≢true answer)

a_reply_is_for_organisers : (before after : World) → Delivers both (pos 5) (said Reply) before after → after.rooms ≡ before.rooms
a_reply_is_for_organisers before after (inl rooms) = absurd (false≢true rooms.takes.changes.for_rooms)
a_reply_is_for_organisers before after (inr (answer, organisers)) = organisers.others

-- a room takes also what doesn't name it: its book stays, and it sends nothing
not_addressed : TakesMessage both None (pos 5) (said Request) empty_book empty_book []
not_addressed = record {
  claims = [];
  are = record {
    all = [];
    each = tt;
    are = record { among = λ claim c. c; greatest = λ claim c. absurd (omega (arith, c.1)); order = λ i j d l w. absurd (omega (arith, w)) };
  };
  outcome = Accept;
  step = record { taken = refl; answers = refl; decided = λ some. absurd (false≢true some) };
  reply = None;
  replies = refl;
  refresh = None;
  refreshes = refl;
  is = refl;
}

-- so that is its effect
takes_as_room : Delivers both (pos 5) (said Request) (world []) (world [])
takes_as_room = inl (record {
  sent = [];
  takes = record {
    ahead = utc_room r1 ∷ [];
    behind = [];
    old = utc_room both;
    new = utc_room both;
    changes = record { address = refl; same = refl; for_rooms = refl; takes = not_addressed };
    of_these = refl;
    to_these = refl;
  };
  others = refl;
  adds = refl;
})

-- ---- what is seen

-- nobody is an attendee of a meeting that isn't known
unknown : IsSeen empty_organiser (codes "s") Whole r1 None
unknown stored last = absurd (false≢true (ap (λ (o : Option Stored). is_some o) last))

-- ---- what the REQUEST is for its room

abbrev content : Content
content = record { lines = codes "DTSTART:19700101T000140Z" ∷ codes "DURATION:PT1S" ∷ []; zone = None }

abbrev part : ℕ → Part
part sequence = record {
  organiser = ann;
  uid = codes "s";
  slot = Whole;
  revision = record { sequence = sequence; stamp = pos 5 };
  body = Set (codes "DTSTART:19700101T000140Z\r\nDURATION:PT1S\r\n");
}

-- second 100 is 1970-01-01T00:01:40Z
start : WritesStamp (codes "19700101T000140Z") (pos 100)
unfolding days_before_year days_of_months
start = (
  codes "19700101T000140",
  record {
    date = codes "19700101";
    time = codes "000140";
    number = pos 0;
    second = 100;
    on = record {
      year = 1970;
      month = 1;
      day = 1;
      first = omega arith;
      last = omega arith;
      date = (omega arith, omega arith, omega arith, omega arith);
      spelled = refl;
      counted = refl;
    };
    at_second = record { hour = 0; minute = 1; second = 40; hours = omega arith; minutes = omega arith; seconds = omega arith; spelled = refl; counted = refl };
    spelled = refl;
    counted = refl;
  },
  refl,
)

-- nothing is listed where there is nothing to list
no_times : (Writes : List ℕ → ℤ → Type 0) (name : List ℕ) → WritesTimes Writes name [] []
no_times Writes name = record {
  ascending = [];
  are = record { exact = λ t. (λ c. c, λ c. c); order = λ i j d l w. absurd (omega (arith, w)) };
  texts = [];
  each = tt;
  is = refl;
}

none_listed : (name : List ℕ) → WritesListed name [] []
none_listed name = record {
  fixed = [];
  floating = [];
  days = [];
  in_utc = no_times WritesStamp name;
  local = no_times WritesLocal name;
  dates = no_times SpellsMidnight (name ++ codes ";VALUE=DATE");
  are = refl;
}

-- what says when it is
is_content : (sequence : ℕ) → IsContent content (meeting sequence)
unfolding digits
is_content sequence = record {
  start = codes "DTSTART:19700101T000140Z";
  starts = (codes "19700101T000140Z", start, refl);
  rule = [];
  recurs = refl;
  additions = [];
  adds = none_listed (codes "RDATE");
  exceptions = [];
  takes = none_listed (codes "EXDATE");
  are = refl;
  in_zone = tt;
}

-- the part that its REQUEST is for the room, whatever its zone: for the whole meeting
first_part : (zone : Option Zone) → IsPart r1 zone (request 0) (meeting 0) content (part 0)
first_part z = record { organiser = refl; uid = refl; slot = (None, tt, refl); revision = refl; body = (refl, refl, is_content 0, refl) }

-- it has no other
first_parts : (zone : Option Zone) → AreParts r1 zone (request 0) (part 0 ∷ [])
first_parts zone = record {
  all = part 0 ∷ [];
  each = ((content, first_part zone), tt);
  are = record {
    among = λ one c. c;
    greatest = λ one c. (one, c, refl, part_le_refl one);
    order = λ i j d l w. absurd (omega (arith, l, w));
  };
}

abbrev booked : Instance
booked = record { key = record { organiser = ann; uid = codes "s"; slot = pos 100 }; start = pos 100; end = pos 101 }

-- the answer to it
abbrev given : ℕ → Outcome → PartAnswer
given sequence outcome =
    record { claim = record { part = part sequence; content = content; singles = booked ∷ []; series = None }; moment = pos 6; outcome = outcome }

abbrev taken : Book
taken = record { taken = part 0 ∷ []; answers = given 0 Accept ∷ [] }

-- it was declined, as an instance of another meeting is there
abbrev declined : Book
declined = record { taken = part 0 ∷ []; answers = given 0 (Busy booked.key (record booked.key { uid = codes "t" }) (pos 100)) ∷ [] }

-- a later store of the meeting was taken too
abbrev taken_later : Book
taken_later = record { taken = part 0 ∷ part 1 ∷ []; answers = given 0 Accept ∷ given 1 Accept ∷ [] }

-- they came the other way round: the older got no answer
abbrev taken_late : Book
taken_late = record { taken = part 1 ∷ part 0 ∷ []; answers = given 1 Accept ∷ [] }

-- ---- in a room of another zone

-- the same meeting on whatever clocks there are: it starts at their second 100
abbrev times_at : Option Zone → ℤ → EventTimes
times_at zone start = record { form = Floating; zone = zone; local = pos 100; start = start; length = record { days = 0; seconds = 1 } }

abbrev floating : EventComponent
floating = record (meeting 0) { times = times_at None (pos 100) }

-- where that is this second
module _ (zone : Option Zone) (start : ℤ) (means : Means (clock_of zone) (pos 100) start) (from : first_second ≤ℤ start) (to : start <ℤ horizon) where
  abbrev there : EventComponent
  there = record floating { times = times_at zone start }

  abbrev held : Instance
  held = record { key = record { organiser = ann; uid = codes "s"; slot = start }; start = start; end = start +ℤ pos 1 }

  is_there : IsPlaced zone floating there
  is_there = record {
    start = start;
    recurrence = None;
    additions = [];
    exceptions = [];
    starts = means;
    slot = tt;
    adds = tt;
    takes = tt;
    is = refl;
  }

  is_held : IsInstance (alone there) held
  is_held = inl (record {
    master = there;
    is = refl;
    starts = record {
      given = inl refl;
      in_dates = (from, to);
      not_excepted = λ c. absurd (none_in_nil start c);
      not_replaced = λ r. absurd (none_in_nil r.override r.among);
    };
    key = refl;
    ends = (start, inl (refl, refl), refl);
  })

  only_held : (b : Instance) → IsInstance (alone there) b → held ≡ b
  only_held b is =
      let own = master_alone there b refl is in
      let starts : start ≡ b.start = elim own.starts.given [ inl given ↦ sym given | inr added ↦ absurd (none_in_nil b.start added) ] in
      let ends : b.start +ℤ pos 1 ≡ b.end = elim own.ends.1 [
        | inl (none, same) ↦ ap (λ (t : ℤ). t +ℤ pos 1) (sym same) ∙ sym own.ends.2
        | inr (some, later) ↦ absurd (omega (arith, some))
      ] in
      let key : key_at there start ≡ b.key = ap (key_at there) starts ∙ sym own.key in
      let end : start +ℤ pos 1 ≡ b.end = ap (λ (t : ℤ). t +ℤ pos 1) starts ∙ ends in
      λ i. record { key = key i; start = starts i; end = end i }

  -- it is all that is asked for
  asks : AsksFor true zone floating (record { part = part 0; content = content; singles = held ∷ []; series = None })
  asks = (
    there,
    is_there,
    record {
      each = All-from_recursion (λ (b : Instance). IsInstance (alone there) b × (IsOfSeries there b → ⊥)) (held ∷ []) ((is_held, λ s. cc), tt);
      ordered = λ i j d l w. absurd (omega (arith, l, w));
      all = λ b is apart. (0, lit< tt, only_held b is);
    },
    refl,
  )

-- in a room that goes by UTC it is asked for second 100,
asks_in_utc : AsksFor true None floating (record { part = part 0; content = content; singles = booked ∷ []; series = None })
asks_in_utc = asks None (pos 100) (utc_means (pos 100)) (omega (arith, ints)) (omega (arith, ints))

-- and five hours behind for second 18,100
late_start : Means (Constant (negsuc 17_999)) (pos 100) (pos 18_100)
late_start = inl (record { shown = (negsuc 17_999, refl, omega (arith, ints)); least = λ other (offset, e, h). omega (arith, ints, e, h) })

abbrev booked_late : Instance
booked_late = record { key = record { organiser = ann; uid = codes "s"; slot = pos 18_100 }; start = pos 18_100; end = pos 18_101 }

asks_behind : AsksFor true behind.zone floating (record { part = part 0; content = content; singles = booked_late ∷ []; series = None })
asks_behind = asks behind.zone (pos 18_100) late_start (omega (arith, ints)) (omega (arith, ints))

-- an instance that is named by a floating time is another one in each of them,
abbrev named : Form → ℤ → EventComponent
named form instant = record (meeting 0) {
  recurrence = Some instant;
  written = record { recurrence = Some (record { form = form; instant = instant }); additions = []; exceptions = [] };
}

one_in_utc : IsSlotIn None (named Floating (pos 100)) (At (pos 100))
one_in_utc = (Some (pos 100), utc_means (pos 100), refl)

another_behind : IsSlotIn behind.zone (named Floating (pos 100)) (At (pos 18_100))
another_behind = (Some (pos 18_100), late_start, refl)

-- by a fixed one it is the same, as in each store
same_behind : IsSlotIn behind.zone (named Fixed (pos 100)) (At (pos 100))
same_behind = (Some (pos 100), refl, refl)

-- two events that are for two instances in UTC may be for one there
one_behind : IsSlotIn behind.zone (named Fixed (pos 18_100)) (At (pos 18_100))
one_behind = (Some (pos 18_100), refl, refl)

abbrev ending : List ℕ
ending = written (codes "END:VCALENDAR" ∷ [])

-- its kept calendar says so, where nothing is kept
nothing_kept : IsKeptCalendar behind.address behind.words empty_book
    (written (codes "BEGIN:VCALENDAR" ∷ codes "VERSION:2.0" ∷ codes "PRODID:-//iTIP room box//EN" ∷ codes "X-ROOM-ZONE:-0500" ∷ []) ++ ending)
nothing_kept = record {
  entries = [];
  kept = record { by_meeting = []; each = tt; are = refl };
  few = lit< tt;
  events = [];
  each = tt;
  is = ap (λ text. text ++ ending) (sym (append-nil (written (opening_lines None ++ room_zone_lines behind.words))));
}

-- and that of a room which goes by UTC says nothing of it
nothing_kept_in_utc : IsKeptCalendar r1 (codes "+0000") empty_book
    (written (codes "BEGIN:VCALENDAR" ∷ codes "VERSION:2.0" ∷ codes "PRODID:-//iTIP room box//EN" ∷ []) ++ ending)
nothing_kept_in_utc = record {
  entries = [];
  kept = record { by_meeting = []; each = tt; are = refl };
  few = lit< tt;
  events = [];
  each = tt;
  is = ap (λ text. text ++ ending) (sym (append-nil (written (opening_lines None ++ room_zone_lines (codes "+0000")))));
}

-- ---- what is booked

-- what was accepted is,
is_booked : IsBooked taken (part 0)
is_booked = record { viewed = refl; set = refl; answer = given 0 Accept; given = (0, lit< tt, refl); to = refl; accepted = refl }

-- and its instance is confirmed
its_instance : Confirms taken booked
its_instance = inl (0, lit< tt, refl)

-- what was declined isn't booked
not_declined : IsBooked declined (part 0) → ⊥
not_declined b = by b.answer b.given b.accepted
  where
    by : (answer : PartAnswer) → Contains declined.answers answer → is_accept answer.outcome ≡ true → ⊥
    by answer (zero, w, is) accepted = false≢true (subst (λ (a : PartAnswer). is_accept a.outcome ≡ true) (sym is) accepted)
    by answer (suc k, w, is) accepted = omega (arith, w)

-- of two revisions that were taken and accepted the later is booked, and not the older
later_is_booked : IsBooked taken_later (part 1)
later_is_booked = record { viewed = refl; set = refl; answer = given 1 Accept; given = (1, lit< tt, refl); to = refl; accepted = refl }

-- as that isn't in the view any more
older_left_the_view : in_view taken_later.taken (part 0) ≡ false
older_left_the_view = refl

older_is_not : IsBooked taken_later (part 0) → ⊥
older_is_not b = false≢true b.viewed

-- nor is any other part of its SEQUENCE
older_sequence : (other : Part) → other.revision.sequence ≡ 0 → IsBooked taken_later other → ⊥
older_sequence other zeroth b = by b.answer b.given b.to
  where
    by : (answer : PartAnswer) → Contains taken_later.answers answer → answer.claim.part ≡ other → ⊥
    by answer (zero, w, is) to =
        false≢true (subst (λ (p : Part). in_view taken_later.taken p ≡ true) (sym (ap (λ (a : PartAnswer). a.claim.part) is ∙ to)) b.viewed)
    by answer (suc zero, w, is) to =
        let n : 1 ≡ 0 = ap (λ (p : Part). p.revision.sequence) (ap (λ (a : PartAnswer). a.claim.part) is ∙ to) ∙ zeroth in omega (arith, n)
    by answer (suc (suc k), w, is) to = omega (arith, w)

-- the order in which they came doesn't matter
nor_came_late : IsBooked taken_late (part 0) → ⊥
nor_came_late b = false≢true b.viewed

-- the later is booked then too
later_came_first : IsBooked taken_late (part 1)
later_came_first = record { viewed = refl; set = refl; answer = given 1 Accept; given = (0, lit< tt, refl); to = refl; accepted = refl }

-- ---- what an organiser sees accepted is booked

abbrev heard : Heard
heard = record { uid = codes "s"; attendee = r1; slot = Whole; revision = record { sequence = 0; stamp = pos 6 }; answer = Accepted }

-- the organiser stored the meeting, and heard the room's reply; these octets were made of it
abbrev stored : List ℕ → ℕ → Stored
stored object sequence =
    record {
      uid = codes "s";
      events = meeting sequence ∷ [];
      revision = record { sequence = sequence; stamp = pos 5 };
      object = object;
      told = r1 ∷ [];
    }

abbrev organiser : List Stored → HostedOrganiser
organiser stores = record { address = ann; book = record { stores = stores; replies = heard ∷ [] } }

abbrev room : Book → Hosted
room book = record { address = r1; words = codes "+0000"; zone = None; book = book }

-- one thing is all that such a list contains
the_only : {X : Type 0} (x y : X) → Contains (x ∷ []) y → y ≡ x
the_only x y (zero, w, is) = sym is
the_only x y (suc k, w, is) = absurd (omega (arith, w))

-- a part among those of some events is one of them
of_part : {Event Made : Type 0} (R : Event → Made → Type 0) (events : List Event) (these : List Made) → AllZip R events these
    → (made : Made) → Contains these made → (event : Event) × Contains events event × R event made
of_part R [] [] each made (place, w, is) = absurd (omega (arith, w))
of_part R [] (one ∷ others) each made c = absurd each
of_part R (one ∷ others) [] each made c = absurd each
of_part R (event ∷ events) (one ∷ others) each made (zero, w, is) = (event, (0, omega arith, refl), subst (R event) is each.0)
of_part R (event ∷ events) (one ∷ others) each made (suc place, w, is) =
    let (found, (at, bound, same), of) = of_part R events others each.1 made (place, omega (arith, w), is) in
    (found, (suc at, omega (arith, bound), same), of)

-- the REQUEST has its one event for the room,
the_event : (message : Message) → message ≡ request 0 → (event : EventComponent) → Contains (parts_for r1 message) event → event ≡ meeting 0
the_event message is event c = by (subst (λ (m : Message). Contains (parts_for r1 m) event) is c)
  where
    by : Contains (meeting 0 ∷ []) event → event ≡ meeting 0
    by (zero, w, same) = sym same
    by (suc k, w, same) = absurd (omega (arith, w))

-- of SEQUENCE 0
raised : (message : Message) → message ≡ request 0 → (event : EventComponent) → event ≡ meeting 0
    → (revision_beside (master_in message.events) event).sequence ≡ 0
raised message is event own =
    ap (λ (m : Message). (revision_beside (master_in m.events) event).sequence) is
    ∙ ap (λ (e : EventComponent). (revision_beside (master_in (request 0).events) e).sequence) own

-- these octets are the REQUEST of the first store, and those what was made of the second
module _ (first second : List ℕ) (spells : SpellsMessage first (request 0)) where
  -- the organiser sees that the room has accepted,
  seen_accepted : IsSeen (organiser (stored first 0 ∷ [])).book (codes "s") Whole r1 (Some Accepted)
  seen_accepted = (stored first 0, refl, refl, (heard, (0, lit< tt, refl), refl, refl))

  -- and that is booked, whatever the zone of the room:
  sees_booked_in : (words : List ℕ) (zone : Option Zone)
      → SeesBooked (organiser (stored first 0 ∷ [])) (record { address = r1; words = words; zone = zone; book = taken }) (codes "s") Whole
  sees_booked_in words zone = record {
    stored = stored first 0;
    last = refl;
    has = record {
      message = request 0;
      spells = spells;
      request = refl;
      of_organiser = refl;
      of_uid = refl;
      parts = part 0 ∷ [];
      are = first_parts zone;
      part = part 0;
      among = (0, lit< tt, refl);
      of_slot = refl;
      booked = is_booked;
    };
  }

  sees_booked : SeesBooked (organiser (stored first 0 ∷ [])) (room taken) (codes "s") Whole
  sees_booked = sees_booked_in (codes "+0000") None

  -- the sentence holds of this world, for each meeting and each slot
  seen_is_booked : SeenIsBooked (record { rooms = room taken ∷ []; organisers = organiser (stored first 0 ∷ []) ∷ []; sent = first ∷ [] })
  seen_is_booked host there hosted in_rooms uid slot seen =
      let one = the_only (organiser (stored first 0 ∷ [])) host hosted in
      let own = the_only (room taken) there in_rooms in
      let is = subst (λ (r : Hosted). IsSeen (organiser (stored first 0 ∷ [])).book uid slot r.address (Some Accepted)) own
      (subst (λ (o : HostedOrganiser). IsSeen o.book uid slot there.address (Some Accepted)) one seen) in
      subst (λ (o : HostedOrganiser). SeesBooked o there uid slot) (sym one)
      (subst (λ (r : Hosted). SeesBooked (organiser (stored first 0 ∷ [])) r uid slot) (sym own) (by uid slot (of_meeting uid slot is) is))
    where
      known : (this : Stored) (b : Bool) (answer : Stored) → (if b then Some this else None) ≡ Some answer → b ≡ true
      known this true answer e = refl
      known this false answer e = absurd (false≢true (ap (λ (o : Option Stored). is_some o) e))

      of_meeting : (uid : List ℕ) (slot : Slot) → IsSeen (organiser (stored first 0 ∷ [])).book uid slot r1 (Some Accepted) → codes "s" ≡ uid
      of_meeting uid slot (answer, last, named, latest) = (bytes_eq-Decides (codes "s") uid).0 (known (stored first 0) (bytes_eq (codes "s") uid) answer last)

      of_whole : (slot : Slot) → IsSeen (organiser (stored first 0 ∷ [])).book (codes "s") slot r1 (Some Accepted)
          → SeesBooked (organiser (stored first 0 ∷ [])) (room taken) (codes "s") slot
      of_whole Whole is = sees_booked
      of_whole (At t) (answer, last, named, latest) =
          let same = same_Some answer (stored first 0) (sym last) in
          let none = subst (λ (st : Stored). IsSeenOf (organiser (stored first 0 ∷ [])).book st (At t) r1 Accepted) same latest in
          absurd (true≢false (ap is_accepted none))

      by : (uid : List ℕ) (slot : Slot) → codes "s" ≡ uid → IsSeen (organiser (stored first 0 ∷ [])).book uid slot r1 (Some Accepted)
          → SeesBooked (organiser (stored first 0 ∷ [])) (room taken) uid slot
      by uid slot same is =
          subst (λ (u : List ℕ). SeesBooked (organiser (stored first 0 ∷ [])) (room taken) u slot) same
          (of_whole slot (subst (λ (u : List ℕ). IsSeen (organiser (stored first 0 ∷ [])).book u slot r1 (Some Accepted)) (sym same) is))

  -- after the second store the old reply says nothing
  no_more_seen : IsSeen (organiser (stored second 1 ∷ stored first 0 ∷ [])).book (codes "s") Whole r1 (Some NeedsAction)
  no_more_seen = (stored second 1, refl, refl, refl)

  -- of what the room took, it isn't the older that is booked, where these octets say nothing else
  older_not_booked : ((message : Message) → SpellsMessage first message → message ≡ request 0) → HasBooked ann (codes "s") (room taken_later) Whole first → ⊥
  older_not_booked only h =
      let IsOf : EventComponent → Part → Type 0 = λ event part. (content : Content) × IsPart r1 None h.message event content part in
      let (event, among, (content, is)) = of_part IsOf (parts_for r1 h.message) h.are.all h.are.each h.part (h.are.are.among h.part h.among) in
      let own : event ≡ meeting 0 = the_event h.message (only h.message h.spells) event among in
      older_sequence h.part (ap (λ (r : Revision). r.sequence) is.revision ∙ raised h.message (only h.message h.spells) event own) h.booked

  -- and the sentence doesn't hold of every world: here the organiser sees accepted what the room has given up for a later store, which nobody made
  not_of_every_world : ((message : Message) → SpellsMessage first message → message ≡ request 0)
      → SeenIsBooked (record { rooms = room taken_later ∷ []; organisers = organiser (stored first 0 ∷ []) ∷ []; sent = first ∷ [] }) → ⊥
  not_of_every_world only holds =
      let host = organiser (stored first 0 ∷ []) in
      let sees = holds host (room taken_later) (0, omega arith, refl) (0, omega arith, refl) (codes "s") Whole seen_accepted in
      let same = same_Some sees.stored (stored first 0) (sym sees.last) in
      older_not_booked only (subst (λ (s : Stored). HasBooked ann (codes "s") (room taken_later) Whole s.object) same sees.has)
