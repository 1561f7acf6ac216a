-- A worked run in a room whose clocks are five hours behind UTC: a REQUEST without zone asks for nine o'clock; the room accepts it, and has confirmed
-- an instance at two o'clock in the afternoon, UTC. What it keeps names its zone, and says the start as it was written.
use Rattle.std.proofs.Common.{◌≡◌, ◌≢◌, ◌∙◌, ℕ, ◌≤◌, ℤ, pos, negsuc, ◌+ℤ◌, false, true, List, [], ◌∷◌, ◌++◌, codes, Some, None, inl, inr, refl, sym, ap, subst, arith}
use Rattle.std.specs.Prelude.{Option}
use Rattle.std.specs.List.{Contains}
use Rattle.std.specs.Str.{is_utf8, chars}
use Rattle.std.specs.Fmt.{digits}
use Rattle.std.specs.declared.cmp.Ordering.TheVariants.{Less}
use Rattle.std.proofs.lemmas.Bool.{false≢true}
use Rattle.std.proofs.lemmas.Int.{ints}
use Rattle.std.proofs.lemmas.List.Elements.{All-from_recursion}
use lib.Utf8.{encode}
use Rattle.profile.specs.text.Lines.{logical_lines, reads_as_lines, written}
use Rattle.profile.specs.text.Values.{WritesLocal, WritesOffset, unescaped}
use Rattle.profile.specs.text.Trees.{Tree}
use Rattle.profile.specs.text.Objects.{IsObject}
use Rattle.profile.specs.text.Objects.SpellsBody.{nothing, property}
use Rattle.profile.specs.checker.Instances.{Instance, IsClear}
use Rattle.profile.specs.series.Days.{days_before_year, days_of_months}
use Rattle.profile.specs.series.RoomZones.{IsRoomZone}
use Rattle.profile.specs.series.Zones.{Constant, Means, Zone}
use Rattle.profile.specs.events.Properties.{Floating}
use Rattle.profile.specs.events.ZonedTimes.{EventTimes}
use Rattle.profile.specs.events.EventComponents.{EventComponent, NeedsAction, Request, SaysEventComponent, meeting_said}
use Rattle.profile.specs.events.Placed.{IsPlaced}
use Rattle.profile.specs.events.Starts.{ComesBefore, EndsAt, IsInstance}
use Rattle.profile.specs.events.Confirmed.{AreApart, IsOfSeries, alone}
use Rattle.profile.specs.events.Messages.{Message, SpellsMessage}
use Rattle.profile.specs.rooms.Messages.{Accept, Content, IsContent, IsPart, opening_lines}
use Rattle.profile.specs.rooms.Revisions.{Part, Set, Whole, is_whole, slot_cmp}
use Rattle.profile.specs.rooms.Rooms.{Book, Claim, Confirms, Delivery, PartAnswer, Runs, answered, confirmed_singles, empty_book}
use Rattle.profile.specs.rooms.Kept.{AreKeptOf, Hidden, IsKept, IsKeptCalendar, IsKeptComponent, KeptComponent, Shown, part_kept}
use Rattle.profile.specs.streams.Streams.{IsDelivered}
use Rattle.cal_events.proofs.shared_lemmas.Meanings.{utc_means}
use Rattle.cal_events.proofs.shared_lemmas.OneInstance.{booked_same}
use Rattle.cal_events.proofs.shared_lemmas.OwnSingles.{IsAtStart, at_start, from_start}
use Rattle.ical_values.proofs.Readings.{clock_written, stamp_written}
use Rattle.itip_order.proofs.Lasting.{view_taken}
use Rattle.itip_order.proofs.Lists.{in_head, none_in_nil}
use Rattle.itip_messages.proofs.examples.ReplyExamples.{stamp}
use Rattle.itip_messages.proofs.shared_lemmas.ObjectTree.{Lines, vevent_lines, parts_more}
use Rattle.itip_messages.specs.Body.{crlf_lines}
use Rattle.itip_messages.specs.Law.{none_written}
use Rattle.room_books.proofs.examples.KeptExamples.{an_hour, ann, head_lines, lines_of, none_listed, object_tree, one_part, only, room, the_room}
use Rattle.room_books.proofs.shared_lemmas.Pairs.{pairs_from}

-- ---- the room's zone

abbrev words : List ℕ
words = codes "-0500"

abbrev clock : Zone
clock = Constant (negsuc 17_999)

abbrev zone : Option Zone
zone = Some clock

five_hours : WritesOffset words (negsuc 17_999)
five_hours = (codes "050000", record { hour = 5; minute = 0; second = 0; hours = omega arith; minutes = omega arith; seconds = omega arith; spelled = refl; counted = refl }, refl)

the_zone : IsRoomZone words zone
the_zone = inl (negsuc 17_999, (λ e. omega (arith, ints, e)), five_hours, refl)

-- nine o'clock there is two o'clock in the afternoon, UTC
nine : Means clock (pos 1_741_597_200) (pos 1_741_615_200)
nine = inl (record { shown = (negsuc 17_999, refl, omega (arith, ints)); least = λ other (offset, e, h). omega (arith, ints, e, h) })

-- ---- the message

written_start : WritesLocal (codes "20250310T090000") (pos 1_741_597_200)
unfolding days_before_year days_of_months
written_start = record {
  date = codes "20250310";
  time = codes "090000";
  number = pos 20_157;
  second = 32_400;
  on = record { year = 2025; month = 3; day = 10; first = omega arith; last = omega arith; date = (omega arith, omega arith, omega arith, omega arith); spelled = refl; counted = refl };
  at_second = record { hour = 9; minute = 0; second = 0; hours = omega arith; minutes = omega arith; seconds = omega arith; spelled = refl; counted = refl };
  spelled = refl;
  counted = refl;
}

abbrev own_lines : Lines
own_lines =
    codes "UID:b" ∷ codes "DTSTAMP:20250301T120000Z" ∷ codes "DTSTART:20250310T090000" ∷ codes "DURATION:PT1H"
    ∷ codes "ORGANIZER:mailto:ann@example.com" ∷ codes "ATTENDEE:mailto:r1@example.com" ∷ []

abbrev times : EventTimes
times = record { form = Floating; zone = None; local = pos 1_741_597_200; start = pos 1_741_597_200; length = record { days = 0; seconds = 3600 } }

abbrev event : EventComponent
event = record {
  uid = codes "b";
  organiser = Some (codes "mailto:ann@example.com");
  stamp = Some (pos 1_740_830_400);
  sequence = 0;
  cancelled = false;
  recurrence = None;
  times = times;
  rule = None;
  additions = [];
  exceptions = [];
  written = none_written None;
  summary = [];
  attendees = record { address = codes "mailto:r1@example.com"; participation = NeedsAction; scheduled = true } ∷ [];
}

says : (object : Tree) → SaysEventComponent object (Some Request) own_lines event
unfolding unescaped
says object = record {
  uid = record { line = Some (codes "UID:b"); once = refl; present = λ _. refl; is = (refl, (omega arith, omega arith)) };
  organiser = record { line = Some (codes "ORGANIZER:mailto:ann@example.com"); once = refl; present = λ _. refl; is = (ann, refl) };
  stamp = record { line = Some (codes "DTSTAMP:20250301T120000Z"); once = refl; present = λ _. refl; is = stamp_written _ _ stamp };
  sequence = (None, record { line = None; once = refl; present = λ h. absurd (false≢true h); is = tt }, refl);
  status = (None, refl, refl);
  times = inl (record {
    line = codes "DTSTART:20250310T090000";
    once = refl;
    says = (refl, (refl, refl, clock_written _ _ written_start));
    means = utc_means (pos 1_741_597_200);
    end_line = None;
    duration_line = Some (codes "DURATION:PT1H");
    end_once = refl;
    duration_once = refl;
    lasts = (an_hour, tt);
    most = omega arith;
    in_dates = (omega (arith, ints), omega (arith, ints));
  });
  rule = record { text = None; spells = record { line = None; once = refl; present = λ h. absurd (false≢true h); is = tt }; gives = tt };
  occurrences = record {
    is = record { line = None; once = refl; present = λ h. absurd (false≢true h); is = tt };
    fixed_recurrence = λ h. absurd (false≢true h);
    adds = (tt, omega arith);
    inside = tt;
    takes = (tt, omega arith);
    alone = refl;
  };
  instants = record { slot = refl; added = refl; taken = refl };
  summary = refl;
  attendees = (record { address = (the_room, refl); participation = refl; scheduled = refl }, tt);
}

abbrev octets : List ℕ
octets = crlf_lines (lines_of (codes "REQUEST") own_lines)

are_lines : logical_lines octets ≡ lines_of (codes "REQUEST") own_lines
are_lines = refl

read : reads_as_lines true octets ≡ true
unfolding is_utf8 chars encode
read = refl

object : IsObject true (object_tree (codes "REQUEST") own_lines) (lines_of (codes "REQUEST") own_lines)
object = record {
  spelled = record {
    begin = codes "BEGIN:VCALENDAR";
    end = codes "END:VCALENDAR";
    body = head_lines (codes "REQUEST") ++ vevent_lines own_lines;
    are = refl;
    opens = record { begins = refl; names = refl };
    closes = record { ends = refl; names = refl };
    holds = parts_more 6 (head_lines (codes "REQUEST")) [] (head_lines (codes "REQUEST")) (own_lines ∷ []) (property _ refl (property _ refl (property _ refl nothing))) refl;
  };
  calendar = refl;
  version = refl;
  events = refl;
}

abbrev message : Message
message = record { method = Request; organiser = codes "mailto:ann@example.com"; uid = codes "b"; events = event ∷ [] }

spells : SpellsMessage octets message
spells = record {
  lines = read;
  tree = object_tree (codes "REQUEST") own_lines;
  object = subst (λ (l : Lines). IsObject true (object_tree (codes "REQUEST") own_lines) l) (sym are_lines) object;
  says = record {
    method = record { line = codes "METHOD:REQUEST"; once = refl; named = refl };
    events = event ∷ [];
    says = (says (object_tree (codes "REQUEST") own_lines), tt);
    taken = refl;
    are = record {
      some = omega arith;
      of_it = λ other c. ap meeting_said (only event other c);
      masters = let most : 1 ≤ 1 = omega arith in most;
      differ = pairs_from ◌≢◌ [] tt;
    };
    one_each = λ speaks. absurd (false≢true speaks);
  };
}

-- ---- what it claims there

abbrev placed : EventComponent
placed = record event { times = record times { zone = zone; start = pos 1_741_615_200 } }

is_placed : IsPlaced zone event placed
is_placed = record {
  start = pos 1_741_615_200;
  recurrence = None;
  additions = [];
  exceptions = [];
  starts = nine;
  slot = tt;
  adds = tt;
  takes = tt;
  is = refl;
}

abbrev booked : Instance
booked = record {
  key = record { organiser = codes "mailto:ann@example.com"; uid = codes "b"; slot = pos 1_741_615_200 };
  start = pos 1_741_615_200;
  end = pos 1_741_618_800;
}

at_two : IsAtStart placed booked
at_two = record {
  starts = record {
    given = inl refl;
    in_dates = (omega (arith, ints), omega (arith, ints));
    not_excepted = none_in_nil (pos 1_741_615_200);
    not_replaced = λ r. none_in_nil r.override r.among;
  };
  key = refl;
  ends = (pos 1_741_615_200, inl (refl, refl), refl);
}

-- it is the one instance
the_one : (b : Instance) → IsInstance (alone placed) b → b ≡ booked
the_one b is =
    let s = at_start placed b is in
    elim s.starts.given [
      | inl e ↦ booked_same b booked (s.key ∙ ap (λ (t : ℤ). record { organiser = codes "mailto:ann@example.com"; uid = codes "b"; slot = t }) e) e (ends b e s.ends)
      | inr c ↦ absurd (none_in_nil b.start c)
    ]
  where
    ends : (b : Instance) → b.start ≡ pos 1_741_615_200 → EndsAt placed.times b.start b.end → b.end ≡ pos 1_741_618_800
    ends b e (later, inl d, same) = same ∙ ap (λ t. t +ℤ pos 3600) (d.1 ∙ e)
    ends b e (later, inr d, same) = absurd (omega (arith, d.0))

no_series : (b : Instance) → IsOfSeries placed b → ⊥
no_series b h = none_some h.rule h.has
  where
    none_some : {X : Type 0} (x : X) → None ≡ Some x → ⊥
    none_some x e = cc

single : AreApart placed (booked ∷ [])
single = record {
  each = All-from_recursion (λ b. IsInstance (alone placed) b × (IsOfSeries placed b → ⊥)) (booked ∷ []) ((from_start placed booked at_two, no_series booked), tt);
  ordered = pairs_from ComesBefore (booked ∷ []) (λ other nowhere. absurd (none_in_nil other nowhere), tt);
  all = λ b is apart. subst (Contains (booked ∷ [])) (sym (the_one b is)) (in_head booked []);
}

abbrev content : Content
content = record { lines = codes "DTSTART:20250310T090000" ∷ codes "DURATION:PT3600S" ∷ []; zone = None }

is_content : IsContent content event
unfolding digits
is_content = record {
  start = codes "DTSTART:20250310T090000";
  starts = (codes "20250310T090000", written_start, refl);
  rule = [];
  recurs = refl;
  additions = [];
  adds = none_listed (codes "RDATE");
  exceptions = [];
  takes = none_listed (codes "EXDATE");
  are = refl;
  in_zone = tt;
}

abbrev part : Part
part = record {
  organiser = codes "mailto:ann@example.com";
  uid = codes "b";
  slot = Whole;
  revision = record { sequence = 0; stamp = pos 1_740_830_400 };
  body = Set (codes "DTSTART:20250310T090000\r\nDURATION:PT3600S\r\n");
}

is_part : IsPart room zone message event content part
is_part = record { organiser = refl; uid = refl; slot = (None, tt, refl); revision = refl; body = (refl, refl, is_content, refl) }

abbrev claim : Claim
claim = record { part = part; content = content; singles = booked ∷ []; series = None }

abbrev delivery : Delivery
delivery = record { claims = claim ∷ []; moment = pos 1_740_830_500 }

delivered : IsDelivered room zone delivery
delivered = record {
  octets = octets;
  message = message;
  spells = spells;
  are = record { all = claim ∷ []; each = (record { part = is_part; asks = (placed, is_placed, single, refl) }, tt); are = one_part claim };
}

-- ---- the run

abbrev taken : Book
taken = record { taken = part ∷ []; answers = answered (pos 1_740_830_500) Accept (claim ∷ []) }

one_single : confirmed_singles taken ≡ booked ∷ []
one_single = refl

only_booked : (b : Instance) → Confirms taken b → b ≡ booked
only_booked b (inl c) = only booked b c
only_booked b (inr l) = absurd (none_in_nil l.series l.among)

clear : IsClear (Confirms taken)
clear a b t c d clash = clash.differ (ap (λ (z : Instance). z.key) (only_booked a c ∙ sym (only_booked b d)))

a_run : Runs empty_book (delivery ∷ []) taken
a_run = (taken, Accept, record { taken = refl; answers = refl; decided = λ _. (record { series = omega arith; singles = omega arith }, clear) }, refl)

-- ---- what is kept

abbrev kept_lines : Lines
kept_lines =
    vevent_lines (codes "UID:b" ∷ codes "SEQUENCE:0" ∷ codes "DTSTAMP:20250301T120000Z" ∷ codes "DTSTART:20250310T090000" ∷ codes "DURATION:PT3600S" ∷ codes "ORGANIZER:mailto:ann@example.com" ∷ codes "ATTENDEE;PARTSTAT=ACCEPTED:mailto:r1@example.com" ∷ [])

abbrev the_answer : PartAnswer
the_answer = record { claim = claim; moment = pos 1_740_830_500; outcome = Accept }

is_kept : IsKept taken part claim
is_kept = record { of_meeting = refl; answer = the_answer; given = in_head the_answer []; to = refl; confirms = refl }

all_kept : AreKeptOf taken part (Shown claim ∷ [])
all_kept = record {
  exact = λ entry. ((λ c. subst (IsKeptComponent taken part) (sym (only (Shown claim) entry c)) is_kept), of_them entry);
  order = pairs_from (λ a b. slot_cmp (part_kept a).slot (part_kept b).slot ≡ Less) (Shown claim ∷ []) (λ other nowhere. absurd (none_in_nil other nowhere), tt);
}
  where
    of_them : (entry : KeptComponent) → IsKeptComponent taken part entry → Contains (Shown claim ∷ []) entry
    of_them (Shown other) k =
        let same : other ≡ claim = sym k.to ∙ ap (λ (a : PartAnswer). a.claim) (only the_answer k.answer k.given) in
        subst (λ (c : Claim). Contains (Shown claim ∷ []) (Shown c)) (sym same) (in_head (Shown claim) [])
    of_them (Hidden other) k = absurd (false≢true (sym k.instance ∙ ap is_whole (only part other (view_taken taken.taken other k.viewed))))

a_kept_calendar : IsKeptCalendar room words taken (written (opening_lines None ++ codes "X-ROOM-ZONE:-0500" ∷ []) ++ written (kept_lines ++ codes "END:VCALENDAR" ∷ []))
unfolding digits encode chars
a_kept_calendar = record {
  entries = Shown claim ∷ [];
  kept = record { by_meeting = (Shown claim ∷ []) ∷ []; each = (all_kept, tt); are = refl };
  few = omega arith;
  events = kept_lines ∷ [];
  each = ((codes "Z", tt, record { slot = []; stamp = codes "20250301T120000Z"; tells_slot = refl; written_stamp = stamp; is = refl }), tt);
  is = refl;
}
