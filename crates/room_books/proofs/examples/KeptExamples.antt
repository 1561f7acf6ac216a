-- A worked run: the octets of a REQUEST are delivered, for each of two days, and the room accepts it; then those of a CANCEL, of the second day.
-- The room keeps a series, with one start of it hidden.
use Rattle.std.proofs.Common.{false, ◌≡◌, ◌≢◌, ℕ, ◌≤◌, ◌⊎◌, ℤ, pos, ◌+ℤ◌, ◌≤ℤ◌, ◌<ℤ◌, true, List, [], ◌∷◌, ◌++◌, codes, Some, None, inl, inr, refl, sym, ap, subst, arith, ◌∙◌}
use Rattle.std.specs.List.{AllZip, Contains}
use Rattle.std.specs.Prelude.{Option}
use Rattle.std.specs.Ordering.{is_le}
use Rattle.std.specs.Str.{is_utf8, chars}
use Rattle.std.specs.declared.cmp.Ordering.TheVariants.{Less}
use Rattle.std.proofs.lemmas.Bool.{and_parts, cases_lt, false≢true, leb-true}
use Rattle.std.proofs.lemmas.Cmp.{tied_itself}
use Rattle.std.proofs.lemmas.Int.{ints}
use Rattle.std.proofs.lemmas.List.Elements.{All-from_recursion, All-nil}
use Rattle.std.specs.Fmt.{digits}
use lib.Utf8.{encode}
use Rattle.profile.specs.text.Lines.{logical_lines, reads_as_lines, written}
use Rattle.profile.specs.text.Values.{SpellsDate, SpellsDuration, WritesLocal, WritesStamp, IsAddress, unescaped}
use Rattle.profile.specs.text.Trees.{Tree, tree, none, more}
use Rattle.profile.specs.text.Objects.{IsObject}
use Rattle.profile.specs.text.Objects.SpellsBody.{nothing, property}
use Rattle.profile.specs.checker.Instances.{Instance, IsClear, IsWithin}
use Rattle.profile.specs.series.Days.{Daily, days_before_year, days_of_months, greatest, year_of, month_of, year_days_before, year_days_after, month_days_before, month_days_after, weekday_of, period_of}
use Rattle.profile.specs.series.Rules.{Rule, RuleText, UntilDay, rule_of, is_rule_day, is_within_count, is_counted, is_placed, mates_before, mates_after, is_mate, count_days, is_base, is_in_step, passes, passes_month, passes_month_day, passes_weekday, go_together}
use Rattle.profile.specs.series.RuleTexts.{rule_parts, after_key, months_from, numbers_from, entries_from, SpellsRule, IsKnownPart, EndsAt as UntilKey}
use Rattle.profile.specs.series.Zones.{Constant, Means, Zone, local_time}
use Rattle.profile.specs.events.Properties.{Fixed}
use Rattle.profile.specs.events.ZonedTimes.{EventTimes, SpellsMidnight}
use Rattle.profile.specs.events.EventRules.{GivesRule, SaysEventRule}
use Rattle.profile.specs.events.EventComponents.{EventComponent, NeedsAction, Cancel, Request, SaysEventComponent, meeting_said}
use Rattle.profile.specs.events.Events.{Event}
use Rattle.profile.specs.events.Starts.{ComesBefore, EndsAt, IsInstance, IsRuleStart, key_at}
use Rattle.profile.specs.events.Confirmed.{AreApart, AreOfRule, IsOfSeries, alone}
use Rattle.profile.specs.rooms.Messages.{AreGreatest, Content, IsContent, IsPart, WritesListed, WritesTimes, Accept, no_content, opening_lines}
use Rattle.profile.specs.events.Messages.{Message, SpellsMessage}
use Rattle.profile.specs.rooms.Revisions.{Part, Whole, At, Cancelled, Set, is_whole, slot_cmp}
use Rattle.profile.specs.rooms.Rooms.{PartAnswer, Book, Claim, Confirms, Delivery, IsShownInSeries, Recurring, Runs, empty_book, confirmed_series, is_hidden, answered}
use Rattle.profile.specs.streams.Streams.{IsDelivered}
use Rattle.profile.specs.rooms.Kept.{KeptComponent, Shown, Hidden, part_kept, IsKeptComponent, AreKept, AreKeptOf, IsKept, IsKeptEvent, IsKeptCalendar}
use Rattle.cal_events.proofs.shared_lemmas.Meanings.{utc_instant, utc_means}
use Rattle.cal_events.proofs.shared_lemmas.OneInstance.{booked_same}
use Rattle.cal_events.proofs.shared_lemmas.OwnSingles.{IsAtStart, at_start, from_start}
use Rattle.cal_events.proofs.shared_lemmas.InRooms.{fixed_placed}
use Rattle.itip_order.proofs.Lasting.{view_taken}
use Rattle.itip_order.proofs.Lists.{in_cons, in_head, in_tail, none_in_nil}
use Rattle.itip_order.proofs.Order.{part_total}
use Rattle.ical_values.proofs.Readings.{stamp_written}
use Rattle.itip_messages.proofs.examples.ReplyExamples.{stamp, start}
use Rattle.itip_messages.specs.Body.{crlf_lines}
use Rattle.itip_messages.specs.Law.{none_written}
use Rattle.itip_messages.specs.SentLaw.{time_as}
use Rattle.itip_messages.proofs.shared_lemmas.ObjectTree.{Lines, vevent_lines, parts_more}
use Rattle.room_books.proofs.shared_lemmas.Pairs.{pairs_from}

-- ---- the messages

abbrev pub room : List ℕ
room = codes "mailto:r1@example.com"

abbrev pub head_lines : List ℕ → Lines
head_lines method = codes "VERSION:2.0" ∷ codes "PRODID:-//Ann//EN" ∷ (codes "METHOD:" ++ method) ∷ []

abbrev pub lines_of : List ℕ → Lines → Lines
lines_of method own = codes "BEGIN:VCALENDAR" ∷ (head_lines method ++ (vevent_lines own ++ codes "END:VCALENDAR" ∷ []))

abbrev pub object_tree : List ℕ → Lines → Tree
object_tree method own = tree (codes "VCALENDAR") (head_lines method) (more (tree (codes "VEVENT") own none) none)

-- what is in a list of one is that one
pub only : {X : Type 0} (x y : X) → Contains (x ∷ []) y → y ≡ x
only x y c = elim (in_cons x [] y c) [ inl e ↦ sym e | inr nowhere ↦ absurd (none_in_nil y nowhere) ]

pub an_hour : SpellsDuration (codes "PT1H") 0 3600
an_hour = (
  codes "PT1H",
  (
    codes "T1H",
    inr (inr (inl (
      record {
        hour_part = codes "1H";
        minute_part = [];
        second_part = [];
        hours = 1;
        minutes = 0;
        seconds = 0;
        hour = inr (codes "1", (omega arith, (omega arith, tt), refl), refl);
        minute = inl (refl, refl);
        second = inl (refl, refl);
        some = omega arith;
        spelled = refl;
        counted = refl;
      },
      refl,
    ))),
    refl,
  ),
  inl refl,
)

pub ann : IsAddress (codes "mailto:ann@example.com")
ann = (codes "mailto", codes "ann@example.com", refl, refl, refl, omega arith)

pub the_room : IsAddress room
the_room = (codes "mailto", codes "r1@example.com", refl, refl, refl, omega arith)

-- ---- the first asks for two days

abbrev own_lines : Lines
own_lines =
    codes "UID:a" ∷ codes "DTSTAMP:20250301T120000Z" ∷ codes "DTSTART:20250310T090000Z" ∷ codes "DURATION:PT1H" ∷ codes "RRULE:FREQ=DAILY;UNTIL=20250311"
    ∷ codes "ORGANIZER:mailto:ann@example.com" ∷ codes "ATTENDEE:mailto:r1@example.com" ∷ []

abbrev times : EventTimes
times = record { form = Fixed; zone = None; local = pos 1_741_597_200; start = pos 1_741_597_200; length = record { days = 0; seconds = 3600 } }

abbrev two_days : RuleText
two_days = record {
  frequency = Daily;
  interval = 1;
  week_start = 0;
  months = [];
  month_days = [];
  weekdays = [];
  positions = [];
  count = None;
  until = Some (UntilDay (pos 20_158));
}

abbrev rule : Rule
rule = rule_of two_days 739_685 739_686

abbrev event : EventComponent
event = record {
  uid = codes "a";
  organiser = Some (codes "mailto:ann@example.com");
  stamp = Some (pos 1_740_830_400);
  sequence = 0;
  cancelled = false;
  recurrence = None;
  times = times;
  rule = Some rule;
  additions = [];
  exceptions = [];
  written = none_written None;
  summary = [];
  attendees = record { address = codes "mailto:r1@example.com"; participation = NeedsAction; scheduled = true } ∷ [];
}

second_day : SpellsDate (codes "20250311") (pos 20_158)
unfolding days_before_year days_of_months
second_day = record { year = 2025; month = 3; day = 11; first = omega arith; last = omega arith; date = (omega arith, omega arith, omega arith, omega arith); spelled = refl; counted = refl }

spells_two_days : SpellsRule (codes "FREQ=DAILY;UNTIL=20250311") two_days
unfolding after_key go_together
spells_two_days = record {
  known = All-from_recursion IsKnownPart (rule_parts (codes "FREQ=DAILY;UNTIL=20250311")) (inl (Daily, refl), (inr (UntilKey, codes "20250311", refl), tt));
  says = record {
    frequency = refl;
    interval = refl;
    count = refl;
    until = second_day;
    week_start = refl;
    months = refl;
    month_days = refl;
    weekdays = refl;
    positions = refl;
  };
  together = refl;
  one_end = refl;
}

first_listed : is_rule_day rule 739_685 ≡ true
unfolding is_rule_day is_within_count is_counted is_placed mates_before mates_after is_mate count_days is_base is_in_step passes passes_month passes_month_day passes_weekday weekday_of year_days_before year_days_after month_days_before month_days_after month_of year_of greatest days_of_months period_of
first_listed = refl

gives : GivesRule (Constant (pos 0)) (pos 1_741_597_200) two_days rule
gives = record { day = 739_685; second = 32_400; on = (omega arith, refl); last = 739_686; allowed = refl; is = refl; starts = first_listed }

says_rule : SaysEventRule own_lines times (Some rule)
says_rule = record {
  text = Some two_days;
  spells = record { line = Some (codes "RRULE:FREQ=DAILY;UNTIL=20250311"); once = refl; present = λ h. absurd (false≢true h); is = spells_two_days };
  gives = gives;
}

says : (object : Tree) → SaysEventComponent object (Some Request) own_lines event
unfolding unescaped
says object = record {
  uid = record { line = Some (codes "UID:a"); once = refl; present = λ _. refl; is = (refl, (omega arith, omega arith)) };
  organiser = record { line = Some (codes "ORGANIZER:mailto:ann@example.com"); once = refl; present = λ _. refl; is = (ann, refl) };
  stamp = record { line = Some (codes "DTSTAMP:20250301T120000Z"); once = refl; present = λ _. refl; is = stamp_written _ _ stamp };
  sequence = (None, record { line = None; once = refl; present = λ h. absurd (false≢true h); is = tt }, refl);
  status = (None, refl, refl);
  times = inl (record {
    line = codes "DTSTART:20250310T090000Z";
    once = refl;
    says = (refl, stamp_written _ _ start);
    means = utc_means (pos 1_741_597_200);
    end_line = None;
    duration_line = Some (codes "DURATION:PT1H");
    end_once = refl;
    duration_once = refl;
    lasts = (an_hour, tt);
    most = omega arith;
    in_dates = (omega (arith, ints), omega (arith, ints), omega (arith, ints));
  });
  rule = says_rule;
  occurrences = record {
    is = record { line = None; once = refl; present = λ h. absurd (false≢true h); is = tt };
    fixed_recurrence = λ h. absurd (false≢true h);
    adds = (tt, omega arith);
    inside = tt;
    takes = (tt, omega arith);
    alone = refl;
  };
  instants = record { slot = refl; added = refl; taken = refl };
  summary = refl;
  attendees = (record { address = (the_room, refl); participation = refl; scheduled = refl }, tt);
}

abbrev octets : List ℕ
octets = crlf_lines (lines_of (codes "REQUEST") own_lines)

are_lines : logical_lines octets ≡ lines_of (codes "REQUEST") own_lines
are_lines = refl

read : reads_as_lines true octets ≡ true
unfolding is_utf8 chars encode
read = refl

object : IsObject true (object_tree (codes "REQUEST") own_lines) (lines_of (codes "REQUEST") own_lines)
object = record {
  spelled = record {
    begin = codes "BEGIN:VCALENDAR";
    end = codes "END:VCALENDAR";
    body = head_lines (codes "REQUEST") ++ vevent_lines own_lines;
    are = refl;
    opens = record { begins = refl; names = refl };
    closes = record { ends = refl; names = refl };
    holds = parts_more 6 (head_lines (codes "REQUEST")) [] (head_lines (codes "REQUEST")) (own_lines ∷ []) (property _ refl (property _ refl (property _ refl nothing))) refl;
  };
  calendar = refl;
  version = refl;
  events = refl;
}

abbrev message : Message
message = record { method = Request; organiser = codes "mailto:ann@example.com"; uid = codes "a"; events = event ∷ [] }

spells : SpellsMessage octets message
spells = record {
  lines = read;
  tree = object_tree (codes "REQUEST") own_lines;
  object = subst (λ (l : Lines). IsObject true (object_tree (codes "REQUEST") own_lines) l) (sym are_lines) object;
  says = record {
    method = record { line = codes "METHOD:REQUEST"; once = refl; named = refl };
    events = event ∷ [];
    says = (says (object_tree (codes "REQUEST") own_lines), tt);
    taken = refl;
    are = record {
      some = omega arith;
      of_it = λ other c. ap meeting_said (only event other c);
      masters = let most : 1 ≤ 1 = omega arith in most;
      differ = pairs_from ◌≢◌ [] tt;
    };
    one_each = λ speaks. absurd (false≢true speaks);
  };
}

-- ---- what it claims

abbrev content : Content
content = record { lines = codes "DTSTART:20250310T090000Z" ∷ codes "DURATION:PT3600S" ∷ codes "RRULE:FREQ=DAILY;UNTIL=20250311" ∷ []; zone = None }

abbrev part : Part
part = record {
  organiser = codes "mailto:ann@example.com";
  uid = codes "a";
  slot = Whole;
  revision = record { sequence = 0; stamp = pos 1_740_830_400 };
  body = Set (codes "DTSTART:20250310T090000Z\r\nDURATION:PT3600S\r\nRRULE:FREQ=DAILY;UNTIL=20250311\r\n");
}

none_of : (Writes : List ℕ → ℤ → Type 0) (name : List ℕ) → WritesTimes Writes name [] []
none_of Writes name = record {
  ascending = [];
  are = record { exact = λ t. (λ c. c, λ c. c); order = pairs_from ◌<ℤ◌ [] tt };
  texts = [];
  each = tt;
  is = refl;
}

pub none_listed : (name : List ℕ) → WritesListed name [] []
none_listed name = record {
  fixed = [];
  floating = [];
  days = [];
  in_utc = none_of WritesStamp name;
  local = none_of WritesLocal name;
  dates = none_of SpellsMidnight (name ++ codes ";VALUE=DATE");
  are = refl;
}

is_content : IsContent content event
unfolding digits months_from numbers_from entries_from
is_content = record {
  start = codes "DTSTART:20250310T090000Z";
  starts = (codes "20250310T090000Z", start, refl);
  rule = codes "RRULE:FREQ=DAILY;UNTIL=20250311" ∷ [];
  recurs = (Some (codes "20250311"), second_day, refl);
  additions = [];
  adds = none_listed (codes "RDATE");
  exceptions = [];
  takes = none_listed (codes "EXDATE");
  are = refl;
  in_zone = tt;
}

is_part : (zone : Option Zone) → IsPart room zone message event content part
is_part z = record { organiser = refl; uid = refl; slot = (None, tt, refl); revision = refl; body = (refl, refl, is_content, refl) }

-- its instances

abbrev series : Event
series = record { master = Some event; overrides = [] }

abbrev booked_at : ℤ → ℤ → Instance
booked_at start end = record { key = record { organiser = codes "mailto:ann@example.com"; uid = codes "a"; slot = start }; start = start; end = end }

abbrev first : Instance
first = booked_at (pos 1_741_597_200) (pos 1_741_600_800)

abbrev second : Instance
second = booked_at (pos 1_741_683_600) (pos 1_741_687_200)

first_starts : IsRuleStart times rule (pos 1_741_597_200)
first_starts = record { first = 739_685; second = 32_400; on = (omega arith, refl); day = 739_685; listed = first_listed; means = utc_means (pos 1_741_597_200) }

-- no other day is the rule's
days : (day : ℕ) → is_rule_day rule day ≡ true → (day ≡ 739_685) ⊎ (day ≡ 739_686)
unfolding is_rule_day is_counted
days day h =
    let counted = and_parts _ _ (and_parts _ _ h).0 in
    let bounds = and_parts _ _ (and_parts _ _ (and_parts _ _ counted.0).0).0 in
    let from : 739_685 ≤ day = leb-true 739_685 day bounds.0 in
    let to : day ≤ 739_686 = leb-true day 739_686 bounds.1 in
    elim (cases_lt day 739_686) [ inl low ↦ inl (omega (arith, from, low)) | inr high ↦ inr (omega (arith, to, high)) ]

starts_then : (t : ℤ) → IsRuleStart times rule t → (t ≡ pos 1_741_597_200) ⊎ (t ≡ pos 1_741_683_600)
starts_then t s =
    let clock : s.second ≡ 32_400 = omega (arith, ints, s.on.0, s.on.1) in
    let means = utc_instant (local_time s.day 32_400) t (subst (λ (n : ℕ). Means (Constant (pos 0)) (local_time s.day n) t) clock s.means) in
    elim (days s.day s.listed) [ inl e ↦ inl (means ∙ ap (λ (n : ℕ). local_time n 32_400) e) | inr e ↦ inr (means ∙ ap (λ (n : ℕ). local_time n 32_400) e) ]

own_first : IsAtStart event first
own_first = record {
  starts = record {
    given = inl first_starts;
    in_dates = (omega (arith, ints), omega (arith, ints));
    not_excepted = none_in_nil (pos 1_741_597_200);
    not_replaced = λ r. none_in_nil r.override r.among;
  };
  key = refl;
  ends = (pos 1_741_597_200, inl (refl, refl), refl);
}

-- an instance that starts then is the one
one_at : (b : Instance) → IsAtStart event b → (start : ℤ) → b.start ≡ start → b ≡ booked_at start (start +ℤ pos 3600)
one_at b s start e = booked_same b (booked_at start (start +ℤ pos 3600)) (s.key ∙ ap (key_at event) e) e (at_end s.ends)
  where
    at_end : EndsAt times b.start b.end → b.end ≡ start +ℤ pos 3600
    at_end (later, inl d, same) = same ∙ ap (λ t. t +ℤ pos 3600) (d.1 ∙ e)
    at_end (later, inr d, same) = absurd (omega (arith, d.0))

-- each instance is the first or the second
which : (b : Instance) → IsInstance series b → (b ≡ first) ⊎ (b ≡ second)
which b is =
    let s = at_start event b is in
    elim s.starts.given [
      | inl g ↦ elim (starts_then b.start g) [ inl e ↦ inl (one_at b s (pos 1_741_597_200) e) | inr e ↦ inr (one_at b s (pos 1_741_683_600) e) ]
      | inr c ↦ absurd (none_in_nil b.start c)
    ]

-- and is one of the series
of_series : (b : Instance) → IsInstance series b → IsOfSeries event b
of_series b is =
    elim (at_start event b is).starts.given [ inl g ↦ record { master = refl; rule = rule; has = refl; starts = g } | inr c ↦ absurd (none_in_nil b.start c) ]

its_series : AreOfRule event (Some series)
its_series = (refl, λ b. (λ is. (is, of_series b is), λ own. own.0))

no_singles : AreApart event []
no_singles = record {
  each = All-nil (λ b. IsInstance (alone event) b × (IsOfSeries event b → ⊥));
  ordered = pairs_from ComesBefore [] tt;
  all = λ b is apart. absurd (apart (of_series b is));
}

abbrev claim : Claim
claim = record { part = part; content = content; singles = []; series = Some series }

abbrev delivery : Delivery
delivery = record { claims = claim ∷ []; moment = pos 1_740_830_500 }

-- where a message has one part, that is all
pub one_part : (only_claim : Claim) → AreGreatest (λ claim. claim.part) (only_claim ∷ []) (only_claim ∷ [])
one_part only_claim = record {
  among = λ one c. c;
  greatest = λ one c. (one, c, refl, ap is_le (tied_itself part_total one.part));
  order = pairs_from (λ a b. slot_cmp a.part.slot b.part.slot ≡ Less) (only_claim ∷ []) (λ other nowhere. absurd (none_in_nil other nowhere), tt);
}

-- its times are fixed: a room of each zone takes it so
delivered : (zone : Option Zone) → IsDelivered room zone delivery
delivered zone = record {
  octets = octets;
  message = message;
  spells = spells;
  are = record {
    all = claim ∷ [];
    each = (record { part = is_part zone; asks = (event, fixed_placed zone event refl (record { slot = refl; added = refl; taken = refl }), no_singles, its_series) }, tt);
    are = one_part claim;
  };
}

-- ---- the second cancels the second day

abbrev gone_lines : Lines
gone_lines =
    codes "UID:a" ∷ codes "RECURRENCE-ID:20250311T090000Z" ∷ codes "SEQUENCE:1" ∷ codes "DTSTAMP:20250301T120000Z" ∷ codes "ORGANIZER:mailto:ann@example.com" ∷ codes "ATTENDEE:mailto:r1@example.com" ∷ []

abbrev gone : EventComponent
gone = record {
  uid = codes "a";
  organiser = Some (codes "mailto:ann@example.com");
  stamp = Some (pos 1_740_830_400);
  sequence = 1;
  cancelled = false;
  recurrence = Some (pos 1_741_683_600);
  times = record { form = Fixed; zone = None; local = pos 0; start = pos 0; length = record { days = 0; seconds = 0 } };
  rule = None;
  additions = [];
  exceptions = [];
  written = none_written (Some (pos 1_741_683_600));
  summary = [];
  attendees = record { address = codes "mailto:r1@example.com"; participation = NeedsAction; scheduled = true } ∷ [];
}

second_start : WritesStamp (codes "20250311T090000Z") (pos 1_741_683_600)
unfolding days_before_year days_of_months
second_start = (
  codes "20250311T090000",
  record {
    date = codes "20250311";
    time = codes "090000";
    number = pos 20_158;
    second = 32_400;
    on = record { year = 2025; month = 3; day = 11; first = omega arith; last = omega arith; date = (omega arith, omega arith, omega arith, omega arith); spelled = refl; counted = refl };
    at_second = record { hour = 9; minute = 0; second = 0; hours = omega arith; minutes = omega arith; seconds = omega arith; spelled = refl; counted = refl };
    spelled = refl;
    counted = refl;
  },
  refl,
)

says_gone : (object : Tree) → SaysEventComponent object (Some Cancel) gone_lines gone
unfolding unescaped
says_gone object = record {
  uid = record { line = Some (codes "UID:a"); once = refl; present = λ _. refl; is = (refl, (omega arith, omega arith)) };
  organiser = record { line = Some (codes "ORGANIZER:mailto:ann@example.com"); once = refl; present = λ _. refl; is = (ann, refl) };
  stamp = record { line = Some (codes "DTSTAMP:20250301T120000Z"); once = refl; present = λ _. refl; is = stamp_written _ _ stamp };
  sequence = (
    Some 1,
    record { line = Some (codes "SEQUENCE:1"); once = refl; present = λ h. absurd (false≢true h); is = (codes "1", inl refl, (omega arith, (omega arith, tt), refl), omega arith) },
    refl,
  );
  status = (None, refl, refl);
  times = inr (
    refl,
    record {
      missing = refl;
      end_line = None;
      duration_line = None;
      end_once = refl;
      duration_once = refl;
      lasts = refl;
      most = omega arith;
      form = refl;
      zone = refl;
      local = refl;
      start = refl;
    },
  );
  rule = record { text = None; spells = record { line = None; once = refl; present = λ h. absurd (false≢true h); is = tt }; gives = refl };
  occurrences = record {
    is = record {
      line = Some (codes "RECURRENCE-ID:20250311T090000Z");
      once = refl;
      present = λ h. absurd (false≢true h);
      is = (
        refl,
        (None, pos 1_741_683_600, (refl, stamp_written _ _ second_start), utc_means (pos 1_741_683_600), (omega (arith, ints), omega (arith, ints), omega (arith, ints))),
      );
    };
    fixed_recurrence = λ h. absurd (false≢true h);
    adds = (tt, omega arith);
    inside = tt;
    takes = (tt, omega arith);
    alone = refl;
  };
  instants = record { slot = refl; added = refl; taken = refl };
  summary = refl;
  attendees = (record { address = (the_room, refl); participation = refl; scheduled = refl }, tt);
}

abbrev gone_octets : List ℕ
gone_octets = crlf_lines (lines_of (codes "CANCEL") gone_lines)

are_gone_lines : logical_lines gone_octets ≡ lines_of (codes "CANCEL") gone_lines
are_gone_lines = refl

read_gone : reads_as_lines true gone_octets ≡ true
unfolding is_utf8 chars encode
read_gone = refl

gone_object : IsObject true (object_tree (codes "CANCEL") gone_lines) (lines_of (codes "CANCEL") gone_lines)
gone_object = record {
  spelled = record {
    begin = codes "BEGIN:VCALENDAR";
    end = codes "END:VCALENDAR";
    body = head_lines (codes "CANCEL") ++ vevent_lines gone_lines;
    are = refl;
    opens = record { begins = refl; names = refl };
    closes = record { ends = refl; names = refl };
    holds = parts_more 6 (head_lines (codes "CANCEL")) [] (head_lines (codes "CANCEL")) (gone_lines ∷ []) (property _ refl (property _ refl (property _ refl nothing))) refl;
  };
  calendar = refl;
  version = refl;
  events = refl;
}

abbrev cancel : Message
cancel = record { method = Cancel; organiser = codes "mailto:ann@example.com"; uid = codes "a"; events = gone ∷ [] }

spells_cancel : SpellsMessage gone_octets cancel
spells_cancel = record {
  lines = read_gone;
  tree = object_tree (codes "CANCEL") gone_lines;
  object = subst (λ (l : Lines). IsObject true (object_tree (codes "CANCEL") gone_lines) l) (sym are_gone_lines) gone_object;
  says = record {
    method = record { line = codes "METHOD:CANCEL"; once = refl; named = refl };
    events = gone ∷ [];
    says = (says_gone (object_tree (codes "CANCEL") gone_lines), tt);
    taken = refl;
    are = record {
      some = omega arith;
      of_it = λ other c. ap meeting_said (only gone other c);
      masters = let most : 0 ≤ 1 = omega arith in most;
      differ = pairs_from ◌≢◌ (Some (time_as Fixed (pos 1_741_683_600)) ∷ []) (λ other nowhere. absurd (none_in_nil other nowhere), tt);
    };
    one_each = λ speaks. absurd (false≢true speaks);
  };
}

abbrev gone_part : Part
gone_part = record {
  organiser = codes "mailto:ann@example.com";
  uid = codes "a";
  slot = At (pos 1_741_683_600);
  revision = record { sequence = 1; stamp = pos 1_740_830_400 };
  body = Cancelled;
}

abbrev gone_claim : Claim
gone_claim = record { part = gone_part; content = no_content; singles = []; series = None }

abbrev cancelling : Delivery
cancelling = record { claims = gone_claim ∷ []; moment = pos 1_740_830_600 }

cancel_delivered : (zone : Option Zone) → IsDelivered room zone cancelling
cancel_delivered z = record {
  octets = gone_octets;
  message = cancel;
  spells = spells_cancel;
  are = record {
    all = gone_claim ∷ [];
    each = (record { part = record { organiser = refl; uid = refl; slot = (Some (pos 1_741_683_600), refl, refl); revision = refl; body = (refl, refl) }; asks = (refl, refl) }, tt);
    are = one_part gone_claim;
  };
}

-- ---- the run

abbrev once_taken : Book
once_taken = record { taken = part ∷ []; answers = answered (pos 1_740_830_500) Accept (claim ∷ []) }

abbrev both_taken : Book
both_taken = record { taken = part ∷ gone_part ∷ []; answers = answered (pos 1_740_830_500) Accept (claim ∷ []) }

abbrev recurring : Recurring
recurring = record { part = part; meeting = series }

-- what is confirmed is an instance of the series
of_it : (taken : List Part) (b : Instance) → IsShownInSeries taken (recurring ∷ []) b → IsInstance series b
of_it taken b l = subst (λ (r : Recurring). IsInstance r.meeting b) (only recurring l.series l.among) l.is

clear_both : IsClear (Confirms once_taken)
clear_both a b t c d clash = by (found a c) (found b d)
  where
    found : (x : Instance) → Confirms once_taken x → (x ≡ first) ⊎ (x ≡ second)
    found x (inl k) = absurd (none_in_nil x k)
    found x (inr l) = which x (of_it (part ∷ []) x l)

    apart : (x y : Instance) → x ≡ first → y ≡ second → IsWithin x.start x.end t → IsWithin y.start y.end t → ⊥
    apart x y d e before after =
        let ends = subst (λ (z : Instance). t <ℤ z.end) d before.1 in
        let starts = subst (λ (z : Instance). z.start ≤ℤ t) e after.0 in
        omega (arith, ints, ends, starts)

    by : (a ≡ first) ⊎ (a ≡ second) → (b ≡ first) ⊎ (b ≡ second) → ⊥
    by (inl d) (inl e) = clash.differ (ap (λ (z : Instance). z.key) (d ∙ sym e))
    by (inl d) (inr e) = apart a b d e clash.in_first clash.in_second
    by (inr d) (inl e) = apart b a e d clash.in_second clash.in_first
    by (inr d) (inr e) = clash.differ (ap (λ (z : Instance). z.key) (d ∙ sym e))

a_run : Runs empty_book (delivery ∷ cancelling ∷ []) both_taken
a_run = (
  once_taken,
  Accept,
  record { taken = refl; answers = refl; decided = λ _. (record { series = omega arith; singles = omega arith }, clear_both) },
  (both_taken, Accept, record { taken = refl; answers = refl; decided = λ h. absurd (false≢true h) }, refl),
)

-- one series, and of it the first day alone
one_series : confirmed_series both_taken ≡ recurring ∷ []
one_series = refl

first_confirmed : Confirms both_taken first
first_confirmed = inr (record { series = recurring; among = in_head recurring []; is = from_start event first own_first; shown = refl })

no_other : (b : Instance) → Confirms both_taken b → b ≡ first
no_other b (inl c) = absurd (none_in_nil b c)
no_other b (inr l) =
    elim (which b (of_it (part ∷ gone_part ∷ []) b l)) [
      | inl e ↦ e
      | inr e ↦
          let part_is : l.series.part ≡ part = ap (λ (r : Recurring). r.part) (only recurring l.series l.among) in
          absurd (false≢true (sym l.shown ∙ (λ i. is_hidden (part ∷ gone_part ∷ []) (part_is i) (e i))))
    ]

-- ---- what is kept

abbrev kept_lines : Lines
kept_lines = vevent_lines (codes "UID:a" ∷ codes "SEQUENCE:0" ∷ codes "DTSTAMP:20250301T120000Z" ∷ codes "DTSTART:20250310T090000Z" ∷ codes "DURATION:PT3600S" ∷ codes "RRULE:FREQ=DAILY;UNTIL=20250311" ∷ codes "ORGANIZER:mailto:ann@example.com" ∷ codes "ATTENDEE;PARTSTAT=ACCEPTED:mailto:r1@example.com" ∷ [])

abbrev hidden_lines : Lines
hidden_lines = vevent_lines (codes "UID:a" ∷ codes "RECURRENCE-ID:20250311T090000Z" ∷ codes "SEQUENCE:1" ∷ codes "DTSTAMP:20250301T120000Z" ∷ codes "DTSTART:20250311T090000Z" ∷ codes "DURATION:PT0S" ∷ codes "STATUS:CANCELLED" ∷ codes "ORGANIZER:mailto:ann@example.com" ∷ codes "ATTENDEE;PARTSTAT=DECLINED:mailto:r1@example.com" ∷ [])

-- the parts are all that was taken
of_instance : (p : Part) → Contains both_taken.taken p → is_whole p ≡ false → p ≡ gone_part
of_instance p c instance = elim (in_cons part (gone_part ∷ []) p c) [
  | inl e ↦ absurd (false≢true (sym instance ∙ ap is_whole (sym e)))
  | inr rest ↦ only gone_part p rest
]

abbrev the_answer : PartAnswer
the_answer = record { claim = claim; moment = pos 1_740_830_500; outcome = Accept }

is_kept : IsKept both_taken part claim
is_kept = record { of_meeting = refl; answer = the_answer; given = in_head the_answer []; to = refl; confirms = refl }

kept_claim : (c : Claim) → IsKept both_taken part c → c ≡ claim
kept_claim c k = sym k.to ∙ ap (λ (a : PartAnswer). a.claim) (only the_answer k.answer k.given)

-- the claim is shown, and the second day is hidden
all_kept : AreKeptOf both_taken part (Shown claim ∷ Hidden gone_part ∷ [])
all_kept = record {
  exact = λ entry. (is_entry entry, of_them entry);
  order = pairs_from (λ a b. slot_cmp (part_kept a).slot (part_kept b).slot ≡ Less) (Shown claim ∷ Hidden gone_part ∷ [])
      (λ other c. subst (λ (e : KeptComponent). slot_cmp part.slot (part_kept e).slot ≡ Less) (sym (only (Hidden gone_part) other c)) refl, (λ other nowhere. absurd (none_in_nil other nowhere), tt));
}
  where
    is_hidden : IsKeptComponent both_taken part (Hidden gone_part)
    is_hidden = record {
      of_meeting = refl;
      viewed = refl;
      instance = refl;
      not_accepted = λ c k same. false≢true (ap is_whole (sym same ∙ ap (λ (x : Claim). x.part) (kept_claim c k)));
      whole = claim;
      kept = is_kept;
      is_whole = refl;
    }

    is_entry : (entry : KeptComponent) → Contains (Shown claim ∷ Hidden gone_part ∷ []) entry → IsKeptComponent both_taken part entry
    is_entry entry c = elim (in_cons (Shown claim) (Hidden gone_part ∷ []) entry c) [
      | inl e ↦ subst (IsKeptComponent both_taken part) e is_kept
      | inr rest ↦ subst (IsKeptComponent both_taken part) (sym (only (Hidden gone_part) entry rest)) is_hidden
    ]

    of_them : (entry : KeptComponent) → IsKeptComponent both_taken part entry → Contains (Shown claim ∷ Hidden gone_part ∷ []) entry
    of_them (Shown other) k = subst (λ (c : Claim). Contains (Shown claim ∷ Hidden gone_part ∷ []) (Shown c)) (sym (kept_claim other k)) (in_head (Shown claim) (Hidden gone_part ∷ []))
    of_them (Hidden other) k =
        subst (λ (p : Part). Contains (Shown claim ∷ Hidden gone_part ∷ []) (Hidden p)) (sym (of_instance other (view_taken both_taken.taken other k.viewed) k.instance))
        (in_tail (Shown claim) (Hidden gone_part ∷ []) (Hidden gone_part) (in_head (Hidden gone_part) []))

abbrev all_entries : List KeptComponent
all_entries = Shown claim ∷ Hidden gone_part ∷ []

abbrev events_kept : Lines
events_kept = kept_lines ++ hidden_lines ++ codes "END:VCALENDAR" ∷ []

are_kept : AreKept both_taken all_entries
are_kept = record { by_meeting = all_entries ∷ []; each = (all_kept, tt); are = refl }

each_kept : AllZip (IsKeptEvent room []) all_entries (kept_lines ∷ hidden_lines ∷ [])
unfolding digits
each_kept = (
  (codes "Z", tt, record { slot = []; stamp = codes "20250301T120000Z"; tells_slot = refl; written_stamp = stamp; is = refl }),
  (
    (
      codes "DTSTART:20250311T090000Z" ∷ codes "DURATION:PT0S" ∷ codes "STATUS:CANCELLED" ∷ [],
      record { instant = pos 1_741_683_600; at = refl; text = codes "20250311T090000Z"; written = second_start; is = refl },
      record {
        slot = codes "RECURRENCE-ID:20250311T090000Z" ∷ [];
        stamp = codes "20250301T120000Z";
        tells_slot = (codes "20250311T090000Z", second_start, refl);
        written_stamp = stamp;
        is = refl;
      },
    ),
    tt,
  ),
)

-- of a room that goes by UTC
a_kept_calendar : IsKeptCalendar room (codes "+0000") both_taken (written (opening_lines None) ++ written events_kept)
unfolding encode chars
a_kept_calendar = record { entries = all_entries; kept = are_kept; few = omega arith; events = kept_lines ∷ hidden_lines ∷ []; each = each_kept; is = refl }

-- and of one in another zone, which its calendar names
a_zoned_calendar : IsKeptCalendar room (codes "-0500") both_taken (written (opening_lines None ++ codes "X-ROOM-ZONE:-0500" ∷ []) ++ written events_kept)
unfolding encode chars
a_zoned_calendar = record { entries = all_entries; kept = are_kept; few = omega arith; events = kept_lines ∷ hidden_lines ∷ []; each = each_kept; is = refl }
