-- The kept calendar spells the confirmed instances, and the kept certificate holds for them.
-- Cited by kept_texts_pass, kept_texts_spell, served_texts_pass.
use Rattle.std.proofs.Common.{◌≡◌, ◌≢◌, ◌∙◌, ℤ, true, false, not, ◌&&◌, ◌||◌, cond, List, [], ◌∷◌, ◌++◌, filter, length, map, codes, Option, Some, None, is_some, ℕ, inl, inr, refl, sym, ap, ap₂, subst, arith, Bool}
use Rattle.std.specs.Prelude.{◌↔◌, if◌then◌else◌, option_map}
use Rattle.std.specs.Option.{option_to_list}
use Rattle.std.specs.Ordering.{is_eq}
use Rattle.std.specs.List.{flat_map, list_all, list_any, Contains, AllZip}
use Rattle.std.specs.Str.{bytes_eq}
use Rattle.std.proofs.lemmas.Bool.{and_parts, and_from, false≢true, true≢false, cases_Bool, both_ways}
use Rattle.std.proofs.Math.Bool.{and-false}
use Rattle.std.proofs.lemmas.List.Folds.{list_all-append}
use Rattle.std.proofs.lemmas.Slice.Eq.{bytes_eq-Decides}
use Rattle.profile.specs.text.Lines.{is_content, logical_lines, reads_as_lines, written}
use Rattle.profile.specs.text.Objects.{is_property, IsObject}
use Rattle.profile.specs.text.Trees.{Tree}
use Rattle.profile.specs.events.EventComponents.{EventComponent, meeting_said}
use Rattle.profile.specs.events.Placed.{SaysPlaced}
use Rattle.profile.specs.series.RoomZones.{IsRoomZone, NamesRoomZone}
use Rattle.profile.specs.series.Zones.{Zone}
use Rattle.profile.specs.events.Events.{Event, is_master}
use Rattle.profile.specs.events.Starts.{IsInstance}
use Rattle.profile.specs.events.Confirmed.{Confirmed, AreApart, AreConfirmed, AreOfRule, AreSingles, IsOneOf, IsReplacedAmong, IsSeries, alone, by_its_rule, has_series, is_kept, is_series}
use Rattle.profile.specs.checker.Calendars.{SayEvents, SpellsCalendar, CertificateHolds}
use Rattle.profile.specs.checker.Naming.{IsOfOthers, IsOfRoom, are_of_room, is_not_accepted, names, not_accepted}
use Rattle.profile.specs.checker.Instances.{Instance, IsClear, Key}
use Rattle.profile.specs.rooms.Messages.{opening_lines, slot_of, slot_named}
use Rattle.profile.specs.rooms.Revisions.{Part, Slot, Whole, At, in_view, is_whole, same_meeting, same_part, same_place, slot_cmp}
use Rattle.profile.specs.rooms.Rooms.{Claim, PartAnswer, Book, Confirms, Recurring, confirmed_series, confirmed_singles, is_confirmed, is_hidden, is_set}
use Rattle.profile.specs.rooms.Kept.{KeptComponent, Shown, Hidden, part_kept, IsKept, IsKeptComponent, AreKept, IsKeptEvent, IsKeptCalendar, IsKeptCertificate, room_zone_lines, zone_texts, zones_kept}
use Rattle.profile.specs.streams.Streams.{IsReached}
use Rattle.cal_zones.proofs.OneRoomZone.{one_room_zone}
use Rattle.cal_events.proofs.reading_lemmas.OneCalendar.{OneEvent, same_events}
use Rattle.cal_events.proofs.reading_lemmas.OneText.{OneTree}
use Rattle.cal_events.proofs.shared_lemmas.OwnSingles.{master_alone}
use Rattle.cal_events.proofs.with_zone_lemmas.Worded.{line_content, shown_words, zone_line}
use Rattle.itip_order.proofs.Lasting.{view_taken}
use Rattle.itip_order.proofs.Lists.{in_head, in_tail, any_at, any_from}
use Rattle.itip_order.proofs.Registers.{same_part_is, same_part_refl}
use Rattle.itip_messages.proofs.shared_lemmas.ContentLines.{LinesBack, ReadsLines, no_method}
use Rattle.profile.proofs.MadeCertificates.{written_holds}
use Rattle.room_books.specs.Slots.{Reordered}
use Rattle.room_books.specs.Room.{Pairwise}
use Rattle.room_books.specs.Texts.{SpellsConfirmed}
use Rattle.room_books.proofs.shared_lemmas.AcceptedSlots.{slot_same}
use Rattle.room_books.proofs.laws_lemmas.KeptAnswers.{IsAskedFor, IsThere, instant_there, kept_there, shows_back, hides_back, set_body, set_zone}
use Rattle.itip_messages.proofs.law_lemmas.PartTexts.{IsRoom, asked_room}
use Rattle.room_books.proofs.laws_lemmas.KeptEntries.{SamePlace, EntriesDiffer, place_there, place_from, meeting_from, claims_confirmed, claims_kept, claims_same, entries_differ, entry_placed, of_claims}
use Rattle.room_books.proofs.laws_lemmas.KeptInstances.{IsHiding, none_left, series_left, singles_left}
use Rattle.room_books.proofs.laws_lemmas.KeptMeetings.{meeting_trans}
use Rattle.room_books.proofs.laws_lemmas.KeptReplaced.{excepted_by}
use Rattle.room_books.proofs.laws_lemmas.KeptRuns.{KeepsAll, runs_keep}
use Rattle.itip_messages.proofs.shared_lemmas.ObjectTree.{Lines, calendar_own, vevent_lines}
use Rattle.itip_messages.proofs.shared_lemmas.ZonedObjects.{AreOpening, IsOpenedTree, ZoneBack, calendar_opens, opened_spelled}
use Rattle.room_books.proofs.shared_lemmas.Loops.{zip_from, zip_to}
use Rattle.room_books.proofs.shared_lemmas.Pairs.{pairs_from}
use Rattle.room_books.proofs.shared_lemmas.Reordering.{re_back, re_flat, re_in, re_length}
use Rattle.room_books.proofs.laws_lemmas.ZonesIn.{HasZone, HaveZones, has_zone, zones_kept_are}

-- ---- the VEVENTs

-- the state of what is kept of an entry
abbrev IsState : List ℕ → EventComponent → KeptComponent → Type 0
IsState room said (Shown claim) = (is_kept room said ≡ true) × AreApart said claim.singles × AreOfRule said claim.series
IsState room said (Hidden part) = is_kept room said ≡ false

-- the event says the entry
record SaysEntry (room : List ℕ) (said : EventComponent) (entry : KeptComponent) : Type 0 where
  meeting : meeting_said said ≡ ((part_kept entry).organiser, (part_kept entry).uid)
  slot : slot_of said ≡ (part_kept entry).slot
  state : IsState room said entry
  there : IsThere room said

-- all VEVENTs read back, in a room of this zone, in an object with these lines of its own
record AllBack (room : List ℕ) (zone : Option Zone) (opening : Lines) (zones : List (List ℕ)) (entries : List KeptComponent) (each : List Lines) : Type 0 where
  owns : List Lines
  saids : List EventComponent
  are : flat_map (λ lines. lines) each ≡ flat_map vevent_lines owns
  properties : list_all (list_all is_property) owns ≡ true
  content : list_all (list_all is_content) owns ≡ true
  says : (all : List Lines) (k : IsOpenedTree opening zones all) → AllZip (SaysPlaced zone k.whole None) owns saids
  entries_are : AllZip (SaysEntry room) saids entries

record OneBack (room : List ℕ) (zone : Option Zone) (opening : Lines) (zones : List (List ℕ)) (entry : KeptComponent) (lines : Lines) : Type 0 where
  own : Lines
  said : EventComponent
  are : lines ≡ vevent_lines own
  properties : list_all is_property own ≡ true
  content : list_all is_content own ≡ true
  says : (all : List Lines) (k : IsOpenedTree opening zones all) → SaysPlaced zone k.whole None own said
  entry_is : SaysEntry room said entry

module _ (room : List ℕ) (zone : Option Zone) (book : Book) (k : KeepsAll room zone book) where
  -- a claim that is kept was asked for, and is to take place
  claim_asked : (first : Part) (claim : Claim) → IsKept book first claim → IsAskedFor room zone claim
  claim_asked first claim is = subst (IsAskedFor room zone) is.to (k.each is.answer is.given)

  claim_set : (first : Part) (claim : Claim) → IsKept book first claim → is_set claim.part ≡ true
  claim_set first claim is = ap (λ (c : Claim). is_set c.part) (sym is.to) ∙ k.set is.answer is.given

  room_asked : (first : Part) (claim : Claim) → IsKept book first claim → IsRoom room
  room_asked first claim is =
      let f = claim_asked first claim is in
      asked_room room claim.content claim.part f.asked (set_body room f.asked.given.method f.asked.event claim.content claim.part.body f.asked.is_part.body (claim_set first claim is)).names

  -- its zone is one that some VTIMEZONE says
  zone_asked : (first : Part) (claim : Claim) → IsKept book first claim → HasZone claim.content.zone
  zone_asked first claim is =
      let a = (claim_asked first claim is).asked in
      let set = set_body room a.given.method a.event claim.content claim.part.body a.is_part.body (claim_set first claim is) in
      has_zone claim.content a.event set.when (set_zone room claim.content claim.part a)

  module _ (words : List ℕ) (named : IsRoomZone words zone) (opening : Lines) (zones : List (List ℕ)) where
    one_back : (first : Part) (entry : KeptComponent) (lines : Lines) → IsKeptComponent book first entry → IsKeptEvent room zones entry lines → OneBack room zone opening zones entry lines
    one_back first (Shown claim) lines is event =
        let b = shows_back room words zone named opening zones claim lines (claim_asked first claim is) (claim_set first claim is) event in
        record {
          own = b.back.own;
          said = b.back.said;
          are = b.back.are;
          properties = b.back.properties;
          content = b.back.content;
          says = b.back.says;
          entry_is = record { meeting = b.back.meeting; slot = b.back.slot_is; state = (b.kept, b.apart, b.rule); there = kept_there room b.back.said b.kept };
        }
    one_back first (Hidden part) lines is (hiding, h, event) =
        let a = k.taken part (view_taken book.taken part is.viewed) in
        let b = hides_back room words zone named opening zones a.0 part lines hiding a.1 a.2 (room_asked first is.whole is.kept) h event in
        record {
          own = b.back.own;
          said = b.back.said;
          are = b.back.are;
          properties = b.back.properties;
          content = b.back.content;
          says = b.back.says;
          entry_is = record { meeting = b.back.meeting; slot = b.back.slot_is; state = b.kept; there = b.there };
        }

    all_back : (entries : List KeptComponent) (each : List Lines) → ((e : KeptComponent) → Contains entries e → (first : Part) × IsKeptComponent book first e) → AllZip (IsKeptEvent room zones) entries each → AllBack room zone opening zones entries each
    all_back [] [] f z = record { owns = []; saids = []; are = refl; properties = refl; content = refl; says = λ _ _. tt; entries_are = tt }
    all_back [] (lines ∷ each) f z = absurd z
    all_back (e ∷ entries) [] f z = absurd z
    all_back (e ∷ entries) (lines ∷ each) f z =
        let is = f e (in_head e entries) in
        let one = one_back is.0 e lines is.1 z.0 in
        let rest = all_back entries each (λ x c. f x (in_tail e entries x c)) z.1 in
        record {
          owns = one.own ∷ rest.owns;
          saids = one.said ∷ rest.saids;
          are = ap₂ (λ x y. x ++ y) one.are rest.are;
          properties = and_from _ _ one.properties rest.properties;
          content = and_from _ _ one.content rest.content;
          says = λ all t. (one.says all t, rest.says all t);
          entries_are = (one.entry_is, rest.entries_are);
        }

-- ---- each is another instance

saids_differ : (room : List ℕ) (saids : List EventComponent) (entries : List KeptComponent) → AllZip (SaysEntry room) saids entries → Pairwise EntriesDiffer entries → Pairwise (λ a b. meeting_said a ≡ meeting_said b → slot_of a ≢ slot_of b) saids
saids_differ room [] [] z d = tt
saids_differ room [] (e ∷ es) z d = absurd z
saids_differ room (s ∷ ss) [] z d = absurd z
saids_differ room (s ∷ ss) (e ∷ es) z d = (
  λ y c same slots.
      let other = zip_to (SaysEntry room) ss es y z.1 c in
      let meeting = sym z.0.meeting ∙ same ∙ other.2.meeting in
      d.0 other.0 other.1 (record { organiser = ap (λ (m : List ℕ × List ℕ). m.0) meeting; uid = ap (λ (m : List ℕ × List ℕ). m.1) meeting; slot = sym z.0.slot ∙ slots ∙ other.2.slot }),
  saids_differ room ss es z.1 d.1,
)

-- ---- each is one of the room

are_there : (room : List ℕ) (saids : List EventComponent) (entries : List KeptComponent) → AllZip (SaysEntry room) saids entries → (are_of_room room saids ≡ true) × (0 ≡ not_accepted room saids)
are_there room [] entries z = (refl, refl)
are_there room (s ∷ ss) [] z = absurd z
are_there room (s ∷ ss) (e ∷ es) z =
    let there = z.0.there in
    (ap (λ b. b || list_any (names room) ss) there.named, (are_there room ss es z.1).1 ∙ ap (λ b. length (cond b (s ∷ filter (is_not_accepted room) ss) (filter (is_not_accepted room) ss))) (sym there.counted))

-- ---- what is confirmed

-- the single instances that are left of a claim, and of an entry
abbrev singles_of_claim : List Part → Claim → List Instance
singles_of_claim taken claim = filter (λ booked. not (is_hidden taken claim.part booked)) claim.singles

abbrev singles_of : List Part → KeptComponent → List Instance
singles_of taken (Shown claim) = singles_of_claim taken claim
singles_of taken (Hidden part) = []

-- and the series of a claim, where it has one
abbrev recurring_of : Part → Option Event → List Recurring
recurring_of part series = option_to_list (option_map (λ meeting. record { part = part; meeting = meeting }) series)

abbrev series_of_claim : Claim → List Recurring
series_of_claim claim = recurring_of claim.part claim.series

abbrev all_series : List KeptComponent → List Recurring
all_series entries = flat_map series_of_claim (claims_kept entries)

-- the series of an event among others
abbrev series_of : List EventComponent → EventComponent → Event
series_of saids said = record { master = Some (by_its_rule said (excepted_by said saids).0); overrides = [] }

its_series : (saids : List EventComponent) (said : EventComponent) → IsSeries saids said (series_of saids said)
its_series saids said = record { exceptions = (excepted_by said saids).0; are = (excepted_by said saids).1; is = refl }

-- the instances of the series are those of the other that no other part hides
abbrev IsLeft : List Part → Event → Recurring → Type 0
IsLeft taken series recurring = (b : Instance) → IsInstance series b ↔ (IsInstance recurring.meeting b × (is_hidden taken recurring.part b ≡ false))

series_where : (room : List ℕ) (said : EventComponent) → is_series room said ≡ (is_kept room said && has_series said)
series_where room said = by (is_kept room said) (is_master said) (is_some said.rule)
  where
    by : (a b c : Bool) → (a && b && c) ≡ (a && (b && c))
    by true b c = refl
    by false b c = refl

-- ---- what is left of each

whole_there : (o : Option ℤ) → slot_named o ≡ Whole → o ≡ None
whole_there None e = refl
whole_there (Some u) e = cc

master_whole : (said : EventComponent) → is_master said ≡ true → said.recurrence ≡ None
master_whole said h = go said.recurrence h
  where
    go : (o : Option ℤ) → not (is_some o) ≡ true → o ≡ None
    go None e = refl
    go (Some t) e = absurd (true≢false (sym e))

module _ (room : List ℕ) (book : Book) (entries : List KeptComponent) (are : AreKept book entries) (saids : List EventComponent) (z : AllZip (SaysEntry room) saids entries) where
  -- the part of an entry was taken, and is in the view
  in_the_view : (first : Part) (entry : KeptComponent) → IsKeptComponent book first entry → in_view book.taken (part_kept entry) ≡ true
  in_the_view first (Shown claim) is = subst (λ (c : Claim). in_view book.taken c.part ≡ true) is.to (and_parts _ _ is.confirms).1
  in_the_view first (Hidden part) is = is.viewed

  -- beside a whole that is kept, each other part of its meeting in the view is an entry
  other_entry : (claim : Claim) → Contains entries (Shown claim) → is_whole claim.part ≡ true → (other : Part) → in_view book.taken other ≡ true → same_meeting claim.part other ≡ true → is_whole other ≡ false
      → (entry : KeptComponent) × Contains entries entry × (part_kept entry ≡ other)
  other_entry claim c whole other seen meeting instance =
      let p = entry_placed book entries are (Shown claim) c in
      let of_first : same_meeting p.first other ≡ true = meeting_trans p.first claim.part other p.is.of_meeting meeting in
      let accepts : PartAnswer → Bool = λ a. is_confirmed book.taken a && same_part a.claim.part other in
      elim (cases_Bool (list_any accepts book.answers)) [
        | inl there ↦
            let found = any_at accepts book.answers there in
            let both = and_parts _ _ found.2 in
            let same = same_part_is found.0.claim.part other both.1 in
            (Shown found.0.claim, p.all (Shown found.0.claim) (record { of_meeting = subst (λ (q : Part). same_meeting p.first q ≡ true) (sym same) of_first; answer = found.0; given = found.1; to = refl; confirms = both.0 }), same)
        | inr none ↦ (
          Hidden other,
          p.all (Hidden other) (record {
            of_meeting = of_first;
            viewed = seen;
            instance = instance;
            not_accepted = λ x is same.
                both_ways _ none (any_from accepts book.answers is.answer is.given (and_from _ _ is.confirms (ap (λ (c : Claim). same_part c.part other) is.to ∙ ap (λ (q : Part). same_part q other) same ∙ same_part_refl other)));
            whole = claim;
            kept = p.is;
            is_whole = whole;
          }),
          refl,
        )
      ]

  -- the instance of a shown claim is hidden where another entry is of its slot
  hidden_by : (claim : Claim) (booked : Instance) (entry : KeptComponent) → Contains entries entry → is_whole claim.part ≡ true → SamePlace (part_kept entry) (record claim.part { slot = At booked.key.slot }) → is_hidden book.taken claim.part booked ≡ true
  hidden_by claim booked entry c whole place =
      let p = entry_placed book entries are entry c in
      let seen = in_the_view p.first entry p.is in
      and_from _ _ whole (any_from (λ other. in_view book.taken other && same_place other (record claim.part { slot = At booked.key.slot })) book.taken (part_kept entry) (view_taken book.taken (part_kept entry) seen)
      (and_from _ _ seen (place_from (part_kept entry) (record claim.part { slot = At booked.key.slot }) place)))

  -- what hides the instances of a shown claim is what replaces them
  module _ (claim : Claim) (c : Contains entries (Shown claim)) (said : EventComponent) (s : SaysEntry room said (Shown claim)) where
    -- an instance of a master is at its slot
    at_slot : (b : Instance) → IsInstance (alone said) b → said.recurrence ≡ None → b.key.slot ≡ b.start
    at_slot b own none = ap (λ (k : Key). k.slot) (master_alone said b none own).key

    -- what replaces an instance of the whole
    replaces : (b : Instance) → IsInstance (alone said) b → is_master said ≡ true → IsReplacedAmong saids said b.start → is_hidden book.taken claim.part b ≡ true
    replaces b own master r =
        let found = zip_to (SaysEntry room) saids entries r.override z r.among.0 in
        let none = master_whole said master in
        let whole : claim.part.slot ≡ Whole = sym s.slot ∙ ap slot_named none in
        let meeting = sym found.2.meeting ∙ r.among.1 ∙ s.meeting in
        hidden_by claim b found.0 found.1 (ap (λ (o : Slot). is_eq (slot_cmp o Whole)) whole)
        (record {
          organiser = ap (λ (m : List ℕ × List ℕ). m.0) meeting;
          uid = ap (λ (m : List ℕ × List ℕ). m.1) meeting;
          slot = sym found.2.slot ∙ ap slot_named r.is ∙ ap At (sym (at_slot b own none));
        })

    -- where an instance is hidden, the event is of the whole
    whole_said : (b : Instance) → is_hidden book.taken claim.part b ≡ true → said.recurrence ≡ None
    whole_said b h = whole_there said.recurrence (s.slot ∙ slot_same claim.part.slot Whole (and_parts _ _ h).0)

    -- an event that says an entry of that place replaces it
    replaced_there : (b : Instance) (event : EventComponent) (entry : KeptComponent) (other : Part) → Contains saids event → SaysEntry room event entry → part_kept entry ≡ other → SamePlace other (record claim.part { slot = At b.key.slot }) → b.key.slot ≡ b.start
        → IsReplacedAmong saids said b.start
    replaced_there b event entry other among e same place start = record {
      override = event;
      among = (among, e.meeting ∙ (λ i. ((same i).organiser, (same i).uid)) ∙ (λ i. (place.organiser i, place.uid i)) ∙ sym s.meeting);
      is = instant_there event.recurrence b.start (e.slot ∙ ap (λ (q : Part). q.slot) same ∙ place.slot ∙ ap At start);
    }

    -- and something replaces it
    is_replaced : (b : Instance) → IsInstance (alone said) b → is_hidden book.taken claim.part b ≡ true → IsReplacedAmong saids said b.start
    is_replaced b own h =
        let both = and_parts _ _ h in
        let found = any_at (λ other. in_view book.taken other && same_place other (record claim.part { slot = At b.key.slot })) book.taken both.1 in
        let seen = and_parts _ _ found.2 in
        let place = place_there found.0 (record claim.part { slot = At b.key.slot }) seen.1 in
        let none = whole_said b h in
        let instance : is_whole found.0 ≡ false = ap (λ (o : Slot). is_eq (slot_cmp o Whole)) place.slot in
        let entry = other_entry claim c both.0 found.0 seen.0 (meeting_from claim.part found.0 (sym place.organiser) (sym place.uid)) instance in
        let event = zip_from (SaysEntry room) saids entries entry.0 z entry.1 in
        replaced_there b event.0 entry.0 found.0 event.1 event.2 entry.2 place (at_slot b own none)

    hiding : IsHiding saids said (is_hidden book.taken claim.part)
    hiding = record { replaced = is_replaced; hides = replaces; master = λ b h. ap (λ (o : Option ℤ). not (is_some o)) (whole_said b h) }

  left_one : (entry : KeptComponent) → Contains entries entry → (said : EventComponent) → SaysEntry room said entry → AreSingles room saids said (singles_of book.taken entry)
  left_one (Shown claim) c said s = singles_left saids said (is_hidden book.taken claim.part) (hiding claim c said s) room claim.singles s.state.0 s.state.1
  left_one (Hidden part) c said s = none_left room saids said s.state

  left_all : (ss : List EventComponent) (es : List KeptComponent) → AllZip (SaysEntry room) ss es → ((e : KeptComponent) → Contains es e → Contains entries e) → AllZip (AreSingles room saids) ss (map (singles_of book.taken) es)
  left_all [] [] y f = tt
  left_all [] (e ∷ es) y f = absurd y
  left_all (s ∷ ss) [] y f = absurd y
  left_all (s ∷ ss) (e ∷ es) y f = (left_one e (f e (in_head e es)) s y.0, left_all ss es y.1 (λ x c. f x (in_tail e es x c)))

  -- ---- its series

  series_one : (claim : Claim) → Contains entries (Shown claim) → (said : EventComponent) → SaysEntry room said (Shown claim) → (meeting : Event) → AreOfRule said (Some meeting)
      → IsLeft book.taken (series_of saids said) (record { part = claim.part; meeting = meeting })
  series_one claim c said s meeting of = series_left saids said (is_hidden book.taken claim.part) (hiding claim c said s) meeting (series_of saids said) of (its_series saids said)

  -- the series of these are those of these entries
  abbrev with_rules : List EventComponent → List EventComponent
  with_rules ss = filter (is_series room) ss

  abbrev AreSeries : List EventComponent → List KeptComponent → Type 0
  AreSeries ss es = AllZip (IsLeft book.taken) (map (series_of saids) (with_rules ss)) (all_series es)

  series_shown : (claim : Claim) → Contains entries (Shown claim) → (said : EventComponent) → SaysEntry room said (Shown claim) → (ss : List EventComponent) (es : List KeptComponent) → AreSeries ss es → AreSeries (said ∷ ss) (Shown claim ∷ es)
  series_shown claim c said s ss es rest = go claim.series s.state.2
    where
      go : (o : Option Event) → AreOfRule said o → AllZip (IsLeft book.taken) (map (series_of saids) (with_rules (said ∷ ss))) (recurring_of claim.part o ++ all_series es)
      go None of =
          let none : is_series room said ≡ false = series_where room said ∙ ap (λ b. is_kept room said && b) of ∙ and-false (is_kept room said) in
          subst (λ b. AllZip (IsLeft book.taken) (map (series_of saids) (cond b (said ∷ with_rules ss) (with_rules ss))) (all_series es)) (sym none) rest
      go (Some meeting) of =
          let some : is_series room said ≡ true = series_where room said ∙ and_from _ _ s.state.0 of.0 in
          subst (λ b. AllZip (IsLeft book.taken) (map (series_of saids) (cond b (said ∷ with_rules ss) (with_rules ss))) (record { part = claim.part; meeting = meeting } ∷ all_series es)) (sym some) (series_one claim c said s meeting of, rest)

  series_hidden : (part : Part) (said : EventComponent) → SaysEntry room said (Hidden part) → (ss : List EventComponent) (es : List KeptComponent) → AreSeries ss es → AreSeries (said ∷ ss) (Hidden part ∷ es)
  series_hidden part said s ss es rest =
      let none : is_series room said ≡ false = series_where room said ∙ ap (λ b. b && has_series said) s.state in
      subst (λ b. AllZip (IsLeft book.taken) (map (series_of saids) (cond b (said ∷ with_rules ss) (with_rules ss))) (all_series es)) (sym none) rest

  series_all : (ss : List EventComponent) (es : List KeptComponent) → AllZip (SaysEntry room) ss es → ((e : KeptComponent) → Contains es e → Contains entries e) → AreSeries ss es
  series_all [] [] y f = tt
  series_all [] (e ∷ es) y f = absurd y
  series_all (s ∷ ss) [] y f = absurd y
  series_all (s ∷ ss) (Shown claim ∷ es) y f = series_shown claim (f (Shown claim) (in_head (Shown claim) es)) s y.0 ss es (series_all ss es y.1 (λ x c. f x (in_tail (Shown claim) es x c)))
  series_all (s ∷ ss) (Hidden part ∷ es) y f = series_hidden part s y.0 ss es (series_all ss es y.1 (λ x c. f x (in_tail (Hidden part) es x c)))

-- ---- the calendar

-- its own lines name the zone of its room, by these words
opened : List ℕ → Lines
opened words = calendar_own None ++ room_zone_lines words

module _ (words : List ℕ) (zone : Option Zone) (named : IsRoomZone words zone) where
  opens : AreOpening (opened words)
  unfolding opened
  opens = by (bytes_eq words (codes "+0000"))
    where
      by : (b : Bool) → AreOpening (calendar_own None ++ (if b then [] else zone_line words ∷ []))
      by true = calendar_opens None no_method
      by false =
          let own = calendar_opens None no_method in
          let line = line_content words (shown_words words zone named) in
          record {
            properties = refl;
            version = refl;
            content = list_all-append is_content (calendar_own None) (zone_line words ∷ []) ∙ and_from _ _ own.content (and_from _ _ line refl);
          }

  names_zone : NamesRoomZone (opened words) zone
  unfolding opened
  names_zone = by (bytes_eq words (codes "+0000")) refl
    where
      by : (b : Bool) → bytes_eq words (codes "+0000") ≡ b → NamesRoomZone (calendar_own None ++ (if b then [] else zone_line words ∷ [])) zone
      by true is = (
        None,
        record { line = None; once = refl; present = λ h. absurd (false≢true h); is = tt },
        one_room_zone words zone None named ((bytes_eq-Decides words (codes "+0000")).0 is),
      )
      by false is = (
        Some zone,
        record { line = Some (zone_line words); once = refl; present = λ _. refl; is = named },
        refl,
      )

-- the singles one after another
flat_of_map : (taken : List Part) (es : List KeptComponent) → flat_map (λ l. l) (map (singles_of taken) es) ≡ flat_map (singles_of_claim taken) (claims_kept es)
flat_of_map taken [] = refl
flat_of_map taken (Shown claim ∷ es) = ap (λ l. singles_of_claim taken claim ++ l) (flat_of_map taken es)
flat_of_map taken (Hidden part ∷ es) = flat_of_map taken es

-- each event with a rule has its series
each_series : (saids ss : List EventComponent) → AllZip (IsSeries saids) ss (map (series_of saids) ss)
each_series saids [] = tt
each_series saids (s ∷ ss) = (its_series saids s, each_series saids ss)

all_singles : Book → List KeptComponent → List Instance
all_singles book entries = flat_map (singles_of_claim book.taken) (claims_kept entries)

-- what the events of a calendar confirm, where these are its entries
record SpellsEntries (room : List ℕ) (book : Book) (entries : List KeptComponent) (octets : List ℕ) : Type 0 where
  series : List Event
  each : AllZip (IsLeft book.taken) series (all_series entries)
  spells : SpellsCalendar room octets (record { series = series; singles = all_singles book entries })
  there : (are_of_room room spells.says.events ≡ true) × (0 ≡ not_accepted room spells.says.events)

module _ (back : LinesBack) (reads : ReadsLines) (zone_back : ZoneBack) where
  calendar_spelled : (room words : List ℕ) (zone : Option Zone) → IsRoomZone words zone → (book : Book) → KeepsAll room zone book → (octets : List ℕ) (c : IsKeptCalendar room words book octets) → SpellsEntries room book c.entries octets
  unfolding all_singles opened
  calendar_spelled room words zone named book keeps octets c =
      let zones = zones_kept c.entries in
      let b = all_back room zone book keeps words named (opened words) zones c.entries c.events (λ e h. let p = entry_placed book c.entries c.kept e h in (p.first, p.is)) c.each in
      let have : HaveZones c.entries = λ claim h. let p = entry_placed book c.entries c.kept (Shown claim) h in zone_asked room zone book keeps p.first claim p.is in
      let t = opened_spelled back zone_back (opened words) (opens words zone named) zones b.owns (zones_kept_are c.entries have) c.few b.properties b.content in
      let whole : octets ≡ written t.lines = c.is ∙ ap (λ l. written (opening_lines None ++ room_zone_lines words) ++ zone_texts 0 zones ++ written (l ++ codes "END:VCALENDAR" ∷ [])) b.are ∙ t.text in
      let logical : logical_lines octets ≡ t.lines = ap logical_lines whole ∙ back t.lines t.content in
      let differ = pairs_from (λ a b. meeting_said a ≡ meeting_said b → slot_of a ≢ slot_of b) b.saids (saids_differ room b.saids c.entries b.entries_are (entries_differ book c.entries c.kept)) in
      let singles = left_all room book c.entries c.kept b.saids b.entries_are b.saids c.entries b.entries_are (λ e h. h) in
      let series = map (series_of b.saids) (filter (is_series room) b.saids) in
      let are : AreConfirmed room b.saids (record { series = series; singles = flat_map (singles_of_claim book.taken) (claims_kept c.entries) }) =
      record { series = each_series b.saids (filter (is_series room) b.saids); lists = map (singles_of book.taken) c.entries; each = singles; singles = sym (flat_of_map book.taken c.entries) } in
      record {
        series = series;
        each = series_all room book c.entries c.kept b.saids b.entries_are b.saids c.entries b.entries_are (λ e h. h);
        spells = record {
          lines = ap (reads_as_lines false) whole ∙ reads t.lines t.content;
          tree = t.whole;
          object = subst (λ (l : Lines). IsObject false t.whole l) (sym logical) t.object;
          says = record {
            events = b.saids;
            says = record {
              zone = zone;
              names = subst (λ (own : Lines). NamesRoomZone own zone) (sym t.own) (names_zone words zone named);
              each = subst (λ (l : List Lines). AllZip (SaysPlaced zone t.whole None) l b.saids) (sym t.events) (b.says b.owns t);
            };
            masters = λ i j d l w m n same. differ i j d l w same (ap slot_named m ∙ sym (ap slot_named n));
            overrides = λ i j d l w slot m n same. differ i j d l w same (ap slot_named m ∙ sym (ap slot_named n));
            are = are;
          };
        };
        there = are_there room b.saids c.entries b.entries_are;
      }

-- ---- it is what the book has confirmed

zip_long : {X Y : Type 0} (R : X → Y → Type 0) (xs : List X) (ys : List Y) → AllZip R xs ys → length xs ≡ length ys
zip_long R [] [] z = refl
zip_long R [] (y ∷ ys) z = absurd z
zip_long R (x ∷ xs) [] z = absurd z
zip_long R (x ∷ xs) (y ∷ ys) z = let n = zip_long R xs ys z.1 in omega (arith, n)

module _ (room : List ℕ) (zone : Option Zone) (book : Book) (keeps : KeepsAll room zone book) (entries : List KeptComponent) (are : AreKept book entries) where
  claims : Reordered (claims_kept entries) (claims_confirmed book)
  claims = claims_same book entries are keeps.sound.known keeps.once

  singles_are : Reordered (all_singles book entries) (confirmed_singles book)
  unfolding all_singles
  singles_are =
      subst (λ (l : List Instance). Reordered (flat_map (singles_of_claim book.taken) (claims_kept entries)) l) (of_claims (singles_of_claim book.taken) (filter (is_confirmed book.taken) book.answers))
      (re_flat (singles_of_claim book.taken) (claims_kept entries) (claims_confirmed book) claims)

  series_are : Reordered (all_series entries) (confirmed_series book)
  series_are =
      subst (λ (l : List Recurring). Reordered (flat_map series_of_claim (claims_kept entries)) l) (of_claims series_of_claim (filter (is_confirmed book.taken) book.answers))
      (re_flat series_of_claim (claims_kept entries) (claims_confirmed book) claims)

  module _ (series : List Event) (each : AllZip (IsLeft book.taken) series (all_series entries)) where
    abbrev all : Confirmed
    all = record { series = series; singles = all_singles book entries }

    one_to : (b : Instance) → IsOneOf all b → Confirms book b
    one_to b (inl c) = inl (re_in (all_singles book entries) (confirmed_singles book) singles_are b c)
    one_to b (inr (m, c, is)) =
        let r = zip_to (IsLeft book.taken) series (all_series entries) m each c in
        let left = (r.2 b).0 is in
        inr (record { series = r.0; among = re_in (all_series entries) (confirmed_series book) series_are r.0 r.1; is = left.0; shown = left.1 })

    one_from : (b : Instance) → Confirms book b → IsOneOf all b
    one_from b (inl c) = inl (re_in (confirmed_singles book) (all_singles book entries) (re_back (all_singles book entries) (confirmed_singles book) singles_are) b c)
    one_from b (inr l) =
        let among = re_in (confirmed_series book) (all_series entries) (re_back (all_series entries) (confirmed_series book) series_are) l.series l.among in
        let m = zip_from (IsLeft book.taken) series (all_series entries) l.series each among in
        inr (m.0, m.1, (m.2 b).1 (l.is, l.shown))

keeps_same : LinesBack → ReadsLines → ZoneBack → (room words : List ℕ) (zone : Option Zone) → IsRoomZone words zone → (book : Book) → KeepsAll room zone book → (calendar : List ℕ) → IsKeptCalendar room words book calendar
    → SpellsConfirmed room book calendar
keeps_same back reads zone_back room words zone named book keeps calendar c =
    let s = calendar_spelled back reads zone_back room words zone named book keeps calendar c in
    record {
      all = record { series = s.series; singles = all_singles book c.entries };
      spells = s.spells;
      singles = re_length (all_singles book c.entries) (confirmed_singles book) (singles_are room zone book keeps c.entries c.kept);
      series = zip_long (IsLeft book.taken) s.series (all_series c.entries) s.each ∙ re_length (all_series c.entries) (confirmed_series book) (series_are room zone book keeps c.entries c.kept);
      exact = λ b. (one_to room zone book keeps c.entries c.kept s.series s.each b, one_from room zone book keeps c.entries c.kept s.series s.each b);
    }

-- it is one of the room
pub kept_there_for : LinesBack → ReadsLines → ZoneBack → (room words : List ℕ) (zone : Option Zone) (book : Book) (calendar : List ℕ) → IsRoomZone words zone → IsReached room zone book → IsKeptCalendar room words book calendar
    → IsOfRoom room calendar 0
kept_there_for back reads zone_back room words zone book calendar named r c =
    let s = calendar_spelled back reads zone_back room words zone named book (runs_keep room zone r.deliveries book r.delivered r.runs) calendar c in
    record { confirmed = record { series = s.series; singles = all_singles book c.entries }; spelled = s.spells; of_room = s.there.0; counted = s.there.1 }

-- and not one of others, as octets say one list of events
pub never_others : OneTree → OneEvent → (room octets : List ℕ) (count : ℕ) → IsOfRoom room octets count → IsOfOthers room octets → ⊥
never_others tree event room octets count is others =
    let s = is.spelled in
    let o = others.spelled in
    let same : s.tree ≡ o.tree = tree 7 7 (logical_lines octets) s.tree o.tree s.object.spelled o.object.spelled in
    let says : SayEvents o.tree s.says.events = subst (λ (t : Tree). SayEvents t s.says.events) same s.says.says in
    let events : s.says.events ≡ o.says.events = same_events event one_room_zone o.tree s.says.events o.says.events says o.says.says in
    true≢false (sym is.of_room ∙ (ap (are_of_room room) events ∙ others.of_others))

-- octets spell one calendar for a room
abbrev pub OneCalendar : Type 0
OneCalendar = (room octets : List ℕ) (a b : Confirmed) → SpellsCalendar room octets a → SpellsCalendar room octets b → a ≡ b

-- what is kept passes
pub keeps_pass : LinesBack → ReadsLines → ZoneBack → OneCalendar → (room words : List ℕ) (zone : Option Zone) → IsRoomZone words zone → (book : Book) → KeepsAll room zone book → (calendar : List ℕ) → IsKeptCalendar room words book calendar
    → (certificate : List ℕ) → IsKeptCertificate room calendar certificate → CertificateHolds room calendar certificate
keeps_pass back reads zone_back one room words zone named book keeps calendar c certificate k =
    let s = keeps_same back reads zone_back room words zone named book keeps calendar c in
    let same = one room calendar s.all k.confirmed s.spells k.spells in
    let clear : IsClear (IsOneOf s.all) = λ a b t x y clash. keeps.sound.good.clear a b t ((s.exact a).0 x) ((s.exact b).0 y) clash in
    record {
      confirmed = k.confirmed;
      spells = k.spells;
      holds = written_holds k.confirmed (subst (λ (all : Confirmed). IsClear (IsOneOf all)) same clear) k.c certificate k.is k.text;
    }

pub kept_same : LinesBack → ReadsLines → ZoneBack → (room words : List ℕ) (zone : Option Zone) (book : Book) → IsRoomZone words zone → IsReached room zone book → (calendar : List ℕ) → IsKeptCalendar room words book calendar
    → SpellsConfirmed room book calendar
kept_same back reads zone_back room words zone book named r = keeps_same back reads zone_back room words zone named book (runs_keep room zone r.deliveries book r.delivered r.runs)

-- whatever messages come, what is kept after them passes
pub kept_passes : LinesBack → ReadsLines → ZoneBack → OneCalendar → (room words : List ℕ) (zone : Option Zone) (book : Book) (calendar : List ℕ) → IsRoomZone words zone → IsReached room zone book → IsKeptCalendar room words book calendar
    → (certificate : List ℕ) → IsKeptCertificate room calendar certificate → CertificateHolds room calendar certificate
kept_passes back reads zone_back one room words zone book calendar named r =
    keeps_pass back reads zone_back one room words zone named book (runs_keep room zone r.deliveries book r.delivered r.runs) calendar
