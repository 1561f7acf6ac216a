-- What a room answers to a message, and what it asks for then, is heard as it was written.
-- Cited by refreshes_are_heard, replies_are_heard.
use Rattle.std.proofs.Common.{◌≡◌, ◌∙◌, ℕ, ℤ, ◌<◌, ◌≤◌, Bool, true, false, not, ◌&&◌, ◌||◌, cond, List, [], ◌∷◌, length, map, filter, codes, Option, None, Some, refl, sym, ap, subst, arith, append-nil}
use Rattle.std.specs.Prelude.{AllPairs, Contains, ◌==◌, IsTrue, count_by, nat_lt, unwrap_or}
use Rattle.std.specs.List.{AllZip, list_any}
use Rattle.std.specs.declared.cmp.Ordering.TheVariants.{Less, Equal}
use Rattle.std.proofs.lemmas.Bool.{and_parts, false≢true}
use Rattle.std.proofs.lemmas.Bool.Decides.{nat_tests}
use Rattle.std.proofs.lemmas.Cmp.{tied_itself}
use Rattle.std.proofs.lemmas.List.{length-map, same_from_push}
use Rattle.std.proofs.lemmas.List.Kept.{AllPairs-filter}
use Rattle.std.proofs.lemmas.List.Sums.{length-filter}
use Rattle.profile.specs.text.Lines.{is_too_long, written, is_same_name}
use Rattle.profile.specs.text.Objects.{most_events}
use Rattle.profile.specs.text.Trees.{tree_inside, tree_name, tree_own, vevents}
use Rattle.profile.specs.events.EventComponents.{EventComponent, Method, Store, Request, Add, Cancel, Reply, Refresh, SaysEventComponent, meeting_said}
use Rattle.profile.specs.events.Messages.{NamesMethod, Message, SpellsMessage, is_to_rooms}
use Rattle.profile.specs.events.Placed.{IsAt}
use Rattle.profile.specs.events.Properties.{BothOrNeither}
use Rattle.profile.specs.organisers.Organisers.{heard_in}
use Rattle.profile.specs.rooms.Kept.{Refreshes, Replies, ShowsAnswer}
use Rattle.profile.specs.rooms.Messages.{Content, IsBody, IsSlotIn, is_add, is_addressed, is_for, is_part_for, names_room, object_lines, parts_for, slot_named, slot_of}
use Rattle.profile.specs.rooms.Revisions.{Body, Part, Slot, Whole, At, Set, Absent, Cancelled, in_view, slot_cmp}
use Rattle.profile.specs.rooms.Rooms.{Book, Claim, is_set, is_set_body, shown}
use Rattle.profile.specs.series.RoomZones.{IsRoomZone}
use Rattle.profile.specs.series.Zones.{Zone}
use Rattle.profile.specs.streams.Streams.{AreClaims, IsClaim}
use Rattle.cal_events.specs.MeetingComponents.{IsInEventDates}
use Rattle.cal_events.proofs.shared_lemmas.InOneOrder.{mapped_pairs, none_in, of_filtered, pairs_mapped}
use Rattle.cal_events.proofs.shared_lemmas.SeriesLemmas.{zip_back}
use Rattle.cal_events.proofs.shared_lemmas.Zips.{zip_length}
use Rattle.itip_order.proofs.Lists.{any_at, filter_no_longer, in_head, in_tail}
use Rattle.itip_order.proofs.Order.{slot_total}
use Rattle.ical_values.proofs.Readings.{stamp_written}
use Rattle.itip_messages.specs.Law.{AreTextAnswers, IsAnswerTo, IsReadAddress, IsVevent, SaysAnswerTo, SpellsRefresh, SpellsReply, answer_event, instant_of_slot, participation_answered, refresh_event}
use Rattle.itip_messages.proofs.law_lemmas.AnswerReads.{answer_reads, tail_of}
use Rattle.itip_messages.proofs.own_lines_lemmas.LinesBySlot.{as_many}
use Rattle.itip_messages.proofs.shared_lemmas.ContentLines.{LinesBack, ReadsLines, reply_method, refresh_method}
use Rattle.itip_messages.proofs.law_lemmas.HeardEvents.{IsInstance, answer_own, answer_says, refresh_own, refresh_says}
use Rattle.itip_messages.proofs.law_lemmas.HeardObjects.{Heard, IsBefore, object_heard}
use Rattle.itip_messages.proofs.law_lemmas.NoLonger.{no_longer}
use Rattle.itip_messages.proofs.shared_lemmas.ObjectTree.{Lines, calendar_own}
use Rattle.itip_messages.proofs.law_lemmas.PartTexts.{IsAsked, IsRoom, Named, asked_room, message_of, named, named_room}
use Rattle.itip_messages.proofs.law_lemmas.RefreshReads.{event_read}
use Rattle.itip_messages.proofs.shared_lemmas.ReplyLines.{one_read}

-- ---- what is claimed

-- what is known of a part that a message has for a room
record Known (organiser uid : List ℕ) (part : Part) : Type 0 where
  texts : Named part
  of_organiser : part.organiser ≡ organiser
  of_uid : part.uid ≡ uid

of_list : (name : Bool) (p : EventComponent → Bool) (events : List EventComponent) (e : EventComponent) → Contains (cond name (filter p events) []) e → Contains events e × (name ≡ true)
of_list true p events e c = ((of_filtered p events e c).0, refl)
of_list false p events e c = absurd (none_in e c)

-- it names an instance in the dates that an event may name
slot_named_in : (here : Option Zone) (event : EventComponent) (slot : Slot) → IsSlotIn here event slot → ((t : ℤ) → BothOrNeither (IsAt here) event.written.recurrence (Some t) → IsInEventDates t) → IsInstance slot
slot_named_in here event slot (None, at, is) f = subst IsInstance (sym is) tt
slot_named_in here event slot (Some t, at, is) f = subst IsInstance (sym is) (f t at)

module _ (read : List ℕ) (message : Message) (spells : SpellsMessage read message) (room : List ℕ) (zone : Option Zone) where
  abbrev asked : (event : EventComponent) (claim : Claim) → Contains (parts_for room message) event → IsClaim room zone message event claim → IsAsked room claim.content claim.part
  asked event claim c is = record {
    zone = zone;
    octets = read;
    given = message;
    spells = spells;
    event = event;
    to_rooms = (and_parts (is_to_rooms message.method) (list_any (is_for room message.method) message.events) (of_list (is_addressed room message) (is_part_for room message.method) message.events event c).1).0;
    among = (of_list (is_addressed room message) (is_part_for room message.method) message.events event c).0;
    is_part = is.part;
  }

  known : (event : EventComponent) (claim : Claim) → Contains (parts_for room message) event → IsClaim room zone message event claim → Known message.organiser message.uid claim.part
  known event claim c is =
      let a = asked event claim c is in
      let meeting : meeting_said event ≡ (claim.part.organiser, event.uid) = ap (λ (o : Option (List ℕ)). (unwrap_or o [], event.uid)) is.part.organiser in
      let one = spells.says.are.of_it event a.among in
      record {
        texts = named room claim.content claim.part a;
        of_organiser = ap (λ (p : List ℕ × List ℕ). p.0) (sym meeting ∙ one);
        of_uid = is.part.uid ∙ ap (λ (p : List ℕ × List ℕ). p.1) one;
      }

  of_claim : (claims : List Claim) → AreClaims room zone message claims → (claim : Claim) → Contains claims claim
      → (event : EventComponent) × Contains (parts_for room message) event × IsClaim room zone message event claim
  of_claim claims h claim c = zip_back (IsClaim room zone message) (parts_for room message) h.all claim h.each (h.are.among claim c)

  -- all are of its meeting
  of_meeting : (claims : List Claim) → AreClaims room zone message claims → (claim : Claim) → Contains claims claim → Known message.organiser message.uid claim.part
  of_meeting claims h claim c = let f = of_claim claims h claim c in known f.0 claim f.1 f.2

  -- and where words give the room its zone, each names an instance that RECURRENCE-ID may name
  instance_claimed : (words : List ℕ) → IsRoomZone words zone → (claims : List Claim) → AreClaims room zone message claims → (claim : Claim) → Contains claims claim → IsInstance claim.part.slot
  instance_claimed words gives claims h claim c =
      let f = of_claim claims h claim c in
      slot_named_in zone f.0 claim.part.slot f.2.part.slot ((message_of read message spells f.0 (asked f.0 claim f.1 f.2).among).says.dated words zone gives)

  -- ---- they are by their slots, and no more than a message may have

  abbrev IsEarlier : Claim → Claim → Type 0
  IsEarlier a b = slot_cmp a.part.slot b.part.slot ≡ Less

  not_earlier : (claim : Claim) → IsEarlier claim claim → ⊥
  not_earlier claim l = let e = tied_itself slot_total claim.part.slot in let x : Less ≡ Equal = sym l ∙ e in cc

  few_said : length message.events ≤ 200
  few_said =
      let s = spells.says in
      let inside = filter (λ part. is_same_name (tree_name part) (codes "VEVENT")) (tree_inside spells.tree) in
      let count : length s.events ≡ count_by (λ part. is_same_name (tree_name part) (codes "VEVENT")) (tree_inside spells.tree) =
      sym (zip_length (SaysEventComponent spells.tree (Some message.method)) (vevents spells.tree) s.events s.says) ∙ length-map inside tree_own ∙ length-filter (λ part. is_same_name (tree_name part) (codes "VEVENT")) (tree_inside spells.tree) in
      let most = at_most most_events _ spells.object.events in
      omega (arith, ap length s.taken, count, most, as_many message.method s.events)
    where
      at_most : (a b : ℕ) → nat_lt a b ≡ false → b ≤ a
      at_most a b h = grind (arith, nat_tests)

  no_more : (name : Bool) (p : EventComponent → Bool) (events : List EventComponent) → length (cond name (filter p events) []) ≤ length events
  no_more true p events = filter_no_longer p events
  no_more false p events = omega arith

  few_claims : (claims : List Claim) → AreClaims room zone message claims → length claims ≤ 200
  few_claims claims h =
      let here = no_longer IsEarlier not_earlier h.all claims h.are.order h.are.among in
      let these = no_more (is_addressed room message) (is_part_for room message.method) message.events in
      omega (arith, few_said, here, these, zip_length (IsClaim room zone message) (parts_for room message) h.all h.each)

  -- ---- the room is one that the message names

  set_named : (method : Method) (event : EventComponent) (content : Content) (body : Body) → is_set_body body ≡ true → IsBody room method event content body → names_room room event ≡ true
  set_named method event content (Set octets) h b = b.1
  set_named method event content Absent h b = absurd (false≢true h)
  set_named method event content Cancelled h b = absurd (false≢true h)

  set_room : (claims : List Claim) → AreClaims room zone message claims → (claim : Claim) → Contains claims claim → is_set claim.part ≡ true → IsRoom room
  set_room claims h claim c set =
      let f = of_claim claims h claim c in
      asked_room room claim.content claim.part (asked f.0 claim f.1 f.2) (set_named message.method f.0 claim.content claim.part.body set f.2.part.body)

home_of : (room : List ℕ) → IsRoom room → IsReadAddress room
home_of room r = record { address = r.text.address; lower = r.lower }

organiser_of : (part : Part) → Named part → IsReadAddress part.organiser
organiser_of part n = record { address = n.organiser.address; lower = n.lower }

-- ---- the VEVENTs of a reply

slot_back : (slot : Slot) → slot_named (instant_of_slot slot) ≡ slot
slot_back Whole = refl
slot_back (At t) = refl

module _ (room organiser uid : List ℕ) (home : IsRoom room) (book : Book) (names : AreTextAnswers book) where
  one_heard : (claim : Claim) (lines : Lines) → Known organiser uid claim.part → IsInstance claim.part.slot → (s : ShowsAnswer room book claim lines) → Heard Reply organiser uid lines (answer_event room claim.part s.answer.moment s.answer.outcome)
  one_heard claim lines k instance s =
      let e = s.shows in
      let part = claim.part in
      let n = k.texts in
      let outcome = s.answer.outcome in
      let r = one_read room lines home.text (record {
        part = part;
        moment = s.answer.moment;
        outcome = outcome;
        shows = e;
        writable = record { organiser = n.organiser; uid = n.uid; sequence = n.small; keys = names s.answer s.kept };
      }) in
      let mine = answer_own room part outcome e.slot e.status e.stamp in
      let vevent : IsVevent mine lines = e.is in
      let same : mine ≡ r.own = (same_from_push mine r.own (codes "END:VEVENT") (codes "END:VEVENT") (tail_of (codes "BEGIN:VEVENT") (codes "BEGIN:VEVENT") _ _ (sym vevent ∙ r.are))).0 in
      let said = answer_reads room part s.answer.moment outcome lines mine (home_of room home) (organiser_of part n) n.is_uid n.small e vevent in
      record {
        own = r.own;
        are = r.are;
        good = r.good;
        says = λ object.
            subst (λ (own : Lines). SaysEventComponent object (Some Reply) own (answer_event room part s.answer.moment outcome)) same
            (answer_says room part s.answer.moment outcome e.slot e.status e.stamp e.tells_slot e.tells_outcome instance said object);
        meeting = λ i. (k.of_organiser i, k.of_uid i);
        one = refl;
      }

  record Answers (claims : List Claim) (texts : List Lines) : Type 0 where
    events : List EventComponent
    heard : AllZip (Heard Reply organiser uid) texts events
    says : AllZip (SaysAnswerTo room book) claims events
    hears : AllZip (IsAnswerTo room book) claims (heard_in events)
    slots : map slot_of events ≡ map (λ (claim : Claim). claim.part.slot) claims

  answers : (claims : List Claim) (texts : List Lines) → ((claim : Claim) → Contains claims claim → Known organiser uid claim.part × IsInstance claim.part.slot) → AllZip (ShowsAnswer room book) claims texts → Answers claims texts
  answers [] [] f z = record { events = []; heard = tt; says = tt; hears = tt; slots = refl }
  answers [] (lines ∷ texts) f z = absurd z
  answers (claim ∷ claims) [] f z = absurd z
  answers (claim ∷ claims) (lines ∷ texts) f z =
      let s = z.0 in
      let rest = answers claims texts (λ c k. f c (in_tail claim claims c k)) z.1 in
      let part = claim.part in
      let slot = slot_back part.slot in
      let here = f claim (in_head claim claims) in
      record {
        events = answer_event room part s.answer.moment s.answer.outcome ∷ rest.events;
        heard = (one_heard claim lines here.0 here.1 s, rest.heard);
        says = ((s.answer, s.kept, s.of_part, refl), rest.says);
        hears = (
          (
            s.answer,
            s.kept,
            s.of_part,
            ap (λ (x : Slot). record { uid = part.uid; attendee = room; slot = x; revision = record { sequence = part.revision.sequence; stamp = s.answer.moment }; answer = participation_answered s.answer.outcome }) slot,
          ),
          rest.hears,
        );
        slots = λ i. slot i ∷ rest.slots i;
      }

-- ---- the laws

first_there : {X : Type 0} (xs : List X) → IsTrue (not (length xs == 0)) → (x : X) × Contains xs x
first_there [] h = absurd (false≢true h)
first_there (x ∷ xs) h = (x, in_head x xs)

some_there : {X : Type 0} (xs : List X) (x : X) → Contains xs x → 0 < length xs
some_there xs x c = omega (arith, c.1)

reply_named : NamesMethod (calendar_own (Some (codes "REPLY"))) Reply
reply_named = record { line = codes "METHOD:REPLY"; once = refl; named = refl }

refresh_named : NamesMethod (calendar_own (Some (codes "REFRESH"))) Refresh
refresh_named = record { line = codes "METHOD:REFRESH"; once = refl; named = refl }

pub replies_heard : LinesBack → ReadsLines → (read : List ℕ) (message : Message) (room words : List ℕ) (zone : Option Zone) (book : Book) (claims : List Claim) (octets : List ℕ) → SpellsMessage read message → IsRoomZone words zone
    → AreClaims room zone message claims → AreTextAnswers book → Replies room book claims (Some octets) → is_too_long octets ≡ false → SpellsReply room book (shown book.taken claims) octets
replies_heard back reads read message room words zone book claims octets spells gives h names (some, r) short =
    let these = shown book.taken claims in
    let passes : Claim → Bool = λ c. is_set c.part && in_view book.taken c.part in
    let first = first_there these some in
    let from = of_filtered passes claims first.0 first.1 in
    let home = set_room read message spells room zone claims h first.0 from.0 (and_parts (is_set first.0.part) (in_view book.taken first.0.part) from.1).0 in
    let a = answers room message.organiser message.uid home book names these r.events
    (λ c k. let there = (of_filtered passes claims c k).0 in (of_meeting read message spells room zone claims h c there, instance_claimed read message spells room zone words gives claims h c there)) r.each in
    let count : length these ≡ length a.events = zip_length (SaysAnswerTo room book) these a.events a.says in
    let few : length a.events ≤ 200 = omega (arith, few_claims read message spells room zone claims h, filter_no_longer passes claims, count) in
    let order : AllPairs IsBefore a.events =
    mapped_pairs (λ (x y : Slot). slot_cmp x y ≡ Less) slot_of a.events
    (subst (AllPairs (λ (x y : Slot). slot_cmp x y ≡ Less)) (sym a.slots)
    (pairs_mapped (λ (x y : Slot). slot_cmp x y ≡ Less) (λ (c : Claim). c.part.slot) these
    (AllPairs-filter (λ (x y : Claim). slot_cmp x.part.slot y.part.slot ≡ Less) passes claims h.are.order))) in
    record {
      organiser = message.organiser;
      uid = message.uid;
      events = a.events;
      spells = object_heard back reads (codes "REPLY") Reply reply_method reply_named refl message.organiser message.uid r.events a.events octets a.heard (omega (arith, count, some_there these first.0 first.1)) few order r.is short;
      says = a.says;
      heard = a.hears;
    }

-- a message that adds names the room where it has a part for it
added_names : (room : List ℕ) (message : Message) → is_add message.method ≡ true → (event : EventComponent) → is_for room message.method event ≡ true → names_room room event ≡ true
added_names room message adds event is = go message.method adds is
  where
    other : (b : Bool) → (b || (false && (length event.attendees == 0))) ≡ true → b ≡ true
    other true n = refl
    other false n = n

    go : (method : Method) → is_add method ≡ true → is_for room method event ≡ true → names_room room event ≡ true
    go Store h n = absurd (false≢true h)
    go Request h n = absurd (false≢true h)
    go Cancel h n = absurd (false≢true h)
    go Reply h n = absurd (false≢true h)
    go Refresh h n = absurd (false≢true h)
    go Add h n = other (names_room room event) n

pub refreshes_heard : LinesBack → ReadsLines → (read : List ℕ) (message : Message) (room : List ℕ) (zone : Option Zone) (before after : List Part) (claims : List Claim) (moment : ℤ) (octets : List ℕ) → SpellsMessage read message
    → AreClaims room zone message claims
    → Refreshes room (is_add message.method) before after claims moment (Some octets) → is_too_long octets ≡ false → SpellsRefresh room claims moment octets
refreshes_heard back reads read message room zone before after claims moment octets spells h (wanted, r) short =
    let adds = (and_parts (is_add message.method) _ wanted).0 in
    let claim = r.claim in
    let part = claim.part in
    let f = of_claim read message spells room zone claims h claim r.of_them in
    let addressed = (of_list (is_addressed room message) (is_part_for room message.method) message.events f.0 f.1).1 in
    let one = any_at (is_for room message.method) message.events (and_parts (is_to_rooms message.method) (list_any (is_for room message.method) message.events) addressed).1 in
    let home = named_room room (message_of read message spells one.0 one.1) (added_names room message adds one.0 one.2) in
    let k = of_meeting read message spells room zone claims h claim r.of_them in
    let n = k.texts in
    let e = r.shows in
    let o = event_read room part.organiser part.uid moment r.lines home.text n.organiser n.uid e in
    let mine = refresh_own room part.organiser part.uid e.stamp in
    let vevent : IsVevent mine r.lines = e.is in
    let same : mine ≡ o.own = (same_from_push mine o.own (codes "END:VEVENT") (codes "END:VEVENT") (tail_of (codes "BEGIN:VEVENT") (codes "BEGIN:VEVENT") _ _ (sym vevent ∙ o.are))).0 in
    let event = refresh_event room part.organiser part.uid moment in
    let heard : Heard Refresh part.organiser part.uid r.lines event = record {
      own = o.own;
      are = o.are;
      good = o.good;
      says = λ object. subst (λ (own : Lines). SaysEventComponent object (Some Refresh) own event) same (refresh_says room part.organiser part.uid e.stamp moment (home_of room home) (organiser_of part n) n.is_uid (stamp_written e.stamp moment e.tells_moment) object);
      meeting = refl;
      one = refl;
    } in
    record {
      claim = claim;
      of_them = r.of_them;
      spells = object_heard back reads (codes "REFRESH") Refresh refresh_method refresh_named refl part.organiser part.uid (r.lines ∷ []) (event ∷ []) octets (heard, tt) (omega arith) (omega arith)
          (λ i j d l w. absurd (omega (arith, l, w)))
          (r.is ∙ ap (λ (l : Lines). written (object_lines (Some (codes "REFRESH")) l)) (sym (append-nil r.lines))) short;
    }
