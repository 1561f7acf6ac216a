-- A meeting that is stored.
use Rattle.std.proofs.Common.{◌≡◌, ◌∙◌, ℕ, ℤ, ◌+◌, ◌<◌, ◌≤◌, max, Bool, true, false, ◌&&◌, ◌||◌, cond, List, [], ◌∷◌, ◌++◌, Option, None, Some, refl, sym, ap, subst, arith, append-nil}
use Rattle.std.specs.List.{AllZip, filter, flat_map, list_any, Contains, position}
use Rattle.std.specs.Map.{keys_of}
use Rattle.std.specs.Str.{bytes_eq}
use Rattle.std.proofs.lemmas.Bool.{true≢false, both_ways}
use Rattle.std.proofs.lemmas.Grind.{flat_map-append}
use Rattle.std.proofs.lemmas.List.Folds.{list_any-append}
use Rattle.ical_values.specs.Octets.{address_octets, text_octets}
use Rattle.ical_values.specs.declared.text.Text.{Text}
use Rattle.profile.specs.events.EventComponents.{Attendee, EventComponent}
use Rattle.profile.specs.rooms.Revisions.{Revision, Slot}
use Rattle.profile.specs.events.EventComponents as events
use Rattle.profile.specs.events.Messages as objects
use Rattle.profile.specs.events.Messages.{is_of_attendee}
use Rattle.profile.specs.organisers.Organisers.{Heard, OrganiserBook, Sent, Sends, Stored, StateFault, SendsStore, IsStore, answers_store, gone_from, is_attendee, is_called_off, last_events, last_store, most_sequence, scheduled_in, sequence_after}
use Rattle.profile.specs.organisers.Organisers.StateFault.{unknown, ahead, spent, stranger}
use Rattle.itip_order.specs.Parts.{revision_of}
use Rattle.itip_messages.specs.Message.{SaysComponent, RepresentsMessage}
use Rattle.itip_messages.specs.declared.message_component.MessageComponent.{MessageComponent}
use Rattle.itip_messages.specs.declared.message.Message.{Message}
use Rattle.organiser_books.specs.declared.answers.AttendeeAnswer.{AttendeeAnswer}
use Rattle.organiser_books.specs.declared.answers.AnswerKey.{AnswerKey}
use Rattle.organiser_books.specs.declared.meeting.StoredMeeting.{StoredMeeting}
use Rattle.organiser_books.specs.Attending.{gone_among, is_address, is_told, lists_of, lists_said, names, sent_among, AreAttending}
use Rattle.organiser_books.specs.Calls.{CallFault, MayTake}
use Rattle.organiser_books.specs.Calls.CallFault.{in_state}
use Rattle.organiser_books.specs.Representation.{answer_at, same_text, LatestOf, RepresentsStored, RepresentsAt}
use Rattle.organiser_books.specs.Storing.{calls_off, is_told_by, sequence_then, LastAttends, SendsObject, SendsTo}
use Rattle.organiser_books.proofs.Books.{keeps_stored, none_answer, stored_own, KeepsAll}
use Rattle.organiser_books.proofs.Said.{attendee_is, gone_are, lists_are, off_are, own_are, scheduled_are}
use Rattle.organiser_books.proofs.Picking.{among_passing}

-- ---- beside what was there

module _ (book : OrganiserBook) (uid : List ℕ) (events : List EventComponent) (components : List MessageComponent) (each : AllZip SaysComponent events components) where
  sequence_same : (o : Option StoredMeeting) (r : Option Stored) → RepresentsAt book uid o r → sequence_then o components ≡ sequence_after r events
  sequence_same None None h = own_are events components each
  sequence_same None (Some s) h = absurd h
  sequence_same (Some m) None h = absurd h
  sequence_same (Some m) (Some s) h =
      let same : m.revision.sequence ≡ s.revision.sequence = ap (λ (x : Revision). x.sequence) h.revision in
      λ i. max (own_are events components each i) (same i + 1)

  last_attends : (o : Option StoredMeeting) (r : Option Stored) → RepresentsAt book uid o r → LastAttends (lists_said (last_events r)) o
  last_attends None None h = refl
  last_attends None (Some s) h = absurd h
  last_attends (Some m) None h = absurd h
  last_attends (Some m) (Some s) h = h.attending

  all_below : (o : Option StoredMeeting) (r : Option Stored) → ((s : Stored) → r ≡ Some s → s.uid ≡ uid) → RepresentsAt book uid o r
      → (h : Heard) → Contains book.replies h → bytes_eq h.uid uid ≡ true → h.revision.sequence < sequence_after r events
  all_below None None own represents h c same = absurd (both_ways _ (represents h c) same)
  all_below None (Some s) own represents h c same = absurd represents
  all_below (Some m) None own represents h c same = absurd represents
  all_below (Some m) (Some s) own represents h c same =
      let most = represents.sent h c (subst (λ u. bytes_eq h.uid u ≡ true) (sym (own s refl)) same) in
      omega (arith, most)

-- whoever was told
sends_store : (b : Bool) (organiser : List ℕ) (stored : Stored) (told gone : List (List ℕ)) (sent : List Sent) → SendsTo b organiser stored (scheduled_in organiser stored.events) gone sent → SendsStore b organiser (record stored { told = told }) gone sent
sends_store true organiser stored told gone sent h = h
sends_store false organiser stored told gone sent h = h

-- ---- copies

-- another component that says the same, in the place of one
pub one_copied : {X Y : Type 0} (R : X → Y → Type 0) (x y : Y) → ((e : X) → R e x → R e y) → (said : List X) (done rest : List Y) → AllZip R said (done ++ x ∷ rest) → AllZip R said ((done ++ y ∷ []) ++ rest)
one_copied R x y f [] [] rest z = absurd z
one_copied R x y f (e ∷ es) [] rest z = (f e z.0, z.1)
one_copied R x y f [] (d ∷ ds) rest z = absurd z
one_copied R x y f (e ∷ es) (d ∷ ds) rest z = (z.0, one_copied R x y f es ds rest z.1)

-- ---- to whom

abbrev receivers : List Sent → List (List ℕ)
receivers sent = flat_map (λ one. one.to) sent

sends_to : (IsSuch : List ℕ → Type 0) (to : List (List ℕ)) (sent : List Sent) → Sends IsSuch to sent → receivers sent ≡ to
sends_to IsSuch [] sent e = ap receivers e
sends_to IsSuch (first ∷ others) sent (octets, is, e) = ap receivers e ∙ append-nil (first ∷ others)

store_to : (b : Bool) (organiser : List ℕ) (stored : Stored) (gone : List (List ℕ)) (sent : List Sent) → SendsStore b organiser stored gone sent → receivers sent ≡ scheduled_in organiser stored.events ++ gone
store_to true organiser stored gone sent h = sends_to _ (scheduled_in organiser stored.events ++ gone) sent h.1
store_to false organiser stored gone sent (requests, cancels, is, to, out, e) =
    ap receivers e ∙ flat_map-append (λ (one : Sent). one.to) requests cancels ∙ (λ i. sends_to _ (scheduled_in organiser stored.events) requests to i ++ sends_to _ gone cancels out i)

no_answer : (p : Option ℕ) (slot : Slot) (answers : List (AnswerKey × AttendeeAnswer)) → answers ≡ [] → answer_at p slot answers ≡ None
no_answer None slot answers e = refl
no_answer (Some p) slot answers e = ap (answer_at (Some p) slot) e

store_reply : events.Store ≡ events.Reply → ⊥
store_reply e = absurd (cc)

-- ---- a store

module _ (address : List ℕ) (object : Message) (said : objects.Message) (is : RepresentsMessage object said) (kind : said.method ≡ events.Store) (own : said.organiser ≡ address) (book : OrganiserBook)
    (meetings : Text → Option StoredMeeting) (keeps : KeepsAll meetings book) where
  each : AllZip SaysComponent said.events object.components.items
  each = is.each

  abbrev last : Option Stored
  last = last_store said.uid book

  represents : RepresentsAt book said.uid (meetings object.uid) last
  represents = subst (λ u. RepresentsAt book u (meetings object.uid) (last_store u book)) is.uid (keeps object.uid)

  sequence_is : sequence_then (meetings object.uid) object.components.items ≡ sequence_after last said.events
  sequence_is = sequence_same book said.uid said.events object.components.items each (meetings object.uid) last represents

  -- where no greater SEQUENCE is left
  pub spent_fault : most_sequence < sequence_then (meetings object.uid) object.components.items → CallFault events.Store address said book 72
  spent_fault most = in_state kind own (spent kind (subst (λ n. most_sequence < n) sequence_is most))

  module _ (moment : ℤ) (meeting : StoredMeeting) (sequence : meeting.revision.sequence ≡ sequence_then (meetings object.uid) object.components.items) (stamp : meeting.revision.stamp ≡ moment) (sent : List Sent) where
    abbrev bare : Stored
    bare = record { uid = said.uid; events = said.events; revision = record { sequence = sequence_after last said.events; stamp = moment }; object = meeting.object.items; told = [] }

    abbrev told : List (List ℕ)
    told = filter (λ address. is_attendee address said.events) (receivers sent)

    abbrev stored : Stored
    stored = record bare { told = told }

    abbrev to : List (List ℕ)
    to = scheduled_in said.organiser said.events

    abbrev gone : List (List ℕ)
    gone = gone_from (is_called_off said.events) said.organiser (last_events last) said.events

    abbrev next : OrganiserBook
    next = record book { stores = stored ∷ book.stores }

    revision_is : revision_of meeting.revision ≡ stored.revision
    revision_is = let n = sequence ∙ sequence_is in λ i. record { sequence = n i; stamp = stamp i }

    below : (h : Heard) → Contains book.replies h → bytes_eq h.uid said.uid ≡ true → h.revision.sequence < stored.revision.sequence
    below = all_below book said.uid said.events object.components.items each (meetings object.uid) last (λ s e. stored_own said.uid book.stores s e) represents

    -- the meeting represents it
    meeting_represented : AllZip SaysComponent said.events meeting.components.items → AreAttending (lists_of object.components.items) meeting.attending.entries → meeting.answers.entries ≡ []
        → ((address : List ℕ) → is_told address meeting.attending.entries ≡ list_any (bytes_eq address) told) → RepresentsStored meeting next stored
    meeting_represented components attending none was_told = record {
      revision = revision_is;
      components = components;
      attending = subst (λ l. AreAttending l meeting.attending.entries) (lists_are said.events object.components.items each) attending;
      object = refl;
      told = was_told;
      seen = λ slot q. subst (LatestOf (filter (answers_store stored slot q) book.replies)) (sym (no_answer (position (is_address q) (keys_of meeting.attending.entries)) slot meeting.answers.entries none)) (none_answer stored slot q book.replies below);
      sent = λ h c same. let less = below h c same in omega (arith, less);
    }

    scheduled_is : sent_among said.organiser (lists_of object.components.items) ≡ scheduled_in said.organiser said.events
    scheduled_is = ap (sent_among said.organiser) (lists_are said.events object.components.items each) ∙ sym (scheduled_are said.organiser said.events)

    off : calls_off object.components.items ≡ is_called_off said.events
    off = off_are said.events object.components.items each

    gone_same : gone_among (calls_off object.components.items) said.organiser (lists_said (last_events last)) (lists_of object.components.items) ≡ gone
    gone_same =
        (λ i. gone_among (off i) said.organiser (lists_said (last_events last)) (lists_are said.events object.components.items each i))
        ∙ gone_are (is_called_off said.events) said.organiser (last_events last) said.events

    last_is : LastAttends (lists_said (last_events last)) (meetings object.uid)
    last_is = last_attends book said.uid said.events object.components.items each (meetings object.uid) last represents

    -- what is sent
    is_sent : ((events : List EventComponent) (before : List (List Attendee)) → AllZip SaysComponent events object.components.items → LastAttends before (meetings object.uid)
        → SendsObject said.organiser object meeting.revision events before meeting.object.items sent)
        → SendsStore (is_called_off said.events) said.organiser stored gone sent
    is_sent sends =
        let s = sends said.events (lists_said (last_events last)) each last_is in
        let made : Stored = record { uid = text_octets object.uid; events = said.events; revision = revision_of meeting.revision; object = meeting.object.items; told = [] } in
        let same : made ≡ bare = λ i. record { uid = is.uid i; events = said.events; revision = revision_is i; object = meeting.object.items; told = [] } in
        let s1 = subst (λ g. SendsTo (calls_off object.components.items) (address_octets object.organiser) made (sent_among said.organiser (lists_of object.components.items)) g sent) gone_same s in
        let s2 = subst (λ t. SendsTo (calls_off object.components.items) (address_octets object.organiser) made t gone sent) scheduled_is s1 in
        let s3 = subst (λ m. SendsTo (calls_off object.components.items) (address_octets object.organiser) m to gone sent) same s2 in
        let s4 = subst (λ o. SendsTo (calls_off object.components.items) o bare to gone sent) is.organiser s3 in
        let s5 = subst (λ b. SendsTo b said.organiser bare to gone sent) off s4 in
        sends_store (is_called_off said.events) said.organiser bare told gone sent s5

    -- and to whom
    was_sent : SendsStore (is_called_off said.events) said.organiser stored gone sent → ((before : List (List Attendee)) → LastAttends before (meetings object.uid)
        → (address : List ℕ) → is_told address meeting.attending.entries ≡ is_told_by (calls_off object.components.items) said.organiser before (lists_of object.components.items) address)
        → (address : List ℕ) → is_told address meeting.attending.entries ≡ list_any (bytes_eq address) told
    was_sent s tells q =
        tells (lists_said (last_events last)) last_is q
        ∙ (λ i. list_any (names q) (lists_are said.events object.components.items each i) && (list_any (bytes_eq q) (scheduled_is i) || list_any (bytes_eq q) (gone_same i)))
        ∙ (λ i. sym (attendee_is q said.events) i && sym (list_any-append (bytes_eq q) to gone) i)
        ∙ ap (λ (l : List (List ℕ)). is_attendee q said.events && list_any (bytes_eq q) l) (sym (store_to (is_called_off said.events) said.organiser stored gone sent s))
        ∙ sym (among_passing (λ address. is_attendee address said.events) q (receivers sent))

    no_fault : meeting.revision.sequence ≤ most_sequence → (n : ℕ) → StateFault said book n → ⊥
    no_fault fits n (unknown speaks none) = true≢false (sym speaks ∙ ap is_of_attendee kind)
    no_fault fits n (ahead reply s e before) = store_reply (sym kind ∙ reply)
    no_fault fits n (spent store most) = let same = sequence ∙ sequence_is in absurd (omega (arith, most, fits, same))
    no_fault fits n (stranger speaks s e none strange) = true≢false (sym speaks ∙ ap is_of_attendee kind)

    pub is_stored : (after : Text → Option StoredMeeting) → ((q : Text) → after q ≡ cond (same_text object.uid q) (Some meeting) (meetings q))
        → meeting.revision.sequence ≤ most_sequence
        → AllZip SaysComponent said.events meeting.components.items → AreAttending (lists_of object.components.items) meeting.attending.entries → meeting.answers.entries ≡ []
        → ((events : List EventComponent) (before : List (List Attendee)) → AllZip SaysComponent events object.components.items → LastAttends before (meetings object.uid)
        → SendsObject address object meeting.revision events before meeting.object.items sent)
        → ((before : List (List Attendee)) → LastAttends before (meetings object.uid) → (q : List ℕ) → is_told q meeting.attending.entries ≡ is_told_by (calls_off object.components.items) address before (lists_of object.components.items) q)
        → MayTake events.Store address said book × ((x : OrganiserBook) × IsStore moment said book sent x × KeepsAll after x)
    is_stored after put fits components attending none sends tells =
        let s = is_sent (λ given before zip last_was. subst (λ o. SendsObject o object meeting.revision given before meeting.object.items sent) (sym own) (sends given before zip last_was)) in
        let t = was_sent s (λ before last_was q. tells before last_was q ∙ ap (λ o. is_told_by (calls_off object.components.items) o before (lists_of object.components.items) q) (sym own)) in (
          record { kind = kind; organiser = own; allowed = no_fault fits },
          (
            next,
            record { stored = stored; of_meeting = refl; events = refl; revision = refl; sends = s; told = refl; kept = refl },
            keeps_stored meetings after book object.uid meeting stored (sym is.uid) (meeting_represented components attending none t) put keeps,
          ),
        )
