-- What the calls of an organiser take, answer and refuse.
use Rattle.std.proofs.Common.{◌≡◌, ◌∙◌, ℕ, Bool, true, false, not, is_some, List, [], ◌∷◌, ◌++◌, Option, None, Some, refl, sym, ap, subst, inl, inr}
use Rattle.std.specs.Prelude.{codes, nat_lt}
use Rattle.std.specs.List.{AllZip, flat_map, list_any}
use Rattle.std.proofs.lemmas.Bool.{true≢false, both_ways}
use Rattle.ical_values.specs.Octets.{text_octets}
use Rattle.profile.specs.events.EventComponents.{Attendee, EventComponent, Participation}
use Rattle.profile.specs.rooms.Revisions.{Revision, Slot}
use Rattle.profile.specs.events.EventComponents as events
use Rattle.profile.specs.events.Messages as objects
use Rattle.profile.specs.events.Messages.{is_of_attendee}
use Rattle.profile.specs.organisers.Organisers.{Heard, OrganiserBook, Stored, StateFault, heard_in, is_attendee, last_store, sent_status, participation_word, IsSeen, ShowsSeen}
use Rattle.profile.specs.organisers.Organisers.StateFault.{unknown, ahead, spent, stranger}
use Rattle.profile.specs.organisers.Sent.{IsComponentText, IsMeetingText}
use Rattle.cal_events.specs.Component.{method_said}
use Rattle.itip_messages.specs.Message.{RepresentsMessage, SaysComponent}
use Rattle.cal_events.specs.declared.method.Method.{Method}
use Rattle.cal_events.specs.declared.method.Method.TheVariants.{Store, Request, Add, Cancel, Reply, Refresh}
use Rattle.cal_events.specs.contracts.method.MethodPartialEq.TheImpl as methods
use Rattle.itip_messages.specs.declared.message.Message.{Message}
use Rattle.organiser_books.specs.declared.meeting.StoredMeeting.{StoredMeeting}
use Rattle.organiser_books.specs.Attending.{attendance_of, lists_said}
use Rattle.organiser_books.specs.Calls.{CallFault, MayTake}
use Rattle.organiser_books.specs.Calls.CallFault.{in_state}
use Rattle.organiser_books.specs.Shown.{ShowsAnswered}
use Rattle.organiser_books.specs.Representation.{answer_in, answered, heard_said, is_ahead, is_strange, IsReplyFault, RepresentsStored, RepresentsAt}
use Rattle.organiser_books.proofs.Books.{represented_known, represented_unknown}
use Rattle.organiser_books.proofs.Latest.{latest_is}
use Rattle.organiser_books.proofs.Said.{ahead_are, attendee_is, heard_are, known_is, strangers_are, uids_are}

-- ---- what is asked

-- two methods that differ are distinguished
abbrev method_of : events.Method → Method
method_of events.Store = Store
method_of events.Request = Request
method_of events.Add = Add
method_of events.Cancel = Cancel
method_of events.Reply = Reply
method_of events.Refresh = Refresh

method_back : (m : Method) → method_of (method_said m) ≡ m
method_back Store = refl
method_back Request = refl
method_back Add = refl
method_back Cancel = refl
method_back Reply = refl
method_back Refresh = refl

method_itself : (m : Method) → methods.eq-value.it m m ≡ true
method_itself Store = refl
method_itself Request = refl
method_itself Add = refl
method_itself Cancel = refl
method_itself Reply = refl
method_itself Refresh = refl

pub methods_differ : (a b : Method) → methods.eq-value.it a b ≡ false → method_said a ≡ method_said b → ⊥
methods_differ a b n e = both_ways _ n (subst (λ m. methods.eq-value.it a m ≡ true) (sym (method_back a) ∙ ap method_of e ∙ method_back b) (method_itself a))

some_is : {X : Type 0} (a b : X) → Some a ≡ Some b → a ≡ b
some_is a b e = cc

some_none : {X : Type 0} (a : X) → Some a ≡ None → ⊥
some_none a e = absurd (cc)

-- ---- objects

-- an attendee doesn't speak to rooms
module _ (address : List ℕ) (object : Message) (said : objects.Message) (is : RepresentsMessage object said) (op : events.Method) (kind : said.method ≡ op) (speaks : is_of_attendee op ≡ true)
    (own : said.organiser ≡ address) (book : OrganiserBook) where
  each : AllZip SaysComponent said.events object.components.items
  each = is.each

  abbrev uid : List ℕ
  uid = text_octets object.uid

  last_is : last_store said.uid book ≡ last_store uid book
  last_is = ap (λ u. last_store u book) (sym is.uid)

  -- of a meeting that isn't known
  pub unknown_fault : RepresentsAt book uid None (last_store uid book) → CallFault op address said book 71
  unknown_fault found = in_state kind own (unknown (ap is_of_attendee kind ∙ speaks) (last_is ∙ represented_unknown book uid (last_store uid book) found))

  pub heard_is : flat_map (heard_said said.uid) object.components.items ≡ heard_in said.events
  heard_is = heard_are said.uid said.events object.components.items each (uids_are said.organiser said.uid said.events is.are)

  module _ (m : StoredMeeting) (found : RepresentsAt book uid (Some m) (last_store uid book)) where
    abbrev known : (stored : Stored) × (last_store uid book ≡ Some stored) × RepresentsStored m book stored
    known = represented_known book uid m (last_store uid book) found

    sequence_is : m.revision.sequence ≡ known.0.revision.sequence
    sequence_is = ap (λ (r : Revision). r.sequence) known.2.revision

    pub ahead_is : is_ahead m object.components.items ≡ list_any (λ (e : EventComponent). nat_lt known.0.revision.sequence e.sequence) said.events
    ahead_is = ahead_are m.revision.sequence said.events object.components.items each ∙ ap (λ n. list_any (λ (e : EventComponent). nat_lt n e.sequence) said.events) sequence_is

    strange_is : is_strange m object.components.items ≡ list_any (λ (h : Heard). not (is_attendee h.attendee known.0.events)) (heard_in said.events)
    strange_is = strangers_are known.0.events m known.2.attending said.uid object.components.items ∙ ap (list_any (λ (h : Heard). not (is_attendee h.attendee known.0.events))) heard_is

    -- nothing is ahead, or it isn't looked at
    pub strange_fault : (op ≡ events.Reply → is_ahead m object.components.items ≡ false) → is_strange m object.components.items ≡ true
        → CallFault op address said book 73
    strange_fault sent strange =
        in_state kind own (stranger (ap is_of_attendee kind ∙ speaks) known.0 (last_is ∙ known.1) (λ reply. sym ahead_is ∙ sent (sym kind ∙ reply)) (sym strange_is ∙ strange))

    pub ahead_fault : op ≡ events.Reply → is_ahead m object.components.items ≡ true → CallFault op address said book 71
    ahead_fault reply before = in_state kind own (ahead (kind ∙ reply) known.0 (last_is ∙ known.1) (sym ahead_is ∙ before))

    pub reply_fault : (n : ℕ) → op ≡ events.Reply → IsReplyFault m object.components.items n → CallFault op address said book n
    reply_fault n reply fault = elim fault [
      | inl f ↦ subst (CallFault op address said book) (sym f.0) (ahead_fault reply f.1)
      | inr f ↦ subst (CallFault op address said book) (sym f.0) (strange_fault (λ _. f.1) f.2)
    ]

    -- nothing is wrong with what an attendee says
    module _ (sent : op ≡ events.Reply → is_ahead m object.components.items ≡ false) (names : is_strange m object.components.items ≡ false) where
      no_fault : (n : ℕ) → StateFault said book n → ⊥
      no_fault n (unknown a none) = some_none known.0 (sym (last_is ∙ known.1) ∙ none)
      no_fault n (ahead reply stored last before) =
          let same = some_is stored known.0 (sym last ∙ last_is ∙ known.1) in
          both_ways _ (sym ahead_is ∙ sent (sym kind ∙ reply)) (subst (λ (s : Stored). list_any (λ (e : EventComponent). nat_lt s.revision.sequence e.sequence) said.events ≡ true) same before)
      no_fault n (spent store most) = true≢false (sym speaks ∙ ap is_of_attendee (sym kind ∙ store))
      no_fault n (stranger a stored last none strange) =
          let same = some_is stored known.0 (sym last ∙ last_is ∙ known.1) in
          both_ways _ (sym strange_is ∙ names) (subst (λ (s : Stored). list_any (λ (h : Heard). not (is_attendee h.attendee s.events)) (heard_in said.events) ≡ true) same strange)

      pub may_take : MayTake op address said book
      may_take = record { kind = kind; organiser = own; allowed = no_fault }

-- ---- what is seen

module _ (book : OrganiserBook) (uid : List ℕ) (m : StoredMeeting) (found : RepresentsAt book uid (Some m) (last_store uid book)) (slot : Slot) (q : List ℕ) where
  abbrev last : (stored : Stored) × (last_store uid book ≡ Some stored) × RepresentsStored m book stored
  last = represented_known book uid m (last_store uid book) found

  attends : is_attendee q last.0.events ≡ is_some (attendance_of q m.attending.entries)
  attends = attendee_is q last.0.events ∙ sym (known_is (lists_said last.0.events) m.attending.entries q last.2.attending)

  pub seen_none : is_some (attendance_of q m.attending.entries) ≡ false → IsSeen book uid slot q None
  seen_none none stored is = subst (λ (s : Stored). is_attendee q s.events ≡ false) (some_is last.0 stored (sym last.1 ∙ is)) (attends ∙ none)

  pub seen_some : is_some (attendance_of q m.attending.entries) ≡ true → IsSeen book uid slot q (Some (answered (answer_in m slot q)))
  seen_some some = (last.0, last.1, attends ∙ some, latest_is _ (answer_in m slot q) (last.2.seen slot q))

-- ---- what is shown

zip_lift : {X Y : Type 0} (R S : X → Y → Type 0) → ((x : X) (y : Y) → R x y → S x y) → (xs : List X) (ys : List Y) → AllZip R xs ys → AllZip S xs ys
zip_lift R S f [] [] z = tt
zip_lift R S f [] (y ∷ ys) z = absurd z
zip_lift R S f (x ∷ xs) [] z = absurd z
zip_lift R S f (x ∷ xs) (y ∷ ys) z = (f x y z.0, zip_lift R S f xs ys z.1)

-- where each line is also such a one
pub text_lift : (method : Option (List ℕ)) (organiser uid : List ℕ) (revision : Revision) (R S : Slot → Attendee → List ℕ → Type 0) → ((slot : Slot) (a : Attendee) (line : List ℕ) → R slot a line → S slot a line)
    → (events : List EventComponent) (octets : List ℕ) → IsMeetingText method organiser uid revision R events octets → IsMeetingText method organiser uid revision S events octets
text_lift method organiser uid revision R S f events octets t = record {
  components = t.components;
  are = t.are;
  few = t.few;
  texts = t.texts;
  each = zip_lift (IsComponentText organiser uid revision _ R) (IsComponentText organiser uid revision _ S)
      (λ component lines w. record {
        slot = w.slot;
        tells_slot = w.tells_slot;
        dated = w.dated;
        tells_revision = w.tells_revision;
        name = w.name;
        named = w.named;
        attendees = w.attendees;
        each = zip_lift (R _) (S _) (f _) _ w.attendees w.each;
        is = w.is;
      })
      t.components t.texts t.each;
  is = t.is;
}

abbrev shown : List ℕ → Participation → Bool → List ℕ
shown address p b = codes "ATTENDEE;PARTSTAT=" ++ participation_word p ++ sent_status b ++ codes ":" ++ address

pub shows_seen : (m : StoredMeeting) (book : OrganiserBook) (stored : Stored) → RepresentsStored m book stored → (slot : Slot) (a : Attendee) (line : List ℕ) → ShowsAnswered m slot a line → ShowsSeen book stored slot a line
shows_seen m book stored h slot a line is = (
  answered (answer_in m slot a.address),
  latest_is _ (answer_in m slot a.address) (h.seen slot a.address),
  is ∙ ap (shown a.address (answered (answer_in m slot a.address))) (h.told a.address),
)
