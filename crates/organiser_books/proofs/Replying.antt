-- A REPLY that is taken, and one that isn't.
use Rattle.std.proofs.Common.{◌≡◌, ◌∙◌, ℕ, ◌≤◌, Bool, true, false, cond, List, [], ◌∷◌, ◌++◌, Option, None, Some, refl, sym, ap, subst, inl, inr, arith, Result, Ok, Err, IfErr, IsErrAnd}
use Rattle.std.specs.Prelude.{nat_lt}
use Rattle.std.specs.List.{flat_map, position, Contains, AllZip}
use Rattle.std.specs.Map.{keys_of}
use Rattle.std.proofs.lemmas.Bool.{both_ways, cases_lt, lt-ltb}
use Rattle.std.proofs.lemmas.List.Elements.{Contains-append_cases}
use Rattle.itip_order.proofs.Lists.{any_from, in_cons, in_head, in_tail, none_in_nil}
use Rattle.ical_lines.specs.Fault.{RefusesBy}
use Rattle.ical_lines.specs.declared.fault.Fault.{Fault}
use Rattle.ical_lines.specs.declared.fault.Fault.TheVariants.{Memory, Refused}
use Rattle.ical_values.specs.Octets.{text_octets}
use Rattle.ical_values.specs.declared.text.Text.{Text}
use Rattle.profile.specs.events.EventComponents as events
use Rattle.profile.specs.events.EventComponents.{Attendee, EventComponent}
use Rattle.profile.specs.rooms.Messages.{own_revision}
use Rattle.profile.specs.rooms.Revisions.{Revision}
use Rattle.profile.specs.events.Messages as objects
use Rattle.profile.specs.organisers.Organisers as profile
use Rattle.profile.specs.organisers.Organisers.{Heard, OrganiserBook, Stored, after_reply, heard_in, last_store}
use Rattle.itip_order.specs.Parts.{revision_of}
use Rattle.itip_messages.specs.Message.{SaysComponent, RepresentsMessage}
use Rattle.itip_messages.specs.declared.message.Message.{Message}
use Rattle.organiser_books.specs.declared.meeting.StoredMeeting.{StoredMeeting}
use Rattle.organiser_books.specs.Attending.{is_address, is_told, lists_said, AreAttending}
use Rattle.organiser_books.specs.Calls.{MayTake}
use Rattle.organiser_books.specs.Representation.{answer_at, heard_said, is_ahead, is_strange, same_text, AreSeen, LatestOf, RepresentsStored, RepresentsAt}
use Rattle.organiser_books.proofs.Books.{keeps_heard, own_heard, represented_known, stored_own, KeepsAll}
use Rattle.organiser_books.proofs.Lines.{same_is}
use Rattle.organiser_books.proofs.Said.{uids_are}
use Rattle.organiser_books.proofs.Taking.{ahead_is, heard_is, may_take}

-- the exit of a `?`
pub fault_exit : {T : Type 0} (r : Result T Fault) (P Q : ℕ → Type 0) (e : Fault) → ((n : ℕ) → Q n → P n) → IsErrAnd r (λ f. f ≡ e) → RefusesBy Q e → IfErr r (RefusesBy P)
fault_exit (Ok x) P Q e g h p = tt
fault_exit (Err f) P Q Memory g h p = subst (RefusesBy P) (sym h) tt
fault_exit (Err f) P Q (Refused x) g h p = subst (RefusesBy P) (sym h) (g x.number p)

-- ---- what was heard is of one of the events

pub of_event : (events : List EventComponent) (h : Heard) → Contains (heard_in events) h → (e : EventComponent) × Contains events e × (h.uid ≡ e.uid) × (h.revision ≡ own_revision e)
of_event [] h c = absurd (none_in_nil h c)
of_event (e ∷ es) h c = elim (Contains-append_cases (profile.heard_of e e.attendees) (heard_in es) h c) [
  | inl here ↦ at_lines e.attendees here
  | inr there ↦ let r = of_event es h there in (r.0, in_tail e es r.0 r.1, r.2, r.3)
]
  where
    at_lines : (lines : List Attendee) → Contains (profile.heard_of e lines) h → (x : EventComponent) × Contains (e ∷ es) x × (h.uid ≡ x.uid) × (h.revision ≡ own_revision x)
    at_lines [] k = absurd (none_in_nil h k)
    at_lines (a ∷ rest) k = elim (in_cons _ [] h k) [
      | inl is ↦ (e, in_head e es, ap (λ (x : Heard). x.uid) (sym is), ap (λ (x : Heard). x.revision) (sym is))
      | inr none ↦ absurd (none_in_nil h none)
    ]

-- ---- a REPLY that is taken

module _ (address : List ℕ) (object : Message) (said : objects.Message) (is : RepresentsMessage object said) (kind : said.method ≡ events.Reply) (own : said.organiser ≡ address) (book : OrganiserBook)
    (meetings after : Text → Option StoredMeeting) (keeps : KeepsAll meetings book) (m n : StoredMeeting) (found : Some m ≡ meetings object.uid) (put : (q : Text) → after q ≡ cond (same_text object.uid q) (Some n) (meetings q))
    (revision : n.revision ≡ m.revision) (components : n.components ≡ m.components) (attending : n.attending ≡ m.attending) (octets : n.object ≡ m.object) where
  abbrev uid : List ℕ
  uid = text_octets object.uid

  represents : RepresentsAt book uid (Some m) (last_store uid book)
  represents = subst (λ (o : Option StoredMeeting). RepresentsAt book uid o (last_store uid book)) (sym found) (keeps object.uid)

  abbrev known : (stored : Stored) × (last_store uid book ≡ Some stored) × RepresentsStored m book stored
  known = represented_known book uid m (last_store uid book) represents

  abbrev stored : Stored
  stored = known.0

  last : last_store said.uid book ≡ Some stored
  last = ap (λ u. last_store u book) (sym is.uid) ∙ known.1

  heard_own : (h : Heard) → Contains (heard_in said.events) h → h.uid ≡ said.uid
  heard_own h c = let e = of_event said.events h c in e.2 ∙ uids_are said.organiser said.uid said.events is.are e.0 e.1

  heard_sent : is_ahead m object.components.items ≡ false → (h : Heard) → Contains (heard_in said.events) h → h.revision.sequence ≤ stored.revision.sequence
  heard_sent none h c =
      let e = of_event said.events h c in
      let same : h.revision.sequence ≡ e.0.sequence = ap (λ (r : Revision). r.sequence) e.3 in
      elim (cases_lt stored.revision.sequence e.0.sequence) [
        | inl above ↦ absurd (both_ways _ (sym (ahead_is address object said is events.Reply kind refl own book m represents) ∙ none) (any_from (λ (x : EventComponent). nat_lt stored.revision.sequence x.sequence) said.events e.0 e.1 (lt-ltb _ _ above)))
        | inr below ↦ omega (arith, same, below)
      ]

  pub replied : is_ahead m object.components.items ≡ false → is_strange m object.components.items ≡ false
      → ((s : Stored) (replies : List Heard) → revision_of m.revision ≡ s.revision → AreSeen m s replies → AreSeen n s (replies ++ flat_map (heard_said s.uid) object.components.items))
      → MayTake events.Reply address said book × KeepsAll after (after_reply said book)
  replied sent names seen =
      let heard : flat_map (heard_said stored.uid) object.components.items ≡ heard_in said.events =
      ap (λ u. flat_map (heard_said u) object.components.items) (stored_own said.uid book.stores stored last) ∙ heard_is address object said is events.Reply kind refl own book in (
        may_take address object said is events.Reply kind refl own book m represents (λ e. sent) names,
        keeps_heard book (heard_in said.events) said.uid heard_own meetings after object.uid (sym is.uid) n put stored last
            (own_heard book (heard_in said.events) said.uid heard_own m n stored revision components attending octets (heard_sent sent)
            (subst (λ l. AreSeen n stored (book.replies ++ l)) heard (seen stored book.replies known.2.revision known.2.seen)) known.2)
            keeps,
      )

-- ---- one that isn't

-- the same meeting, with the same answers
same_seen : (m n : StoredMeeting) (s : Stored) (replies : List Heard) → n.attending ≡ m.attending → n.answers.entries ≡ m.answers.entries → AreSeen m s replies → AreSeen n s replies
same_seen m n s replies a e seen slot q = subst (LatestOf _) (λ i. answer_at (position (is_address q) (keys_of (sym a i).entries)) slot (sym e i)) (seen slot q)

pub keeps_same : (book : OrganiserBook) (uid : Text) (meetings after : Text → Option StoredMeeting) (m n : StoredMeeting) → Some m ≡ meetings uid → ((q : Text) → after q ≡ cond (same_text uid q) (Some n) (meetings q))
    → n.revision ≡ m.revision → n.components ≡ m.components → n.attending ≡ m.attending → n.object ≡ m.object → n.answers.entries ≡ m.answers.entries → KeepsAll meetings book → KeepsAll after book
keeps_same book uid meetings after m n found put r c a o e keeps q = by (same_text uid q) refl
  where
    same : (last : Option Stored) → RepresentsAt book (text_octets uid) (Some m) last → RepresentsAt book (text_octets uid) (Some n) last
    same None h = absurd h
    same (Some s) h = record {
      revision = ap revision_of r ∙ h.revision;
      components = subst (λ l. AllZip SaysComponent s.events l.items) (sym c) h.components;
      attending = subst (λ l. AreAttending (lists_said s.events) l.entries) (sym a) h.attending;
      object = ap (λ l. l.items) o ∙ h.object;
      told = λ x. ap (λ l. is_told x l.entries) a ∙ h.told x;
      seen = same_seen m n s book.replies a e h.seen;
      sent = h.sent;
    }

    by : (b : Bool) → same_text uid q ≡ b → RepresentsAt book (text_octets q) (after q) (last_store (text_octets q) book)
    by true t =
        subst (λ x. RepresentsAt book (text_octets q) x (last_store (text_octets q) book)) (sym (put q ∙ ap (λ b. cond b (Some n) (meetings q)) t))
        (subst (λ u. RepresentsAt book u (Some n) (last_store u book)) (same_is (text_octets uid) (text_octets q) t)
        (same (last_store (text_octets uid) book) (subst (λ x. RepresentsAt book (text_octets uid) x (last_store (text_octets uid) book)) (sym found) (keeps uid))))
    by false t = subst (λ x. RepresentsAt book (text_octets q) x (last_store (text_octets q) book)) (sym (put q ∙ ap (λ b. cond b (Some n) (meetings q)) t)) (keeps q)
