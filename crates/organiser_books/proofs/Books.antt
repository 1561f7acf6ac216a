-- What an organiser keeps, after a store and after a reply.
use Rattle.std.proofs.Common.{◌≡◌, ◌∙◌, ℕ, ◌<◌, ◌≤◌, Bool, true, false, ◌&&◌, cond, List, [], ◌∷◌, ◌++◌, Option, None, Some, refl, sym, ap, subst, inl, inr, arith}
use Rattle.std.specs.Prelude.{◌==◌}
use Rattle.std.specs.List.{AllZip, filter, find, Contains}
use Rattle.std.specs.Str.{bytes_eq}
use Rattle.std.specs.Ordering.{is_eq}
use Rattle.std.proofs.lemmas.Bool.{and_parts, both_ways, false_from_ne_true, eqb-true}
use Rattle.std.proofs.lemmas.List.Elements.{Contains-append_cases, filter-append}
use Rattle.itip_order.proofs.Lists.{in_head, in_tail}
use Rattle.ical_values.specs.Octets.{text_octets}
use Rattle.ical_values.specs.declared.text.Text.{Text}
use Rattle.profile.specs.rooms.Revisions.{Slot, slot_cmp}
use Rattle.profile.specs.organisers.Organisers.{Heard, OrganiserBook, Stored, answers_store, last_store}
use Rattle.organiser_books.specs.declared.meeting.StoredMeeting.{StoredMeeting}
use Rattle.organiser_books.specs.Representation.{answer_in, same_text, AreSeen, LatestOf, RepresentsStored, RepresentsAt}
use Rattle.itip_order.specs.Parts.{revision_of}
use Rattle.itip_messages.specs.Message.{SaysComponent}
use Rattle.organiser_books.specs.Attending.{is_told, lists_said, AreAttending}
use Rattle.organiser_books.proofs.Latest.{latest_turned}
use Rattle.organiser_books.proofs.Lines.{same_is}

-- an organiser's meetings, by their UIDs, keep a book
abbrev pub KeepsAll : (Text → Option StoredMeeting) → OrganiserBook → Type 0
KeepsAll meetings book = (uid : Text) → RepresentsAt book (text_octets uid) (meetings uid) (last_store (text_octets uid) book)

some_is : {X : Type 0} (a b : X) → Some a ≡ Some b → a ≡ b
some_is a b e = cc

some_none : {X : Type 0} (a : X) → None ≡ Some a → ⊥
some_none a e = absurd (cc)

-- the last store of a UID is of that UID
pub stored_own : (uid : List ℕ) (stores : List Stored) (stored : Stored) → find (λ (s : Stored). bytes_eq s.uid uid) stores ≡ Some stored → stored.uid ≡ uid
stored_own uid [] stored e = absurd (some_none stored e)
stored_own uid (s ∷ ss) stored e = by (bytes_eq s.uid uid) refl e (stored_own uid ss stored)
  where
    by : (b : Bool) → bytes_eq s.uid uid ≡ b → cond b (Some s) (find (λ (x : Stored). bytes_eq x.uid uid) ss) ≡ Some stored → (find (λ (x : Stored). bytes_eq x.uid uid) ss ≡ Some stored → stored.uid ≡ uid) → stored.uid ≡ uid
    by true f e h = subst (λ (x : Stored). x.uid ≡ uid) (some_is s stored e) (same_is s.uid uid f)
    by false f e h = h e

-- what is at a UID that is known, and at one that isn't
pub represented_known : (book : OrganiserBook) (uid : List ℕ) (m : StoredMeeting) (r : Option Stored) → RepresentsAt book uid (Some m) r → (stored : Stored) × (r ≡ Some stored) × RepresentsStored m book stored
represented_known book uid m None h = absurd h
represented_known book uid m (Some stored) h = (stored, refl, h)

pub represented_unknown : (book : OrganiserBook) (uid : List ℕ) (r : Option Stored) → RepresentsAt book uid None r → r ≡ None
represented_unknown book uid None h = refl
represented_unknown book uid (Some stored) h = absurd h

-- ---- a store

-- none of these answers is to a store with a greater SEQUENCE
pub none_answer : (stored : Stored) (slot : Slot) (q : List ℕ) (replies : List Heard) → ((h : Heard) → Contains replies h → bytes_eq h.uid stored.uid ≡ true → h.revision.sequence < stored.revision.sequence)
    → filter (answers_store stored slot q) replies ≡ []
none_answer stored slot q [] old = refl
none_answer stored slot q (h ∷ hs) old =
    ap (λ b. cond b (h ∷ filter (answers_store stored slot q) hs) (filter (answers_store stored slot q) hs)) (false_from_ne_true _ not_this) ∙ none_answer stored slot q hs (λ x c. old x (in_tail h hs x c))
  where
    not_this : answers_store stored slot q h ≡ true → ⊥
    not_this e =
        let u = bytes_eq h.uid stored.uid in
        let a = bytes_eq h.attendee q in
        let t = is_eq (slot_cmp h.slot slot) in
        let n = h.revision.sequence == stored.revision.sequence in
        let four = and_parts (u && a && t) n e in
        let uid = (and_parts u a (and_parts (u && a) t four.0).0).0 in
        let below = old h (in_head h hs) uid in
        let same = eqb-true h.revision.sequence stored.revision.sequence four.1 in
        absurd (omega (arith, below, same))

module _ (meetings after : Text → Option StoredMeeting) (book : OrganiserBook) (uid : Text) (meeting : StoredMeeting) (stored : Stored) (own : stored.uid ≡ text_octets uid)
    (represents : RepresentsStored meeting (record book { stores = stored ∷ book.stores }) stored)
    (put : (q : Text) → after q ≡ cond (same_text uid q) (Some meeting) (meetings q)) (keeps : KeepsAll meetings book) where
  abbrev next : OrganiserBook
  next = record book { stores = stored ∷ book.stores }

  other_represented : (q : List ℕ) (m : Option StoredMeeting) (r : Option Stored) → RepresentsAt book q m r → RepresentsAt next q m r
  other_represented q None None h = h
  other_represented q None (Some s) h = h
  other_represented q (Some m) None h = h
  other_represented q (Some m) (Some s) h = record { revision = h.revision; components = h.components; attending = h.attending; object = h.object; told = h.told; seen = h.seen; sent = h.sent }

  pub keeps_stored : KeepsAll after next
  keeps_stored q = by (same_text uid q) refl
    where
      by : (b : Bool) → same_text uid q ≡ b → RepresentsAt next (text_octets q) (after q) (last_store (text_octets q) next)
      by true e =
          let is : last_store (text_octets q) next ≡ Some stored =
          ap (λ b. cond b (Some stored) (last_store (text_octets q) book)) (ap (λ u. bytes_eq u (text_octets q)) own ∙ e) in
          let found : after q ≡ Some meeting = put q ∙ ap (λ b. cond b (Some meeting) (meetings q)) e in
          subst (λ m. RepresentsAt next (text_octets q) m (last_store (text_octets q) next)) (sym found) (subst (RepresentsAt next (text_octets q) (Some meeting)) (sym is) represents)
      by false e =
          let is : last_store (text_octets q) next ≡ last_store (text_octets q) book =
          ap (λ b. cond b (Some stored) (last_store (text_octets q) book)) (ap (λ u. bytes_eq u (text_octets q)) own ∙ e) in
          let found : after q ≡ meetings q = put q ∙ ap (λ b. cond b (Some meeting) (meetings q)) e in
          subst (λ m. RepresentsAt next (text_octets q) m (last_store (text_octets q) next)) (sym found)
          (subst (RepresentsAt next (text_octets q) (meetings q)) (sym is) (other_represented (text_octets q) (meetings q) (last_store (text_octets q) book) (keeps q)))

-- ---- a reply

module _ (book : OrganiserBook) (heard : List Heard) (uid : List ℕ) (of_it : (h : Heard) → Contains heard h → h.uid ≡ uid) where
  abbrev heard_too : OrganiserBook
  heard_too = record book { replies = heard ++ book.replies }

  -- they answer no store of another UID
  none_of : (stored : Stored) (slot : Slot) (q : List ℕ) → bytes_eq uid stored.uid ≡ false → (hs : List Heard) → ((h : Heard) → Contains hs h → h.uid ≡ uid) → filter (answers_store stored slot q) hs ≡ []
  none_of stored slot q n [] own = refl
  none_of stored slot q n (h ∷ hs) own =
      ap (λ b. cond b (h ∷ filter (answers_store stored slot q) hs) (filter (answers_store stored slot q) hs)) (false_from_ne_true _ not_this) ∙ none_of stored slot q n hs (λ x c. own x (in_tail h hs x c))
    where
      not_this : answers_store stored slot q h ≡ true → ⊥
      not_this e =
          let u = bytes_eq h.uid stored.uid in
          let a = bytes_eq h.attendee q in
          let t = is_eq (slot_cmp h.slot slot) in
          let same = (and_parts u a (and_parts (u && a) t (and_parts (u && a && t) (h.revision.sequence == stored.revision.sequence) e).0).0).0 in
          both_ways _ n (subst (λ u. bytes_eq u stored.uid ≡ true) (own h (in_head h hs)) same)

  other_heard : (q : List ℕ) → bytes_eq uid q ≡ false → (m : Option StoredMeeting) (r : Option Stored) → ((s : Stored) → r ≡ Some s → s.uid ≡ q) → RepresentsAt book q m r → RepresentsAt heard_too q m r
  other_heard q n None None own h = λ x c. elim (Contains-append_cases heard book.replies x c) [
    | inl new ↦ subst (λ u. bytes_eq u q ≡ false) (sym (of_it x new)) n
    | inr old ↦ h x old
  ]
  other_heard q n None (Some s) own h = h
  other_heard q n (Some m) None own h = h
  other_heard q n (Some m) (Some s) own h = record {
    revision = h.revision;
    components = h.components;
    attending = h.attending;
    object = h.object;
    told = h.told;
    seen = λ slot a. subst (λ l. LatestOf l (answer_in m slot a)) (sym (filter-append (answers_store s slot a) heard book.replies ∙ ap (λ l. l ++ filter (answers_store s slot a) book.replies) (none_of s slot a apart heard of_it))) (h.seen slot a);
    sent = λ x c same. elim (Contains-append_cases heard book.replies x c) [
      | inl new ↦ absurd (both_ways _ apart (subst (λ u. bytes_eq u s.uid ≡ true) (of_it x new) same))
      | inr old ↦ h.sent x old same
    ];
  }
    where
      apart : bytes_eq uid s.uid ≡ false
      apart = subst (λ u. bytes_eq uid u ≡ false) (sym (own s refl)) n

  -- the meeting that they answer, with all of them heard
  pub own_heard : (m n : StoredMeeting) (stored : Stored) → n.revision ≡ m.revision → n.components ≡ m.components → n.attending ≡ m.attending → n.object ≡ m.object
      → ((h : Heard) → Contains heard h → h.revision.sequence ≤ stored.revision.sequence) → AreSeen n stored (book.replies ++ heard) → RepresentsStored m book stored → RepresentsStored n heard_too stored
  own_heard m n stored r c a o sent seen h = record {
    revision = ap revision_of r ∙ h.revision;
    components = subst (λ l. AllZip SaysComponent stored.events l.items) (sym c) h.components;
    attending = subst (λ l. AreAttending (lists_said stored.events) l.entries) (sym a) h.attending;
    object = ap (λ l. l.items) o ∙ h.object;
    told = λ q. ap (λ l. is_told q l.entries) a ∙ h.told q;
    seen = λ slot q. latest_turned (answers_store stored slot q) book.replies heard (answer_in n slot q) (seen slot q);
    sent = λ x k same. elim (Contains-append_cases heard book.replies x k) [ inl new ↦ sent x new | inr old ↦ h.sent x old same ];
  }

  module _ (meetings after : Text → Option StoredMeeting) (own : Text) (is_own : uid ≡ text_octets own) (m : StoredMeeting) (put : (q : Text) → after q ≡ cond (same_text own q) (Some m) (meetings q))
      (stored : Stored) (last : last_store uid book ≡ Some stored) (represents : RepresentsStored m heard_too stored) (keeps : KeepsAll meetings book) where
    pub keeps_heard : KeepsAll after heard_too
    keeps_heard q = by (same_text own q) refl
      where
        by : (b : Bool) → same_text own q ≡ b → RepresentsAt heard_too (text_octets q) (after q) (last_store (text_octets q) book)
        by true e =
            let same : uid ≡ text_octets q = is_own ∙ same_is (text_octets own) (text_octets q) e in
            let found : after q ≡ Some m = put q ∙ ap (λ b. cond b (Some m) (meetings q)) e in
            subst (λ x. RepresentsAt heard_too (text_octets q) x (last_store (text_octets q) book)) (sym found)
            (subst (RepresentsAt heard_too (text_octets q) (Some m)) (sym last ∙ ap (λ u. last_store u book) same) represents)
        by false e =
            let found : after q ≡ meetings q = put q ∙ ap (λ b. cond b (Some m) (meetings q)) e in
            subst (λ x. RepresentsAt heard_too (text_octets q) x (last_store (text_octets q) book)) (sym found)
            (other_heard (text_octets q) (ap (λ u. bytes_eq u (text_octets q)) is_own ∙ e) (meetings q) (last_store (text_octets q) book) (λ s f. stored_own (text_octets q) book.stores s f) (keeps q))
