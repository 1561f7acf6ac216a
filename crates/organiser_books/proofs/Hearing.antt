-- What was answered to a store, with one more answer.
use Rattle.std.proofs.Common.{◌≡◌, ◌∙◌, ℕ, ◌<◌, Bool, true, false, ◌&&◌, not, is_some, cond, List, [], ◌∷◌, ◌++◌, map, length, get_or, Option, None, Some, refl, sym, ap, subst, inl, inr}
use Rattle.std.specs.Prelude.{◌==◌, slice_get}
use Rattle.std.specs.List.{filter, position, position_or_len, list_any, Contains}
use Rattle.std.specs.Map.{lookup}
use Rattle.std.specs.Str.{bytes_eq}
use Rattle.std.specs.Ordering.{is_eq}
use Rattle.std.proofs.lemmas.Bool.{true≢false, and_parts, and_from, and_left, cases_Bool, cases_lt, lt-ltb, le-ltb, both_ways, false_from_ne_true, eqb-true, eq-eqb}
use Rattle.std.proofs.lemmas.Bool.Decides.{Decides-int_eq}
use Rattle.std.proofs.lemmas.Cmp.{tied_itself}
use Rattle.std.proofs.lemmas.List.Sums.{passes_at_first}
use Rattle.itip_order.proofs.Order.{is_eq_true, slot_same, slot_total}
use Rattle.ical_values.specs.declared.address.Address.{Address}
use Rattle.profile.specs.rooms.Revisions.{Slot, Whole, At, slot_cmp}
use Rattle.profile.specs.organisers.Organisers.{Heard, Stored, answers_store}
use Rattle.profile.specs.events.EventComponents as events
use Rattle.cal_events.specs.declared.component.Attendee.{Attendee}
use Rattle.cal_events.specs.Component.{attendee_of}
use Rattle.organiser_books.specs.declared.answers.AttendeeAnswer.{AttendeeAnswer}
use Rattle.organiser_books.specs.declared.answers.AnswerKey.{AnswerKey}
use Rattle.organiser_books.specs.Answers.{answer_key_at, later_answer, same_answer_key}
use Rattle.organiser_books.specs.Attending.{is_address, attendance_of}
use Rattle.organiser_books.specs.Representation.{answer_at, IsHeardAnswer, LatestOf, is_unknown}
use Rattle.std.proofs.lemmas.List.Elements.{Contains-get_or}
use Rattle.itip_order.proofs.Lists.{any_from}
use Rattle.organiser_books.specs.declared.meeting.StoredMeeting.{StoredMeeting}
use Rattle.organiser_books.proofs.Latest.{latest_more}
use Rattle.organiser_books.proofs.Lines.{same_is, same_itself}
use Rattle.organiser_books.proofs.Loops.{filter_no, filter_yes}

abbrev pub Kept : Type 0
Kept = List (AnswerKey × AttendeeAnswer)

-- these have the latest of those answers to a store
abbrev pub Seen : List Address → Stored → List Heard → Kept → Type 0
Seen keys stored replies answers = (slot : Slot) (attendee : List ℕ) → LatestOf (filter (answers_store stored slot attendee) replies) (answer_at (position (is_address attendee) keys) slot answers)

-- ---- keys

key_parts : (p q : ℕ) (s t : Slot) → same_answer_key (answer_key_at p s) (answer_key_at q t) ≡ true → (p ≡ q) × (s ≡ t)
key_parts p q Whole Whole e = (eqb-true p q (and_parts _ _ e).0, refl)
key_parts p q Whole (At b) e = absurd (true≢false (sym (and_parts _ _ e).1))
key_parts p q (At a) Whole e = absurd (true≢false (sym (and_parts _ _ e).1))
key_parts p q (At a) (At b) e = (eqb-true p q (and_parts _ _ e).0, ap At ((Decides-int_eq a b).0 (and_parts _ _ e).1))

key_itself : (p : ℕ) (s : Slot) → same_answer_key (answer_key_at p s) (answer_key_at p s) ≡ true
key_itself p Whole = and_from _ _ (eq-eqb p p refl) refl
key_itself p (At a) = and_from _ _ (eq-eqb p p refl) ((Decides-int_eq a a).1 refl)

-- ---- places

some_is : {X : Type 0} (a b : X) → Some a ≡ Some b → a ≡ b
some_is a b e = cc

none_some : {X : Type 0} (a : X) → None ≡ Some a → ⊥
none_some a e = absurd (cc)

-- at the place that is found the test passes
pub found_at : {X : Type 0} (test : X → Bool) (xs : List X) (d : X) (place : ℕ) → position test xs ≡ Some place → test (get_or xs place d) ≡ true
found_at test xs d place e = elim (cases_lt (position_or_len test xs) (length xs)) [
  | inl below ↦
      let is : position_or_len test xs ≡ place = some_is _ _ (ap (λ b. cond b (Some (position_or_len test xs)) None) (sym (lt-ltb _ _ below)) ∙ e) in
      subst (λ n. test (get_or xs n d) ≡ true) is (passes_at_first test xs d below)
  | inr above ↦ absurd (none_some place (ap (λ b. cond b (Some (position_or_len test xs)) None) (sym (le-ltb _ _ above)) ∙ e))
]

-- two addresses in one place are one
one_place : (keys : List Address) (d : Address) (a b : List ℕ) (place : ℕ) → position (is_address a) keys ≡ Some place → position (is_address b) keys ≡ Some place → a ≡ b
one_place keys d a b place e f = same_is a _ (found_at (is_address a) keys d place e) ∙ sym (same_is b _ (found_at (is_address b) keys d place f))

-- the first of these lines
pub first_line : (lines : List Attendee) (said : List events.Attendee) (a : Attendee) → Some a ≡ slice_get lines 0 → map attendee_of lines ≡ said → (rest : List events.Attendee) × (said ≡ attendee_of a ∷ rest)
first_line [] said a h e = absurd (none_some a (sym h))
first_line (l ∷ ls) said a h e = (map attendee_of ls, sym e ∙ ap (λ z. attendee_of z ∷ map attendee_of ls) (sym (some_is a l h)))

pub no_line : (lines : List Attendee) (said : List events.Attendee) → None ≡ slice_get lines 0 → map attendee_of lines ≡ said → said ≡ []
no_line [] said h e = sym e
no_line (l ∷ ls) said h e = absurd (none_some l h)

-- ---- one more answer

module _ (keys : List Address) (stored : Stored) (replies : List Heard) where
  -- to this one
  module _ (d : Address) (h : Heard) (place : ℕ) (new : AttendeeAnswer) (answers more : Kept) (own : bytes_eq h.uid stored.uid ≡ true) (now : (h.revision.sequence == stored.revision.sequence) ≡ true)
      (found : position (is_address h.attendee) keys ≡ Some place) (is : IsHeardAnswer h new)
      (put : (other : AnswerKey) → lookup (same_answer_key other) more ≡ cond (same_answer_key (answer_key_at place h.slot) other) (Some (later_answer (lookup (same_answer_key (answer_key_at place h.slot)) answers) new)) (lookup (same_answer_key other) answers))
      (seen : Seen keys stored replies answers) where
    abbrev key : AnswerKey
    key = answer_key_at place h.slot

    own_slot : is_eq (slot_cmp h.slot h.slot) ≡ true
    own_slot = ap is_eq (tied_itself slot_total h.slot)

    own_answer : answer_at (position (is_address h.attendee) keys) h.slot more ≡ Some (later_answer (answer_at (position (is_address h.attendee) keys) h.slot answers) new)
    own_answer =
        ap (λ p. answer_at p h.slot more) found ∙ put key ∙ ap (λ b. cond b (Some (later_answer (lookup (same_answer_key key) answers) new)) (lookup (same_answer_key key) answers)) (key_itself place h.slot)
        ∙ ap (λ p. Some (later_answer (answer_at p h.slot answers) new)) (sym found)

    at_own : LatestOf (filter (answers_store stored h.slot h.attendee) (replies ++ h ∷ [])) (answer_at (position (is_address h.attendee) keys) h.slot more)
    at_own =
        subst (LatestOf (filter (answers_store stored h.slot h.attendee) (replies ++ h ∷ []))) (sym own_answer)
        (subst (λ l. LatestOf l (Some (later_answer (answer_at (position (is_address h.attendee) keys) h.slot answers) new)))
        (sym (filter_yes (answers_store stored h.slot h.attendee) replies h (and_from _ _ (and_from _ _ (and_from _ _ own (same_itself h.attendee)) own_slot) now)))
        (latest_more (filter (answers_store stored h.slot h.attendee) replies) h (answer_at (position (is_address h.attendee) keys) h.slot answers) new is (seen h.slot h.attendee)))

    other_answer : (slot : Slot) (q : List ℕ) → ((h.attendee ≡ q) → (h.slot ≡ slot) → ⊥) → (p : Option ℕ) → position (is_address q) keys ≡ p → answer_at p slot more ≡ answer_at p slot answers
    other_answer slot q apart None e = refl
    other_answer slot q apart (Some p) e =
        put (answer_key_at p slot)
        ∙ ap (λ b. cond b (Some (later_answer (lookup (same_answer_key key) answers) new)) (lookup (same_answer_key (answer_key_at p slot)) answers))
        (false_from_ne_true _ (λ same. let parts = key_parts place p h.slot slot same in apart (one_place keys d h.attendee q p (found ∙ ap Some parts.0) e) parts.1))

    at_other : (slot : Slot) (q : List ℕ) → ((h.attendee ≡ q) → (h.slot ≡ slot) → ⊥) → (bytes_eq h.attendee q && is_eq (slot_cmp h.slot slot)) ≡ false
        → LatestOf (filter (answers_store stored slot q) (replies ++ h ∷ [])) (answer_at (position (is_address q) keys) slot more)
    at_other slot q apart n =
        subst (LatestOf (filter (answers_store stored slot q) (replies ++ h ∷ []))) (sym (other_answer slot q apart (position (is_address q) keys) refl))
        (subst (λ l. LatestOf l (answer_at (position (is_address q) keys) slot answers)) (sym (filter_no (answers_store stored slot q) replies h (not_all (bytes_eq h.uid stored.uid) _ _ _ n))) (seen slot q))
      where
        not_all : (a b c e : Bool) → (b && c) ≡ false → (a && b && c && e) ≡ false
        not_all true true c e n = and_left c e n
        not_all true false c e n = refl
        not_all false b c e n = refl

    pub heard_new : Seen keys stored (replies ++ h ∷ []) more
    heard_new slot q = elim (cases_Bool (bytes_eq h.attendee q && is_eq (slot_cmp h.slot slot))) [
      | inl same ↦
          let both = and_parts _ _ same in
          subst (λ s. LatestOf (filter (answers_store stored s q) (replies ++ h ∷ [])) (answer_at (position (is_address q) keys) s more)) (slot_same h.slot slot (is_eq_true _ both.1))
          (subst (λ a. LatestOf (filter (answers_store stored h.slot a) (replies ++ h ∷ [])) (answer_at (position (is_address a) keys) h.slot more)) (same_is h.attendee q both.0) at_own)
      | inr other ↦ at_other slot q (λ a s. both_ways _ other (and_from _ _ (subst (λ z. bytes_eq h.attendee z ≡ true) a (same_itself h.attendee)) (subst (λ z. is_eq (slot_cmp h.slot z) ≡ true) s own_slot))) other
    ]

-- ---- those who speak

-- who is an attendee depends on the attendees alone
pub unknown_same : (m n : StoredMeeting) → m.attending ≡ n.attending → (lines : List events.Attendee) → is_unknown m lines ≡ is_unknown n lines
unknown_same m n e [] = refl
unknown_same m n e (a ∷ rest) = ap (λ k. not (is_some (attendance_of a.address k.entries))) e

-- where none passes the test, the one in a place doesn't
pub none_passes : {X : Type 0} (test : X → Bool) (xs : List X) (i : ℕ) (x : X) → list_any test xs ≡ false → i < length xs → x ≡ get_or xs i x → test x ≡ false
none_passes test xs i x none inside is = false_from_ne_true _ (λ e. both_ways _ none (any_from test xs x (subst (Contains xs) (sym is) (Contains-get_or xs i x inside)) e))
