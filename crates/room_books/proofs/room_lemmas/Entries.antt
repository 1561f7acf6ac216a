-- The entries of a room's meetings, and what all of them confirm.
-- Cited by Room::certificate_text.
use Rattle.std.proofs.Common.{◌≡◌, Bool, true, false, cond, List, [], ◌∷◌, Some, refl, sym, ◌∙◌, subst, length}
use Rattle.std.specs.Cmp.{IsEquivalence, both_ways as same_tests}
use Rattle.std.specs.List.{Contains, IsDistinct}
use Rattle.std.specs.Map.{keys_of, lookup}
use Rattle.std.proofs.lemmas.Map.Views.{lookup-from_Contains}
use Rattle.itip_order.proofs.Lists.{in_head, in_tail, filter_at}
use Rattle.profile.specs.checker.Instances.{Instance}
use Rattle.profile.specs.rooms.Rooms.{PartAnswer, Book, Recurring, confirmed_singles, is_confirmed, left_of, recurring_in, series_confirmed}
use Rattle.room_books.specs.declared.meeting.MeetingKey.{MeetingKey}
use Rattle.room_books.specs.declared.kept.Meeting.{Meeting}
use Rattle.room_books.specs.Meeting.{same_key, all_confirmed, confirmed_of, in_room, recurring_of}
use Rattle.room_books.specs.Room.{is_of_meeting, of_meeting, answers_of, book_of, AreSameSeries, Meets, MeetsAt, Represents}
use Rattle.room_books.proofs.shared_lemmas.Confirms.{zip_confirms, zip_recurs}
use Rattle.room_books.proofs.shared_lemmas.Keys.{key_congr}
use Rattle.room_books.proofs.room_lemmas.Meetings.{key_parts, key_from, is_of_same, confirmed_own, hidden_of, part_own, series_own}
use Rattle.room_books.proofs.shared_lemmas.Partition.{partition}
use Rattle.room_books.proofs.shared_lemmas.Same.{AreSame, same_itself, same_then, same_append}
use Rattle.room_books.proofs.shared_lemmas.SameSeries.{AreAlike, series_none, series_append, series_turn, series_hidden}

pub key_laws : IsEquivalence same_key
key_laws = record {
  refl = λ a. key_from a a refl refl;
  symm = λ a b. same_tests _ _ (λ e. let s = key_parts a b e in key_from b a (sym s.0) (sym s.1)) (λ e. let s = key_parts b a e in key_from a b (sym s.0) (sym s.1));
  congr = key_congr;
}

found_step : (b : Bool) (q : MeetingKey) (x : MeetingKey × Meeting) (es : List (MeetingKey × Meeting)) (m : Meeting) → same_key q x.0 ≡ b → cond b (Some x.1) (lookup (same_key q) es) ≡ Some m
    → (lookup (same_key q) es ≡ Some m → (e : MeetingKey × Meeting) × Contains es e × (same_key q e.0 ≡ true)) → (e : MeetingKey × Meeting) × Contains (x ∷ es) e × (same_key q e.0 ≡ true)
found_step true q x es m t h f = (x, in_head x es, t)
found_step false q x es m t h f = let r = f h in (r.0, in_tail x es r.0 r.1, r.2)

-- what a look-up finds is an entry of that meeting
pub found_entry : (q : MeetingKey) (es : List (MeetingKey × Meeting)) (m : Meeting) → lookup (same_key q) es ≡ Some m → (e : MeetingKey × Meeting) × Contains es e × (same_key q e.0 ≡ true)
found_entry q [] m h = absurd (cc)
found_entry q (x ∷ es) m h = found_step (same_key q x.0) q x es m refl h (found_entry q es m)

module _ (entries : List (MeetingKey × Meeting)) (book : Book) (st : Represents entries book) (distinct : IsDistinct same_key (keys_of entries)) where
  -- each entry represents what the book says of its meeting
  pub meeting_at : (e : MeetingKey × Meeting) → Contains entries e → Meets (book_of e.0 book) e.0 e.1
  meeting_at e c =
      let here : lookup (same_key e.0) entries ≡ Some e.1 = lookup-from_Contains key_laws e.0 e.1 entries distinct c in
      subst (MeetsAt (book_of e.0 book) e.0) here (st.meets e.0)

  own_answers : (e : MeetingKey × Meeting) (a : PartAnswer) → Contains (answers_of e.0 book.answers) a → is_of_meeting e.0 a.claim.part ≡ true
  own_answers e a d = (filter_at (λ x. is_of_meeting e.0 x.claim.part) book.answers a d).1

  covered : (a : PartAnswer) → Contains book.answers a → is_confirmed book.taken a ≡ true → (e : MeetingKey × Meeting) × Contains entries e × (is_of_meeting e.0 a.claim.part ≡ true)
  covered a c h =
      let cover = st.covered a.claim.part (st.known a c) in
      let found = found_entry cover.key entries cover.meeting cover.found in
      (found.0, found.1, sym (is_of_same cover.key found.0.0 a.claim.part found.2) ∙ cover.is)

  -- the meetings confirm what the book does, and as many
  pub same_confirmed : AreAlike book (in_room entries)
  same_confirmed = record {
    singles = partition AreSame (same_itself []) (λ a b c d p q. same_append a b c d p q) same_then (left_of book.taken) confirmed_of book.taken entries book.answers distinct covered
        (λ e c.
        let own = answers_of e.0 book.answers in
        subst (λ (l : List Instance). AreSame l (confirmed_of e)) (confirmed_own e.0 book.taken own (own_answers e)) (zip_confirms e.0 (book_of e.0 book).taken own e.1.answers.items (meeting_at e c).answers));
    series = partition (AreSameSeries book.taken) (series_none book.taken) (series_append book.taken) (series_turn book.taken) recurring_in recurring_of book.taken entries book.answers distinct covered
        (λ e c.
        let own = answers_of e.0 book.answers in
        let t = of_meeting e.0 book.taken in
        let here : AreSameSeries t (series_confirmed t own) (recurring_of e) = zip_recurs e.0 t own e.1.answers.items (meeting_at e c).answers in
        series_hidden t book.taken (series_confirmed book.taken own) (recurring_of e)
        (λ r among b. hidden_of e.0 book.taken r.part b (part_own e.0 book.taken own (own_answers e) r among))
        (subst (λ (l : List Recurring). AreSameSeries t l (recurring_of e)) (series_own e.0 book.taken own (own_answers e)) here));
  }

  pub as_many : length (all_confirmed entries) ≡ length (confirmed_singles book)
  as_many = sym same_confirmed.singles.long
