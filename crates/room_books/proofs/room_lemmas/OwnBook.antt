-- A meeting's own book, when claims of it are taken: what is asked, and what is answered, is what the room's book says.
-- Behind Room::put, Room::settled, Room::take_claims.
use Rattle.std.proofs.Common.{◌≡◌, ◌∙◌, ℤ, Bool, true, false, cond, not, ◌&&◌, ◌||◌, List, [], ◌∷◌, ◌++◌, length, refl, sym, ap, subst}
use Rattle.std.specs.Prelude.{nat_lt, if◌then◌else◌}
use Rattle.std.specs.List.{Contains, list_any}
use Rattle.std.proofs.lemmas.List.Elements.{filter-append}
use Rattle.itip_order.proofs.Lists.{in_head, in_tail, filter_at, filter_from}
use Rattle.profile.specs.rooms.Messages.{Outcome}
use Rattle.std.proofs.lemmas.Bool.{and_parts, both_ways, false_from_ne_true}
use Rattle.itip_order.proofs.Order.{is_eq_true}
use Rattle.profile.specs.rooms.Revisions.{Part, in_view, is_whole, same_meeting, meeting_cmp}
use Rattle.profile.specs.rooms.Rooms.{Claim, PartAnswer, Book, Cancelled, Repeated, Stale, kind_of, kind_of_outcome, is_fresh, is_same, is_set, lacks_whole, wants_whole, parts_of, asked, answered}
use Rattle.room_books.specs.declared.meeting.MeetingKey.{MeetingKey}
use Rattle.room_books.specs.declared.kept.Meeting.{Meeting}
use Rattle.room_books.specs.Room.{is_of_meeting, of_meeting, answers_of, book_of, book_after, AreFitting, IsOwn, Represents}
use Rattle.room_books.proofs.laws_lemmas.Runs.{new_answer}
use Rattle.room_books.proofs.room_lemmas.Meetings.{view_of, of_more_own, filter_same, meeting_of_key}
use Rattle.room_books.proofs.change_lemmas.Own.{filter_all}
use Rattle.room_books.proofs.shared_lemmas.Pairs.{map_at}

pub own_of : (k : MeetingKey) (entries : List (MeetingKey × Meeting)) (book : Book) → Represents entries book → IsOwn k (book_of k book)
own_of k entries book st = record {
  taken = λ p c. (filter_at (is_of_meeting k) book.taken p c).1;
  known = λ a c. let from = filter_at (λ x. is_of_meeting k x.claim.part) book.answers a c in filter_from (is_of_meeting k) book.taken a.claim.part (st.known a from.0) from.1;
  fit = λ a c. st.fit a (filter_at (λ x. is_of_meeting k x.claim.part) book.answers a c).0;
}

pub parts_own : (k : MeetingKey) (claims : List Claim) → AreFitting k claims → (p : Part) → Contains (parts_of claims) p → is_of_meeting k p ≡ true
parts_own k claims fit p c = let found = map_at (λ (x : Claim). x.part) claims p c in subst (λ (q : Part). is_of_meeting k q ≡ true) found.2 (fit.of_it found.0 found.1)

any_of : (f g : Part → Bool) (xs : List Part) → ((p : Part) → Contains xs p → f p ≡ g p) → list_any f xs ≡ list_any g xs
any_of f g [] h = refl
any_of f g (x ∷ xs) h = λ i. h x (in_head x xs) i || any_of f g xs (λ p c. h p (in_tail x xs p c)) i

kind_same : (before after before' after' : List Part) (claims : List Claim) (outcome : Outcome) → asked before after claims ≡ asked before' after' claims
    → list_any (is_fresh before after) (parts_of claims) ≡ list_any (is_fresh before' after') (parts_of claims)
    → list_any (is_same before after) (parts_of claims) ≡ list_any (is_same before' after') (parts_of claims) → kind_of before after claims outcome ≡ kind_of before' after' claims outcome
kind_same before after before' after' [] outcome a f s = refl
kind_same before after before' after' (c ∷ cs) outcome a f s =
    λ i. if nat_lt 0 (length (a i)) then kind_of_outcome outcome else (if f i then Cancelled else (if s i then Repeated else Stale))

-- the wholes of a part's meeting are among the parts of that meeting
wholes_own : (k : MeetingKey) (h : List Part) (p : Part) → is_of_meeting k p ≡ true → list_any (λ other. is_whole other && same_meeting other p) (of_meeting k h) ≡ list_any (λ other. is_whole other && same_meeting other p) h
wholes_own k [] p e = refl
wholes_own k (x ∷ xs) p e = at_test (is_of_meeting k x) refl (wholes_own k xs p e)
  where
    not_there : is_of_meeting k x ≡ false → (is_whole x && same_meeting x p) ≡ false
    not_there other = false_from_ne_true (is_whole x && same_meeting x p) (λ h. both_ways (is_of_meeting k x) other (meeting_of_key k p x (is_eq_true (meeting_cmp x p) (and_parts (is_whole x) (same_meeting x p) h).1) e))

    at_test : (b : Bool) → is_of_meeting k x ≡ b
        → list_any (λ other. is_whole other && same_meeting other p) (of_meeting k xs) ≡ list_any (λ other. is_whole other && same_meeting other p) xs → list_any (λ other. is_whole other && same_meeting other p) (cond b (x ∷ of_meeting k xs) (of_meeting k xs)) ≡ ((is_whole x && same_meeting x p) || list_any (λ other. is_whole other && same_meeting other p) xs)
    at_test true is rest = ap (λ b. (is_whole x && same_meeting x p) || b) rest
    at_test false is rest = rest ∙ ap (λ b. b || list_any (λ other. is_whole other && same_meeting other p) xs) (sym (not_there is))

module _ (k : MeetingKey) (book : Book) (claims : List Claim) (fit : AreFitting k claims) where
  abbrev own : Book
  own = book_of k book

  abbrev all : List Part
  all = book.taken ++ parts_of claims

  abbrev now : List Part
  now = own.taken ++ parts_of claims

  pub taken_own : of_meeting k all ≡ now
  taken_own = of_more_own k book.taken (parts_of claims) (parts_own k claims fit)

  pub view_after : (p : Part) → is_of_meeting k p ≡ true → in_view now p ≡ in_view all p
  view_after p e = ap (λ t. in_view t p) (sym taken_own) ∙ view_of k all p e

  pub fresh_own : (p : Part) → is_of_meeting k p ≡ true → is_fresh own.taken now p ≡ is_fresh book.taken all p
  fresh_own p e = λ i. view_after p e i && not (view_of k book.taken p e i)

  same_own : (p : Part) → is_of_meeting k p ≡ true → is_same own.taken now p ≡ is_same book.taken all p
  same_own p e = λ i. view_after p e i && view_of k book.taken p e i

  pub asked_own : asked own.taken now claims ≡ asked book.taken all claims
  asked_own = filter_same (λ c. is_set c.part && is_fresh own.taken now c.part) (λ c. is_set c.part && is_fresh book.taken all c.part) claims
      (λ c h. ap (λ b. is_set c.part && b) (fresh_own c.part (fit.of_it c h)))

  pub answers_own : (moment : ℤ) (outcome : Outcome) → answers_of k (book.answers ++ answered moment outcome (asked book.taken all claims)) ≡ own.answers ++ answered moment outcome (asked own.taken now claims)
  answers_own moment outcome =
      let f = λ (a : PartAnswer). is_of_meeting k a.claim.part in
      let new = answered moment outcome (asked book.taken all claims) in
      filter-append f book.answers new
      ∙ ap (λ l. own.answers ++ l) (filter_all f new (λ a c. fit.of_it a.claim (new_answer book.taken all moment outcome claims a c).among))
      ∙ ap (λ l. own.answers ++ answered moment outcome l) (sym asked_own)

  pub book_own : (moment : ℤ) (outcome : Outcome) → book_of k (book_after book claims moment outcome) ≡ book_after own claims moment outcome
  book_own moment outcome = λ i. record { taken = taken_own i; answers = answers_own moment outcome i }

  pub kind_own : (outcome : Outcome) → kind_of own.taken now claims outcome ≡ kind_of book.taken all claims outcome
  kind_own outcome =
      let each = parts_own k claims fit in
      kind_same own.taken now book.taken all claims outcome asked_own
      (any_of (is_fresh own.taken now) (is_fresh book.taken all) (parts_of claims) (λ p c. fresh_own p (each p c)))
      (any_of (is_same own.taken now) (is_same book.taken all) (parts_of claims) (λ p c. same_own p (each p c)))

  lacks_own : (p : Part) → is_of_meeting k p ≡ true → lacks_whole now p ≡ lacks_whole all p
  lacks_own p e = ap (λ t. lacks_whole t p) (sym taken_own) ∙ ap not (wholes_own k all p e)

  pub wants_own : (adds : Bool) → wants_whole adds own.taken now claims ≡ wants_whole adds book.taken all claims
  wants_own adds =
      let each = parts_own k claims fit in
      ap (λ b. adds && b)
      (any_of (λ p. is_fresh own.taken now p && lacks_whole now p) (λ p. is_fresh book.taken all p && lacks_whole all p) (parts_of claims)
      (λ p c i. fresh_own p (each p c) i && lacks_own p (each p c) i))
