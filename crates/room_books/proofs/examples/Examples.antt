-- Worked examples of the definitions of a room: a request that is accepted, one that is declined, and a repeat.
use Rattle.std.proofs.Common.{◌≡◌, ℕ, pos, true, List, [], ◌∷◌, None, inl, inr, refl, sym, subst, arith}
use Rattle.std.specs.List.{Contains}
use Rattle.itip_order.proofs.Lists.{none_in_nil}
use Rattle.profile.specs.checker.Instances.{Key, Instance}
use Rattle.profile.specs.rooms.Revisions.{Part, Whole, At, Body, Set, Absent, Cancelled}
use Rattle.profile.specs.events.Messages.{Message}
use Rattle.profile.specs.rooms.Messages.{no_content, is_cancel, Accept, Busy, SinglesLimit}
use Rattle.profile.specs.rooms.Rooms as rooms
use Rattle.profile.specs.rooms.Rooms.{Claim, Book, Frees, KeepsConfirmed, confirmed_singles, asked, kind_of, shown, answered, Accepted, Declined, Repeated, Stale, NotAddressed}
use Rattle.profile.specs.streams.Reports.{CancelsNothing, IsFate, Taken}
use Rattle.profile.specs.streams.Streams.{Hosted}
use Rattle.room_books.specs.Texts.{kept}

-- a meeting of the organiser `a`, booked from nine to ten
abbrev part_at : ℕ → ℕ → Part
part_at uid sequence = record {
  organiser = 97 ∷ [];
  uid = uid ∷ [];
  slot = Whole;
  revision = record { sequence = sequence; stamp = pos 100 };
  body = Set (83 ∷ []);
}

abbrev key_of : ℕ → ℕ → Key
key_of uid start = record { organiser = 97 ∷ []; uid = uid ∷ []; slot = pos start }

abbrev booked_at : ℕ → ℕ → ℕ → Instance
booked_at uid start end = record { key = key_of uid start; start = pos start; end = pos end }

abbrev claim_at : ℕ → ℕ → ℕ → ℕ → Claim
claim_at uid sequence start end = record { part = part_at uid sequence; content = no_content; singles = booked_at uid start end ∷ []; series = None }

-- the first request, from nine to ten, was accepted at eight
abbrev first : Claim
first = claim_at 49 0 32400 36000

abbrev one_accepted : Book
one_accepted = record { taken = first.part ∷ []; answers = answered (pos 28800) Accept (first ∷ []) }

-- the second, from half past nine on, was declined
abbrev second : Claim
second = claim_at 50 0 34200 37800

abbrev one_declined : Book
one_declined = record {
  taken = first.part ∷ second.part ∷ [];
  answers = record { claim = first; moment = pos 28800; outcome = Accept } ∷ record { claim = second; moment = pos 28900; outcome = Busy (key_of 49 32400) (key_of 50 34200) (pos 34200) } ∷ [];
}

-- a newer revision of the first, at noon, was declined for the limit: the older booking is gone too
abbrev moved : Claim
moved = claim_at 49 1 43200 46800

abbrev moved_away : Book
moved_away = record {
  taken = first.part ∷ moved.part ∷ [];
  answers = record { claim = first; moment = pos 28800; outcome = Accept } ∷ record { claim = moved; moment = pos 28950; outcome = SinglesLimit } ∷ [];
}

first_is_asked : asked [] (first.part ∷ []) (first ∷ []) ≡ first ∷ []
first_is_asked = refl

first_is_confirmed : confirmed_singles one_accepted ≡ booked_at 49 32400 36000 ∷ []
first_is_confirmed = refl

first_is_accepted : kind_of [] (first.part ∷ []) (first ∷ []) Accept ≡ Accepted
first_is_accepted = refl

second_is_declined : kind_of (first.part ∷ []) (first.part ∷ second.part ∷ []) (second ∷ []) (Busy (key_of 49 32400) (key_of 50 34200) (pos 34200)) ≡ Declined (key_of 49 32400) (key_of 50 34200) (pos 34200)
second_is_declined = refl

second_is_not_confirmed : confirmed_singles one_declined ≡ booked_at 49 32400 36000 ∷ []
second_is_not_confirmed = refl

-- the same message again is asked nothing, and its part is shown as before
repeat_is_not_asked : asked (first.part ∷ []) (first.part ∷ first.part ∷ []) (first ∷ []) ≡ []
repeat_is_not_asked = refl

repeat_is_repeated : kind_of (first.part ∷ []) (first.part ∷ first.part ∷ []) (first ∷ []) Accept ≡ Repeated
repeat_is_repeated = refl

repeat_is_shown : shown (first.part ∷ first.part ∷ []) (first ∷ []) ≡ first ∷ []
repeat_is_shown = refl

-- a declined revision takes the older booking with it, and the older message is stale from then on
moved_is_not_confirmed : confirmed_singles moved_away ≡ []
moved_is_not_confirmed = refl

first_is_stale : kind_of (first.part ∷ moved.part ∷ []) (first.part ∷ moved.part ∷ first.part ∷ []) (first ∷ []) Accept ≡ Stale
first_is_stale = refl

none_is_not_addressed : kind_of [] [] [] Accept ≡ NotAddressed
none_is_not_addressed = refl

kept_is_first : kept one_declined ≡ record { claim = first; moment = pos 28800; outcome = Accept } ∷ []
kept_is_first = refl

-- ---- an instance that a part hides

-- what is said of one slot of the first meeting, in its next revision
abbrev slot_part : ℕ → ℕ → Body → Part
slot_part uid slot body = record {
  organiser = 97 ∷ [];
  uid = uid ∷ [];
  slot = At (pos slot);
  revision = record { sequence = 1; stamp = pos 100 };
  body = body;
}

abbrev with_part : Part → Book
with_part part = record { taken = first.part ∷ part ∷ []; answers = answered (pos 28800) Accept (first ∷ []) }

the_cancelled_is_gone : confirmed_singles (with_part (slot_part 49 32400 Cancelled)) ≡ []
the_cancelled_is_gone = refl

one_without_the_room_is_gone : confirmed_singles (with_part (slot_part 49 32400 Absent)) ≡ []
one_without_the_room_is_gone = refl

another_slot_hides_nothing : confirmed_singles (with_part (slot_part 49 36000 Cancelled)) ≡ booked_at 49 32400 36000 ∷ []
another_slot_hides_nothing = refl

another_meeting_hides_nothing : confirmed_singles (with_part (slot_part 50 32400 Cancelled)) ≡ booked_at 49 32400 36000 ∷ []
another_meeting_hides_nothing = refl

-- the instance of nine o'clock, moved to noon and accepted there, holds the room at noon alone
abbrev noon : Claim
noon = record { part = slot_part 49 32400 (Set (83 ∷ [])); content = no_content; singles = record { key = key_of 49 32400; start = pos 43200; end = pos 46800 } ∷ []; series = None }

the_moved_is_where_it_went : confirmed_singles (record { taken = first.part ∷ noon.part ∷ []; answers = answered (pos 28800) Accept (first ∷ noon ∷ []) }) ≡ noon.singles
the_moved_is_where_it_went = refl

-- ---- what a CANCEL frees

-- one of the instance of nine o'clock frees the room of it
a_cancel_frees : Frees one_accepted (with_part (slot_part 49 32400 Cancelled))
a_cancel_frees = record {
  booked = booked_at 49 32400 36000;
  was = inl (0, omega arith, refl);
  gone = λ c. elim c [ inl single ↦ none_in_nil _ single | inr recurs ↦ none_in_nil recurs.series recurs.among ];
}

-- where the one single is confirmed still, nothing is freed
keeps_nine : (book : Book) → confirmed_singles book ≡ booked_at 49 32400 36000 ∷ [] → KeepsConfirmed one_accepted book
keeps_nine book same b (inl single) = inl (subst (λ (l : List Instance). Contains l b) (sym same) single)
keeps_nine book same b (inr recurs) = absurd (none_in_nil recurs.series recurs.among)

-- one of ten o'clock, at which nothing starts, frees it of nothing
a_cancel_of_no_start : KeepsConfirmed one_accepted (with_part (slot_part 49 36000 Cancelled))
a_cancel_of_no_start = keeps_nine (with_part (slot_part 49 36000 Cancelled)) another_slot_hides_nothing

module _ (message : Message) (cancel : is_cancel message.method ≡ true) (room : Hosted) where
  hosted : Book → List Hosted
  hosted book = record room { book = book } ∷ []

  it_is_told : IsFate message (hosted one_accepted) (hosted (with_part (slot_part 49 36000 Cancelled))) (rooms.Cancelled ∷ []) CancelsNothing
  unfolding hosted
  it_is_told = inl (record { cancel = cancel; taken = refl; keeps = (a_cancel_of_no_start, tt) }, refl)

  the_other_is_not : IsFate message (hosted one_accepted) (hosted (with_part (slot_part 49 32400 Cancelled))) (rooms.Cancelled ∷ []) Taken
  unfolding hosted
  the_other_is_not = inr ((λ f. a_cancel_frees.gone (f.keeps.0 a_cancel_frees.booked a_cancel_frees.was)), refl)
