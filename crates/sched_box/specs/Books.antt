-- What a box answers to one object.
use Rattle.std.specs.Prelude.{◌≡◌, ℕ, ℤ, List}
use Rattle.profile.specs.streams.Reports.{AnswersAs, Becomes, Fate}
use Rattle.profile.specs.streams.Streams.{Answers, Box, Steps, IsRefusedWith}
use Rattle.profile.specs.events.Messages.{Message, SpellsMessage, is_to_rooms}
use Rattle.sched_box.specs.Answering.{AreHosted, room_addresses}
use Rattle.sched_box.specs.Objects.{kept_of}
use Rattle.sched_box.specs.Organising.{AreKeptBy}
use Rattle.sched_box.specs.declared.books.Books.{Books}

-- the addresses of its rooms, in order
abbrev pub hosted_rooms : Books → List (List ℕ)
hosted_rooms books = room_addresses books.rooms.rooms.items

-- the books are what the box keeps
pub record AreBooksOf (books : Books) (box : Box) : Type 0 where
  pub rooms : AreHosted books.rooms.rooms.items box.rooms
  pub organisers : AreKeptBy books.organisers.organisers.items box.organisers

-- what the first are, the second are too
abbrev pub KeepAll : Books → Books → Type 0
KeepAll old new = (box : Box) → AreBooksOf old box → AreBooksOf new box

-- an object, of which so much was kept, is taken and these octets answered, from whatever the books are, and this became of it
abbrev pub TakesKept : ℤ → List ℕ → Books → Books → List ℕ → Fate → Type 0
TakesKept moment kept old new octets fate =
    (object : List ℕ) → kept ≡ kept_of object → (before : Box) → AreBooksOf old before
    → (after : Box) × AreBooksOf new after
    × ((said : Message) × SpellsMessage object said × Steps moment said before after octets
    × Becomes (is_to_rooms said.method) moment said before after fate)

-- it is refused with this number
abbrev pub RefusesKept : List ℕ → Books → ℕ → Type 0
RefusesKept kept books n = (object : List ℕ) → kept ≡ kept_of object → (before : Box) → AreBooksOf books before → IsRefusedWith before n object

-- these octets answer object k, which is so many refusals
abbrev pub AnswersKept : ℤ → ℕ → List ℕ → Books → Books → List ℕ → ℕ → Type 0
AnswersKept moment k kept old new octets refused =
    (object : List ℕ) → kept ≡ kept_of object → (before : Box) → AreBooksOf old before
    → (after : Box) × AreBooksOf new after × Answers moment k object before after octets refused

-- these octets answer object k, and this became of it
abbrev pub AnswersKeptAs : ℤ → ℕ → List ℕ → Books → Books → List ℕ → Fate → Type 0
AnswersKeptAs moment k kept old new octets fate =
    (object : List ℕ) → kept ≡ kept_of object → (before : Box) → AreBooksOf old before
    → (after : Box) × AreBooksOf new after × AnswersAs moment k object before after octets fate
