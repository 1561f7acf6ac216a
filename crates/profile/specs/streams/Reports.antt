-- What became of each object of a stream: for who reads the report of a run, beside what is answered.
use Rattle.std.specs.Prelude.{◌≡◌, ◌⊎◌, ℕ, ◌+◌, ℤ, Bool, true, false, if◌then◌else◌, List, [], ◌∷◌, ◌++◌}
use Rattle.std.specs.List.{AllZip, list_any}
use Rattle.profile.specs.events.Messages.{Message, SpellsMessage, is_to_rooms}
use Rattle.profile.specs.rooms.Messages.{Outcome, is_cancel}
use Rattle.profile.specs.rooms.Rooms as rooms
use Rattle.profile.specs.rooms.Rooms.{Claim, Kind, IsStep, KeepsConfirmed, kind_of}
use Rattle.profile.specs.streams.Streams.{Answers, AreClaims, Box, Hosted, IsRefusedWith}

-- ---- what became of an object

-- Refused, by the number of its refusal; or it reached no room of the box; or it changed nothing, as all that it says is older than what the
-- rooms know (stale), or some of it is what a room knows already (repeated); or it was taken, and is a CANCEL that frees no room of an instance; or it
-- was taken
pub data Fate : Type 0 where
  Refused : ℕ → Fate
  Unreached : Fate
  Stale : Fate
  Repeated : Fate
  CancelsNothing : Fate
  Taken : Fate

-- a room that was reached has decided something, or cancelled something
abbrev pub is_change : Kind → Bool
is_change rooms.Accepted = true
is_change (rooms.Declined a b t) = true
is_change (rooms.Limit limit) = true
is_change rooms.Cancelled = true
is_change rooms.Repeated = false
is_change rooms.Stale = false
is_change rooms.NotAddressed = false

abbrev pub is_repeat : Kind → Bool
is_repeat rooms.Accepted = false
is_repeat (rooms.Declined a b t) = false
is_repeat (rooms.Limit limit) = false
is_repeat rooms.Cancelled = false
is_repeat rooms.Repeated = true
is_repeat rooms.Stale = false
is_repeat rooms.NotAddressed = false

abbrev pub is_stale : Kind → Bool
is_stale rooms.Accepted = false
is_stale (rooms.Declined a b t) = false
is_stale (rooms.Limit limit) = false
is_stale rooms.Cancelled = false
is_stale rooms.Repeated = false
is_stale rooms.Stale = true
is_stale rooms.NotAddressed = false

-- what became of a message to rooms, by what became of it in each room of the box
abbrev pub fate_of : List Kind → Fate
fate_of kinds =
    if list_any is_change kinds then Taken else (if list_any is_repeat kinds then Repeated else (if list_any is_stale kinds then Stale else Unreached))

-- what became of a message in one room: decided or cancelled where a part of it is in the view that wasn't, repeated where one is that was, stale
-- where none is, and not addressed where it has no part for the room (`kind_of`)
pub record BecomesThere (moment : ℤ) (message : Message) (before after : Hosted) (kind : Kind) : Type 0 where
  pub claims : List Claim
  pub are : AreClaims before.address before.zone message claims
  pub outcome : Outcome
  pub step : IsStep before.book claims moment outcome after.book
  pub is : kind ≡ kind_of before.book.taken after.book.taken claims outcome

-- in each room, in their order
abbrev pub AllBecome : ℤ → Message → List Hosted → List Hosted → List Kind → Type 0
AllBecome moment message [] [] kinds = kinds ≡ []
AllBecome moment message (before ∷ befores) (after ∷ afters) kinds =
    (kind : Kind) × (others : List Kind) × (kinds ≡ kind ∷ others) × BecomesThere moment message before after kind
    × AllBecome moment message befores afters others
AllBecome moment message _ _ kinds = ⊥

-- it is a CANCEL that a room has taken, and in each room each instance is still confirmed that was
pub record FreesNothing (message : Message) (before after : List Hosted) (kinds : List Kind) : Type 0 where
  pub cancel : is_cancel message.method ≡ true
  pub taken : fate_of kinds ≡ Taken
  pub keeps : AllZip (λ was is. KeepsConfirmed was.book is.book) before after

-- what became of a message to rooms, by what became of it in each of them, and whether it frees one
abbrev pub IsFate : Message → List Hosted → List Hosted → List Kind → Fate → Type 0
IsFate message before after kinds fate =
    (FreesNothing message before after kinds × (fate ≡ CancelsNothing)) ⊎ ((FreesNothing message before after kinds → ⊥) × (fate ≡ fate_of kinds))

-- what became of a message that isn't refused. What comes to an organiser who is hosted, and isn't refused, is taken: a store, a REPLY however
-- late, a REFRESH; this profile's choice
abbrev pub Becomes : Bool → ℤ → Message → Box → Box → Fate → Type 0
Becomes true moment message before after fate = (kinds : List Kind) × AllBecome moment message before.rooms after.rooms kinds × IsFate message before.rooms after.rooms kinds fate
Becomes false moment message before after fate = fate ≡ Taken

-- ---- the objects of a stream

-- how many refusals that is
abbrev pub refusals : Fate → ℕ
refusals (Refused n) = 1
refusals Unreached = 0
refusals Stale = 0
refusals Repeated = 0
refusals CancelsNothing = 0
refusals Taken = 0

-- this became of an object that is taken, or refused
abbrev pub BecomesOf : ℤ → List ℕ → Box → Box → Fate → Type 0
BecomesOf moment object before after fate =
    ((said : Message) × SpellsMessage object said × Becomes (is_to_rooms said.method) moment said before after fate)
    ⊎ ((n : ℕ) × IsRefusedWith before n object × (fate ≡ Refused n))

-- the octets answer object k, and this became of it
abbrev pub AnswersAs : ℤ → ℕ → List ℕ → Box → Box → List ℕ → Fate → Type 0
AnswersAs moment k object before after octets fate =
    Answers moment k object before after octets (refusals fate) × BecomesOf moment object before after fate

-- step by step the answers to objects from number k on, and what became of each of them (as `AllAnswers` says)
abbrev pub AllAnswersAs : ℤ → ℕ → List (List ℕ) → Box → Box → List ℕ → List Fate → Type 0
AllAnswersAs moment k [] before after octets fates = (after ≡ before) × (octets ≡ []) × (fates ≡ [])
AllAnswersAs moment k (object ∷ objects) before after octets fates =
    (mid : Box) × (first : List ℕ) × (rest : List ℕ) × (fate : Fate) × (others : List Fate) × (octets ≡ first ++ rest) × (fates ≡ fate ∷ others)
    × AnswersAs moment k object before mid first fate × AllAnswersAs moment (k + 1) objects mid after rest others

-- ---- who is told of it

-- from one value to the next, each of these objects was told with what became of it, by its number from k on, by one step
abbrev pub AllTold : {Told : Type 0} → (Told → ℕ → List ℕ → Fate → Told → Type 0) → Told → ℕ → List (List ℕ) → List Fate → Told → Type 0
AllTold Tells old k [] [] new = new ≡ old
AllTold {Told} Tells old k (object ∷ objects) (fate ∷ fates) new =
    (mid : Told) × Tells old k object fate mid × AllTold Tells mid (k + 1) objects fates new
AllTold Tells old k _ _ new = ⊥
