-- One box, or several that share its rooms and organisers: what they answer to the same objects, object by object. Each of the several takes all
-- objects, those of one stream or of the files of an inbox; the one box may do what they do together.
use Rattle.std.specs.Prelude.{◌≡◌, ◌≢◌, ◌↔◌, ℕ, ◌+◌, ◌<◌, true, false, List, [], ◌∷◌, ◌++◌, length, map, ℤ, All, AllPairs, Contains, IsPermutation, slice_index_or, sum}
use Rattle.std.specs.List.{AllZip, flat_map}
use Rattle.profile.specs.events.Messages.{Message, SpellsMessage, is_to_rooms}
use Rattle.profile.specs.streams.Folders.{AnswersFiles, File, MessageFile}
use Rattle.profile.specs.streams.Streams.{AllAnswers, Answers, AreObjects, Box, Config, Hosted, ObjectFault, Takes, new_box, refused_line}

-- ---- the answers, object by object

-- an object of a stream: the stream's moment, the object's number in it, and its octets
pub record Told : Type 0 where
  pub moment : ℤ
  pub number : ℕ
  pub octets : List ℕ

-- the objects of one stream, from number k on
abbrev pub told_from : ℤ → ℕ → List (List ℕ) → List Told
told_from moment k [] = []
told_from moment k (object ∷ objects) = record { moment = moment; number = k; octets = object } ∷ told_from moment (k + 1) objects

-- what a box does with one object: its books before and after, what it writes, and how many refusals that is, 1 or 0
pub record Answer : Type 0 where
  pub before : Box
  pub after : Box
  pub octets : List ℕ
  pub refused : ℕ

-- step by step an answer to each object
abbrev pub AnswersEach : List Told → Box → Box → List Answer → Type 0
AnswersEach [] before after answers = (after ≡ before) × (answers ≡ [])
AnswersEach (told ∷ rest) before after answers =
    (first : Answer) × (others : List Answer) × (answers ≡ first ∷ others) × (first.before ≡ before)
    × Answers told.moment told.number told.octets first.before first.after first.octets first.refused × AnswersEach rest first.after after others

-- what is written for the objects of a stream is the answers to each, one behind the other
abbrev pub AreOneByOne : Type 0
AreOneByOne = (moment : ℤ) (k : ℕ) (objects : List (List ℕ)) (before after : Box) (octets : List ℕ) (refused : ℕ)
    → AllAnswers moment k objects before after octets refused
    ↔ ((answers : List Answer) × AnswersEach (told_from moment k objects) before after answers
    × (octets ≡ flat_map (λ answer. answer.octets) answers) × (refused ≡ sum (map (λ answer. answer.refused) answers)))

-- the objects of the files of an inbox, one file after another: each is a stream of its own
abbrev pub AreTold : List MessageFile → List Told → Type 0
AreTold [] told = told ≡ []
AreTold (file ∷ files) told =
    (objects : List (List ℕ)) × (rest : List Told) × AreObjects file.octets objects × (told ≡ told_from file.moment 1 objects ++ rest)
    × AreTold files rest

-- what is written for the files of an inbox is the answers to each of their objects, one behind the other
abbrev pub FilesAreOneByOne : Type 0
FilesAreOneByOne = (files : List MessageFile) (objects : List Told) → AreTold files objects → (before after : Box) (octets : List ℕ)
    → ((written : List File) × AnswersFiles files before after written × (octets ≡ flat_map (λ file. file.octets) written))
    ↔ ((answers : List Answer) × AnswersEach objects before after answers × (octets ≡ flat_map (λ answer. answer.octets) answers))

-- ---- a division

-- the parts host the rooms and the organisers of the whole, each in one of them, and no organiser twice
pub record IsDivided (parts : List Config) (whole : Config) : Type 0 where
  pub some : 0 < length parts
  pub rooms_are : IsPermutation (flat_map (λ part. part.rooms) parts) whole.rooms
  pub organisers_are : IsPermutation (flat_map (λ part. part.organisers) parts) whole.organisers
  pub organisers_differ : AllPairs ◌≢◌ whole.organisers

-- one box keeps all the books that several keep, and no organiser twice
pub record KeepsAll (parts : List Box) (whole : Box) : Type 0 where
  pub some : 0 < length parts
  pub rooms_are : IsPermutation (flat_map (λ part. part.rooms) parts) whole.rooms
  pub organisers_are : IsPermutation (flat_map (λ part. part.organisers) parts) whole.organisers
  pub organisers_differ : AllPairs ◌≢◌ (map (λ organiser. organiser.address) whole.organisers)

-- boxes that have taken nothing: one box with all rooms and organisers keeps what those of a division keep
abbrev pub NewBoxesAreOne : Type 0
NewBoxesAreOne = (parts : List Config) (whole : Config) → IsDivided parts whole → KeepsAll (map new_box parts) (new_box whole)

-- ---- how the one box answers an object that the several have answered so

-- what one room does with a message: its book before and after, and what it writes
pub record Piece : Type 0 where
  pub before : Hosted
  pub after : Hosted
  pub octets : List ℕ

-- the answer is what the box's rooms write, each for itself, one behind the other
pub record IsOfPieces (moment : ℤ) (said : Message) (answer : Answer) (pieces : List Piece) : Type 0 where
  pub before : map (λ piece. piece.before) pieces ≡ answer.before.rooms
  pub after : map (λ piece. piece.after) pieces ≡ answer.after.rooms
  pub each : All (λ piece. Takes moment said piece.before piece.after piece.octets) pieces
  pub octets : answer.octets ≡ flat_map (λ piece. piece.octets) pieces
  pub refused : answer.refused ≡ 0

-- the answer is the line for the object, refused with this number
abbrev pub IsRefusal : Told → ℕ → Answer → Type 0
IsRefusal told n answer = (answer.octets ≡ refused_line told.number n) × (answer.refused ≡ 1)

-- the box hosts the organiser of this address
abbrev pub HostsOrganiser : List ℕ → Box → Type 0
HostsOrganiser address box = Contains (map (λ organiser. organiser.address) box.organisers) address

-- by_rooms: a message to rooms. Each room writes the same in the one box, in another order
-- by_host: what comes to an organiser. The box that hosts it takes or refuses it, and so does the one box; the others refuse it with 70
-- by_none: what comes to an organiser that no box hosts. Each refuses it with 70, and so does the one box, once
-- by_fault: an object with a fault. Each box refuses it with a fault that it has, and the one box as one of them does, once
pub data IsJoined (told : Told) (several : List Answer) (one : Answer) : Type 0 where
  by_rooms : (said : Message) → SpellsMessage told.octets said → is_to_rooms said.method ≡ true
      → (pieces : List (List Piece)) (all : List Piece) → AllZip (IsOfPieces told.moment said) several pieces → IsOfPieces told.moment said one all
      → IsPermutation (flat_map (λ own. own) pieces) all → IsJoined told several one
  by_host : (said : Message) → SpellsMessage told.octets said → is_to_rooms said.method ≡ false
      → (ahead behind : List Answer) (host : Answer) → several ≡ ahead ++ host ∷ behind → HostsOrganiser said.organiser host.before
      → All (IsRefusal told 70) (ahead ++ behind) → one.octets ≡ host.octets → one.refused ≡ host.refused → IsJoined told several one
  by_none : (said : Message) → SpellsMessage told.octets said → is_to_rooms said.method ≡ false → (HostsOrganiser said.organiser one.before → ⊥)
      → All (IsRefusal told 70) several → IsRefusal told 70 one → IsJoined told several one
  by_fault : (numbers : List ℕ) → All (λ n. ObjectFault n told.octets) numbers → AllZip (IsRefusal told) numbers several
      → (n : ℕ) → Contains numbers n → IsRefusal told n one → IsJoined told several one

-- ---- the law

-- what a box does with objects, one after another: its books before and after, and its answer to each
pub record Served : Type 0 where
  pub before : Box
  pub after : Box
  pub answers : List Answer

-- it does that with these objects
abbrev pub IsServed : List Told → Served → Type 0
IsServed objects box = AnswersEach objects box.before box.after box.answers

-- The one box does with the objects what the several do together: it keeps all their books, and answers each object as they do together.
pub record IsDoneByOne (objects : List Told) (several : List Served) (one : Served) : Type 0 where
  pub served : IsServed objects one
  pub keeps : KeepsAll (map (λ box. box.after) several) one.after
  pub joined : (i : ℕ) (t : Told) (d : Answer) → i < length objects
      → IsJoined (slice_index_or objects i t) (map (λ box. slice_index_or box.answers i d) several) (slice_index_or one.answers i d)

-- Whatever several boxes do with the same objects, those of one stream or of several, one box that keeps all their books may do that together.
abbrev pub SeveralActAsOne : Type 0
SeveralActAsOne = (objects : List Told) (several : List Served) (whole : Box)
    → All (IsServed objects) several → KeepsAll (map (λ box. box.before) several) whole
    → (one : Served) × (one.before ≡ whole) × IsDoneByOne objects several one
