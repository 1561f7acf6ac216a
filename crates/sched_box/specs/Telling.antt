-- Who is told of the files of an inbox, and of the objects in each, while they are answered.
use Rattle.std.specs.Prelude.{◌≡◌, ◌↔◌, ◌⊎◌, ◌∷◌, ℕ, ℤ, Bool, List, [], map, Contains, IsTrue, string_bytes}
use Rattle.profile.specs.streams.Folders.{AreMessageFiles, AreNames, Image}
use Rattle.profile.specs.streams.Reports.{AllAnswersAs, AllTold, Fate}
use Rattle.profile.specs.streams.Streams.{AreObjects, Box, Config, new_box}
use Rattle.sched_box.specs.Books.{AreBooksOf}
use Rattle.sched_box.specs.FileNames.{IsLeftAlone}
use Rattle.sched_box.specs.Objects.{kept_of}
use Rattle.sched_box.specs.Running.{AreRising, answers_name, file_of}
use Rattle.sched_box.specs.declared.books.Books.{Books}
use Rattle.sched_box.specs.declared.file_names.MessageName.{MessageName}

-- these octets answer a stream of objects, and each of them was told, as far as it is kept, by its number from 1, with what became of it
pub record TellsObjects {Told : Type 0} (Tells : Told → ℕ → List ℕ → Fate → Told → Type 0) (old new : Told) (moment : ℤ) (octets : List ℕ) (before after : Box) (answers : List ℕ) : Type 0 where
  pub objects : List (List ℕ)
  pub fates : List Fate
  pub are : AreObjects octets objects
  pub became : AllAnswersAs moment 1 objects before after answers fates
  pub told : AllTold (λ first k object fate next. Tells first k (kept_of object) fate next) old 1 objects fates new

-- the same from whatever the books are
abbrev pub TellsOctets : {Told : Type 0} → (Told → ℕ → List ℕ → Fate → Told → Type 0) → Told → Told → ℤ → List ℕ → Books → Books → List ℕ → Type 0
TellsOctets Tells old new moment octets olds news answers =
    (before : Box) → AreBooksOf olds before → (after : Box) × AreBooksOf news after × TellsObjects Tells old new moment octets before after answers

-- a message is new where the name of its answers is none of these
abbrev pub IsNew : List (List ℕ) → MessageName → Bool → Type 0
IsNew theirs name is_new = IsTrue is_new ↔ (Contains theirs (answers_name name) → ⊥)

-- of each of these messages it was told that it comes next, and whether it is new, and then of its objects
abbrev pub AllFilesTold : {Told : Type 0} → (Told → List ℕ → Bool → Told → Type 0) → (Told → ℕ → List ℕ → Fate → Told → Type 0) → Image → List (List ℕ) → Told → List MessageName → Box → Box → Told → Type 0
AllFilesTold Begins Tells inbox theirs old [] before after new = (new ≡ old) × (after ≡ before)
AllFilesTold {Told} Begins Tells inbox theirs old (name ∷ names) before after new =
    (begun : Told) × (mid : Told) × (is_new : Bool) × (box : Box) × (answers : List ℕ)
    × Begins old (string_bytes name.name) is_new begun × IsNew theirs name is_new
    × TellsObjects Tells begun mid name.moment (file_of inbox name).octets before box answers
    × AllFilesTold Begins Tells inbox theirs mid names box after new

-- from whatever the books were
abbrev pub FilesTold : {Told : Type 0} → (Told → List ℕ → Bool → Told → Type 0) → (Told → ℕ → List ℕ → Fate → Told → Type 0) → Image → List (List ℕ) → Told → List MessageName → Books → Books → Told → Type 0
FilesTold Begins Tells inbox theirs old names olds news new =
    (before : Box) → AreBooksOf olds before → (after : Box) × AreBooksOf news after × AllFilesTold Begins Tells inbox theirs old names before after new

-- of all messages of the inbox, which are new where the outbox had no answers to them
pub record TellsInbox {Told : Type 0} (Begins : Told → List ℕ → Bool → Told → Type 0) (Tells : Told → ℕ → List ℕ → Fate → Told → Type 0) (old new : Told) (inbox outbox : Image) (hosts : Config) : Type 0 where
  pub names : List MessageName
  pub theirs : List (List ℕ)
  pub after : Box
  pub messages : AreMessageFiles inbox (map (file_of inbox) names)
  pub there : AreNames outbox theirs
  pub told : AllFilesTold Begins Tells inbox theirs old names (new_box hosts) after new

-- ---- what is left alone

-- it is left alone, and was told, by one step; or it isn't, and nothing was
abbrev pub IsPassed : {Told : Type 0} → (Told → List ℕ → Told → Type 0) → Told → List ℕ → Told → Type 0
IsPassed Passes old name new = (IsLeftAlone name × Passes old name new) ⊎ ((IsLeftAlone name → ⊥) × (new ≡ old))

-- each of these names, in turn
abbrev pub AllPassed : {Told : Type 0} → (Told → List ℕ → Told → Type 0) → Told → List (List ℕ) → Told → Type 0
AllPassed Passes old [] new = new ≡ old
AllPassed {Told} Passes old (name ∷ names) new = (mid : Told) × IsPassed Passes old name mid × AllPassed Passes mid names new

-- all names of an inbox, each once, in the order of their octets
pub record PassesOver {Told : Type 0} (Passes : Told → List ℕ → Told → Type 0) (inbox : Image) (old new : Told) : Type 0 where
  pub names : List (List ℕ)
  pub are : AreNames inbox names
  pub rising : AreRising names
  pub passed : AllPassed Passes old names new

-- first of what is left alone, and then of all messages
abbrev pub TellsFolder : {Told : Type 0} → (Told → List ℕ → Told → Type 0) → (Told → List ℕ → Bool → Told → Type 0) → (Told → ℕ → List ℕ → Fate → Told → Type 0) → Told → Told → Image → Image → Config → Type 0
TellsFolder {Told} Passes Begins Tells old new inbox outbox hosts =
    (mid : Told) × PassesOver Passes inbox old mid × TellsInbox Begins Tells mid new inbox outbox hosts
