-- A box of folders: messages come as files of an inbox, and each of them is answered by a file of an outbox. What a folder holds, and what a
-- stop of the machine, at any moment, may leave of it. The names of the files are roombox's own.
use Rattle.std.specs.Prelude.{◌≡◌, ◌≢◌, ◌⊎◌, ◌≤◌, ℕ, ℤ, ◌+◌, Bool, true, if◌then◌else◌, List, [], ◌∷◌, ◌++◌, length, take, codes, Option, None, Some, Contains, AllPairs}
use Rattle.std.specs.Option.{option_or, is_none}
use Rattle.std.specs.Str.{bytes_eq}
use Rattle.std.specs.Str.Parse.{AllDigits}
use Rattle.std.specs.declared.cmp.Ordering.TheVariants.{Less}
use Rattle.profile.specs.rooms.Revisions.{octets_cmp}
use Rattle.profile.specs.streams.Streams.{AreObjects, AllAnswers, Box, Config, new_box}
use Rattle.profile.specs.text.Values.{SpellsStamp}

-- ---- what a folder holds

-- what it holds under each name, if anything
abbrev pub Image : Type 0
Image = List ℕ → Option (List ℕ)

-- the same under each name
abbrev pub AreSame : Image → Image → Type 0
AreSame one other = (name : List ℕ) → one name ≡ other name

-- a name, and the octets under it
pub record File : Type 0 where
  pub name : List ℕ
  pub octets : List ℕ

-- the octets of the first of the files that has this name
abbrev pub octets_of : List ℕ → List File → Option (List ℕ)
octets_of name [] = None
octets_of name (file ∷ files) = if bytes_eq file.name name then Some file.octets else octets_of name files

-- the image with these files published in it: what it holds already stays
abbrev pub with_files : Image → List File → Image
with_files image files name = option_or (image name) (octets_of name files)

-- the names under which it holds something, each once
pub record AreNames (image : Image) (names : List (List ℕ)) : Type 0 where
  pub each : (name : List ℕ) → Contains names name → (octets : List ℕ) × (image name ≡ Some octets)
  pub all : (name octets : List ℕ) → image name ≡ Some octets → Contains names name
  pub once : AllPairs ◌≢◌ names

-- ---- what a stop may leave: a set of images

-- the temporary file, which isn't among the names: whether there is one that waits to be published, its octets, and whether they are synced
pub record Temporary : Type 0 where
  pub is_there : Bool
  pub octets : List ℕ
  pub is_synced : Bool

-- a stop may take names away, and changes no file that it leaves
abbrev pub LosesNamesAlone : Image → (Image → Type 0) → Type 0
LosesNamesAlone held may_leave = (left : Image) → may_leave left → (name : List ℕ) → (left name ≡ None) ⊎ (left name ≡ held name)

-- once the temporary is published under a name, a stop may leave what it might have left before, and the same with a file of that name: with the
-- octets of the temporary if they were synced, else with any
abbrev pub MayBePublished : Temporary → List ℕ → (Image → Type 0) → (Image → Type 0) → Type 0
MayBePublished temporary name before after =
    (left : Image) → after left → (earlier : Image) × before earlier
    × (AreSame left earlier
    ⊎ ((octets : List ℕ) × (temporary.is_synced ≡ true → octets ≡ temporary.octets)
    × AreSame left (with_files earlier (record { name = name; octets = octets } ∷ []))))

-- once the folder is synced, a stop leaves each name under which it holds something
abbrev pub AreNamesSynced : Image → (Image → Type 0) → (Image → Type 0) → Type 0
AreNamesSynced held before after =
    (left : Image) → after left → before left × ((name : List ℕ) → left name ≡ None → held name ≡ None)

-- Time goes on, and moments are numbered: what a stop since a moment might have left is what it might have left by the time before, or what it
-- may leave now.
pub record Elapses (before now : ℕ) (past since : ℕ → Image → Type 0) (may_leave : Image → Type 0) : Type 0 where
  pub later : before ≤ now
  pub nothing_else : (moment : ℕ) (left : Image) → moment ≤ before → since moment left → past moment left ⊎ may_leave left
  pub keeps : (moment : ℕ) (left : Image) → moment ≤ before → past moment left → since moment left

-- ---- the messages of an inbox

-- eight digits, a hyphen and the moment as a UTC stamp, which are the stem, and then `.ics`
pub record IsInboxName (name stem : List ℕ) (moment : ℤ) : Type 0 where
  pub digits : List ℕ
  pub stamp : List ℕ
  pub eight : length digits ≡ 8
  pub decimal : AllDigits 10 digits
  pub spells : SpellsStamp stamp moment
  pub stem_is : stem ≡ digits ++ codes "-" ++ stamp
  pub name_is : name ≡ stem ++ codes ".ics"

-- a file of the inbox: the stem of its name, the moment that it says, its octets
pub record MessageFile : Type 0 where
  pub stem : List ℕ
  pub moment : ℤ
  pub octets : List ℕ

abbrev pub inbox_name : MessageFile → List ℕ
inbox_name file = file.stem ++ codes ".ics"

-- its answers are under the same stem
abbrev pub outbox_name : MessageFile → List ℕ
outbox_name file = file.stem ++ codes ".out"

-- files of other names are left alone
abbrev pub IsMessageFile : Image → MessageFile → Type 0
IsMessageFile inbox file = IsInboxName (inbox_name file) file.stem file.moment × (inbox (inbox_name file) ≡ Some file.octets)

-- all of an inbox, in the order of the octets of their names
pub record AreMessageFiles (inbox : Image) (files : List MessageFile) : Type 0 where
  pub each : (file : MessageFile) → Contains files file → IsMessageFile inbox file
  pub all : (file : MessageFile) → IsMessageFile inbox file → Contains files file
  pub rising : AllPairs (λ a b. octets_cmp (inbox_name a) (inbox_name b) ≡ Less) files

-- ---- the answers

-- a file is a stream of its own, with its own moment, whose objects are counted from 1; this file has what a box answers to it
pub record AnswersFile (file : MessageFile) (before after : Box) (answer : File) : Type 0 where
  pub objects : List (List ℕ)
  pub refused : ℕ
  pub are : AreObjects file.octets objects
  pub answers : AllAnswers file.moment 1 objects before after answer.octets refused
  pub named : answer.name ≡ outbox_name file

-- one file after another, by a box that keeps its books over all of them
abbrev pub AnswersFiles : List MessageFile → Box → Box → List File → Type 0
AnswersFiles [] before after answers = (after ≡ before) × (answers ≡ [])
AnswersFiles (file ∷ files) before after [] = ⊥
AnswersFiles (file ∷ files) before after (answer ∷ answers) =
    (mid : Box) × AnswersFile file before mid answer × AnswersFiles files mid after answers

-- ---- a run of the box

-- what the outbox held, with so many of the answers published in it, the first ones, each whole
abbrev pub IsBeginning : Image → List File → Image → Type 0
IsBeginning start answers left = (count : ℕ) × AreSame left (with_files start (take count answers))

-- Whenever the machine stopped: up to a moment it left what it might have left at first, and from then on what the outbox held, with a beginning
-- of the answers.
pub record StopsBetweenFiles (start : Image) (answers : List File) (may_leave : Image → Type 0) (left_since : ℕ → Image → Type 0) (first last : ℕ) : Type 0 where
  pub synced : ℕ
  pub later : first ≤ synced
  pub earlier : synced ≤ last
  pub before : (left : Image) → left_since first left → may_leave left ⊎ left_since synced left
  pub after : (left : Image) → left_since synced left → IsBeginning start answers left

-- the answers to the first files of an inbox, by a box that has taken nothing; these files are left
pub record AnswersInbox (inbox : Image) (hosts : Config) (answers : List File) (rest : List MessageFile) : Type 0 where
  pub files : List MessageFile
  pub are : AreMessageFiles inbox (files ++ rest)
  pub after : Box
  pub answered : AnswersFiles files (new_box hosts) after answers

-- how many of the files an image doesn't hold yet
abbrev pub count_missing : Image → List File → ℕ
count_missing image [] = 0
count_missing image (file ∷ files) = (if is_none (image file.name) then 1 else 0) + count_missing image files

-- all files are answered: the outbox holds what it held and the answers, under the name of each its octets and no others
pub record IsAnswered (start now : Image) (answers : List File) : Type 0 where
  pub held : AreSame now (with_files start answers)
  pub equal : (answer : File) → Contains answers answer → now answer.name ≡ Some answer.octets

-- the last of the answers differs from what the outbox held under its name
pub record IsDifferent (start : Image) (answers : List File) (name : List ℕ) : Type 0 where
  pub earlier : List File
  pub answer : File
  pub octets : List ℕ
  pub is : answers ≡ earlier ++ answer ∷ []
  pub named : answer.name ≡ name
  pub held : start name ≡ Some octets
  pub other : octets ≢ answer.octets
