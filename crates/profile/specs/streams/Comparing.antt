-- No answer goes out beside one that differs: what a box compares before it publishes; and what a comparison alone finds.
use Rattle.std.specs.Prelude.{◌≡◌, ℕ, Bool, false, not, List, length, map, filter, Contains, Option, None, Some}
use Rattle.std.specs.Str.{bytes_eq}
use Rattle.profile.specs.streams.Folders.{AreSame, File, Image, MessageFile, count_missing, outbox_name}

-- where the outbox held something under the name of an answer, it was that answer
abbrev pub AreEqual : Image → List File → Type 0
AreEqual start answers = (answer : File) → Contains answers answer → (octets : List ℕ) → start answer.name ≡ Some octets → octets ≡ answer.octets

-- All that stood in the outbox was compared, and none of it differs: it held these answers to the first files of the inbox, as far as it held any,
-- and none to the rest.
pub record AreCompared (start : Image) (answers : List File) (rest : List MessageFile) : Type 0 where
  pub equal : AreEqual start answers
  pub none : (file : MessageFile) → Contains rest file → start (outbox_name file) ≡ None

-- The outbox is as it was found: it holds the same, and whenever the machine stopped it left what it might have left before.
pub record IsAsFound (start now : Image) (may_leave : Image → Type 0) (left_since : ℕ → Image → Type 0) (first : ℕ) : Type 0 where
  pub same : AreSame now start
  pub stop : (left : Image) → left_since first left → may_leave left

-- ---- a comparison alone

-- other octets stand under this name
abbrev pub is_other : Option (List ℕ) → List ℕ → Bool
is_other None octets = false
is_other (Some held) octets = not (bytes_eq held octets)

-- the names under which an image holds something else than these files, in their order
abbrev pub names_differing : Image → List File → List (List ℕ)
names_differing image files = map (λ (file : File). file.name) (filter (λ (file : File). is_other (image file.name) file.octets) files)

-- what is found: so many files, so many answers that are missing, and the names of those that differ
pub record IsComparison (outbox : Image) (answers : List File) (files missing : ℕ) (differing : List (List ℕ)) : Type 0 where
  pub counted : files ≡ length answers
  pub lacking : missing ≡ count_missing outbox answers
  pub others : differing ≡ names_differing outbox answers
