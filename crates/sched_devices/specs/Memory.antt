-- What a folder in memory holds, what a stop may leave of it, and what it has held before.
use Rattle.std.specs.Prelude.{◌≡◌, ◌≢◌, ◌⊎◌, ◌||◌, not, refl, ℕ, Bool, true, false, if◌then◌else◌, List, [], ◌∷◌, length, drop, map, filter, find, Option, None, Some, option_map, AllPairs, Vec}
use Rattle.std.specs.Str.{bytes_eq}
use Rattle.std.specs.declared.alloc.Global.{Global}
use mathlib.Core.Logic.{inl, inr}
use Rattle.profile.specs.streams.Folders.{Image, Temporary}

-- ---- what it holds

-- a file: its name, its octets, and whether a stop leaves the octets and the name as they are
pub record HeldFile : Type 0 where
  pub name : List ℕ
  pub octets : List ℕ
  pub is_synced : Bool
  pub is_name_synced : Bool

abbrev pub has_name : List ℕ → HeldFile → Bool
has_name name file = bytes_eq file.name name

-- the file of this name, if there is one
abbrev pub file_named : List ℕ → List HeldFile → Option HeldFile
file_named name files = find (has_name name) files

abbrev pub names_held : List HeldFile → List (List ℕ)
names_held files = map (λ file. file.name) files

-- no two files have the same name
abbrev pub AreApart : List HeldFile → Type 0
AreApart files = AllPairs ◌≢◌ (names_held files)

-- what it holds under each name
abbrev pub image_of : List HeldFile → Image
image_of files name = option_map (λ file. file.octets) (file_named name files)

-- without a temporary
abbrev pub no_temporary : Temporary
no_temporary = record { is_there = false; octets = []; is_synced = false }

-- ---- what a stop may leave of it

-- under a name: nothing if the name isn't synced, and any octets if the octets aren't
abbrev pub MayLeaveFile : Option HeldFile → Option (List ℕ) → Type 0
MayLeaveFile None left = left ≡ None
MayLeaveFile (Some file) None = file.is_name_synced ≡ false
MayLeaveFile (Some file) (Some octets) = file.is_synced ≡ true → octets ≡ file.octets

abbrev pub MayLeave : List HeldFile → Image → Type 0
MayLeave files left = (name : List ℕ) → MayLeaveFile (file_named name files) (left name)

may_stay_file : (file : Option HeldFile) → MayLeaveFile file (option_map (λ f. f.octets) file)
may_stay_file None = refl
may_stay_file (Some file) = λ synced. refl

-- all that it holds
pub held_may_stay : (files : List HeldFile) → MayLeave files (image_of files)
held_may_stay files name = may_stay_file (file_named name files)

-- once the folder is synced
abbrev pub with_name_synced : HeldFile → HeldFile
with_name_synced file = record { name = file.name; octets = file.octets; is_synced = file.is_synced; is_name_synced = true }

-- One thing that a stop may leave: names that aren't synced are lost, or none is, and octets that aren't synced are these. It is on the disk.
abbrev pub is_left : Bool → HeldFile → Bool
is_left lost file = not lost || file.is_name_synced

abbrev pub left_file : List ℕ → HeldFile → HeldFile
left_file torn file = record {
  name = file.name;
  octets = if file.is_synced then file.octets else torn;
  is_synced = true;
  is_name_synced = true;
}

abbrev pub files_left : Bool → List ℕ → List HeldFile → List HeldFile
files_left lost torn files = map (left_file torn) (filter (is_left lost) files)

-- ---- what a stop might have left earlier

-- at one of these moments
abbrev pub HadLeft : List (Vec HeldFile Global) → Image → Type 0
HadLeft [] left = ⊥
HadLeft (files ∷ past) left = MayLeave files.items left ⊎ HadLeft past left

-- from a moment on, up to now
abbrev pub LeftSince : List (Vec HeldFile Global) → List HeldFile → ℕ → Image → Type 0
LeftSince past files moment left = MayLeave files left ⊎ HadLeft (drop moment past) left

none_earlier : (past : List (Vec HeldFile Global)) (left : Image) → HadLeft (drop (length past) past) left → ⊥
none_earlier [] left had = had
none_earlier (files ∷ past) left had = none_earlier past left had

-- since this moment only what it may leave now
pub only_left : (past : List (Vec HeldFile Global)) (files : List HeldFile) (left : Image)
    → LeftSince past files (length past) left → MayLeave files left
only_left past files left (inl now) = now
only_left past files left (inr had) = absurd (none_earlier past left had)

-- ---- one thing that a stop may leave

-- under a name, where names that aren't synced are lost or none is, and octets that aren't synced are these
abbrev pub left_under : Bool → List ℕ → Option HeldFile → Option (List ℕ)
left_under lost torn None = None
left_under lost torn (Some file) = if is_left lost file then Some (left_file torn file).octets else None
