-- Several boxes of folders that are fed the same files, and one that is fed them too.
use Rattle.std.specs.Prelude.{◌≡◌, List, map, All}
use Rattle.std.specs.List.{AllZip, flat_map}
use Rattle.profile.specs.streams.Divisions.{AreTold, IsDivided, IsDoneByOne, Served, Told}
use Rattle.profile.specs.streams.Folders.{AnswersFiles, File, MessageFile}
use Rattle.profile.specs.streams.Streams.{Box, Config, new_box}

-- a box of folders: what it hosts, what it keeps behind the last file, and the files of its outbox
pub record Answering : Type 0 where
  pub hosts : Config
  pub after : Box
  pub written : List File

-- it answers these files, and had taken nothing before
abbrev pub IsAnswering : List MessageFile → Answering → Type 0
IsAnswering files box = AnswersFiles files (new_box box.hosts) box.after box.written

-- the same, object by object
pub record IsSeenAs (box : Answering) (served : Served) : Type 0 where
  pub before : served.before ≡ new_box box.hosts
  pub after : served.after ≡ box.after
  pub octets : flat_map (λ file. file.octets) box.written ≡ flat_map (λ answer. answer.octets) served.answers

-- The one box answers the files of the several, and does with each of their objects what the several do together.
pub record IsAnsweredByOne (files : List MessageFile) (several : List Answering) (one : Answering) : Type 0 where
  pub objects : List Told
  pub told : AreTold files objects
  pub each : List Served
  pub seen : AllZip IsSeenAs several each
  pub whole : Served
  pub also_seen : IsSeenAs one whole
  pub answers : IsAnswering files one
  pub done : IsDoneByOne objects each whole

-- Whatever the boxes of a division answer to the same files, one box that hosts all may answer to these files.
abbrev pub InboxesActAsOne : Type 0
InboxesActAsOne = (files : List MessageFile) (several : List Answering) (whole : Config)
    → IsDivided (map (λ box. box.hosts) several) whole → All (IsAnswering files) several
    → (one : Answering) × (one.hosts ≡ whole) × IsAnsweredByOne files several one
