-- What a run over folders says, and what it leaves.
use Rattle.std.specs.Prelude.{◌≡◌, ◌⊎◌, ℕ, Bool, true, List, [], ◌∷◌, ◌++◌, take, codes, decimal, String, string_bytes, Option, Some, None, Result, Ok, Err}
use Rattle.std.specs.Io.KnownBytes.{Appends, Keeps}
use Rattle.std.specs.List.{flat_map}
use Rattle.std.specs.declared.alloc.Global.{Global}
use Rattle.profile.specs.streams.Folders.{Image}
use Rattle.profile.specs.streams.Reports.{Fate}
use Rattle.profile.specs.streams.Streams.{Config, IsConfiguration}
use Rattle.sched_box.specs.declared.folders.BoxFault.{BoxFault}
use Rattle.sched_box.specs.declared.folders.BoxFault.TheVariants.{Device, Differs, Memory}
use Rattle.sched_box.specs.Telling.{TellsFolder}
use Rattle.sched_box.specs.declared.folders.BoxReport.{BoxReport}
use Rattle.sched_box.specs.declared.folders.Comparison.{Comparison}
use Rattle.sched_devices.specs.declared.output.WriteFault.{WriteFault}
use Rattle.sched_cli.specs.Commands.{SaysLine, device_text, memory_text, refused_text, write_status, write_text}

abbrev pub differs_text : List ℕ → List ℕ
differs_text name = codes "roombox: differs " ++ (name ++ codes "\n")

-- what is said where a run of the box ends before its end
abbrev pub box_text : BoxFault → List ℕ
box_text Device = device_text
box_text (Differs name) = differs_text (string_bytes name)
box_text Memory = memory_text

-- 3 where an answer differs, 4 where a folder failed, 5 where memory was refused
abbrev pub box_status : BoxFault → ℕ
box_status Device = 4
box_status (Differs name) = 3
box_status Memory = 5

-- 0 where all files are answered
abbrev pub run_status : Result BoxReport BoxFault → ℕ
run_status (Ok report) = 0
run_status (Err fault) = box_status fault

-- what is said at its end
abbrev pub SaysRun : Result BoxReport BoxFault → Option (List ℕ) → Option (List ℕ) → Bool → Type 0
SaysRun (Ok report) old new lost = Keeps old new
SaysRun (Err fault) old new lost = SaysLine (box_text fault) old new lost

-- no box was run: the octets are no configuration, and that was said; or memory was refused
abbrev pub RunsNone : ℕ → List ℕ → Option (List ℕ) → Option (List ℕ) → Bool → Type 0
RunsNone status config old new lost =
    ((status ≡ 3) × ((closed : Bool) (hosts : Config) → IsConfiguration closed config hosts → ⊥) × SaysLine (refused_text 90) old new lost)
    ⊎ ((status ≡ 5) × SaysLine memory_text old new lost)

-- the octets are the configuration of these hosts, a run of their box ended so, this is the status for it, and this was said
pub record RunsWith (status : ℕ) (config : List ℕ) (MayEnd : Config → Result BoxReport BoxFault → Type 0) (old new : Option (List ℕ)) (lost : Bool) : Type 0 where
  pub closed : Bool
  pub hosts : Config
  pub spells : IsConfiguration closed config hosts
  pub ended : Result BoxReport BoxFault
  pub runs : MayEnd hosts ended
  pub status_is : status ≡ run_status ended
  pub said : SaysRun ended old new lost

-- ---- a comparison alone

-- a text was written whole; or, where what is written may be lost, a beginning of it
abbrev pub Writes : {T E : Type 0} → List ℕ → Result T E → Option (List ℕ) → Option (List ℕ) → Bool → Type 0
Writes text (Ok done) old new lost = Appends old new text
Writes text (Err fault) old new lost = (lost ≡ true) × ((n : ℕ) × Appends old new (take n text))

-- a line for each name that differs, and one with the counts
abbrev pub counts_text : ℕ → ℕ → List ℕ
counts_text files missing = (codes "roombox: files: " ++ decimal files) ++ ((codes ", missing answers: " ++ decimal missing) ++ codes "\n")

abbrev pub found_text : Comparison → List ℕ
found_text found = flat_map (λ (name : String Global). differs_text (string_bytes name)) found.differing.items ++ counts_text found.files found.missing

-- 3 where an answer differs; one that is missing is no fault
abbrev pub found_status : List (String Global) → ℕ
found_status [] = 0
found_status (name ∷ names) = 3

abbrev pub comparison_status : Result Comparison BoxFault → ℕ
comparison_status (Ok found) = found_status found.differing.items
comparison_status (Err fault) = box_status fault

abbrev pub SaysComparison : Result Comparison BoxFault → Option (List ℕ) → Option (List ℕ) → Bool → Type 0
SaysComparison (Ok found) old new lost = SaysLine (found_text found) old new lost
SaysComparison (Err fault) old new lost = SaysLine (box_text fault) old new lost

-- the octets are the configuration of these hosts, a comparison of their box found this, this is the status for it, and this was said
pub record ComparesWith (status : ℕ) (config : List ℕ) (MayEnd : Config → Result Comparison BoxFault → Type 0) (old new : Option (List ℕ)) (lost : Bool) : Type 0 where
  pub closed : Bool
  pub hosts : Config
  pub spells : IsConfiguration closed config hosts
  pub ended : Result Comparison BoxFault
  pub compares : MayEnd hosts ended
  pub status_is : status ≡ comparison_status ended
  pub said : SaysComparison ended old new lost

-- ---- with a report

-- what is said at its end, and the status: where all files are answered and a line of the report wasn't written whole, that
abbrev pub SaysLogged : Option WriteFault → Result BoxReport BoxFault → ℕ → Option (List ℕ) → Option (List ℕ) → Bool → Type 0
SaysLogged None ended status old new lost = (status ≡ run_status ended) × SaysRun ended old new lost
SaysLogged (Some fault) (Ok report) status old new lost = (status ≡ write_status fault) × SaysLine (write_text fault) old new lost
SaysLogged (Some fault) (Err ending) status old new lost = (status ≡ box_status ending) × SaysLine (box_text ending) old new lost

-- the octets are the configuration of these hosts, a run of their box ended so, and that was said of it and of the report
pub record RunsLogged (fault : Option WriteFault) (status : ℕ) (config : List ℕ) (MayEnd : Config → Result BoxReport BoxFault → Type 0) (old new : Option (List ℕ)) (lost : Bool) : Type 0 where
  pub closed : Bool
  pub hosts : Config
  pub spells : IsConfiguration closed config hosts
  pub ended : Result BoxReport BoxFault
  pub runs : MayEnd hosts ended
  pub said : SaysLogged fault ended status old new lost

-- a status 0 gives way to that of a line which wasn't written whole, and that is said; another one stays
abbrev pub EndsLogged : Option WriteFault → ℕ → ℕ → Option (List ℕ) → Option (List ℕ) → Bool → Bool → Type 0
EndsLogged None before status old new lost_before lost = (status ≡ before) × (new ≡ old) × (lost ≡ lost_before)
EndsLogged (Some fault) before status old new lost_before lost =
    ((before ≡ 0 → ⊥) × (status ≡ before) × (new ≡ old) × (lost ≡ lost_before))
    ⊎ ((before ≡ 0) × (status ≡ write_status fault) × SaysLine (write_text fault) old new lost)

-- of all files of the inbox, and of the objects in each, it was told what became of them by the box of the configuration; first of all, which are
-- left alone though they end as messages do
abbrev pub TellsBox : {Told : Type 0} → (Told → List ℕ → Told → Type 0) → (Told → List ℕ → Bool → Told → Type 0) → (Told → ℕ → List ℕ → Fate → Told → Type 0) → Told → Told → List ℕ → Image → Image → Type 0
TellsBox Passes Begins Tells old new config inbox outbox =
    (closed : Bool) × (hosts : Config) × IsConfiguration closed config hosts × TellsFolder Passes Begins Tells old new inbox outbox hosts
