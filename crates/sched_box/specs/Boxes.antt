-- What comes of a run of the box over folders that are known.
use Rattle.std.specs.Prelude.{◌≡◌, ◌<◌, ◌⊎◌, ◌-◌, ℕ, List, [], Result, Ok, Err, length, map, take, string_bytes}
use Rattle.profile.specs.streams.Comparing.{AreCompared, AreEqual, IsAsFound, IsComparison}
use Rattle.profile.specs.streams.Folders.{AnswersInbox, AreSame, File, Image, IsAnswered, IsBeginning, IsDifferent, MessageFile, StopsBetweenFiles, count_missing}
use Rattle.profile.specs.streams.Streams.{Config}
use Rattle.sched_box.specs.declared.folders.BoxFault.{BoxFault}
use Rattle.sched_box.specs.declared.folders.BoxFault.TheVariants.{Device, Differs, Memory}
use Rattle.sched_box.specs.declared.folders.BoxReport.{BoxReport}
use Rattle.sched_box.specs.declared.folders.Comparison.{Comparison}

-- the outbox of a run: what it held at first and holds now
pub record Outbox : Type 0 where
  pub start : Image
  pub now : Image
  -- the moments of its beginning and of its end
  pub first : ℕ
  pub last : ℕ

-- so many files were answered, and so many answers published
pub record IsCounted (start : Image) (answers : List File) (report : BoxReport) : Type 0 where
  pub files : report.files ≡ length answers
  pub written : report.written ≡ count_missing start answers

-- the run didn't end because an answer differs
abbrev pub IsNoDifference : BoxFault → Type 0
IsNoDifference Device = Unit {0}
IsNoDifference Memory = Unit {0}
IsNoDifference (Differs name) = ⊥

-- of all but the last: so none was published behind an answer that differs
abbrev pub NoneDiffers : Image → List File → Type 0
NoneDiffers start answers = AreEqual start (take (length answers - 1) answers)

-- it did, and only then, where it says so: at the first of the answers that differs
abbrev pub IsBreak : Image → List File → BoxFault → Type 0
IsBreak start answers Device = NoneDiffers start answers
IsBreak start answers Memory = NoneDiffers start answers
IsBreak start answers (Differs name) = IsDifferent start answers (string_bytes name) × NoneDiffers start answers

-- No answer goes out beside one that differs: where one does, the outbox is as it was found; where the run ends before that is known, it is too, or
-- all that stood in it was compared, and none of it differs.
abbrev pub NoneBeside : Type 0 → Image → List File → List MessageFile → BoxFault → Type 0
NoneBeside as_found start answers rest Device = as_found ⊎ AreCompared start answers rest
NoneBeside as_found start answers rest Memory = as_found ⊎ AreCompared start answers rest
NoneBeside as_found start answers rest (Differs name) = as_found

-- What a run leaves: at its end each file of the inbox is answered, and no stop takes an answer away; where it ends before, nothing was published
-- and a stop leaves what it might have left at first, or a beginning of the answers to the first files was, none of them beside an answer that
-- differs. Whenever the machine stopped, it left whole files.
abbrev pub Runs : Image → Config → Outbox → (Image → Type 0) → (Image → Type 0) → (ℕ → Image → Type 0) → Result BoxReport BoxFault → Type 0
Runs inbox hosts outbox may_leave may_leave_now left_since (Ok report) =
    (answers : List File) × AnswersInbox inbox hosts answers []
    × StopsBetweenFiles outbox.start answers may_leave left_since outbox.first outbox.last
    × IsAnswered outbox.start outbox.now answers × IsCounted outbox.start answers report
    × ((left : Image) → may_leave_now left → AreSame left outbox.now)
Runs inbox hosts outbox may_leave may_leave_now left_since (Err fault) =
    (IsAsFound outbox.start outbox.now may_leave left_since outbox.first × IsNoDifference fault)
    ⊎ ((answers : List File) × ((rest : List MessageFile) × AnswersInbox inbox hosts answers rest
    × NoneBeside (IsAsFound outbox.start outbox.now may_leave left_since outbox.first) outbox.start answers rest fault)
    × StopsBetweenFiles outbox.start answers may_leave left_since outbox.first outbox.last
    × IsBeginning outbox.start answers outbox.now × IsBreak outbox.start answers fault)

-- What a comparison of a box's folders finds. It doesn't end because an answer differs.
abbrev pub Compares : Image → Config → Image → Result Comparison BoxFault → Type 0
Compares inbox hosts outbox (Ok found) =
    (answers : List File) × AnswersInbox inbox hosts answers []
    × IsComparison outbox answers found.files found.missing (map string_bytes found.differing.items)
Compares inbox hosts outbox (Err fault) = IsNoDifference fault

-- a count of failures has risen, or it stood at the greatest u64, where it stays
abbrev pub HasRisen : ℕ → ℕ → Type 0
HasRisen before now = (before < now) ⊎ ((before ≡ 18_446_744_073_709_551_615) × (now ≡ before))
