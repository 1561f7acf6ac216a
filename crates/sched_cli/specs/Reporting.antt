-- What `serve --report` says of a stream.
use Rattle.std.specs.Prelude.{◌≡◌, ◌⊎◌, ℕ, Bool, if◌then◌else◌, ◌==◌, List, ◌++◌, codes, decimal, Option, Result, Ok, Err}
use Rattle.std.specs.Io.KnownBytes.{Appends, Keeps}
use Rattle.sched_box.specs.Serving.{Ends, ServesStream}
use Rattle.sched_box.specs.declared.fault.StreamFault.{StreamFault}
use Rattle.sched_box.specs.declared.serving.ServeReport.{ServeReport}
use Rattle.sched_cli.specs.Commands.{SaysLine, device_text, fault_status, fault_text, memory_text}

-- one object, or several
abbrev pub objects_word : ℕ → List ℕ
objects_word n = if n == 1 then codes " object, " else codes " objects, "

-- the line of a report: how many objects, how many of them refused, and with which numbers
abbrev pub IsReportLine : ServeReport → List ℕ → Type 0
IsReportLine report line =
    (numbers : List ℕ) × (line ≡ codes "roombox: " ++ (decimal report.objects ++ (objects_word report.objects ++ (decimal report.refused ++ (codes " refused" ++ (numbers ++ codes "\n"))))))

-- with status 0 it was said, whole; with 4 it wasn't, or a line before it wasn't, and that a device failed is said; with 5 memory was refused
abbrev pub SaysReport : ServeReport → ℕ → Option (List ℕ) → Option (List ℕ) → Bool → Type 0
SaysReport report status old new lost =
    ((status ≡ 0) × ((line : List ℕ) × IsReportLine report line × Appends old new line))
    ⊎ (((status ≡ 4) × (((line : List ℕ) × IsReportLine report line × SaysLine line old new lost) ⊎ SaysLine device_text old new lost))
    ⊎ ((status ≡ 5) × (SaysLine memory_text old new lost ⊎ Keeps old new)))

-- what is said where a stream ends: its report, or why it ended early
abbrev pub SaysEnd : Result ServeReport StreamFault → ℕ → Option (List ℕ) → Option (List ℕ) → Bool → Type 0
SaysEnd (Ok report) status old new lost = SaysReport report status old new lost
SaysEnd (Err fault) status old new lost = (status ≡ fault_status fault) × SaysLine (fault_text fault) old new lost

-- the stream was served so, and that was said of it, with this status
pub record ReportsWith (status : ℕ) (ends : Ends) (old new : Option (List ℕ)) (lost : Bool) : Type 0 where
  pub ended : Result ServeReport StreamFault
  pub serves : ServesStream ends ended
  pub said : SaysEnd ended status old new lost
