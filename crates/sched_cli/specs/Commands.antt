-- What the commands write, and the statuses that they end with.
use Rattle.std.specs.Prelude.{◌≡◌, ◌⊎◌, ℕ, ℤ, Bool, true, if◌then◌else◌, ◌==◌, ◌≤◌, List, ◌++◌, take, codes, decimal, Contains, Option, IfSome, Result, Ok, Err}
use Rattle.std.specs.Io.KnownBytes.{Appends, Keeps}
use Rattle.profile.specs.checker.Calendars.{CertificateHolds}
use Rattle.profile.specs.streams.Streams.{Config, addresses}
use Rattle.clash_check.specs.Verdicts.{IsRefusedCalendar, IsJudgement}
use Rattle.clash_check.specs.declared.verdict.Checked.{Checked}
use Rattle.clash_check.specs.declared.verdict.Verdict.{Verdict}
use Rattle.clash_check.specs.declared.verdict.Verdict.TheVariants.{Yes, No}
use Rattle.clash_check.specs.declared.verdict.Why.{Why}
use Rattle.ical_lines.specs.declared.fault.Fault.{Fault}
use Rattle.ical_lines.specs.declared.fault.Fault.TheVariants as lines
use Rattle.sched_box.specs.Preamble.{OpensStream, OpensNot, StopsInPreamble}
use Rattle.sched_box.specs.Serving.{Ends, HasRead, ServesStream, KeepsTexts}
use Rattle.sched_box.specs.declared.fault.ServeFault.TheVariants.{Read, Write, TooLong, Memory}
use Rattle.sched_box.specs.declared.fault.StreamFault.{StreamFault}
use Rattle.sched_box.specs.declared.fault.StreamFault.TheVariants.{Refused, Serve}
use Rattle.sched_devices.specs.declared.output.WriteFault.{WriteFault}
use Rattle.sched_devices.specs.declared.output.WriteFault.TheVariants.{Failed}
use Rattle.sched_devices.specs.declared.output.WriteFault.TheVariants as write
use Rattle.sched_box.specs.declared.serving.ServeReport.{ServeReport}
use Rattle.sched_cli.specs.declared.commands.KeptText.{KeptText}
use Rattle.sched_cli.specs.declared.commands.KeptText.TheVariants.{Calendar, Certificate}

-- ---- standard error

-- the line was written; only where it may be lost, a beginning of it
abbrev pub SaysLine : List ℕ → Option (List ℕ) → Option (List ℕ) → Bool → Type 0
SaysLine line old new lost = Appends old new line ⊎ ((lost ≡ true) × ((n : ℕ) × Appends old new (take n line)))

abbrev pub refused_text : ℕ → List ℕ
refused_text n = codes "roombox: refused " ++ decimal n ++ codes "\n"

abbrev pub too_long_text : List ℕ
too_long_text = codes "roombox: too long\n"

abbrev pub device_text : List ℕ
device_text = codes "roombox: device\n"

abbrev pub memory_text : List ℕ
memory_text = codes "roombox: memory\n"

-- what is said where a stream ends early
abbrev pub fault_text : StreamFault → List ℕ
fault_text (Refused refusal) = refused_text refusal.number
fault_text (Serve Read) = device_text
fault_text (Serve Write) = device_text
fault_text (Serve TooLong) = too_long_text
fault_text (Serve Memory) = memory_text

-- what is said with the statuses 0, 1, 4 and 5: with 0 and 1 nothing
pub record IsStatusSaid (status : ℕ) (old new : Option (List ℕ)) (lost : Bool) : Type 0 where
  pub quiet : status ≤ 1 → Keeps old new
  pub device : status ≡ 4 → SaysLine device_text old new lost
  pub memory : status ≡ 5 → SaysLine memory_text old new lost

-- ---- a stream

-- 3 for input that is refused or too long, 4 where a device failed, 5 where memory was refused
abbrev pub fault_status : StreamFault → ℕ
fault_status (Refused refusal) = 3
fault_status (Serve Read) = 4
fault_status (Serve Write) = 4
fault_status (Serve TooLong) = 3
fault_status (Serve Memory) = 5

-- and for what isn't written whole
abbrev pub write_status : WriteFault → ℕ
write_status Failed = 4
write_status write.Memory = 5

abbrev pub write_text : WriteFault → List ℕ
write_text Failed = device_text
write_text write.Memory = memory_text

-- and for what can't be read
abbrev pub read_status : Fault → ℕ
read_status (lines.Refused refusal) = 3
read_status lines.Memory = 5

abbrev pub read_text : Fault → List ℕ
read_text (lines.Refused refusal) = refused_text refusal.number
read_text lines.Memory = memory_text

-- a device is blamed only where one has failed: the reader, the writer
abbrev pub BlamesDevice : Bool → Bool → ℕ → Type 0
BlamesDevice reader writer status = status ≡ 4 → (reader ≡ true) ⊎ (writer ≡ true)

-- and one that failed is told: with another status their marks are as before
abbrev pub TellsDevice : ℕ → Bool → Bool → Bool → Bool → Type 0
TellsDevice status reader_before reader writer_before writer = (status ≡ 4 → ⊥) → (reader ≡ reader_before) × (writer ≡ writer_before)

-- 0 where all objects were served
abbrev pub stream_status : Result ServeReport StreamFault → ℕ
stream_status (Ok report) = 0
stream_status (Err fault) = fault_status fault

-- what is said at its end
abbrev pub SaysStream : Result ServeReport StreamFault → Option (List ℕ) → Option (List ℕ) → Bool → Type 0
SaysStream (Ok report) old new lost = Keeps old new
SaysStream (Err fault) old new lost = SaysLine (fault_text fault) old new lost

-- the stream was served so, this is the status for it, and this was said
pub record ServesWith (status : ℕ) (ends : Ends) (old new : Option (List ℕ)) (lost : Bool) : Type 0 where
  pub ended : Result ServeReport StreamFault
  pub serves : ServesStream ends ended
  pub status_is : status ≡ stream_status ended
  pub said : SaysStream ended old new lost

-- ---- what a room keeps

-- the one of the two texts that was asked for
abbrev pub kept_text : KeptText → List ℕ → List ℕ → List ℕ
kept_text Calendar calendar certificate = calendar
kept_text Certificate calendar certificate = certificate

-- a preamble and objects were read, and after them the room keeps this calendar and this certificate, for which the checker says yes
pub record KeepsBoth (input left : Option (List ℕ)) (room calendar certificate : List ℕ) : Type 0 where
  pub moment : ℤ
  pub hosts : Config
  pub rest : Option (List ℕ)
  pub opens : OpensStream input rest moment hosts
  pub keeps : KeepsTexts moment hosts rest left room calendar certificate
  pub passes : CertificateHolds room calendar certificate

-- why nothing is kept of input that is refused or too long: no preamble is at its front, and no octet past its empty line was taken;
-- or the box that it names doesn't host the room, and nothing behind it was taken; or 1,073,741,824 octets were read behind it
abbrev pub KeepsNone : Option (List ℕ) → Option (List ℕ) → List ℕ → StreamFault → Type 0
KeepsNone input left room (Refused refusal) =
    (refusal.number ≡ 90) × ((IfSome input OpensNot × StopsInPreamble input left)
    ⊎ ((moment : ℤ) × (hosts : Config) × (rest : Option (List ℕ)) × OpensStream input rest moment hosts × (Contains (addresses hosts.rooms) room → ⊥) × Keeps rest left))
KeepsNone input left room (Serve TooLong) =
    (moment : ℤ) × (hosts : Config) × (rest : Option (List ℕ)) × OpensStream input rest moment hosts × HasRead 1_073_741_824 rest left
KeepsNone input left room (Serve Read) = Unit {0}
KeepsNone input left room (Serve Write) = Unit {0}
KeepsNone input left room (Serve Memory) = Unit {0}

-- and that was said
pub record RefusesToKeep (room : List ℕ) (input left old new : Option (List ℕ)) (lost : Bool) : Type 0 where
  pub fault : StreamFault
  pub status : fault_status fault ≡ 3
  pub none : KeepsNone input left room fault
  pub said : SaysLine (fault_text fault) old new lost

-- the one that was asked for was written, whole
pub record WritesKept (kept : KeptText) (room : List ℕ) (ends : Ends) : Type 0 where
  pub calendar : List ℕ
  pub certificate : List ℕ
  pub keeps : KeepsBoth ends.input ends.left room calendar certificate
  pub written : Appends ends.output ends.written (kept_text kept calendar certificate)

-- a beginning of it was
pub record CutsKept (kept : KeptText) (room : List ℕ) (ends : Ends) : Type 0 where
  pub calendar : List ℕ
  pub certificate : List ℕ
  pub keeps : KeepsBoth ends.input ends.left room calendar certificate
  pub count : ℕ
  pub written : Appends ends.output ends.written (take count (kept_text kept calendar certificate))

-- ---- the checker's answer

-- `no` and the number; for 81 the line, for 83 the pair
abbrev pub no_line : Why → List ℕ
no_line why =
    if why.number == 81 then codes "no " ++ decimal why.number ++ codes " " ++ decimal why.first ++ codes "\n"
    else (if why.number == 83
    then codes "no " ++ decimal why.number ++ codes " " ++ decimal why.first ++ codes " " ++ decimal why.second ++ codes "\n"
    else codes "no " ++ decimal why.number ++ codes "\n")

abbrev pub verdict_line : Verdict → List ℕ
verdict_line Yes = codes "yes\n"
verdict_line (No why) = no_line why

abbrev pub verdict_status : Verdict → ℕ
verdict_status Yes = 0
verdict_status (No why) = 1

-- the checker's answer, written whole, and its status
pub record WritesVerdict (status : ℕ) (room calendar certificate : List ℕ) (output written : Option (List ℕ)) : Type 0 where
  pub checked : Checked
  pub judged : IsRefusedCalendar calendar checked ⊎ IsJudgement room calendar certificate checked
  pub line : Appends output written (verdict_line checked.verdict)
  pub ends : status ≡ verdict_status checked.verdict

-- a beginning of it was written
pub record CutsVerdict (room calendar certificate : List ℕ) (output written : Option (List ℕ)) : Type 0 where
  pub checked : Checked
  pub judged : IsRefusedCalendar calendar checked ⊎ IsJudgement room calendar certificate checked
  pub count : ℕ
  pub line : Appends output written (take count (verdict_line checked.verdict))
