-- What is said of a calendar that is refused.
use Rattle.std.specs.Prelude.{◌≡◌, ◌⊎◌, ℕ, Bool, List, [], ◌++◌, codes, Option}
use Rattle.std.specs.Io.KnownBytes.{Keeps}
use Rattle.profile.specs.checker.Blamed.{IsBlamed}
use Rattle.profile.specs.checker.Calendars.{CalendarTextFault}
use Rattle.sched_cli.specs.Commands.{SaysLine, device_text, memory_text, refused_text}
use Rattle.sched_cli.specs.Logging.{cut_shown}

abbrev pub uid_text : List ℕ → List ℕ
uid_text uid = codes "roombox: UID " ++ (cut_shown uid ++ codes "\n")

-- the line of a UID that the calendar is refused for with this number
abbrev pub IsUidLine : (octets : List ℕ) → ℕ → List ℕ → Type 0
IsUidLine octets n line = (uid : List ℕ) × IsBlamed octets n uid × (line ≡ uid_text uid)

-- this line, or nothing
abbrev pub IsUidTold : (octets : List ℕ) → ℕ → List ℕ → Type 0
IsUidTold octets n told = (told ≡ []) ⊎ IsUidLine octets n told

-- the line of the number, and behind it that of the UID
abbrev pub IsRefusedText : (octets : List ℕ) → ℕ → List ℕ → Type 0
IsRefusedText octets n text = (told : List ℕ) × IsUidTold octets n told × (text ≡ refused_text n ++ told)

-- it was said
abbrev pub SaysRefused : (octets : List ℕ) → ℕ → Option (List ℕ) → Option (List ℕ) → Bool → Type 0
SaysRefused octets n old new lost = (text : List ℕ) × IsRefusedText octets n text × SaysLine text old new lost

-- ---- what `check` says

-- nothing was said, or of a calendar that is refused the line of a UID that it is refused for
abbrev pub SaysBlamed : (octets : List ℕ) → Option (List ℕ) → Option (List ℕ) → Bool → Type 0
SaysBlamed octets old new lost = Keeps old new ⊎ ((n : ℕ) × (line : List ℕ) × CalendarTextFault octets n × IsUidLine octets n line × SaysLine line old new lost)

-- what is said with the statuses 0, 1, 4 and 5
pub record IsCheckSaid (status : ℕ) (octets : List ℕ) (old new : Option (List ℕ)) (lost : Bool) : Type 0 where
  pub yes : status ≡ 0 → Keeps old new
  pub no : status ≡ 1 → SaysBlamed octets old new lost
  pub device : status ≡ 4 → SaysLine device_text old new lost
  pub memory : status ≡ 5 → SaysLine memory_text old new lost
