-- What is said of objects that came to nothing.
use Rattle.std.specs.Prelude.{◌≡◌, ◌⊎◌, ℕ, ◌==◌, Bool, true, false, not, ◌&&◌, nat_lt, nat_le, if◌then◌else◌, List, [], ◌∷◌, ◌++◌, length, take, codes, decimal, Option, Some, None}
use Rattle.std.specs.List.{flat_map}
use Rattle.std.specs.Io.KnownBytes.{Appends}
use Rattle.percent_encoding.specs.Percent.{percent_encode_byte}
use Rattle.profile.specs.streams.Reports.{Fate, Refused, Unreached, Stale, Repeated, CancelsNothing, Taken}
use Rattle.sched_devices.specs.declared.output.WriteFault.{WriteFault}
use Rattle.sched_devices.specs.declared.output.WriteFault.TheVariants.{Failed, Memory}

-- printable ASCII, so no end of a line
abbrev pub is_shown : ℕ → Bool
is_shown octet = nat_le 32 octet && nat_le octet 126

-- it is shown as it is: what is printable, but `%`
abbrev pub is_printed_plain : ℕ → Bool
is_printed_plain octet = is_shown octet && not (octet == 37)

-- each other octet as `%` and two hexadecimal digits (RFC 3986 2.1)
abbrev pub shown_octet : ℕ → List ℕ
shown_octet octet = if is_printed_plain octet then octet ∷ [] else percent_encode_byte octet

abbrev pub shown : List ℕ → List ℕ
shown octets = flat_map shown_octet octets

-- at most 200 of them, and `..` behind these
abbrev pub cut_shown : List ℕ → List ℕ
cut_shown octets = if nat_lt 200 (length octets) then shown (take 200 octets) ++ codes ".." else shown octets

-- ---- the line of an object

abbrev pub is_taken : Fate → Bool
is_taken (Refused n) = false
is_taken Unreached = false
is_taken Stale = false
is_taken Repeated = false
is_taken CancelsNothing = false
is_taken Taken = true

-- what became of an object, in words
abbrev pub fate_words : Fate → List ℕ
fate_words (Refused n) = codes "refused " ++ decimal n
fate_words Unreached = codes "reached no room"
fate_words Stale = codes "stale"
fate_words Repeated = codes "changed nothing"
fate_words CancelsNothing = codes "cancels nothing"
fate_words Taken = codes "taken"

-- a value behind what names it, where there is one
abbrev pub value_text : List ℕ → List ℕ → List ℕ
value_text before [] = []
value_text before (first ∷ more) = before ++ cut_shown (first ∷ more)

-- what could be read of an object
abbrev pub header_text : List ℕ → List ℕ → List ℕ → List ℕ
header_text method uid organizer = value_text (codes ", ") method ++ (value_text (codes ", UID ") uid ++ value_text (codes ", ORGANIZER ") organizer)

abbrev pub place_words : List ℕ → ℕ → List ℕ
place_words file k = codes "roombox: " ++ (file ++ (codes "object " ++ (decimal k ++ codes ": ")))

-- the line of object k of a file, and behind it what could be read of the object
abbrev pub IsObjectLine : List ℕ → ℕ → Fate → List ℕ → Type 0
IsObjectLine file k fate line =
    (method : List ℕ) × (uid : List ℕ) × (organizer : List ℕ)
    × (line ≡ place_words file k ++ (fate_words fate ++ (header_text method uid organizer ++ codes "\n")))

-- ---- a log

-- what stands before the number of an object, whether nothing is said, why a line wasn't written whole, and the writer
pub record Logged : Type 0 where
  pub file : List ℕ
  pub is_quiet : Bool
  pub fault : Option WriteFault
  pub written : Option (List ℕ)
  pub has_failed : Bool

-- of two faults the earlier one
abbrev pub first_fault : Option WriteFault → WriteFault → Option WriteFault
first_fault None fault = Some fault
first_fault (Some before) fault = Some before

-- a file comes next: of one that isn't new nothing is said. Its name, as it is shown, stands before the numbers; where memory for it is refused,
-- that is kept
abbrev pub LogBegins : Logged → List ℕ → Bool → Logged → Type 0
LogBegins old name is_new new =
    (new.written ≡ old.written) × (new.has_failed ≡ old.has_failed) × (new.is_quiet ≡ not is_new)
    × (((new.fault ≡ old.fault) × (new.file ≡ shown name ++ codes " ")) ⊎ (new.fault ≡ first_fault old.fault Memory))

-- a line that is due wasn't written whole: the writer has failed, or memory was refused. That is kept, if it is the first
abbrev pub KeepsFault : Logged → Logged → Type 0
KeepsFault old new = (fault : WriteFault) × (new.fault ≡ first_fault old.fault fault) × (fault ≡ Failed → new.has_failed ≡ true)

-- the line of a file that is left alone
abbrev pub alone_line : List ℕ → List ℕ
alone_line name = codes "roombox: left alone: " ++ (shown name ++ codes "\n")

-- it was written whole; or it wasn't, and that is kept
abbrev pub LogPasses : Logged → List ℕ → Logged → Type 0
LogPasses old name new =
    (new.file ≡ old.file) × (new.is_quiet ≡ old.is_quiet)
    × (((new.fault ≡ old.fault) × Appends old.written new.written (alone_line name)) ⊎ KeepsFault old new)

-- something is to be said of an object that came to nothing
abbrev pub is_due : Bool → Fate → Bool
is_due is_quiet fate = not is_quiet && not (is_taken fate)

-- its line was written whole, where one is due, else nothing
abbrev pub SaysObject : Bool → List ℕ → ℕ → Fate → Option (List ℕ) → Option (List ℕ) → Type 0
SaysObject true file k fate old new = (line : List ℕ) × IsObjectLine file k fate line × Appends old new line
SaysObject false file k fate old new = new ≡ old

-- of the object of this number it is said what became of it
abbrev pub LogTells : Logged → ℕ → Fate → Logged → Type 0
LogTells old k fate new =
    (new.file ≡ old.file) × (new.is_quiet ≡ old.is_quiet)
    × (((new.fault ≡ old.fault) × SaysObject (is_due old.is_quiet fate) old.file k fate old.written new.written)
    ⊎ ((is_due old.is_quiet fate ≡ true) × KeepsFault old new))
