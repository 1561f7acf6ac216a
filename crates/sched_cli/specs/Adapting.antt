-- What `adapt` hands on, and what it says of it.
use Rattle.std.specs.Prelude.{◌≡◌, ◌⊎◌, ℕ, Bool, true, false, List, [], ◌∷◌, ◌++◌, take, codes, decimal, Option}
use Rattle.std.specs.List.{flat_map}
use Rattle.std.specs.Io.KnownBytes.{Appends, Keeps}
use Rattle.profile.specs.text.Trees.{Tree}
use Rattle.sched_doors.specs.Streams.{AtDoor, HandsOnAll, PassesAt}
use Rattle.sched_cli.specs.declared.adapt.AdaptFault.{AdaptFault}
use Rattle.sched_cli.specs.declared.adapt.AdaptFault.TheVariants.{Device, Memory}
use Rattle.sched_cli.specs.Commands.{device_text, memory_text}

-- ---- what is handed on

-- one more piece was, or nothing where it doesn't go on
pub record PassesOn (listed : Option Tree) (old new : AtDoor) (output written : Option (List ℕ)) (goes : Bool) : Type 0 where
  pub is_adapted : Bool
  pub going_on : List (List ℕ)
  pub handed : List ℕ
  pub passes : PassesAt listed old new is_adapted going_on handed
  pub appended : Appends output written handed
  pub end : goes ≡ false → handed ≡ []

-- all of it was, up to its end
pub record AdaptsWhole (listed : Option Tree) (first stop : AtDoor) (output written : Option (List ℕ)) : Type 0 where
  pub before : AtDoor
  pub sofar : Option (List ℕ)
  pub all : HandsOnAll listed first before output sofar
  pub last : PassesOn listed before stop sofar written false

-- a beginning of a piece was written
pub record CutsNext (listed : Option Tree) (old : AtDoor) (output written : Option (List ℕ)) : Type 0 where
  pub later : AtDoor
  pub is_adapted : Bool
  pub going_on : List (List ℕ)
  pub handed : List ℕ
  pub passes : PassesAt listed old later is_adapted going_on handed
  pub count : ℕ
  pub cut : Appends output written (take count handed)

-- a beginning of the input was, in whole pieces; with status 4 a beginning of the next may have been written
pub record AdaptsFront (status : ℕ) (listed : Option Tree) (first : AtDoor) (output written : Option (List ℕ)) : Type 0 where
  pub before : AtDoor
  pub sofar : Option (List ℕ)
  pub all : HandsOnAll listed first before output sofar
  pub rest : Keeps sofar written ⊎ ((status ≡ 4) × CutsNext listed before sofar written)

-- ---- why it ends early

-- what was written of the next piece
abbrev pub StopsPassing : Option Tree → AtDoor → Option (List ℕ) → Option (List ℕ) → AdaptFault → Type 0
StopsPassing listed old output written Device = Keeps output written ⊎ CutsNext listed old output written
StopsPassing listed old output written Memory = Keeps output written

abbrev pub StopsPutting : Option (List ℕ) → Option (List ℕ) → Bool → List ℕ → AdaptFault → Type 0
StopsPutting old new failed octets Device = (failed ≡ true) × ((n : ℕ) × Appends old new (take n octets))
StopsPutting old new failed octets Memory = Keeps old new

abbrev pub KeepsMark : Bool → Bool → AdaptFault → Type 0
KeepsMark before after Device = Unit {0}
KeepsMark before after Memory = after ≡ before

-- a device is blamed only where one has failed: the reader, the writer
abbrev pub AdaptStopsFor : Bool → Bool → AdaptFault → Type 0
AdaptStopsFor reader writer Device = (reader ≡ true) ⊎ (writer ≡ true)
AdaptStopsFor reader writer Memory = Unit {0}

-- and one that failed is told
abbrev pub KeepsMarks : Bool → Bool → Bool → Bool → AdaptFault → Type 0
KeepsMarks reader_before reader writer_before writer Device = Unit {0}
KeepsMarks reader_before reader writer_before writer Memory = (reader ≡ reader_before) × (writer ≡ writer_before)

abbrev pub adapt_status : AdaptFault → ℕ
adapt_status Device = 4
adapt_status Memory = 5

abbrev pub adapt_text : AdaptFault → List ℕ
adapt_text Device = device_text
adapt_text Memory = memory_text

-- ---- what is said of an object

abbrev pub goes_on_text : ℕ → List ℕ → List ℕ
goes_on_text number name = codes "roombox: object " ++ (decimal number ++ (codes ": " ++ (name ++ codes " goes on after its last onset\n")))

-- a line for each zone that goes on, or that the object was made readable where none does
abbrev pub adapted_text : ℕ → List (List ℕ) → List ℕ
adapted_text number [] = codes "roombox: object " ++ (decimal number ++ codes ": made readable\n")
adapted_text number (name ∷ names) = flat_map (goes_on_text number) (name ∷ names)
