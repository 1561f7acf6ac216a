-- What a door hands on of a stream, piece by piece and as a whole.
use Rattle.std.specs.Prelude.{◌≡◌, ◌⊎◌, ℕ, Bool, true, false, List, [], ◌++◌, Option, None, Some, IfSome}
use Rattle.std.specs.List.{flat_map, AllZip}
use Rattle.std.specs.Io.KnownBytes.{Appends}
use Rattle.profile.specs.text.Trees.{Tree}
use Rattle.profile.specs.text.Objects.{is_begun}
use Rattle.profile.specs.streams.Streams.{BeginsWith}
use Rattle.sched_doors.specs.Handing.{HandsOn, Passes, begun_at}
use Rattle.sched_doors.specs.Pieces.{Scans, may_begin_object}
use Rattle.sched_doors.specs.declared.place.Place.{Place}
use Rattle.sched_doors.specs.declared.preamble.LineSoFar.{LineSoFar}
use Rattle.sched_doors.specs.declared.preamble.LineSoFar.TheVariants as line

-- ---- piece by piece

-- where a door is in its stream, what it handed on of an object that isn't whole, and what is still to come
pub record AtDoor : Type 0 where
  pub place : Place
  pub begun : List ℕ
  pub left : Option (List ℕ)

abbrev pub at_door : Place → List ℕ → Option (List ℕ) → AtDoor
at_door place octets left = record { place = place; begun = begun_at place octets; left = left }

abbrev pub PassesAt : Option Tree → AtDoor → AtDoor → Bool → List (List ℕ) → List ℕ → Type 0
PassesAt listed from to is_adapted going_on handed = Passes listed from.left to.left from.place to.place from.begun to.begun is_adapted going_on handed

-- the input was handed on piece by piece
pub data HandsOnAll (listed : Option Tree) : AtDoor → AtDoor → Option (List ℕ) → Option (List ℕ) → Type 0 where
  none_passed : (at : AtDoor) (output : Option (List ℕ)) → HandsOnAll listed at at output output
  one_passed : (first mid last : AtDoor) (output sofar written : Option (List ℕ)) (is_adapted : Bool) (going_on : List (List ℕ)) (handed : List ℕ)
      → HandsOnAll listed first mid output sofar → PassesAt listed mid last is_adapted going_on handed → Appends sofar written handed
      → HandsOnAll listed first last output written

-- ---- as a whole

-- an object is handed on as it came, or made readable
abbrev pub IsHandedOn : Option Tree → List ℕ → List ℕ → Type 0
IsHandedOn listed object handed = (is_adapted : Bool) × (going_on : List (List ℕ)) × HandsOn listed object is_adapted going_on handed

-- the stream begins with this preamble, up to its empty line or to its end; with none where it begins as an object may
abbrev pub HasPreamble : List ℕ → List ℕ → List ℕ → Type 0
HasPreamble stream preamble rest =
    ((may_begin_object stream ≡ true) × (preamble ≡ []))
    ⊎ ((may_begin_object stream ≡ false) × ((to : Option LineSoFar) × Scans line.Nothing preamble to × ((to ≡ None) ⊎ (rest ≡ []))))

-- of a stream this is handed on: its preamble, each of its objects, as it came or made readable, and the empty lines behind them
pub record HandsOnStream (listed : Option Tree) (stream handed : List ℕ) : Type 0 where
  pub preamble : List ℕ
  pub rest : List ℕ
  pub is : stream ≡ preamble ++ rest
  pub has : HasPreamble stream preamble rest
  pub objects : List (List ℕ)
  pub left : List ℕ
  pub begins : BeginsWith rest objects left
  pub empty : is_begun left ≡ false
  pub made : List (List ℕ)
  pub each : AllZip (IsHandedOn listed) objects made
  pub handed_is : handed ≡ preamble ++ (flat_map (λ object. object) made ++ left)

-- what was written behind what was there is what is handed on of the stream
abbrev pub WritesStream : Option Tree → Option (List ℕ) → Option (List ℕ) → Option (List ℕ) → Type 0
WritesStream listed input output written =
    IfSome input (λ stream. IfSome output (λ before. (handed : List ℕ) × (written ≡ Some (before ++ handed)) × HandsOnStream listed stream handed))
