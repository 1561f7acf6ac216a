-- What a door takes of its reader at once.
use Rattle.std.specs.Prelude.{◌≡◌, ◌⊎◌, ◌<◌, ℕ, Bool, true, false, ◌||◌, ◌==◌, if◌then◌else◌, List, [], ◌∷◌, ◌++◌, length, nat_lt, Option, None, Some, IfSome, OnSome}
use Rattle.std.specs.Io.KnownBytes.{Consumes, IsAtEnd}
use Rattle.ical_lines.specs.Cut.{begun_after, ends_before, is_whole, rest_after}
use Rattle.ical_lines.specs.declared.object_end.Cutter.{Cutter}
use Rattle.ical_lines.specs.declared.object_end.Seen.TheVariants.{First}
use Rattle.sched_doors.specs.declared.fault.DoorFault.{DoorFault}
use Rattle.sched_doors.specs.declared.fault.DoorFault.TheVariants.{Read, Memory}
use Rattle.sched_doors.specs.declared.piece.Piece.{Piece}
use Rattle.sched_doors.specs.declared.piece.Piece.TheVariants.{Ended, Goes, End}
use Rattle.sched_doors.specs.declared.place.FrontCutter.{FrontCutter}
use Rattle.sched_doors.specs.declared.preamble.LineSoFar.{LineSoFar}
use Rattle.sched_doors.specs.declared.preamble.LineSoFar.TheVariants as line

-- the reader is blamed only where it has failed
abbrev pub IsCauseOf : Bool → DoorFault → Type 0
IsCauseOf reader Read = reader ≡ true
IsCauseOf reader Memory = Unit {0}

-- and where it failed that is told: with the other fault its mark is as before
abbrev pub KeepsUnlessRead : Bool → Bool → DoorFault → Type 0
KeepsUnlessRead before after Read = Unit {0}
KeepsUnlessRead before after Memory = after ≡ before

-- ---- a preamble

-- what an object may begin with: BEGIN in any case, the end of an empty line before it, or a byte order mark; and nothing at all
abbrev pub may_begin_object : List ℕ → Bool
may_begin_object [] = true
may_begin_object (first ∷ rest) = first == 66 || first == 98 || first == 13 || first == 10 || first == 239

-- what a line of a preamble has with one more octet; None where it was the empty line, which has ended
abbrev pub line_after : LineSoFar → ℕ → Option LineSoFar
line_after line.Nothing octet = if octet == 10 then None else (if octet == 13 then Some line.Return else Some line.Some)
line_after line.Return octet = if octet == 10 then None else Some line.Some
line_after line.Some octet = if octet == 10 then Some line.Nothing else Some line.Some

-- octets lead from what a line has to what a line has then, or to the end of the empty line, behind which there are no more
pub data Scans : LineSoFar → List ℕ → Option LineSoFar → Type 0 where
  scans_none : {from : LineSoFar} → Scans from [] (Some from)
  scans_more : {from next : LineSoFar} {rest : List ℕ} {to : Option LineSoFar} (octet : ℕ) → line_after from octet ≡ Some next → Scans next rest to → Scans from (octet ∷ rest) to
  scans_last : {from : LineSoFar} (octet : ℕ) → line_after from octet ≡ None → Scans from (octet ∷ []) None

-- octets of a preamble were taken and added to others; none only at the end of the input
pub record TakesPreamble (old new : Option (List ℕ)) (from : LineSoFar) (before after : List ℕ) (to : Option LineSoFar) : Type 0 where
  pub taken : List ℕ
  pub consumed : Consumes old new taken
  pub added : after ≡ before ++ taken
  pub scans : Scans from taken to
  pub end : length taken ≡ 0 → OnSome old (IsAtEnd new)

-- ---- an object

-- octets lead from one cutter to the other: none of them is past the object's end
pub record LeadsOn (from : Cutter) (octets : List ℕ) (to : Cutter) : Type 0 where
  pub rest : (more : List ℕ) → rest_after from (octets ++ more) ≡ rest_after to more
  pub begun : (more : List ℕ) → begun_after from (octets ++ more) ≡ begun_after to more
  pub none : octets ≡ [] → to ≡ from

-- the object has ended: before an octet that comes next
abbrev pub EndsBeforeNext : Option (List ℕ) → Option (List ℕ) → Cutter → Type 0
EndsBeforeNext old new cutter =
    (next : ℕ) × (ends_before cutter next ≡ true) × IfSome old (λ _. IfSome new (λ rest. (more : List ℕ) × (rest ≡ next ∷ more)))

-- or with the input
abbrev pub HasEnded : Option (List ℕ) → Option (List ℕ) → Cutter → Type 0
HasEnded old new cutter = EndsBeforeNext old new cutter ⊎ OnSome old (IsAtEnd new)

-- only empty lines came, the last of them perhaps without its end
pub record IsEmpty (cutter : Cutter) : Type 0 where
  pub nothing : cutter.begun ≡ false
  pub start : cutter.seen ≡ First 0

-- and behind them the first octet of an object at most
pub record IsFront (cutter : Cutter) : Type 0 where
  pub goes_on : is_whole cutter.seen ≡ false
  pub empty : cutter.begun ≡ false → cutter.seen ≡ First 0

-- where an object has begun, it did with the last of the octets
abbrev pub BeginsLast : Cutter → List ℕ → Cutter → Type 0
BeginsLast from octets to =
    to.begun ≡ true → (before : List ℕ) × (last : ℕ) × (mid : Cutter) × (octets ≡ before ++ last ∷ []) × LeadsOn from before mid × (mid.begun ≡ false)

-- empty lines and the first octet of an object were taken, as far as they have come, and added to others; none only at the end of the input
pub record TakesFront (old new : Option (List ℕ)) (from : Cutter) (before after : List ℕ) (to : FrontCutter) : Type 0 where
  pub taken : List ℕ
  pub consumed : Consumes old new taken
  pub added : after ≡ before ++ taken
  pub leads : LeadsOn from taken to.cutter
  pub few : BeginsLast from taken to.cutter
  pub end : length taken ≡ 0 → OnSome old (IsAtEnd new)

abbrev pub piece_after : ℕ → Bool → Piece
piece_after count ended = if ended then Ended else (if nat_lt 0 count then Goes else End)

-- an object goes on only with octets, it ends after some, if it hadn't ended before, and the input ends at its end
abbrev pub IsEndOfPiece : Option (List ℕ) → Option (List ℕ) → Cutter → List ℕ → Cutter → Piece → Type 0
IsEndOfPiece old new from taken to Ended = (is_whole from.seen ≡ false → 0 < length taken) × EndsBeforeNext old new to
IsEndOfPiece old new from taken to Goes = 0 < length taken
IsEndOfPiece old new from taken to End = OnSome old (IsAtEnd new)

-- octets of an object were taken and added to others
pub record TakesDoorPiece (old new : Option (List ℕ)) (from to : Cutter) (before after : List ℕ) (piece : Piece) : Type 0 where
  pub taken : List ℕ
  pub consumed : Consumes old new taken
  pub added : after ≡ before ++ taken
  pub leads : LeadsOn from taken to
  pub ends : IsEndOfPiece old new from taken to piece

-- an object has ended, or it is longer than a message may be
abbrev pub IsWholeOrLong : Option (List ℕ) → Option (List ℕ) → Cutter → List ℕ → Bool → Type 0
IsWholeOrLong old new to octets true = HasEnded old new to
IsWholeOrLong old new to octets false = 1_048_576 < length octets

-- the rest of an object was taken, or octets up to more than a message may have, and added to those that came before; none only at the end of
-- the input
pub record TakesObject (old new : Option (List ℕ)) (from to : Cutter) (before after : List ℕ) (whole : Bool) : Type 0 where
  pub taken : List ℕ
  pub consumed : Consumes old new taken
  pub added : after ≡ before ++ taken
  pub leads : LeadsOn from taken to
  pub ends : IsWholeOrLong old new to after whole
  pub end : length taken ≡ 0 → OnSome old (IsAtEnd new)
