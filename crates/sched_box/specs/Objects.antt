-- How the objects of a stream are taken from a reader, octet by octet.
use Rattle.std.specs.Prelude.{◌≡◌, ◌⊎◌, ◌≤◌, ◌<◌, ◌+◌, ◌-◌, ℕ, Bool, true, false, List, [], ◌∷◌, ◌++◌, length, take, nat_lt, if◌then◌else◌, Option, IfSome, OnSome}
use Rattle.std.specs.Io.KnownBytes.{Consumes, IsAtEnd}
use Rattle.profile.specs.text.Objects.{is_begun, after_object}
use Rattle.ical_lines.specs.Cut.{rest_after, begun_after, ends_before}
use Rattle.ical_lines.specs.declared.object_end.Cutter.{Cutter}
use Rattle.sched_box.specs.declared.fault.ServeFault.{ServeFault}
use Rattle.sched_box.specs.declared.fault.ServeFault.TheVariants.{Read, Write, TooLong, Memory}
use Rattle.sched_box.specs.declared.objects.Objects.{Objects}
use Rattle.sched_box.specs.declared.objects.Piece.{Piece}
use Rattle.sched_box.specs.declared.objects.Piece.TheVariants.{Ended, Goes, End}

-- what is kept of an object: at most one more octet than it may have
abbrev pub kept_of : List ℕ → List ℕ
kept_of object = take 1_048_577 object

-- ---- a piece of what a reader lends

-- the input has ended, and nothing of it is left
abbrev pub LendsNothing : List ℕ → Bool → Type 0
LendsNothing lent has_ended = (lent ≡ []) × (has_ended ≡ true)

-- the octets, none of which is past the object's end, lead from one cutter to the other
pub record Cuts (old : Cutter) (octets : List ℕ) (new : Cutter) : Type 0 where
  pub rest : (more : List ℕ) → rest_after old (octets ++ more) ≡ rest_after new more
  pub begun : (more : List ℕ) → begun_after old (octets ++ more) ≡ begun_after new more
  pub none : octets ≡ [] → new ≡ old

-- what a piece did: the object ended before an octet that the reader lends; the input has ended; or it goes on
abbrev pub IsPieceEnd : List ℕ → Bool → Cutter → List ℕ → Piece → Type 0
IsPieceEnd lent has_ended cutter taken Ended = (next : ℕ) × (more : List ℕ) × (lent ≡ next ∷ more) × (ends_before cutter next ≡ true)
IsPieceEnd lent has_ended cutter taken End = LendsNothing lent has_ended
IsPieceEnd lent has_ended cutter taken Goes = 0 < length taken

abbrev pub piece_of : ℕ → Bool → Piece
piece_of count ended = if ended then Ended else (if nat_lt 0 count then Goes else End)

-- a piece isn't taken where the reader fails or memory is refused
abbrev pub IsPieceFault : ServeFault → Type 0
IsPieceFault Read = Unit {0}
IsPieceFault Memory = Unit {0}
IsPieceFault TooLong = ⊥
IsPieceFault Write = ⊥

-- where the object or the input has ended, something may still be read
abbrev pub LeavesMore : Piece → ℕ → Type 0
LeavesMore Ended left = 0 < left
LeavesMore End left = 0 < left
LeavesMore Goes left = Unit {0}

-- the octets were taken and, as far as they are kept, added
pub record TakesPiece (Takes : List ℕ → Type 0) (lent : List ℕ) (has_ended : Bool) (before after : Objects) (from to : Cutter) (piece : Piece) : Type 0 where
  pub taken : List ℕ
  pub takes : Takes taken
  pub kept : after.octets.items ≡ before.octets.items ++ take (1_048_577 - length before.octets.items) taken
  pub left : after.left + length taken ≡ before.left
  pub more : LeavesMore piece after.left
  pub cuts : Cuts from taken to
  pub ends : IsPieceEnd lent has_ended to taken piece

-- ---- an object

-- the next object was taken, whole, or only empty lines were left
pub record TakesNextObject (old new : Option (List ℕ)) (kept : List ℕ) (found : Bool) (taken : List ℕ) : Type 0 where
  pub consumed : Consumes old new taken
  pub kept_is : kept ≡ kept_of taken
  pub begun : IfSome old (λ octets. is_begun octets ≡ found)
  pub rest : IfSome old (λ octets. IfSome new (λ rest. rest ≡ after_object octets))
  pub end : found ≡ false → OnSome old (IsAtEnd new)
  pub some : found ≡ true → 0 < length taken

-- and this many octets may still be read, at least one
abbrev pub ReadsObject : Option (List ℕ) → Option (List ℕ) → Objects → Objects → Bool → Type 0
ReadsObject old new before after found =
    (taken : List ℕ) × TakesNextObject old new after.octets.items found taken × (after.left + length taken ≡ before.left) × (0 < after.left)

-- the octet after the object is lent, or the input has ended
abbrev pub LendsNext : List ℕ → Bool → Type 0
LendsNext lent has_ended = (0 < length lent) ⊎ LendsNothing lent has_ended

-- the stream is too long exactly where nothing more may be read
abbrev pub IsStop : ServeFault → ℕ → Type 0
IsStop Read left = 0 < left
IsStop Memory left = 0 < left
IsStop TooLong left = left ≡ 0
IsStop Write left = ⊥

-- octets were taken, none past the next object: in them no object ends before an octet
pub record StopsReading (old new : Option (List ℕ)) (before after : Objects) (fault : ServeFault) : Type 0 where
  pub taken : List ℕ
  pub consumed : Consumes old new taken
  pub within : IfSome old (λ octets. IfSome new (λ rest. length (after_object octets) ≤ length rest))
  pub goes_on : after_object taken ≡ []
  pub left : after.left + length taken ≡ before.left
  pub stop : IsStop fault after.left
