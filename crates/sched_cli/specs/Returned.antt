-- What `adapt --reply-to` hands on: answers, in the words of the object that they answer.
use Rattle.std.specs.Prelude.{◌≡◌, ◌⊎◌, ℕ, Bool, true, if◌then◌else◌, ◌==◌, ◌||◌, List, [], ◌∷◌, ◌++◌, take, codes, Option}
use Rattle.std.specs.List.{AllZip, flat_map, starts_with}
use Rattle.std.specs.Io.KnownBytes.{Appends, Keeps}
use Rattle.sched_devices.specs.declared.output.WriteFault.{WriteFault}
use Rattle.sched_devices.specs.declared.output.WriteFault.TheVariants.{Failed, Memory}
use Rattle.profile.specs.text.Objects.{after_object}
use Rattle.profile.specs.doors.Returning.{IsReturned, IsSplit}
use Rattle.cal_doors.specs.Adapted.{list_of}
use Rattle.sched_cli.specs.declared.returned.WayBack.{WayBack}

-- ---- the pieces of what `serve` wrote

-- a line comes first that no object has: an empty one, or that of a refused object
abbrev pub is_line : List ℕ → Bool
is_line octets =
    starts_with (◌==◌) octets (codes "\n") || (starts_with (◌==◌) octets (codes "\r\n") || starts_with (◌==◌) octets (codes "REFUSED;"))

-- what follows the first line
abbrev pub after_line : List ℕ → List ℕ
after_line [] = []
after_line (octet ∷ octets) = if octet == 10 then octets else after_line octets

-- what follows the first piece: such a line, or an object
abbrev pub after_piece : List ℕ → List ℕ
after_piece octets = if is_line octets then after_line octets else after_object octets

-- the octets have these pieces first, and these octets are left
pub data ArePieces : List ℕ → List (List ℕ) → List ℕ → Type 0 where
  none : (left : List ℕ) → ArePieces left [] left
  more : (octets piece left : List ℕ) (pieces : List (List ℕ)) → octets ≡ piece ++ after_piece octets → ArePieces (after_piece octets) pieces left
      → ArePieces octets (piece ∷ pieces) left

-- ---- what is handed on

-- a piece as it came, or in the words of the object that it answers
abbrev pub IsPieceTold : WayBack → List ℕ → List ℕ → Type 0
IsPieceTold way piece told = (told ≡ piece) ⊎ IsReturned (list_of way.listed) way.original.now piece told

-- each VEVENT is in an object of its own
abbrev pub IsParted : List ℕ → List ℕ → Type 0
IsParted told out = (parts : List (List ℕ)) × IsSplit told parts × (out ≡ flat_map (λ part. part) parts)

-- these octets are handed on for a piece. A line that no object has is handed on as it came
pub record HandsBack (way : WayBack) (piece out : List ℕ) : Type 0 where
  pub told : List ℕ
  pub is_told : IsPieceTold way piece told
  pub given : (out ≡ told) ⊎ ((way.is_single ≡ true) × IsParted told out)
  pub line : is_line piece ≡ true → out ≡ piece

-- the pieces were handed on, one after another, until these octets were left
pub record ReturnsAll (way : WayBack) (octets left : List ℕ) (output written : Option (List ℕ)) : Type 0 where
  pub pieces : List (List ℕ)
  pub outs : List (List ℕ)
  pub are : ArePieces octets pieces left
  pub each : AllZip (HandsBack way) pieces outs
  pub appended : Appends output written (flat_map (λ out. out) outs)

-- a beginning of what is handed on for a piece was written
pub record CutsBack (way : WayBack) (piece : List ℕ) (output written : Option (List ℕ)) : Type 0 where
  pub out : List ℕ
  pub handed : HandsBack way piece out
  pub count : ℕ
  pub cut : Appends output written (take count out)

-- whole pieces were handed on; with status 4 a beginning of the next may have been written
pub record ReturnsFront (status : ℕ) (way : WayBack) (octets : List ℕ) (output written : Option (List ℕ)) : Type 0 where
  pub left : List ℕ
  pub sofar : Option (List ℕ)
  pub all : ReturnsAll way octets left output sofar
  pub rest : Keeps sofar written ⊎ ((status ≡ 4) × ((piece : List ℕ) × (left ≡ piece ++ after_piece left) × CutsBack way piece sofar written))

-- ---- a piece

-- it was handed on
abbrev pub Returns : WayBack → List ℕ → Option (List ℕ) → Option (List ℕ) → Type 0
Returns way piece output written = (out : List ℕ) × HandsBack way piece out × Appends output written out

-- or not whole
abbrev pub StopsReturning : WayBack → List ℕ → Option (List ℕ) → Option (List ℕ) → WriteFault → Type 0
StopsReturning way piece output written Failed = CutsBack way piece output written
StopsReturning way piece output written Memory = Keeps output written
