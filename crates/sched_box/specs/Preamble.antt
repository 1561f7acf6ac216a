-- How a preamble is taken from a reader: up to its empty line, octet by octet.
use Rattle.std.specs.Prelude.{◌≡◌, ◌⊎◌, ◌<◌, ◌≤◌, ◌+◌, ◌==◌, ℕ, ℤ, Bool, true, false, if◌then◌else◌, List, [], ◌∷◌, ◌++◌, length, Option, IfSome, OnSome}
use Rattle.std.specs.Io.KnownBytes.{Consumes, IsAtEnd}
use Rattle.profile.specs.streams.Streams.{Config, IsPreamble}
use Rattle.sched_box.specs.Objects.{LendsNothing}
use Rattle.sched_box.specs.declared.fault.StreamFault.{StreamFault}
use Rattle.sched_box.specs.declared.fault.StreamFault.TheVariants.{Refused, Serve}
use Rattle.sched_box.specs.declared.preamble.LineState.{LineState}
use Rattle.sched_box.specs.declared.preamble.LineState.TheVariants.{Start, Return, Inside, Closed}

abbrev pub is_closed : LineState → Bool
is_closed Start = false
is_closed Return = false
is_closed Inside = false
is_closed Closed = true

-- the place after one more octet
abbrev pub next_place : LineState → ℕ → LineState
next_place Start octet = if octet == 10 then Closed else (if octet == 13 then Return else Inside)
next_place Return octet = if octet == 10 then Closed else Inside
next_place Inside octet = if octet == 10 then Start else Inside
next_place Closed octet = Closed

abbrev pub place_after : LineState → List ℕ → LineState
place_after place [] = place
place_after place (octet ∷ octets) = place_after (next_place place octet) octets

-- what follows the empty line, of the octets that are still to come
abbrev pub rest_of : LineState → List ℕ → List ℕ
rest_of place [] = []
rest_of place (octet ∷ octets) = if is_closed place then octet ∷ octets else rest_of (next_place place octet) octets

-- the octets lead from one place to the other, and all of them come before the end of the empty line
pub record Leads (old : LineState) (octets : List ℕ) (new : LineState) : Type 0 where
  pub place : place_after old octets ≡ new
  pub rest : (more : List ℕ) → rest_of old (octets ++ more) ≡ rest_of new more

-- the octets that were taken lead on; where nothing goes on, the empty line or the end of the input was met
pub record TakesPreamblePiece (lent : List ℕ) (has_ended : Bool) (from to : LineState) (octets : List ℕ) (goes : Bool) : Type 0 where
  pub leads : Leads from octets to
  pub stops : goes ≡ false → (to ≡ Closed) ⊎ LendsNothing lent has_ended
  pub some : goes ≡ true → (0 < length octets) × (is_closed to ≡ false)

-- the octets up to the empty line were taken, or all
pub record TakesPreamble (old new : Option (List ℕ)) (octets : List ℕ) : Type 0 where
  pub place : LineState
  pub consumed : Consumes old new octets
  pub leads : Leads Start octets place
  pub stops : (place ≡ Closed) ⊎ OnSome old (IsAtEnd new)

-- more octets than a preamble may have come up to the end of the empty line
abbrev pub IsLong : List ℕ → Type 0
IsLong octets = length (rest_of Start octets) + 65_536 < length octets

-- the reader gave a preamble with this moment and these hosts, and all that it had where there is no empty line
pub record OpensStream (old new : Option (List ℕ)) (moment : ℤ) (hosts : Config) : Type 0 where
  pub preamble : List ℕ
  pub closed : Bool
  pub consumed : Consumes old new preamble
  pub says : IsPreamble closed preamble moment hosts
  pub all : closed ≡ false → OnSome old (IsAtEnd new)

-- octets were taken, and none past the empty line
pub record StopsInPreamble (old new : Option (List ℕ)) : Type 0 where
  pub taken : List ℕ
  pub consumed : Consumes old new taken
  pub within : IfSome old (λ octets. IfSome new (λ rest. length (rest_of Start octets) ≤ length rest))

-- the octets don't begin with a preamble
abbrev pub OpensNot : List ℕ → Type 0
OpensNot octets =
    (preamble rest : List ℕ) (closed : Bool) (moment : ℤ) (hosts : Config)
    → octets ≡ preamble ++ rest → (closed ≡ false → rest ≡ []) → IsPreamble closed preamble moment hosts → ⊥

-- what was read where no preamble was: none past an empty line; and where it is refused, the octets begin with none
abbrev pub OpensNothing : StreamFault → Option (List ℕ) → Option (List ℕ) → Type 0
OpensNothing (Refused refusal) input left = IfSome input OpensNot × StopsInPreamble input left
OpensNothing (Serve fault) input left = StopsInPreamble input left
