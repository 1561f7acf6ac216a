-- What a door makes of what it reads.
use Rattle.std.specs.Prelude.{◌≡◌, ◌<◌, ℕ, Bool, true, false, List, [], ◌∷◌, ◌++◌, drop, length, Option, Some, None, IfSome, OnSome}
use Rattle.std.specs.Io.KnownBytes.{Consumes, IsAtEnd}
use Rattle.profile.specs.text.Trees.{Tree}
use Rattle.profile.specs.doors.Adapting.{IsAdapted}
use Rattle.ical_lines.specs.Cut.{ends_before, fresh}
use Rattle.ical_lines.specs.declared.object_end.Cutter.{Cutter}
use Rattle.sched_devices.specs.Input.{Coming}
use Rattle.sched_doors.specs.Pieces.{BeginsLast, EndsBeforeNext, HasEnded, IsEmpty, LeadsOn, Scans, may_begin_object}
use Rattle.sched_doors.specs.declared.place.FrontCutter.{FrontCutter}
use Rattle.sched_doors.specs.declared.place.Place.{Place}
use Rattle.sched_doors.specs.declared.place.Place.TheVariants.{Start, Preamble, Between, Front, Long}
use Rattle.sched_doors.specs.declared.preamble.LineSoFar.{LineSoFar}
use Rattle.sched_doors.specs.declared.preamble.LineSoFar.TheVariants as line

-- ---- a piece of the input

-- of the octets that were read these belong to an object that isn't whole, and were handed on
abbrev pub begun_at : Place → List ℕ → List ℕ
begun_at Start octets = []
begun_at (Preamble from) octets = []
begun_at Between octets = []
begun_at (Front from) octets = octets
begun_at (Long from) octets = []

-- a preamble begins or goes on: a stream that begins as an object may has none
abbrev pub IsInPreamble : Option (List ℕ) → Place → LineSoFar → Type 0
IsInPreamble old Start from = (from ≡ line.Nothing) × IfSome old (λ octets. may_begin_object octets ≡ false)
IsInPreamble old (Preamble sofar) from = from ≡ sofar
IsInPreamble old Between from = ⊥
IsInPreamble old (Front _) from = ⊥
IsInPreamble old (Long _) from = ⊥

abbrev pub after_preamble : Option LineSoFar → Place
after_preamble (Some to) = Preamble to
after_preamble None = Between

-- an object begins, or only empty lines of it came: at the start of a stream without a preamble, between objects, or where one that is too long
-- ends before an octet that comes next
abbrev pub IsBeforeObject : Option (List ℕ) → Place → Cutter → Type 0
IsBeforeObject old Start from = (from ≡ fresh) × IfSome old (λ octets. may_begin_object octets ≡ true)
IsBeforeObject old (Preamble _) from = ⊥
IsBeforeObject old Between from = from ≡ fresh
IsBeforeObject old (Front sofar) from = (from ≡ sofar.cutter) × IsEmpty sofar.cutter
IsBeforeObject old (Long sofar) from =
    (from ≡ fresh) × ((next : ℕ) × (ends_before sofar next ≡ true) × IfSome old (λ octets. (more : List ℕ) × (octets ≡ next ∷ more)))

-- octets of a preamble
abbrev pub IsPreamblePiece : LineSoFar → Place → List ℕ → Type 0
IsPreamblePiece from to taken = (next : Option LineSoFar) × Scans from taken next × (to ≡ after_preamble next)

-- octets of an object that begins: empty lines and its first octet at most, or more than a message may have
pub data IsFrontPiece (from : Cutter) (begun taken : List ℕ) : Place → Type 0 where
  short_front : (to : FrontCutter) → LeadsOn from taken to.cutter → BeginsLast from taken to.cutter → IsFrontPiece from begun taken (Front to)
  long_front : (to : Cutter) → LeadsOn from taken to → 1_048_576 < length (begun ++ taken) → IsFrontPiece from begun taken (Long to)

-- octets that were taken at once, at this place, where these of the object were taken before; and the place then. So an object of which no more
-- than its first octet was handed on is taken whole, or it is too long
pub data IsPiece (old new : Option (List ℕ)) (begun taken : List ℕ) : Place → Place → Type 0 where
  of_preamble : {place to : Place} (from : LineSoFar) → IsInPreamble old place from → IsPreamblePiece from to taken → IsPiece old new begun taken place to
  of_front : {place to : Place} (from : Cutter) → IsBeforeObject old place from → IsFrontPiece from begun taken to → IsPiece old new begun taken place to
  ends_whole : (from : FrontCutter) (to : Cutter) → from.cutter.begun ≡ true → LeadsOn from.cutter taken to → HasEnded old new to
      → IsPiece old new begun taken (Front from) Between
  gets_long : (from : FrontCutter) (to : Cutter) → from.cutter.begun ≡ true → LeadsOn from.cutter taken to → 1_048_576 < length (begun ++ taken)
      → IsPiece old new begun taken (Front from) (Long to)
  stays_long : (from to : Cutter) → LeadsOn from taken to → IsPiece old new begun taken (Long from) (Long to)
  ends_long : (from to : Cutter) → LeadsOn from taken to → EndsBeforeNext old new to → IsPiece old new begun taken (Long from) Between

-- ---- what is handed on

-- octets are handed on as they came, or as an object made readable, of whose zones only these go on beyond what is stated
abbrev pub HandsOn : Option Tree → List ℕ → Bool → List (List ℕ) → List ℕ → Type 0
HandsOn listed taken false going_on handed = (handed ≡ taken) × (going_on ≡ [])
HandsOn listed taken true going_on handed = IsAdapted listed taken going_on handed

-- the octets end a whole object
pub record IsWhole (from to : Place) : Type 0 where
  pub front : FrontCutter
  pub comes : from ≡ Front front
  pub ends : to ≡ Between

-- octets were taken of the input, and handed on so; nothing only at its end. An object is made readable as a whole: what was handed on of it
-- before is the beginning of what it is now
pub record Passes (listed : Option Tree) (old new : Option (List ℕ)) (from to : Place) (begun begun_then : List ℕ) (is_adapted : Bool) (going_on : List (List ℕ))
    (handed : List ℕ) : Type 0 where
  pub taken : List ℕ
  pub consumed : Consumes old new taken
  pub piece : IsPiece old new begun taken from to
  pub kept : begun_then ≡ begun_at to (begun ++ taken)
  pub hands_on : HandsOn listed (begun ++ taken) is_adapted going_on (begun ++ handed)
  pub whole : is_adapted ≡ true → IsWhole from to
  pub end : length handed ≡ 0 → OnSome old (IsAtEnd new)

-- octets of this kind were taken, and are handed on as they came; none only at the end of the input
pub record LendsAsCame (old new : Option (List ℕ)) (IsKind : List ℕ → Type 0) (to : Place) (begun begun_then handed : List ℕ) : Type 0 where
  pub taken : List ℕ
  pub consumed : Consumes old new taken
  pub piece : IsKind taken
  pub kept : begun_then ≡ begun_at to (begun ++ taken)
  pub as_it_came : handed ≡ taken
  pub end : length handed ≡ 0 → OnSome old (IsAtEnd new)

-- what was lent is forgotten, and nothing is said of it. What is kept are octets of an object that isn't whole
pub record IsForgotten {X : Type 0} (place : Place) (octets : List ℕ) (consumed : ℕ) (is_adapted : Bool) (going_on : List X) : Type 0 where
  pub kept : octets ≡ begun_at place octets
  pub all : consumed ≡ length octets
  pub plain : is_adapted ≡ false
  pub none : going_on ≡ []

-- what it lends of the octets that it has; those that are to come aren't told in advance
abbrev pub lending : ℕ → List ℕ → Bool → Coming
lending consumed octets has_ended = record { known = None; lent = drop consumed octets; has_ended = has_ended }
