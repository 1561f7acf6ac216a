-- How many instances are drawn for the statements of a certificate.
use Rattle.std.specs.Prelude.{◌≡◌, ◌==◌, if◌then◌else◌, ℕ, ◌+◌, ℤ, List, [], ◌∷◌, length, All, AllPairs, Contains}
use Rattle.std.specs.List.{AllZip, sum_by}
use Rattle.profile.specs.checker.Instances.{Instance, horizon}
use Rattle.profile.specs.checker.Certificates.{Entry, End, Span, Res, InGroup, Group, Statement, OfGroup, OfPair, IsSeriesAt, AreSeriesAt}
use Rattle.profile.specs.events.Events.{Event}
use Rattle.profile.specs.events.Starts.{ComesBefore}
use Rattle.profile.specs.events.Confirmed.{Confirmed}
use Rattle.profile.specs.events.Spans.{StartsBelow, IsBoundOf}

-- all instances of a series that start before a bound, in order, each once
pub record AreBelow (series : Event) (bound : ℤ) (instances : List Instance) : Type 0 where
  pub each : All (StartsBelow series bound) instances
  pub ordered : AllPairs ComesBefore instances
  pub all : (instance : Instance) → StartsBelow series bound instance → Contains instances instance

-- of each of these series, in a list of its own
abbrev pub AreAllBelow : List Event → ℤ → List (List Instance) → Type 0
AreAllBelow all bound lists = AllZip (λ series. AreBelow series bound) all lists

-- up to where an entry has two series compared; RES has none
abbrev pub IsEntryBound : Event → Event → Entry → ℤ → Type 0
IsEntryBound a b End bound = bound ≡ horizon
IsEntryBound a b (Span from days) bound = IsBoundOf (a ∷ b ∷ []) from days bound
IsEntryBound a b (Res m) bound = ⊥
IsEntryBound a b (InGroup n) bound = ⊥

-- of two series with so many instances those of both, once where they are one series
abbrev pub pair_count : ℕ → ℕ → ℕ → ℕ → ℕ
pair_count i j first second = if i == j then first else first + second

-- an entry has so many instances compared: those that start before its bound
pub record IsComparedCount (all : Confirmed) (i j : ℕ) (entry : Entry) (n : ℕ) : Type 0 where
  pub a : Event
  pub b : Event
  pub at_first : IsSeriesAt all i a
  pub at_second : IsSeriesAt all j b
  pub bound : ℤ
  pub is : IsEntryBound a b entry bound
  pub xs : List Instance
  pub ys : List Instance
  pub of_first : AreBelow a bound xs
  pub of_second : AreBelow b bound ys
  pub count : n ≡ pair_count i j (length xs) (length ys)

-- so many are drawn for an entry: all that it has compared, and none for RES
abbrev pub IsEntryCount : Confirmed → ℕ → ℕ → Entry → ℕ → Type 0
IsEntryCount all i j End n = IsComparedCount all i j End n
IsEntryCount all i j (Span from days) n = IsComparedCount all i j (Span from days) n
IsEntryCount all i j (Res m) n = n ≡ 0
IsEntryCount all i j (InGroup g) n = ⊥

-- a group has so many instances compared: those of each of its series that start before its bound
pub record IsGroupCount (all : Confirmed) (group : Group) (n : ℕ) : Type 0 where
  pub members : List Event
  pub at : AreSeriesAt all group.members members
  pub bound : ℤ
  pub is : IsBoundOf members group.from group.days bound
  pub lists : List (List Instance)
  pub below : AreAllBelow members bound lists
  pub count : n ≡ sum_by length lists

-- so many for a statement
abbrev pub IsStatementCount : Confirmed → Statement → ℕ → Type 0
IsStatementCount all (OfGroup group) n = IsGroupCount all group n
IsStatementCount all (OfPair p) n = IsEntryCount all p.first p.second p.entry n

-- these many for some statements
abbrev pub AreCounts : Confirmed → List Statement → List ℕ → Type 0
AreCounts all = AllZip (IsStatementCount all)

-- in all
abbrev pub total : List ℕ → ℕ
total = sum_by (λ n. n)
