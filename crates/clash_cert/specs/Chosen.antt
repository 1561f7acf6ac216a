-- Which entries are chosen for pairs of series. Series are counted from 0, and their numbers in an old certificate from 1.
use Rattle.std.specs.Prelude.{◌≡◌, ℕ, suc, ◌-◌, ◌<◌, ◌==◌, List, AllPairs, Contains, Option, Some, length}
use Rattle.std.specs.List.{slice_get}
use Rattle.profile.specs.checker.Certificates.{Claims, Entry, Pair, IsEntry, IsEntryMade, IsPair, IsPairBefore, IsSeriesAt, IsCertificateMade}
use Rattle.profile.specs.events.Events.{Event}
use Rattle.profile.specs.events.Confirmed.{Confirmed, IsOneOf}
use Rattle.profile.specs.checker.Instances.{IsClear}

-- the old certificate is the one that is made for some calendar, whose series of a number is the one that is kept under it, and none is kept twice
pub record AreKeptFrom (old : Claims) (kept : List (Option ℕ)) (all : List Event) : Type 0 where
  pub was : Confirmed
  pub made : IsCertificateMade was old
  pub counted : (i n : ℕ) → slice_get kept i ≡ Some (Some n) → 0 < n
  pub same : (i n : ℕ) (a : Event) → slice_get kept i ≡ Some (Some n) → slice_get all i ≡ Some a → IsSeriesAt was n a
  pub once : (i j n : ℕ) → slice_get kept i ≡ Some (Some n) → slice_get kept j ≡ Some (Some n) → i ≡ j

-- and that calendar was clear
abbrev pub AreKeptClear : Claims → List (Option ℕ) → List Event → Type 0
AreKeptClear old kept all = (known : AreKeptFrom old kept all) × IsClear (IsOneOf known.was)

-- the entry of two series of the calendar for which a certificate is made, by their numbers
abbrev pub IsSaidOf : Claims → ℕ → ℕ → Entry → Type 0
IsSaidOf old n m entry = (was : Confirmed) (a b : Event) → IsCertificateMade was old → 0 < n → 0 < m → IsSeriesAt was n a → IsSeriesAt was m b → IsEntryMade (n == m) a b entry

-- where so much is known, the entry of the series at two places
abbrev pub IsEntryAt : Type 0 → List Event → ℕ → ℕ → Entry → Type 0
IsEntryAt Known all i j entry = Known → (a b : Event) → slice_get all i ≡ Some a → slice_get all j ≡ Some b → IsEntryMade (i == j) a b entry

-- the entries of all pairs of these series that come before the one of two places: each is made where so much is known, in order, and none is
-- left out
pub record ArePairsMade (Known : Type 0) (all : List Event) (i j : ℕ) (pairs : List Pair) : Type 0 where
  pub good : (p : Pair) → Contains pairs p → IsPair (length all) p.first p.second × IsEntry p.entry
  pub before : (p : Pair) → Contains pairs p → IsPairBefore p.first p.second (suc i) (suc j)
  pub made : (p : Pair) → Contains pairs p → IsEntryAt Known all (p.first - 1) (p.second - 1) p.entry
  pub ordered : AllPairs (λ p q. IsPairBefore p.first p.second q.first q.second) pairs
  pub none_left : (n m : ℕ) → IsPair (length all) n m → IsPairBefore n m (suc i) (suc j) → (p : Pair) × Contains pairs p × (p.first ≡ n) × (p.second ≡ m)
