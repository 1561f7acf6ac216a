-- A walk through the instances of a series that start before a bound, by start.
use Rattle.std.specs.Prelude.{◌≡◌, ◌↔◌, ◌⊎◌, ℤ, ◌≤ℤ◌, ◌<ℤ◌, Option, Some, None, MatchOption, IfSome}
use Rattle.profile.specs.events.Events.{Event}
use Rattle.cal_events.specs.declared.sweep.Span.{Span}
use Rattle.clash_check.specs.Draws.{IsInstanceSpan}
use Rattle.clash_check.specs.declared.walk.Walk.{Walk}
use Rattle.clash_check.specs.declared.walk.Turn.{Turn}
use Rattle.clash_check.specs.declared.walk.Turn.TheVariants.{First, Second, Over}

-- an instance of the series starts and ends then, before a bound
abbrev pub IsBelow : Event → ℤ → ℤ → ℤ → Type 0
IsBelow series bound start end = IsInstanceSpan series start end × (start <ℤ bound)

-- where a walk is: at the start of its next instance, or at the bound where there is none
abbrev pub place_of_walk : ℤ → Option Span → ℤ
place_of_walk bound None = bound
place_of_walk bound (Some next) = next.start

-- what starts before that place is behind
abbrev pub IsWalkedPast : (ℤ → ℤ → Type 0) → ℤ → ℤ → ℤ → Type 0
IsWalkedPast Is place start end = Is start end × (start <ℤ place)

-- the one of those behind that ends last, if there are any
abbrev pub IsLastWalkedPast : (ℤ → ℤ → Type 0) → ℤ → Option Span → Type 0
IsLastWalkedPast Is place last =
    MatchOption last ((start end : ℤ) → IsWalkedPast Is place start end → ⊥)
    (λ l. IsWalkedPast Is place l.start l.end × ((start end : ℤ) → IsWalkedPast Is place start end → end ≤ℤ l.end))

-- a walk is in these, where those still come
pub record IsWalkThrough (Is Coming : ℤ → ℤ → Type 0) (bound : ℤ) (walk : Walk) : Type 0 where
  pub next : IfSome walk.next (λ x. Is x.start x.end)
  pub rest : (start end : ℤ) → Coming start end ↔ (Is start end × (place_of_walk bound walk.next <ℤ start))
  pub last : IsLastWalkedPast Is (place_of_walk bound walk.next) walk.last

-- it is at the first: none is behind
pub record BeginsAtFirst (Is Coming : ℤ → ℤ → Type 0) (bound : ℤ) (walk : Walk) : Type 0 where
  pub is_walk : IsWalkThrough Is Coming bound walk
  pub none : walk.last ≡ None

-- it went past one
pub record PassesOne (Is Coming : ℤ → ℤ → Type 0) (bound : ℤ) (next : Span) (old new : Walk) : Type 0 where
  pub is_walk : IsWalkThrough Is Coming bound new
  pub further : place_of_walk bound old.next <ℤ place_of_walk bound new.next
  pub one : (start end : ℤ) → IsWalkedPast Is (place_of_walk bound new.next) start end
      → IsWalkedPast Is (place_of_walk bound old.next) start end ⊎ ((start ≡ next.start) × (end ≡ next.end))

-- what starts where none behind starts later shares an instant with none of them: it has no length, or they are over
abbrev pub SharesWithNone : Option Span → Span → Type 0
SharesWithNone last other = IfSome last (λ l. (other.end ≤ℤ other.start) ⊎ (l.end ≤ℤ other.start))

-- it has a length, and starts before the last of them is over
abbrev pub MeetsLast : Option Span → Span → Type 0
MeetsLast last other = (l : Span) × (last ≡ Some l) × (other.start <ℤ other.end) × (other.start <ℤ l.end)

-- the later end
pub record IsLaterEnd (old : Option Span) (next later : Span) : Type 0 where
  pub one : (old ≡ Some later) ⊎ (later ≡ next)
  pub than_next : next.end ≤ℤ later.end
  pub than_old : IfSome old (λ l. l.end ≤ℤ later.end)

-- the walk of which the next instance starts earlier goes on, and neither where both are at their ends
abbrev pub IsNextTurn : Walk → Walk → Turn → Type 0
IsNextTurn first second (First next) = (first.next ≡ Some next) × IfSome second.next (λ y. next.start ≤ℤ y.start)
IsNextTurn first second (Second next) = (second.next ≡ Some next) × IfSome first.next (λ x. next.start ≤ℤ x.start)
IsNextTurn first second Over = (first.next ≡ None) × (second.next ≡ None)
