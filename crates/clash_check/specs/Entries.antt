-- What is said of the statements of a certificate: which of them is the first that doesn't hold, and how many instances that took.
use Rattle.std.specs.Prelude.{◌≡◌, ◌⊎◌, ℕ, ◌+◌, ◌-◌, ◌^◌, ◌≤◌, Bool, true, false, min, MatchOption, List, [], ◌∷◌, All, Option}
use Rattle.profile.specs.checker.Certificates.{Entry, End, Span, Res, InGroup, Pair, Statement, OfGroup, OfPair, IsPair, IsEntry, IsSeriesAt, AreSeriesAt, StatementHolds, IsFirstFailing, IsNamedBy}
use Rattle.profile.specs.events.Events.{Event}
use Rattle.profile.specs.events.Confirmed.{Confirmed}
use Rattle.profile.specs.events.Spans.{IsSpan}
use Rattle.clash_check.specs.Counted.{AreCounts, IsStatementCount, total}

-- so many more, as far as 64 bits go
abbrev pub IsMore : ℕ → ℕ → ℕ → Type 0
IsMore old new more = min new (2 ^ 64 - 1) ≡ min (old + more) (2 ^ 64 - 1)

-- some more, at least one and at most so many
abbrev pub IsSomeMore : ℕ → ℕ → ℕ → Type 0
IsSomeMore old new most = (n : ℕ) × (1 ≤ n) × (n ≤ most) × IsMore old new n

-- an entry has its two series compared: it says END, or is a span of them. RES has nothing drawn
abbrev pub HasEntryCompared : Confirmed → ℕ → ℕ → Entry → Type 0
HasEntryCompared all i j End = Unit {0}
HasEntryCompared all i j (Span from days) = (a b : Event) → IsSeriesAt all i a → IsSeriesAt all j b → IsSpan (a ∷ b ∷ []) from days
HasEntryCompared all i j (Res m) = ⊥
HasEntryCompared all i j (InGroup n) = ⊥

-- a statement has: a group where its span is one of all its series
abbrev pub HasCompared : Confirmed → Statement → Type 0
HasCompared all (OfGroup group) = (members : List Event) → AreSeriesAt all group.members members → IsSpan members group.from group.days
HasCompared all (OfPair p) = HasEntryCompared all p.first p.second p.entry

-- where so many instances would be compared, if that is so, and it fails: some of them were drawn, at least one, or none
abbrev pub FailsDrawn : Type 0 → ℕ → ℕ → ℕ → Type 0
FailsDrawn Compared old new most = (Compared × IsSomeMore old new most) ⊎ ((Compared → ⊥) × IsMore old new 0)

-- and where it holds all of them were
abbrev pub IsDrawn : Type 0 → Bool → ℕ → ℕ → ℕ → Type 0
IsDrawn Compared true old new most = IsMore old new most
IsDrawn Compared false old new most = FailsDrawn Compared old new most

abbrev pub IsEntryDrawn : Confirmed → ℕ → ℕ → Entry → Bool → ℕ → ℕ → ℕ → Type 0
IsEntryDrawn all i j entry = IsDrawn (HasEntryCompared all i j entry)

abbrev pub IsStatementDrawn : Confirmed → Statement → Bool → ℕ → ℕ → ℕ → Type 0
IsStatementDrawn all statement = IsDrawn (HasCompared all statement)

-- ---- of some statements, one after another

-- all hold, and all of them were drawn
pub record AllHold (all : Confirmed) (those : List Statement) (old new : ℕ) : Type 0 where
  pub hold : All (StatementHolds all) those
  pub drawn : (counts : List ℕ) → AreCounts all those counts → IsMore old new (total counts)

-- these name the first that doesn't hold: of those before it all were drawn, and of it some
pub record OneFails (all : Confirmed) (those : List Statement) (first second old new : ℕ) : Type 0 where
  pub failing : Statement
  pub stop : IsFirstFailing all those failing
  pub named : IsNamedBy failing first second
  pub drawn : (counts : List ℕ) (most : ℕ) → AreCounts all stop.before counts → IsStatementCount all failing most
      → FailsDrawn (HasCompared all failing) (old + total counts) new most

-- the first that doesn't hold is named so, or all hold
abbrev pub AreJudged : Confirmed → List Statement → Option (ℕ × ℕ) → ℕ → ℕ → Type 0
AreJudged all those found old new = MatchOption found (AllHold all those old new) (λ p. OneFails all those p.0 p.1 old new)

-- a pair of so many series, with an entry that a line says
abbrev pub ArePairOf : ℕ → Pair → Type 0
ArePairOf n p = IsPair n p.first p.second × IsEntry p.entry
