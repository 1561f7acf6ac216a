-- A walk through the instances of a series, by start.
use Rattle.std.specs.Prelude.{◌≡◌, ◌↔◌, ◌⊎◌, ℤ, ◌≤ℤ◌, ◌<ℤ◌, Option, Some, None, MatchOption, IfSome}
use Rattle.profile.specs.checker.Instances.{Instance as SaidInstance, horizon}
use Rattle.profile.specs.events.Events.{Event}
use Rattle.profile.specs.events.Starts.{IsInstance}
use Rattle.cal_events.specs.Calendar.{instance_of}
use Rattle.cal_events.specs.Left.{IsLeft}
use Rattle.cal_events.specs.Series.{AreKnownByStart}
use Rattle.cal_events.specs.declared.instance.Instance.{Instance}
use Rattle.cal_events.specs.declared.instances.Instances.{Instances}
use Rattle.cal_period.specs.declared.walk.Walk.{Walk}

-- where a walk is: at the start of its next instance, or at the horizon where there is none
abbrev pub walk_place : Option Instance → ℤ
walk_place None = horizon
walk_place (Some i) = i.start

-- none of those that are still to come starts before a bound
abbrev pub IsNoneBelow : ℤ → Option Instance → Type 0
IsNoneBelow bound next = IfSome next (λ i. bound ≤ℤ i.start)

-- the instances that start before that place are behind
abbrev pub IsBehind : Event → ℤ → SaidInstance → Type 0
IsBehind series place b = IsInstance series b × (b.start <ℤ place)

-- the one of those behind that ends last, if there are any
abbrev pub IsLastBehind : Event → ℤ → Option Instance → Type 0
IsLastBehind series place last =
    MatchOption last ((b : SaidInstance) → IsBehind series place b → ⊥)
    (λ l. IsBehind series place (instance_of l) × ((b : SaidInstance) → IsBehind series place b → b.end ≤ℤ l.end))

-- all instances of a series are left to come
abbrev pub AreAllLeft : Event → Instances → Type 0
AreAllLeft series left = (b : SaidInstance) → IsLeft left b ↔ IsInstance series b

-- an instance of a series is next, and what comes after it is left; or none is
pub record IsAhead (series : Event) (left : Instances) (next : Option Instance) : Type 0 where
  pub known : AreKnownByStart series
  pub is : IfSome next (λ i. IsInstance series (instance_of i))
  pub rest : (b : SaidInstance) → IsLeft left b ↔ (IsInstance series b × (walk_place next <ℤ b.start))

-- a walk is in a series
pub record IsWalkOf (series : Event) (left : Instances) (walk : Walk) : Type 0 where
  pub ahead : IsAhead series left walk.next
  pub last : IsLastBehind series (walk_place walk.next) walk.last

-- it is at the first instance: none is behind
pub record BeginsWalk (series : Event) (left : Instances) (walk : Walk) : Type 0 where
  pub is_walk : IsWalkOf series left walk
  pub none : (b : SaidInstance) → IsBehind series (walk_place walk.next) b → ⊥

-- it went past one instance
pub record GoesPast (series : Event) (i : Instance) (old : Walk) (left : Instances) (new : Walk) : Type 0 where
  pub is_walk : IsWalkOf series left new
  pub further : walk_place old.next <ℤ walk_place new.next
  pub one : (b : SaidInstance) → IsBehind series (walk_place new.next) b → IsBehind series (walk_place old.next) b ⊎ (b ≡ instance_of i)

-- an instance that starts where no instance behind starts later shares an instant with none of them: it has no length, or they are over
abbrev pub MeetsNone : Option Instance → Instance → Type 0
MeetsNone last other = IfSome last (λ l. (other.end ≤ℤ other.start) ⊎ (l.end ≤ℤ other.start))

-- it has a length, and starts before that one is over
abbrev pub MeetsInstance : Option Instance → Instance → Instance → Type 0
MeetsInstance last other l = (last ≡ Some l) × (other.start <ℤ other.end) × (other.start <ℤ l.end)

-- there is one, and it isn't over by an instant
abbrev pub IsGoingOn : Option Instance → ℤ → Type 0
IsGoingOn last instant = (l : Instance) × (last ≡ Some l) × (instant <ℤ l.end)

-- the later end
pub record EndsLater (old : Option Instance) (next later : Instance) : Type 0 where
  pub one : (old ≡ Some later) ⊎ (later ≡ next)
  pub than_next : next.end ≤ℤ later.end
  pub than_old : IfSome old (λ l. l.end ≤ℤ later.end)

-- ---- a walk that begins in the middle

-- all that start before an entry are over by an instant, and the others are left
pub record AreLeftFrom (series : Event) (by entry : ℤ) (left : Instances) : Type 0 where
  pub early : entry ≤ℤ horizon
  pub before : (b : SaidInstance) → IsInstance series b → b.start <ℤ entry → b.end ≤ℤ by
  pub others : (b : SaidInstance) → IsLeft left b ↔ (IsInstance series b × (entry ≤ℤ b.start))

-- the one of those behind that ends last, if there are any that aren't over by an instant
abbrev pub IsLastSince : Event → ℤ → ℤ → Option Instance → Type 0
IsLastSince series by place last =
    MatchOption last ((b : SaidInstance) → IsBehind series place b → b.end ≤ℤ by)
    (λ l. IsBehind series place (instance_of l) × ((b : SaidInstance) → IsBehind series place b → (b.end ≤ℤ by) ⊎ (b.end ≤ℤ l.end)))

-- a walk is in a series, like one that begins at its first, except that it passed over instances that are over by an instant
pub record Tail (series : Event) (by : ℤ) (left : Instances) (walk : Walk) : Type 0 where
  pub ahead : IsAhead series left walk.next
  pub last : IsLastSince series by (walk_place walk.next) walk.last

-- it is at the first instance from an entry on: those behind start before that, and are over by the instant
pub record EntersWalk (series : Event) (by entry : ℤ) (left : Instances) (walk : Walk) : Type 0 where
  pub tail : Tail series by left walk
  pub none : (b : SaidInstance) → IsBehind series (walk_place walk.next) b → b.start <ℤ entry
  pub over : (b : SaidInstance) → IsBehind series (walk_place walk.next) b → b.end ≤ℤ by

-- it went past one instance
pub record WalksOn (series : Event) (by : ℤ) (i : Instance) (old : Walk) (left : Instances) (new : Walk) : Type 0 where
  pub tail : Tail series by left new
  pub further : walk_place old.next <ℤ walk_place new.next
  pub one : (b : SaidInstance) → IsBehind series (walk_place new.next) b → IsBehind series (walk_place old.next) b ⊎ (b ≡ instance_of i)
