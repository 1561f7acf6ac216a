-- Which of two walks goes on.
use Rattle.std.specs.Prelude.{◌≡◌, ℤ, ◌≤ℤ◌, ◌<ℤ◌, Some, IfSome}
use Rattle.cal_events.specs.declared.instance.Instance.{Instance}
use Rattle.cal_period.specs.Walks.{IsNoneBelow, IsGoingOn}
use Rattle.cal_period.specs.declared.walk.Walk.{Walk}
use Rattle.cal_period.specs.declared.abreast.Turn.{Turn}
use Rattle.cal_period.specs.declared.abreast.Turn.TheVariants.{First, Second, Over}

-- what is still to come of one before the bound meets nothing of the other: all of that before the bound are behind, and over by then
abbrev pub MeetsNoMore : ℤ → Walk → Walk → Type 0
MeetsNoMore bound one other = IfSome one.next (λ i. i.start <ℤ bound → IsNoneBelow bound other.next × IfSome other.last (λ l. l.end ≤ℤ i.start))

-- it may still meet the other: that has another before the bound, or one behind that is still going on
abbrev pub MayMeet : ℤ → Instance → Walk → Type 0
MayMeet bound next other = IsNoneBelow bound other.next → IsGoingOn other.last next.start

-- the one that goes on has the earlier next instance, before the bound, and may still meet the other; neither goes on where what is to come
-- before the bound meets nothing
abbrev pub IsTurn : ℤ → Walk → Walk → Turn → Type 0
IsTurn bound first second (First next) =
    (first.next ≡ Some next) × IfSome second.next (λ y. next.start ≤ℤ y.start) × (next.start <ℤ bound) × MayMeet bound next second
IsTurn bound first second (Second next) =
    (second.next ≡ Some next) × IfSome first.next (λ x. next.start ≤ℤ x.start) × (next.start <ℤ bound) × MayMeet bound next first
IsTurn bound first second Over = MeetsNoMore bound first second × MeetsNoMore bound second first
