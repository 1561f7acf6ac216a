-- How a search goes on.
use Rattle.std.proofs.Common.{◌≡◌, subst, refl, inl, inr, ℕ, ◌<◌, arith, ℤ, ◌-ℤ◌, ◌<ℤ◌, ◌≤ℤ◌, unsigned_abs}
use Rattle.std.specs.Prelude.{Option, Some, None, ◌↔◌, IfSome}
use Rattle.std.proofs.lemmas.Int.{ints}
use Rattle.profile.specs.checker.Instances.{Instance as SaidInstance, horizon}
use Rattle.profile.specs.events.Properties.{first_second}
use Rattle.profile.specs.events.Events.{Event}
use Rattle.profile.specs.events.Starts.{IsInstance, SharesInstant}
use Rattle.cal_events.specs.Calendar.{instance_of}
use Rattle.cal_events.specs.Left.{IsLeft}
use Rattle.cal_events.specs.Series.{AreKnownByStart}
use Rattle.cal_events.specs.declared.instance.Instance.{Instance}
use Rattle.cal_events.specs.declared.instances.Instances.{Instances}
use Rattle.cal_events.proofs.shared_lemmas.Overlaps.{abs_is}
use Rattle.cal_period.specs.Clear.{ShareStart}
use Rattle.cal_period.specs.Walks.{walk_place, IsNoneBelow, AreAllLeft, IsAhead, IsBehind, IsLastBehind, MeetsNone}
use Rattle.cal_period.specs.declared.walk.Walk.{Walk}

-- ---- two instances

abbrev pub Share : SaidInstance → SaidInstance → Type 0
Share x y = SharesInstant x.start x.end y.start y.end

pub turned : (x y : SaidInstance) → Share x y → Share y x
turned x y s = record { instant = s.instant; before = s.before; in_first = s.in_second; in_second = s.in_first }

pub start_turned : (x y : SaidInstance) → ShareStart x y → ShareStart y x
start_turned x y s = record {
  instant = s.instant;
  starts = elim s.starts [ inl e ↦ inr e | inr e ↦ inl e ];
  before = s.before;
  in_first = s.in_second;
  in_second = s.in_first;
}

-- an instance shares nothing with what is behind where it doesn't with the one that ends last
pub meets_none : (series : Event) (place : ℤ) (last : Option Instance) (other : Instance) → IsLastBehind series place last → MeetsNone last other
    → (x : SaidInstance) → IsBehind series place x → Share x (instance_of other) → ⊥
meets_none series place None other l m x h s = l x h
meets_none series place (Some z) other l (inl none) x h s = omega (arith, ints, none, s.in_second)
meets_none series place (Some z) other l (inr over) x h s = omega (arith, ints, over, l.1 x h, s.in_first, s.in_second)

-- and the one that ends last is behind
pub met_behind : (series : Event) (place : ℤ) (last : Option Instance) (z : Instance) → IsLastBehind series place last → last ≡ Some z → IsBehind series place (instance_of z)
met_behind series place last z l e = (subst (IsLastBehind series place) e l).0

pub met_start : (z other : Instance) → z.start ≤ℤ other.start → other.start <ℤ horizon → other.start <ℤ other.end → other.start <ℤ z.end → ShareStart (instance_of z) (instance_of other)
met_start z other early before long going = record {
  instant = other.start;
  starts = inr refl;
  before = before;
  in_first = (early, going);
  in_second = (omega (arith, ints), long);
}

-- ---- a walk

-- what the walk begins with
pub all_left : (series : Event) (from : ℤ) (left : Instances) → AreKnownByStart series → from ≤ℤ first_second → ((b : SaidInstance) → IsLeft left b ↔ (IsInstance series b × (from ≤ℤ b.start))) → AreAllLeft series left
all_left series from left known early h b = (
  (λ l. ((h b).0 l).0),
  λ is. (h b).1 (is, let d = (known.dates b is).0 in omega (arith, ints, d, early)),
)

pub next_is : (series : Event) (left : Instances) (o : Option Instance) (next : Instance) → IsAhead series left o → o ≡ Some next → IsInstance series (instance_of next)
next_is series left o next a e = subst (λ (p : Option Instance). IfSome p (λ i. IsInstance series (instance_of i))) e a.is

pub place_within : (series : Event) (left : Instances) (next : Option Instance) → IsAhead series left next → walk_place next ≤ℤ horizon
place_within series left None a = omega (arith, ints)
place_within series left (Some i) a = let d = (a.known.dates (instance_of i) a.is).1 in omega (arith, ints, d)

pub none_is : (next : Option Instance) → ((i : Instance) → next ≡ Some i → ⊥) → next ≡ None
none_is None h = refl
none_is (Some i) h = absurd (h i refl)

-- where none before a bound is still to come, those are behind
pub all_behind : (series : Event) (left : Instances) (next : Option Instance) (bound : ℤ) → IsAhead series left next → IsNoneBelow bound next → (x : SaidInstance) → IsInstance series x → x.start <ℤ bound
    → IsBehind series (walk_place next) x
all_behind series left None bound a none x is l = (is, let d = (a.known.dates x is).1 in omega (arith, ints, d))
all_behind series left (Some i) bound a none x is l = (is, omega (arith, ints, none, l))

-- how far it is to the horizon
abbrev pub steps_left : Walk → ℕ
steps_left walk = unsigned_abs (horizon -ℤ walk_place walk.next)

pub fewer_left : (series : Event) (left : Instances) (old new : Walk) → IsAhead series left new.next → walk_place old.next <ℤ walk_place new.next → steps_left new < steps_left old
fewer_left series left old new ahead further =
    let within = place_within series left new.next ahead in
    let a = abs_is (horizon -ℤ walk_place new.next) (omega (arith, ints, within)) in
    let b = abs_is (horizon -ℤ walk_place old.next) (omega (arith, ints, within, further)) in
    omega (arith, ints, a, b, further)
