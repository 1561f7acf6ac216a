-- Two walks that begin where two series first can meet.
use Rattle.std.proofs.Common.{◌≡◌, ap, subst, inl, inr, arith, ℤ, ◌<ℤ◌, ◌≤ℤ◌}
use Rattle.std.specs.Prelude.{Option, Some, None, IfSome}
use Rattle.std.proofs.lemmas.Int.{ints, by_lt_z}
use Rattle.profile.specs.checker.Instances.{Instance as SaidInstance, horizon}
use Rattle.profile.specs.events.Events.{Event}
use Rattle.profile.specs.events.Starts.{IsInstance}
use Rattle.cal_events.specs.Calendar.{instance_of}
use Rattle.cal_events.specs.declared.instance.Instance.{Instance}
use Rattle.cal_events.specs.declared.instances.Instances.{Instances}
use Rattle.cal_period.specs.Clear.{AreClearBelow, ArePair}
use Rattle.cal_period.specs.Onward.{AreNoneBefore, MeetFrom}
use Rattle.cal_period.specs.Turns.{MeetsNoMore}
use Rattle.cal_period.specs.Walks.{walk_place, IsNoneBelow, IsAhead, IsBehind, IsLastSince, Tail, EntersWalk, WalksOn, MeetsInstance, MeetsNone}
use Rattle.cal_period.specs.declared.walk.Walk.{Walk}
use Rattle.cal_period.proofs.Pairs.{AreAbreast, abreast_turned, abreast_found, abreast_past}
use Rattle.cal_period.proofs.Sweeping.{Share, turned, next_is, all_behind}

-- ---- where they first can meet

pub from_turned : (a b : Event) (by : ℤ) → MeetFrom a b by → MeetFrom b a by
from_turned a b by from = record { before = from.before; first = from.second; second = from.first; begins = elim from.begins [ inl x ↦ inr x | inr y ↦ inl y ] }

-- what two share is then or later
shared_late : (a b : Event) (by : ℤ) → MeetFrom a b by → (x y : SaidInstance) → IsInstance a x → IsInstance b y → (s : Share x y) → by ≤ℤ s.instant
shared_late a b by from x y h k s = elim from.begins [
  | inl none ↦ let l = none x h in omega (arith, ints, l, s.in_first)
  | inr none ↦ let l = none y k in omega (arith, ints, l, s.in_second)
]

late_place : (series : Event) (by : ℤ) (left : Instances) (next : Option Instance) → by <ℤ horizon → AreNoneBefore series by → IsAhead series left next → by ≤ℤ walk_place next
late_place series by left None before none a = omega (arith, ints, before)
late_place series by left (Some i) before none a = none (instance_of i) a.is

-- an instance that was passed over starts before the place of the other walk
skipped : (a b : Event) (by entry : ℤ) (left : Instances) (next : Option Instance) → MeetFrom a b by → entry ≤ℤ by → IsAhead b left next → (x : SaidInstance) → IsInstance a x → x.start <ℤ entry → x.start ≤ℤ walk_place next
skipped a b by entry left next from early ahead x is l = elim from.begins [
  | inl none ↦ let m = none x is in absurd (omega (arith, ints, early, l, m))
  | inr none ↦ let m = late_place b by left next from.before none ahead in omega (arith, ints, early, l, m)
]

-- an instance shares nothing with what is behind where it doesn't with the one that ends last
pub meets_none_since : (series : Event) (by place : ℤ) (last : Option Instance) (other : Instance) → IsLastSince series by place last → MeetsNone last other
    → (x : SaidInstance) → IsBehind series place x → (s : Share x (instance_of other)) → by ≤ℤ s.instant → ⊥
meets_none_since series by place None other l m x h s late = let e = l x h in omega (arith, ints, e, late, s.in_first)
meets_none_since series by place (Some z) other l (inl none) x h s late = omega (arith, ints, none, s.in_second)
meets_none_since series by place (Some z) other l (inr over) x h s late =
    elim (l.1 x h) [ inl e ↦ omega (arith, ints, e, late, s.in_first) | inr e ↦ omega (arith, ints, over, e, s.in_first, s.in_second) ]

-- nor does what starts when it is over
over_since : (series : Event) (by place : ℤ) (last : Option Instance) (start : ℤ) → IsLastSince series by place last → IfSome last (λ l. l.end ≤ℤ start)
    → (x y : SaidInstance) → IsBehind series place x → start ≤ℤ y.start → (s : Share x y) → by ≤ℤ s.instant → ⊥
over_since series by place None start l m x y h far s late = let e = l x h in omega (arith, ints, e, late, s.in_first)
over_since series by place (Some z) start l m x y h far s late =
    elim (l.1 x h) [ inl e ↦ omega (arith, ints, e, late, s.in_first) | inr e ↦ omega (arith, ints, m, far, e, s.in_first, s.in_second) ]

pub behind_since : (series : Event) (by place : ℤ) (last : Option Instance) (z : Instance) → IsLastSince series by place last → last ≡ Some z → IsBehind series place (instance_of z)
behind_since series by place last z l e = (subst (IsLastSince series by place) e l).0

-- ---- two walks

pub record AreOnward (a b : Event) (by : ℤ) (of_a of_b : Instances) (first second : Walk) : Type 0 where
  pub in_first : Tail a by of_a first
  pub in_second : Tail b by of_b second
  pub abreast : AreAbreast a b (walk_place first.next) (walk_place second.next)

pub onward_turned : (a b : Event) (by : ℤ) (of_a of_b : Instances) (first second : Walk) → AreOnward a b by of_a of_b first second → AreOnward b a by of_b of_a second first
onward_turned a b by of_a of_b first second at = record {
  in_first = at.in_second;
  in_second = at.in_first;
  abreast = abreast_turned a b (walk_place first.next) (walk_place second.next) at.abreast;
}

pub onward_first : (a b : Event) (by in_a in_b : ℤ) (of_a of_b : Instances) (first second : Walk) → MeetFrom a b by → in_a ≤ℤ by → in_b ≤ℤ by → EntersWalk a by in_a of_a first → EntersWalk b by in_b of_b second
    → AreOnward a b by of_a of_b first second
onward_first a b by in_a in_b of_a of_b first second from early_a early_b m n = record {
  in_first = m.tail;
  in_second = n.tail;
  abreast = record {
    clear = λ x y h k s. let late = shared_late a b by from x y h.0 k.0 s in let over = m.over x h in omega (arith, ints, late, over, s.in_first);
    first = λ x h. skipped a b by in_a of_b second.next from early_a n.tail.ahead x h.0 (m.none x h);
    second = λ y k. skipped b a by in_b of_a first.next (from_turned a b by from) early_b m.tail.ahead y k.0 (n.none y k);
  };
}

module _ (a b : Event) (by : ℤ) (from : MeetFrom a b by) (of_a of_b : Instances) (first second : Walk) (at : AreOnward a b by of_a of_b first second) where
  module _ (next : Instance) (is : first.next ≡ Some next) where
    pub onward_found : (last : Instance) → MeetsInstance second.last next last → ArePair a b (instance_of next) (instance_of last)
    onward_found last m =
        let own = next_is a of_a first.next next at.in_first.ahead is in
        let behind = behind_since b by (walk_place second.next) second.last last at.in_second.last m.0 in
        abreast_found a b (walk_place first.next) (walk_place second.next) at.abreast next (ap walk_place is) own (at.in_first.ahead.known.dates (instance_of next) own).1 last behind (m.1, m.2)

    pub onward_past : (rest : Instances) (new : Walk) → IfSome second.next (λ y. next.start ≤ℤ y.start) → MeetsNone second.last next → WalksOn a by next first rest new → AreOnward a b by rest of_b new second
    onward_past rest new before none g = record {
      in_first = g.tail;
      in_second = at.in_second;
      abreast = abreast_past a b (walk_place first.next) (walk_place second.next) at.abreast next (ap walk_place is) (walk_place new.next) (no_later second.next before) g.further g.one
          (λ y k s. meets_none_since b by (walk_place second.next) second.last next at.in_second.last none y k s (shared_late b a by (from_turned a b by from) y (instance_of next) k.0 (next_is a of_a first.next next at.in_first.ahead is) s));
    }
      where
        own : next.start <ℤ horizon
        own = (at.in_first.ahead.known.dates (instance_of next) (next_is a of_a first.next next at.in_first.ahead is)).1

        here : walk_place first.next ≡ next.start
        here = ap walk_place is

        no_later : (o : Option Instance) → IfSome o (λ y. next.start ≤ℤ y.start) → walk_place first.next ≤ℤ walk_place o
        no_later None l = omega (arith, ints, here, own)
        no_later (Some y) l = omega (arith, ints, here, l)

  -- what is still to come of the one before a bound shares nothing with the other
  still_clear : (bound : ℤ) → MeetsNoMore bound first second → (x y : SaidInstance) → IsInstance a x → IsInstance b y → x.start <ℤ bound → y.start <ℤ bound → walk_place first.next ≤ℤ x.start → Share x y → ⊥
  still_clear bound no_more x y h k l m far s = go first.next far no_more
    where
      go : (next : Option Instance) → walk_place next ≤ℤ x.start → IfSome next (λ i. i.start <ℤ bound → IsNoneBelow bound second.next × IfSome second.last (λ l. l.end ≤ℤ i.start)) → ⊥
      go None late n = let d = (at.in_first.ahead.known.dates x h).1 in omega (arith, ints, late, d)
      go (Some i) late n =
          let over = n (omega (arith, ints, late, l)) in
          let behind = all_behind b of_b second.next bound at.in_second.ahead over.0 y k m in
          over_since b by (walk_place second.next) second.last i.start at.in_second.last over.1 y x behind late (turned x y s) (shared_late b a by (from_turned a b by from) y x k h (turned x y s))

pub onward_end : (a b : Event) (by : ℤ) → MeetFrom a b by → (of_a of_b : Instances) (first second : Walk) → AreOnward a b by of_a of_b first second → (bound : ℤ) → MeetsNoMore bound first second → MeetsNoMore bound second first
    → AreClearBelow a b bound
onward_end a b by from of_a of_b first second at bound none_a none_b x y h k m n s =
    by_lt_z x.start (walk_place first.next)
    (λ l. by_lt_z y.start (walk_place second.next) (λ e. at.abreast.clear x y (h, l) (k, e) s)
    (λ far. still_clear b a by (from_turned a b by from) of_b of_a second first (onward_turned a b by of_a of_b first second at) bound none_b y x k h n m far (turned x y s)))
    (λ far. still_clear a b by from of_a of_b first second at bound none_a x y h k m n far s)
