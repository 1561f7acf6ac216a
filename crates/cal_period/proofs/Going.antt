-- How a walk goes on.
use Rattle.std.proofs.Common.{◌≡◌, ◌∙◌, ap, sym, subst, inl, inr, ◌⊎◌, arith, ℤ, pos, ◌+ℤ◌, ◌<ℤ◌, ◌≤ℤ◌}
use Rattle.std.specs.Prelude.{Option, Some, None, ◌↔◌, IfSome}
use Rattle.std.proofs.lemmas.Int.{ints}
use Rattle.profile.specs.checker.Instances.{Instance as SaidInstance, horizon}
use Rattle.profile.specs.events.Properties.{first_second}
use Rattle.profile.specs.events.Events.{Event}
use Rattle.profile.specs.events.Starts.{IsInstance, ComesBefore}
use Rattle.cal_events.specs.Calendar.{instance_of}
use Rattle.cal_events.specs.Instances.{IsAfter}
use Rattle.cal_events.specs.Left.{IsLeft, GivesFirst}
use Rattle.cal_events.specs.Event.{said_meeting}
use Rattle.cal_events.specs.Series.{AreKnownByStart}
use Rattle.cal_events.specs.declared.instance.Instance.{Instance}
use Rattle.cal_events.specs.declared.instances.Bound.{Bound}
use Rattle.cal_events.specs.declared.instances.Instances.{Instances}
use Rattle.cal_events.proofs.shared_lemmas.WholeLists.{order, after_later}
use Rattle.cal_period.specs.Walks.{walk_place, AreAllLeft, AreLeftFrom, IsAhead, IsBehind, IsLastBehind, IsLastSince, BeginsWalk, EntersWalk, GoesPast, WalksOn, EndsLater}
use Rattle.cal_period.specs.declared.walk.Walk.{Walk}

-- one that comes earlier starts earlier
earlier : (series : Event) → AreKnownByStart series → (a b : SaidInstance) → IsInstance series a → IsInstance series b → ComesBefore a b → a.start <ℤ b.start
earlier series known a b h k (inl less) = less
earlier series known a b h k (inr (same, slot)) = let e = known.slots a h in let f = known.slots b k in absurd (omega (arith, ints, same, slot, e, f))

-- of a series in which those from an instant on were left, one more was given
record Advances (series : Event) (from : ℤ) (found : Option Instance) (new : Instances) : Type 0 where
  ahead : IsAhead series new found
  further : from ≤ℤ walk_place found
  none : (b : SaidInstance) → IsInstance series b → from ≤ℤ b.start → walk_place found ≤ℤ b.start

pub not_less : (x y : ℤ) → (y <ℤ x → ⊥) → x ≤ℤ y
not_less x y h = elim (order x y) [
  | inl l ↦ omega (arith, ints, l)
  | inr o ↦ elim o [ inl e ↦ omega (arith, ints, e) | inr l ↦ absurd (h l) ]
]

earlier_than : (x y : ℤ) → (y ≤ℤ x → ⊥) → x <ℤ y
earlier_than x y h = elim (order x y) [
  | inl l ↦ l
  | inr o ↦ elim o [ inl e ↦ absurd (h (omega (arith, ints, e))) | inr l ↦ absurd (h (omega (arith, ints, l))) ]
]

module _ (series : Event) (known : AreKnownByStart series) (from : ℤ) (early : from ≤ℤ horizon) (old new : Instances) (left : (b : SaidInstance) → IsLeft old b ↔ (IsInstance series b × (from ≤ℤ b.start))) where
  module _ (i : Instance) (given : GivesFirst old (Some i) new) where
    abbrev it : SaidInstance
    it = instance_of i

    is_one : IsInstance series it
    is_one = ((left it).0 given.1.0).0

    late : from ≤ℤ i.start
    late = ((left it).0 given.1.0).1

    left_then : (b : SaidInstance) → IsLeft new b → IsInstance series b × (i.start <ℤ b.start)
    left_then b (is, after) =
        let behind : ComesBefore it b = subst (λ (x : Bound). IsAfter x b.start b.key.slot) given.1.2 after in
        let own = ((left b).0 (subst (λ e. IsInstance (said_meeting e.now) b) given.0 is, after_later old.after it b given.1.0.1 behind)).0 in
        (own, earlier series known it b is_one own behind)

    still_left : (b : SaidInstance) → IsInstance series b × (i.start <ℤ b.start) → IsLeft new b
    still_left b (is, far) = (
      subst (λ e. IsInstance (said_meeting e.now) b) (sym given.0) ((left b).1 (is, omega (arith, ints, far, late))).0,
      subst (λ (x : Bound). IsAfter x b.start b.key.slot) (sym given.1.2) (inl far),
    )

    advance_one : Advances series from (Some i) new
    advance_one = record {
      ahead = record { known = known; is = is_one; rest = λ b. (left_then b, still_left b) };
      further = late;
      none = λ b is l. not_less i.start b.start (λ less. given.1.1 b ((left b).1 (is, l)) (inl less));
    }

  none_left : GivesFirst old None new → (b : SaidInstance) → IsLeft new b → IsInstance series b × (horizon <ℤ b.start)
  none_left given b (is, after) =
      absurd (given.1.0 b (subst (λ e. IsInstance (said_meeting e.now) b) given.0 is, subst (λ (x : Bound). IsAfter x b.start b.key.slot) given.1.1 after))

  advance : (found : Option Instance) → GivesFirst old found new → Advances series from found new
  advance None given = record {
    ahead = record { known = known; is = tt; rest = λ b. (none_left given b, λ h. absurd (omega (arith, ints, h.1, (known.dates b h.0).1))) };
    further = early;
    none = λ b is l. absurd (given.1.0 b ((left b).1 (is, l)));
  }
  advance (Some i) given = advance_one i given

-- ---- at the first instance

pub at_first : (series : Event) (old new : Instances) (first : Option Instance) → AreKnownByStart series → AreAllLeft series old → GivesFirst old first new
    → BeginsWalk series new (record { next = first; last = None })
at_first series old new first known all given =
    let a = advance series known first_second (omega (arith, ints)) old new (λ b. ((λ l. let is = (all b).0 l in (is, (known.dates b is).0)), λ h. (all b).1 h.0)) first given in
    let none = λ (b : SaidInstance) (h : IsBehind series (walk_place first) b). absurd (omega (arith, ints, h.1, a.none b h.0 (known.dates b h.0).0)) in
    record {
      is_walk = record {
        ahead = a.ahead;
        last = none;
      };
      none = none;
    }

-- those that start before the entry are behind
pub at_entry : (series : Event) (by entry : ℤ) (old new : Instances) (first : Option Instance) → AreKnownByStart series → AreLeftFrom series by entry old → GivesFirst old first new
    → EntersWalk series by entry new (record { next = first; last = None })
at_entry series by entry old new first known from given =
    let a = advance series known entry from.early old new from.others first given in
    let early = λ (b : SaidInstance) (h : IsBehind series (walk_place first) b). earlier_than b.start entry (λ late. omega (arith, ints, h.1, a.none b h.0 late)) in
    let over = λ (b : SaidInstance) (h : IsBehind series (walk_place first) b). from.before b h.0 (early b h) in
    record { tail = record { ahead = a.ahead; last = over }; none = early; over = over }

-- ---- past one instance

module _ (series : Event) (old new : Instances) (walk : Walk) (ahead : IsAhead series old walk.next) (next : Instance) (is : walk.next ≡ Some next) (after : Option Instance) (given : GivesFirst old after new) where
  abbrev here : ℤ
  here = walk_place walk.next

  starts : here ≡ next.start
  starts = ap walk_place is

  one : IsInstance series (instance_of next)
  one = subst (λ (o : Option Instance). IfSome o (λ i. IsInstance series (instance_of i))) is ahead.is

  there : Advances series (here +ℤ pos 1) after new
  there =
      advance series ahead.known (here +ℤ pos 1) (let d = (ahead.known.dates (instance_of next) one).1 in omega (arith, ints, d, starts)) old new
      (λ b. ((λ l. let r = (ahead.rest b).0 l in (r.0, omega (arith, ints, r.1))), λ h. (ahead.rest b).1 (h.0, omega (arith, ints, h.1)))) after given

  -- what is behind was behind, or is that one
  was : (b : SaidInstance) → IsBehind series (walk_place after) b → IsBehind series here b ⊎ (b ≡ instance_of next)
  was b h = elim (order b.start here) [
    | inl l ↦ inl (h.0, l)
    | inr o ↦ elim o [
      | inl e ↦ inr (ahead.known.one b (instance_of next) h.0 one (e ∙ starts))
      | inr l ↦ absurd (omega (arith, ints, h.1, there.none b h.0 (omega (arith, ints, l))))
    ]
  ]

  ends_before : (last : Option Instance) (later : Instance) → IsLastBehind series here last → IfSome last (λ l. l.end ≤ℤ later.end) → (b : SaidInstance) → IsBehind series here b → b.end ≤ℤ later.end
  ends_before None later l e b h = absurd (l b h)
  ends_before (Some x) later l e b h = omega (arith, ints, l.1 b h, e)

  ends_since : (by : ℤ) (last : Option Instance) (later : Instance) → IsLastSince series by here last → IfSome last (λ l. l.end ≤ℤ later.end) → (b : SaidInstance) → IsBehind series here b
      → (b.end ≤ℤ by) ⊎ (b.end ≤ℤ later.end)
  ends_since by None later l e b h = inl (l b h)
  ends_since by (Some x) later l e b h = elim (l.1 b h) [ inl over ↦ inl over | inr m ↦ inr (omega (arith, ints, m, e)) ]

  later_behind : (last : Option Instance) (later : Instance) → (last ≡ Some later → IsBehind series here (instance_of later)) → (last ≡ Some later) ⊎ (later ≡ next)
      → IsBehind series (walk_place after) (instance_of later)
  later_behind last later l (inl e) = let h = l e in (h.0, omega (arith, ints, h.1, there.further))
  later_behind last later l (inr e) =
      subst (λ (i : Instance). IsBehind series (walk_place after) (instance_of i)) (sym e) (one, omega (arith, ints, starts, there.further))

  pub gone_past : IsLastBehind series here walk.last → (later : Instance) → EndsLater walk.last next later → GoesPast series next walk new (record { next = after; last = Some later })
  gone_past last later ends = record {
    is_walk = record {
      ahead = there.ahead;
      last = (
        later_behind walk.last later (λ e. (subst (IsLastBehind series here) e last).0) ends.one,
        λ b h. elim (was b h) [
          | inl old ↦ ends_before walk.last later last ends.than_old b old
          | inr same ↦ subst (λ (x : SaidInstance). x.end ≤ℤ later.end) (sym same) ends.than_next
        ],
      );
    };
    further = omega (arith, ints, there.further);
    one = was;
  }

  pub gone_on : (by : ℤ) → IsLastSince series by here walk.last → (later : Instance) → EndsLater walk.last next later
      → WalksOn series by next walk new (record { next = after; last = Some later })
  gone_on by last later ends = record {
    tail = record {
      ahead = there.ahead;
      last = (
        later_behind walk.last later (λ e. (subst (IsLastSince series by here) e last).0) ends.one,
        λ b h. elim (was b h) [
          | inl old ↦ ends_since by walk.last later last ends.than_old b old
          | inr same ↦ inr (subst (λ (x : SaidInstance). x.end ≤ℤ later.end) (sym same) ends.than_next)
        ],
      );
    };
    further = omega (arith, ints, there.further);
    one = was;
  }
