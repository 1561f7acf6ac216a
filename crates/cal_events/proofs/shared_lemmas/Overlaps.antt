-- How the first instance that shares an instant with a span is found.
-- Cited by EventTimes::width of event_times, first_overlapping of overlapping, longest of overlapping, longest_of of overlapping, overlaps of overlapping, Series::first_sharer of series and 1 more.
use Rattle.std.proofs.Common.{Bool, true, ◌&&◌, ◌≡◌, ◌∙◌, ap, sym, subst, inl, inr, ◌⊎◌, ℕ, suc, ◌+◌, ◌*◌, ◌^◌, ◌<◌, ◌≤◌, List, [], ◌∷◌, ◌++◌, length, get_or, take, take_all, refl, arith, ℤ, pos, negsuc, ◌+ℤ◌, ◌-ℤ◌, ◌<ℤ◌, ◌≤ℤ◌, unsigned_abs, w64}
use Rattle.std.specs.Prelude.{Option, Some, None, Contains, ◌↔◌, int_lt, IsTrue}
use Rattle.std.specs.Int.{saturate_signed, int_max, int_min}
use Rattle.std.proofs.lemmas.Bool.{cases_lt, and_parts}
use Rattle.std.proofs.lemmas.Int.{ints, by_lt_z}
use Rattle.std.proofs.lemmas.List.{take_more}
use Rattle.std.proofs.lemmas.List.Elements.{Contains-push_cases}
use Rattle.profile.specs.series.Zones.{IsBounds}
use Rattle.profile.specs.checker.Instances.{Instance as SaidInstance, horizon}
use Rattle.profile.specs.events.Properties.{first_second, length_seconds}
use Rattle.profile.specs.events.ZonedTimes.{EventTimes, clock_of}
use Rattle.profile.specs.events.Events.{Event}
use Rattle.profile.specs.events.EventComponents.{EventComponent as SaidComponent}
use Rattle.profile.specs.events.Starts.{IsInstance, ComesBefore, EndsAt, Overlaps, SharesInstant, IsFirstOverlap, IsFirstSharer}
use Rattle.cal_events.specs.Calendar.{instance_of}
use Rattle.cal_events.specs.Component.{times_of}
use Rattle.cal_events.specs.Instances.{IsAfter, IsPastSlot}
use Rattle.cal_events.specs.Left.{IsLeft, GivesFirst}
use Rattle.cal_events.specs.MeetingComponents.{IsInEventDates}
use Rattle.cal_events.specs.Event.{said_meeting}
use Rattle.cal_events.specs.Recurrence.{master_of}
use Rattle.cal_events.specs.declared.recurrence.Recurrence.{Recurrence}
use Rattle.cal_events.specs.declared.event.Event as declared
use Rattle.cal_events.specs.declared.component.EventComponent.{EventComponent}
use Rattle.cal_events.specs.declared.instance.Instance.{Instance}
use Rattle.cal_events.specs.declared.instances.Bound.{Bound}
use Rattle.cal_events.specs.declared.instances.Instances.{Instances}
use Rattle.cal_events.specs.declared.sweep.Span.{Span}
use Rattle.cal_events.specs.Sweep.{IsBeforeHorizon}
use Rattle.cal_events.specs.Overlapping.{HaveOneEnd, AreDated, LastAtMost, slots_left, places_left}
use Rattle.cal_events.proofs.shared_lemmas.CountedFrom.{counted_within}
use Rattle.cal_events.proofs.shared_lemmas.InstanceLemmas.{not_less, of_option, of_list}
use Rattle.cal_events.proofs.shared_lemmas.WholeLists.{placed, after_later}

-- ---- how long an instance lasts

pub lasts : (times : EventTimes) (least greatest n : ℤ) → IsBounds (clock_of times.zone) least greatest → n ≡ pos (length_seconds times.length) +ℤ (greatest -ℤ least) → LastAtMost times n
lasts times least greatest n b is start end (later, inl (none, same), e) = omega (arith, ints, b.ordered, is, same, e)
lasts times least greatest n b is start end (later, inr (some, (local, counted, means)), e) =
    let l = not_less (clock_of times.zone) least greatest (local +ℤ pos (86_400 * times.length.days)) later b means in
    let w = (counted_within times.form (clock_of times.zone) least greatest start local b counted).1 in
    omega (arith, ints, is, l, e, w)

pub lasts_longer : (times : EventTimes) (m n : ℤ) → m ≤ℤ n → LastAtMost times m → LastAtMost times n
lasts_longer times m n le h start end e = let l = h start end e in omega (arith, ints, l, le)

abbrev pub AllLast : List EventComponent → ℤ → Type 0
AllLast os n = (o : EventComponent) → Contains os o → LastAtMost (times_of o.times) n

pub last_more : (os : List EventComponent) (k : ℕ) (x : EventComponent) (m n r : ℤ) → k < length os → x ≡ get_or os k x → AllLast (take k os) m → LastAtMost (times_of x.times) n → m ≤ℤ r → n ≤ℤ r → AllLast (take (k + 1) os) r
last_more os k x m n r w e all one le le' o c =
    elim (Contains-push_cases (take k os) x o (subst (λ (l : List EventComponent). Contains l o) (take_more os k x w ∙ ap (λ y. take k os ++ y ∷ []) (sym e)) c)) [
      | inl old ↦ lasts_longer (times_of o.times) m r le (all o old)
      | inr same ↦ subst (λ (y : EventComponent). LastAtMost (times_of y.times) r) same (lasts_longer (times_of x.times) n r le' one)
    ]

pub last_whole : (os : List EventComponent) (k : ℕ) (n : ℤ) → length os ≤ k → AllLast (take k os) n → AllLast os n
last_whole os k n le h = subst (λ (l : List EventComponent). AllLast l n) (take_all k os le) h

pub instance_lasts : (event : declared.Event) (n : ℤ) → ((c : Recurrence) → event.recurrence ≡ Some c → LastAtMost (times_of c.times) n) → AllLast event.overrides.items n
    → (b : SaidInstance) → IsInstance (said_meeting event) b → b.end ≤ℤ (b.start +ℤ n)
instance_lasts event n master overrides b (inl i) =
    let m = of_option (master_of event.name) event.recurrence i.master i.is in
    master m.0 m.1 b.start b.end (subst (λ (e : SaidComponent). EndsAt e.times b.start b.end) (sym m.2) i.ends)
instance_lasts event n master overrides b (inr i) =
    let m = of_list event.overrides.items i.override i.is in
    overrides m.0 m.1 b.start b.end (subst (λ (e : SaidComponent). EndsAt e.times b.start b.end) (sym m.2) i.ends)

-- ---- one instance beside a span

-- the later of two is one of them, and no earlier than the other
pub later_of : (x y m : ℤ) → m ≡ int_max x y → (x ≤ℤ m) × (y ≤ℤ m) × ((m ≡ x) ⊎ (m ≡ y))
later_of x y m is =
    by_lt_z y x
    (λ l. let e : m ≡ x = grind (arith, ints, is, l) in (omega (arith, ints, e), omega (arith, ints, e, l), inl e))
    (λ l. let e : m ≡ y = grind (arith, ints, is, l) in (omega (arith, ints, e, l), omega (arith, ints, e), inr e))

pub between : (x y m : ℤ) → m ≡ int_max x y → (pos 0 ≤ℤ x) × (x <ℤ pos (2 ^ 50)) → (pos 0 ≤ℤ y) × (y <ℤ pos (2 ^ 50)) → (pos 0 ≤ℤ m) × (m <ℤ pos (2 ^ 50))
between x y m is a b = let l = later_of x y m is in (omega (arith, ints, l.0, a.0), elim l.2 [ inl e ↦ omega (arith, ints, e, a.1) | inr e ↦ omega (arith, ints, e, b.1) ])

pub earlier_of : (x y m : ℤ) → m ≡ int_min x y → (m ≤ℤ x) × (m ≤ℤ y) × ((m ≡ x) ⊎ (m ≡ y))
earlier_of x y m is =
    by_lt_z y x
    (λ l. let e : m ≡ y = grind (arith, ints, is, l) in (omega (arith, ints, e, l), omega (arith, ints, e), inr e))
    (λ l. let e : m ≡ x = grind (arith, ints, is, l) in (omega (arith, ints, e), omega (arith, ints, e, l), inl e))

pub overlaps_where : (first start end from to : ℤ) (in_first : Bool) → int_lt first end ≡ in_first → first ≡ int_max start from → IsTrue (in_first && int_lt first to) ↔ Overlaps start end from to
overlaps_where first start end from to in_first test is = (
  (λ h.
      let b = and_parts in_first (int_lt first to) h in
      let c : int_lt first end ≡ true = test ∙ b.0 in
      let d : int_lt first to ≡ true = b.1 in
      record { instant = first; in_first = (latest.0, grind (arith, ints, c)); in_second = (latest.1, grind (arith, ints, d)) }),
  λ s.
      let early : first ≤ℤ s.instant = elim latest.2 [ inl e ↦ omega (arith, ints, e, s.in_first.0) | inr e ↦ omega (arith, ints, e, s.in_second.0) ] in
      let in_end : first <ℤ end = omega (arith, ints, early, s.in_first.1) in
      let in_to : first <ℤ to = omega (arith, ints, early, s.in_second.1) in
      both in_first (int_lt first to) (sym test ∙ grind (arith, ints, in_end)) (grind (arith, ints, in_to)),
)
  where
    latest : (start ≤ℤ first) × (from ≤ℤ first) × ((first ≡ start) ⊎ (first ≡ from))
    latest = later_of start from first is

    both : (a b : Bool) → a ≡ true → b ≡ true → (a && b) ≡ true
    both a b p q = rw p q

-- the seconds of a span before the horizon
pub cut_there : (span : Span) (m : ℤ) → m ≡ int_min span.end horizon → IsBeforeHorizon span (record { start = span.start; end = m })
cut_there span m is t =
    let least = earlier_of span.end horizon m is in (
      (λ w. ((w.0, omega (arith, ints, w.1, least.0)), omega (arith, ints, w.1, least.1))),
      λ w. (w.0.0, elim least.2 [ inl e ↦ omega (arith, ints, e, w.0.1) | inr e ↦ omega (arith, ints, e, w.1) ]),
    )

-- of the seconds before the horizon
pub sharer_of : (meeting : Event) (span cut : Span) → IsBeforeHorizon span cut → (found : Option SaidInstance) → IsFirstOverlap meeting cut.start cut.end found → IsFirstSharer meeting span.start span.end found
sharer_of meeting span cut is = go
  where
    back : (start end : ℤ) → SharesInstant start end span.start span.end → Overlaps start end cut.start cut.end
    back start end s = record { instant = s.instant; in_first = s.in_first; in_second = (is s.instant).1 (s.in_second, s.before) }

    go : (found : Option SaidInstance) → IsFirstOverlap meeting cut.start cut.end found → IsFirstSharer meeting span.start span.end found
    go None none = λ b h s. none b h (back b.start b.end s)
    go (Some i) (of, (o, first)) =
        let within = (is o.instant).0 o.in_second in (
          of,
          (record { instant = o.instant; before = within.1; in_first = o.in_first; in_second = within.0 }, λ b h s. first b h (back b.start b.end s)),
        )

-- ---- how many places are left

pub abs_is : (d : ℤ) → pos 0 ≤ℤ d → pos (unsigned_abs d) ≡ d
abs_is (pos n) h = refl
abs_is (negsuc n) h = absurd (omega (arith, ints, h))

less : (bound : Bound) (start slot : ℤ) → IsInEventDates slot → IsInEventDates start → IsAfter bound start slot → places_left (record { start = start; slot = Some slot }) < places_left bound
less bound start slot s t (inl before) =
    let a = abs_is (horizon -ℤ start) (omega (arith, ints, t)) in
    let b = abs_is (horizon -ℤ bound.start) (omega (arith, ints, t, before)) in
    let c = abs_is (horizon -ℤ slot) (omega (arith, ints, s)) in
    omega (arith, ints, a, b, c, s, before)
less bound start slot s t (inr (same, past)) =
    let a = ap (λ (x : ℤ). unsigned_abs (horizon -ℤ x)) same in
    let fewer = slots_fewer bound.slot slot s past in
    omega (arith, a, fewer)
  where
    slots_fewer : (last : Option ℤ) (slot : ℤ) → IsInEventDates slot → IsPastSlot last slot → slots_left (Some slot) < slots_left last
    slots_fewer None slot s h = let c = abs_is (horizon -ℤ slot) (omega (arith, ints, s)) in omega (arith, ints, c, s)
    slots_fewer (Some last) slot s h =
        let c = abs_is (horizon -ℤ slot) (omega (arith, ints, s)) in
        let d = abs_is (horizon -ℤ last) (omega (arith, ints, s, h)) in
        omega (arith, ints, c, d, h)

-- ---- those that share one are still to come

pub record StillLeft (meeting : Event) (from to : ℤ) (left : Instances) : Type 0 where
  pub its : (b : SaidInstance) → IsLeft left b → IsInstance meeting b
  pub all : (b : SaidInstance) → IsInstance meeting b → Overlaps b.start b.end from to → IsLeft left b

module _ (meeting : Event) (from to : ℤ) where
  -- from so early on
  pub left_first : (begin n : ℤ) (left : Instances) → ((b : SaidInstance) → IsInstance meeting b → b.end ≤ℤ (b.start +ℤ n)) → AreDated meeting → (begin ≤ℤ (from -ℤ n)) ⊎ (begin ≤ℤ first_second)
      → ((b : SaidInstance) → IsLeft left b ↔ (IsInstance meeting b × (begin ≤ℤ b.start))) → StillLeft meeting from to left
  left_first begin n left last dated early begins = record {
    its = λ b l. ((begins b).0 l).0;
    all = λ b is s.
        let l = last b is in
        let d = (dated b is).1 in
        (begins b).1 (is, elim early [ inl x ↦ omega (arith, ints, x, l, s.in_first, s.in_second) | inr x ↦ omega (arith, ints, x, d) ]);
  }

  module _ (old new : Instances) (h : StillLeft meeting from to old) where
    pub none_shares : GivesFirst old None new → (b : SaidInstance) → IsInstance meeting b → Overlaps b.start b.end from to → ⊥
    none_shares given b is s = given.1.0 b (h.all b is s)

    module _ (i : Instance) (given : GivesFirst old (Some i) new) where
      abbrev it : SaidInstance
      it = instance_of i

      first_of : (b : SaidInstance) → IsInstance meeting b → Overlaps b.start b.end from to → ComesBefore b it → ⊥
      first_of b is s = given.1.1 b (h.all b is s)

      pub found : Overlaps it.start it.end from to → IsFirstOverlap meeting from to (Some it)
      found s = (h.its it given.1.0, (s, first_of))

      -- all others start as late
      pub too_late : to ≤ℤ i.start → IsFirstOverlap meeting from to None
      too_late late = λ b is s.
          let l : b.start <ℤ to = omega (arith, ints, s.in_first, s.in_second) in first_of b is s (inl (omega (arith, ints, l, late)))

      still : (b : SaidInstance) → IsLeft new b → IsLeft old b
      still b (is, after) =
          (subst (λ e. IsInstance (said_meeting e.now) b) given.0 is, after_later old.after it b given.1.0.1 (subst (λ (x : Bound). IsAfter x b.start b.key.slot) given.1.2 after))

      pub passed_on : HaveOneEnd meeting → (Overlaps it.start it.end from to → ⊥) → StillLeft meeting from to new
      passed_on ends not = record {
        its = λ b l. h.its b (still b l);
        all = λ b is s.
            let l = h.all b is s in
            elim (placed it b) [
              | inl before ↦ (subst (λ e. IsInstance (said_meeting e.now) b) (sym given.0) l.0, subst (λ (x : Bound). IsAfter x b.start b.key.slot) (sym given.1.2) before)
              | inr o ↦ elim o [
                | inl same ↦ absurd (not (subst (λ (x : ℤ). Overlaps x it.end from to) (sym same.0)
                    (subst (λ (x : ℤ). Overlaps b.start x from to) (sym (ends it b (h.its it given.1.0) is same.0 same.1)) s)))
                | inr first ↦ absurd (first_of b is s first)
              ]
            ];
      }

      -- and fewer places are left
      pub fewer : AreDated meeting → places_left new.after < places_left old.after
      fewer dated =
          let d = dated it (h.its it given.1.0) in
          subst (λ (x : Bound). places_left x < places_left old.after) (sym given.1.2) (less old.after it.start it.key.slot d.0 d.1 given.1.0.1)

-- ---- the walk

-- the next was given, and is to be looked at
pub record IsAhead (meeting : Event) (from to : ℤ) (next : Option Instance) (left : Instances) : Type 0 where
  pub old : Instances
  pub still : StillLeft meeting from to old
  pub given : GivesFirst old next left

-- this many steps are left at most
abbrev pub steps_left : Option Instance → Instances → ℕ
steps_left None left = 0
steps_left (Some i) left = suc (places_left left.after)

pub one_fewer : (meeting : Event) (from to : ℤ) (old new : Instances) (i : Instance) (next : Option Instance) → StillLeft meeting from to old → AreDated meeting → GivesFirst old next new → steps_left next new < suc (places_left old.after)
one_fewer meeting from to old new i None h dated given = omega arith
one_fewer meeting from to old new i (Some j) h dated given = let l = fewer meeting from to old new h j given dated in omega (arith, l)

-- none is to be looked at
pub ended : (meeting : Event) (from to : ℤ) (next : Option Instance) (left : Instances) → IsAhead meeting from to next left → ((i : Instance) → next ≡ Some i → ⊥) → IsFirstOverlap meeting from to None
ended meeting from to None left h none = none_shares meeting from to h.old left h.still h.given
ended meeting from to (Some i) left h none = absurd (none i refl)

-- ---- where to begin

pub at_most : (z : ℤ) → (saturate_signed w64 z ≤ℤ z) ⊎ (saturate_signed w64 z ≤ℤ first_second)
at_most (pos n) = inl (omega (arith, ints))
at_most (negsuc n) = elim (cases_lt n 9_223_372_036_854_775_808) [ inl below ↦ inl (omega (arith, ints, below)) | inr from ↦ inr (omega (arith, ints, from)) ]

-- without days instances last as long as the seconds
pub lasts_so_long : (times : EventTimes) (n : ℤ) → times.length.days ≡ 0 → n ≡ pos (length_seconds times.length) → LastAtMost times n
lasts_so_long times n none e start end (later, inl (z, is), h) = omega (arith, ints, none, e, is, h)
lasts_so_long times n none e start end (later, inr (some, x), h) = absurd (omega (arith, none, some))
