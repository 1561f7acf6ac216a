-- The least instant past some things, one after another.
-- Cited by the functions of regular, Series::by_rule and Series::regular_from of series.
use Rattle.std.proofs.Common.{◌≡◌, ◌∙◌, ℕ, ◌<◌, ◌≤◌, ◌+◌, true, false, List, [], ◌∷◌, ◌++◌, length, take, get_or, refl, sym, ap, subst, inl, inr, ◌⊎◌, arith, ℤ, pos, ◌+ℤ◌, ◌≤ℤ◌, ◌<ℤ◌, to_z, of_z, w64}
use Rattle.std.specs.Prelude.{Option, Some, None, is_some, IfSome}
use Rattle.std.specs.Int.{int_max}
use Rattle.std.proofs.lemmas.Bool.{false≢true}
use Rattle.std.proofs.lemmas.Option.{same_Some}
use Rattle.std.proofs.lemmas.Int.{ints}
use Rattle.std.proofs.lemmas.List.{take_more, take_all}
use Rattle.std.proofs.lemmas.List.Elements.{Contains-push_cases, Contains-append_left, Contains-append_right}
use Rattle.profile.specs.checker.Instances.{horizon}
use Rattle.profile.specs.series.Rules.{Rule}
use Rattle.profile.specs.series.Zones.{Zone, Constant, Single, Pair, Observance, AreFirstOnsets, IsFirstOf, onset_at}
use Rattle.profile.specs.events.Properties.{first_second}
use Rattle.profile.specs.events.ZonedTimes.{EventTimes, clock_of}
use Rattle.profile.specs.events.EventComponents.{EventComponent as Said}
use Rattle.profile.specs.events.Events.{Event}
use Rattle.profile.specs.events.Spans.{has_end, IsHalfDayPast, IsPastOnsets, IsLeastPast}
use Rattle.profile.specs.events.Starts.{IsRuleStart}
use Rattle.cal_zones.specs.Repeats.{IsRegularFrom}
use Rattle.cal_events.specs.Recurrence.{master_of, recurring}
use Rattle.cal_events.specs.declared.recurrence.EventName.{EventName}
use Rattle.cal_events.specs.declared.recurrence.Recurrence.{Recurrence}
use Rattle.cal_events.specs.LastStarts.{IsLastStart}
use Rattle.cal_events.specs.Past.{IsFirstPast, IsPastException, ArePast, IsPastRule, IsPastMaster, IsLeastPastMaster, IsKeptPast}
use Rattle.cal_events.proofs.shared_lemmas.InOneOrder.{none_in}
use Rattle.cal_events.proofs.shared_lemmas.OwnSingles.{of_master}
use Rattle.cal_events.proofs.shared_lemmas.Overlaps.{later_of}

-- ---- the later of two

-- there is nothing to pass
pub already : (from : ℤ) (P : ℤ → Type 0) → P from → IsFirstPast from P from
already from P past = record { not_before = omega (arith, ints); past = past; least = λ other le p. le }

-- what is past is so from an instant on
pub later_past : (from first m : ℤ) (P : ℤ → Type 0) → m ≡ int_max from first → ((t : ℤ) → first ≤ℤ t → P t) → ((t : ℤ) → P t → first ≤ℤ t) → IsFirstPast from P m
later_past from first m P is past least =
    let l = later_of from first m is in
    record {
      not_before = l.0;
      past = past m l.1;
      least = λ other le p. elim l.2 [ inl e ↦ omega (arith, ints, e, le) | inr e ↦ let q = least other p in omega (arith, ints, e, q) ];
    }

pub next_fits : (e : ℤ) → first_second ≤ℤ e → e <ℤ horizon → to_z w64 (of_z w64 (e +ℤ pos 1)) ≡ e +ℤ pos 1
next_fits e low high = omega (arith, ints, low, high)

-- ---- onsets

pub no_onsets : (z : Zone) (x y : Option ℤ) (from : ℤ) → AreFirstOnsets z x y → is_some x ≡ false → IsFirstPast from (IsPastOnsets z) from
no_onsets (Constant k) x y from a none = already from (IsPastOnsets (Constant k)) (None, None, (refl, refl), tt, tt)
no_onsets (Single o) x y from a none = absurd (false≢true (sym none ∙ ap is_some a.2))
no_onsets (Pair o s) x y from a none = absurd (false≢true (sym none ∙ ap is_some a.4))

pub onsets_past : (z : Zone) (x y : Option ℤ) (from regular m : ℤ) → AreFirstOnsets z x y → is_some x ≡ true → IsRegularFrom z regular → m ≡ int_max from regular
    → IsFirstPast from (IsPastOnsets z) m
onsets_past (Constant k) x y from regular m a some r is = absurd (false≢true (sym (ap is_some a.0) ∙ some))
onsets_past (Single o) x y from regular m a some r is = later_past from regular m (IsPastOnsets (Single o)) is (λ t. (r t).0) (λ t. (r t).1)
onsets_past (Pair o s) x y from regular m a some r is = later_past from regular m (IsPastOnsets (Pair o s)) is (λ t. (r t).0) (λ t. (r t).1)

-- ---- exceptions

pub exception_past : (from e m : ℤ) → first_second ≤ℤ e → e <ℤ horizon → m ≡ int_max from (e +ℤ pos 1) → IsFirstPast from (IsPastException e) m
exception_past from e m low high is = later_past from (e +ℤ pos 1) m (IsPastException e) is (λ t le _ _. omega (arith, ints, le)) (λ t past. let l = past low high in omega (arith, ints, l))

pub none_past : (from : ℤ) → IsFirstPast from (ArePast []) from
none_past from = already from (ArePast []) (λ e c. absurd (none_in e c))

one_more : (from past more e : ℤ) (done : List ℤ) → IsFirstPast from (ArePast done) past → IsFirstPast past (IsPastException e) more → IsFirstPast from (ArePast (done ++ e ∷ [])) more
one_more from past more e done h k = record {
  not_before = let a = h.not_before in let b = k.not_before in omega (arith, ints, a, b);
  past = λ d c low high. elim (Contains-push_cases done e d c) [
    | inl old ↦ let l = h.past d old low high in let b = k.not_before in omega (arith, ints, l, b)
    | inr same ↦ subst (λ x. x <ℤ more) same (k.past (subst (λ x. first_second ≤ℤ x) (sym same) low) (subst (λ x. x <ℤ horizon) (sym same) high))
  ];
  least = λ other le all.
      k.least other (h.least other le (λ d c low high. all d (Contains-append_left done (e ∷ []) d c) low high)) (λ low high. all e (Contains-append_right done (e ∷ []) e (0, omega arith, refl)) low high);
}

pub take_one : (from past more : ℤ) (all : List ℤ) (k : ℕ) (e : ℤ) → k < length all → e ≡ get_or all k e → IsFirstPast from (ArePast (take k all)) past → IsFirstPast past (IsPastException e) more
    → IsFirstPast from (ArePast (take (k + 1) all)) more
take_one from past more all k e w is h one =
    subst (λ (l : List ℤ). IsFirstPast from (ArePast l) more) (sym (take_more all k e w ∙ ap (λ x. take k all ++ x ∷ []) (sym is))) (one_more from past more e (take k all) h one)

pub take_whole : (from past : ℤ) (all : List ℤ) (k : ℕ) → length all ≤ k → IsFirstPast from (ArePast (take k all)) past → IsFirstPast from (ArePast all) past
take_whole from past all k le h = subst (λ (l : List ℤ). IsFirstPast from (ArePast l) past) (take_all k all le) h

-- ---- a rule that ends

module _ (times : EventTimes) (given : Option Rule) (rule : Rule) (is : given ≡ Some rule) where
  pub starts_past : (from last m : ℤ) → has_end rule ≡ true → IsLastStart times rule last → m ≡ int_max from (last +ℤ pos 1) → IsFirstPast from (IsPastRule times given) m
  starts_past from last m ends l e =
      later_past from (last +ℤ pos 1) m (IsPastRule times given) e
      (λ t le other has end u starts before.
      let b = l.last u (subst (λ (r : Rule). IsRuleStart times r u) (sym (same_Some rule other (sym is ∙ has))) starts) before in omega (arith, ints, le, b))
      (λ t past. let b = past rule is ends last l.starts l.before in omega (arith, ints, b))

-- ---- all of them

still_half : (x : Option ℤ) (s t : ℤ) → s ≤ℤ t → IfSome x (IsHalfDayPast s) → IfSome x (IsHalfDayPast t)
still_half None s t le h = tt
still_half (Some x) s t le h = omega (arith, ints, le, h)

still_past : (z : Zone) (s t : ℤ) → s ≤ℤ t → IsPastOnsets z s → IsPastOnsets z t
still_past z s t le (x, y, are, h, k) = (x, y, are, still_half x s t le h, still_half y s t le k)

pub all_past : (master : Said) (a b c d : ℤ) → a ≡ master.times.start +ℤ pos 1 → IsFirstPast a (IsPastOnsets (clock_of master.times.zone)) b → IsFirstPast b (ArePast master.exceptions) c
    → IsFirstPast c (IsPastRule master.times master.rule) d → IsLeastPastMaster master d
all_past master a b c d is onsets exceptions rule =
    let ab = onsets.not_before in
    let bc = exceptions.not_before in
    let cd = rule.not_before in
    record {
      past = record {
        start = omega (arith, ints, is, ab, bc, cd);
        onsets = still_past (clock_of master.times.zone) b d (omega (arith, ints, bc, cd)) onsets.past;
        exceptions = λ e has low high. let l = exceptions.past e has low high in omega (arith, ints, l, cd);
        last = rule.past;
      };
      least = λ other past.
          let s = past.start in
          rule.least other (exceptions.least other (onsets.least other (omega (arith, ints, is, s)) past.onsets) past.exceptions) past.last;
    }

-- ---- as a struct keeps it

one_first : (o : Observance) (f g : ℤ) → IsFirstOf o f → IsFirstOf o g → f ≤ℤ g
one_first o f g h k = h.least (onset_at o g) k.listed

half_of : (x : Option ℤ) (f t : ℤ) → x ≡ Some f → IfSome x (IsHalfDayPast t) → IsHalfDayPast t f
half_of x f t is h = subst (λ (o : Option ℤ). IfSome o (IsHalfDayPast t)) is h

-- where all first onsets are past, each is
each_past : (z : Zone) (t : ℤ) → IsPastOnsets z t → (x y : Option ℤ) → AreFirstOnsets z x y → (first : ℤ) → (x ≡ Some first) ⊎ (y ≡ Some first) → IsHalfDayPast t first
each_past (Constant k) t p x y a first (inl e) = absurd (false≢true (ap is_some (sym a.0 ∙ e)))
each_past (Constant k) t p x y a first (inr e) = absurd (false≢true (ap is_some (sym a.1 ∙ e)))
each_past (Single o) t (x', y', b, h, k) x y a first (inl e) =
    let same : a.0 ≡ first = same_Some a.0 first (sym a.2 ∙ e) in
    let l = one_first o a.0 b.0 a.1 b.1 in
    let p = half_of x' b.0 t b.2 h in
    omega (arith, ints, same, l, p)
each_past (Single o) t p x y a first (inr e) = absurd (false≢true (ap is_some (sym a.3 ∙ e)))
each_past (Pair o s) t (x', y', b, h, k) x y a first (inl e) =
    let same : a.0 ≡ first = same_Some a.0 first (sym a.4 ∙ e) in
    let l = one_first o a.0 b.0 a.2 b.2 in
    let p = half_of x' b.0 t b.4 h in
    omega (arith, ints, same, l, p)
each_past (Pair o s) t (x', y', b, h, k) x y a first (inr e) =
    let same : a.1 ≡ first = same_Some a.1 first (sym a.5 ∙ e) in
    let l = one_first s a.1 b.1 a.3 b.3 in
    let p = half_of y' b.1 t b.5 k in
    omega (arith, ints, same, l, p)

of_each : (x : Option ℤ) (t : ℤ) → ((first : ℤ) → x ≡ Some first → IsHalfDayPast t first) → IfSome x (IsHalfDayPast t)
of_each None t h = tt
of_each (Some x) t h = h x refl

pub kept_past : (series : Event) (own : Said) (from : ℤ) → series ≡ of_master own → IsLeastPastMaster own from → IsKeptPast series from
kept_past series own from is h =
    let same : (m : Said) → series.master ≡ Some m → own ≡ m = λ m e. same_Some own m (sym (ap (λ (s : Event). s.master) is) ∙ e) in
    record {
      start = λ m e. subst (λ (x : Said). x.times.start <ℤ from) (same m e) h.past.start;
      onsets = λ m x y e are first either. each_past (clock_of m.times.zone) from (subst (λ (n : Said). IsPastOnsets (clock_of n.times.zone) from) (same m e) h.past.onsets) x y are first either;
      exceptions = λ m e. subst (λ (n : Said). ArePast n.exceptions from) (same m e) h.past.exceptions;
      last = λ m e. subst (λ (n : Said). IsPastRule n.times n.rule from) (same m e) h.past.last;
      least = λ other p.
          h.least other (subst (λ (n : Said). IsPastMaster n other) (sym (same p.master p.is)) (record { start = p.start; onsets = p.onsets; exceptions = p.exceptions; last = p.last }));
    }

-- and as it is read
pub read_past : (series : Event) (own : Said) (from : ℤ) (x y : Option ℤ) → series.master ≡ Some own → IsKeptPast series from → AreFirstOnsets (clock_of own.times.zone) x y → IsLeastPast series from
read_past series own from x y is h are = (
  record {
    master = own;
    is = is;
    start = h.start own is;
    onsets = (x, y, are, of_each x from (λ first e. h.onsets own x y is are first (inl e)), of_each y from (λ first e. h.onsets own x y is are first (inr e)));
    exceptions = h.exceptions own is;
    last = h.last own is;
  },
  h.least,
)

-- ---- whosever the meeting is

module _ (name : EventName) (r : Recurrence) (t : ℤ) where
  to_named : IsPastMaster (recurring r) t → IsPastMaster (master_of name r) t
  to_named p = record { start = p.start; onsets = p.onsets; exceptions = p.exceptions; last = p.last }

  of_named : IsPastMaster (master_of name r) t → IsPastMaster (recurring r) t
  of_named p = record { start = p.start; onsets = p.onsets; exceptions = p.exceptions; last = p.last }

pub past_of : (name : EventName) (r : Recurrence) (from : ℤ) → IsLeastPastMaster (recurring r) from → IsLeastPastMaster (master_of name r) from
past_of name r from h = record { past = to_named name r from h.past; least = λ other p. h.least other (of_named name r other p) }
