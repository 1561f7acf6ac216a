-- Singles, and the instances of series around them.
use Rattle.std.proofs.Common.{◌≡◌, ◌≢◌, ◌∙◌, ap, sym, refl, subst, inl, inr, ◌⊎◌, ℕ, zero, suc, ◌+◌, ◌-◌, ◌*◌, ◌<◌, ◌≤◌, true, false, Bool, arith, List, [], ◌∷◌, ◌++◌, length, map, take, get_or, unsigned_abs, w64, ℤ, pos, negsuc, ◌+ℤ◌, ◌-ℤ◌, ◌<ℤ◌, ◌≤ℤ◌}
use Rattle.std.specs.Prelude.{Option, Some, None, ◌↔◌, IfSome, MatchBool, MatchOption, Contains}
use Rattle.std.specs.Int.{saturate_signed}
use Rattle.std.specs.List.{slice_get}
use Rattle.std.proofs.Math.Nat.{add_comm, mul_assoc, mul_comm, mul-le-mul_right}
use Rattle.std.proofs.lemmas.List.{length-map, map-append, take_more, get_or-map, get_or_default}
use Rattle.std.proofs.lemmas.Option.{same_Some, slice_get-get_or, slice_get_within, get_or_from_slice_get}
use Rattle.std.proofs.lemmas.Int.{ints, by_lt_z}
use Rattle.std.proofs.lemmas.Bool.{cases_lt, cases_order}
use Rattle.profile.specs.checker.Instances.{Key, Instance as SaidInstance, horizon, AreClear, HasClash, IsClear, IsWithin}
use Rattle.profile.specs.checker.Certificates.{IsSeriesAt}
use Rattle.profile.specs.events.Events.{Event}
use Rattle.profile.specs.events.Starts.{IsInstance, SharesInstant}
use Rattle.profile.specs.events.Confirmed.{Confirmed, IsOneOf}
use Rattle.profile.specs.events.Spans.{IsWidthOf}
use Rattle.cal_events.specs.Calendar.{HaveDifferentKeys, HaveOwnKeys}
use Rattle.cal_events.specs.Series.{AreKnownByStart}
use Rattle.cal_events.specs.Sweep.{AreSpansApart, IsOverlap, span_at}
use Rattle.cal_events.specs.declared.sweep.Overlap.{Overlap}
use Rattle.cal_events.proofs.shared_lemmas.InOneOrder.{of_mapped}
use Rattle.cal_events.proofs.shared_lemmas.Overlaps.{abs_is}
use Rattle.clash_cert.proofs.MakingLemmas.{singles_clear}
use Rattle.cal_events.specs.declared.sweep.Span.{Span}
use Rattle.clash_check.specs.Draws.{IsPlaceIn, IsSpanBetween, IsDrawable, IsSingleAt, LastsAbout, drawn_more, one_if}
use Rattle.clash_check.specs.Entries.{IsMore}
use Rattle.clash_check.specs.Singles.{span_in, HasSharer, IsSharedByNone, HasSharers, HasNoSharers, HaveSharers, HaveNoSharers, IsEachClear, IsFewMore, AreSinglesDrawn, singles_count, IsEntryInstant}
use Rattle.clash_check.specs.Walks.{place_of_walk}
use Rattle.clash_check.proofs.SweepLemmas.{series_there, series_in}
use Rattle.clash_check.proofs.WalkLemmas.{next_one, none_before, further, rest_is}

-- ---- how many instances of a clear series are over by an instant, of those that start less than its width before

abbrev triple : ℤ → ℤ
triple x = x +ℤ (x +ℤ x)

-- so many times a width
abbrev times : ℕ → ℤ → ℤ
times zero w = pos 0
times (suc k) w = w +ℤ times k w

times_some : (k : ℕ) (w : ℤ) → pos 0 <ℤ w → pos 0 ≤ℤ times k w
times_some zero w h = omega (arith, ints)
times_some (suc k) w h = let t = times_some k w h in omega (arith, ints, t, h)

-- less than three times a width
few_times : (k : ℕ) (w x : ℤ) → pos 0 <ℤ w → times k w ≤ℤ triple x → x <ℤ w → k ≤ 2
few_times zero w x h l m = omega arith
few_times (suc zero) w x h l m = omega arith
few_times (suc (suc zero)) w x h l m = omega arith
few_times (suc (suc (suc k))) w x h l m = let t = times_some k w h in absurd (omega (arith, ints, t, h, l, m))

-- k of them are over, and what follows starts when the last of them is
record IsGone (a : Event) (entry width stop bound : ℤ) (old new : ℕ) (next : Option Span) : Type 0 where
  k : ℕ
  p : ℤ
  count : IsMore old new (k + one_if next)
  far : times k width ≤ℤ triple (p -ℤ entry)
  over : p ≤ℤ stop
  after : (s e : ℤ) → IsSpanBetween a entry bound s e → place_of_walk bound next ≤ℤ s → p ≤ℤ s

pub record IsNear (a : Event) (span : Span) (width entry : ℤ) (Coming : ℤ → ℤ → Type 0) (old new : ℕ) (next : Option Span) : Type 0 where
  is : IfSome next (λ x. IsSpanBetween a entry span.end x.start x.end)
  rest : (s e : ℤ) → Coming s e ↔ (IsSpanBetween a entry span.end s e × (place_of_walk span.end next <ℤ s))
  apart : (s e : ℤ) → IsSpanBetween a entry span.end s e → s <ℤ place_of_walk span.end next → SharesInstant s e span.start span.end → ⊥
  gone : AreClear (IsInstance a) (IsInstance a) → IsGone a entry width span.start span.end old new next

pub record IsNearAt (all : Confirmed) (i : ℕ) (span : Span) (width entry : ℤ) (calendar : Confirmed) (Coming : ℤ → ℤ → Type 0) (old new : ℕ) (next : Option Span) : Type 0 where
  pub same : calendar ≡ all
  pub near : (a : Event) → IsSeriesAt all i a → IsNear a span width entry Coming old new next

abbrev Draws : (Old New : ℤ → ℤ → Type 0) → Option Span → Type 0
Draws Old New found =
    MatchOption found ((s e : ℤ) → Old s e → ⊥) (λ x. Old x.start x.end × ((s e : ℤ) → Old s e → x.start ≤ℤ s))
    × ((s e : ℤ) → New s e ↔ (Old s e × IfSome found (λ x. x.start <ℤ s)))

module _ (a : Event) (known : AreKnownByStart a) (span : Span) (width entry : ℤ) (lasts : LastsAbout a width) (some : pos 0 <ℤ width) (enters : IsEntryInstant span.start width entry) where
  abbrev Is : ℤ → ℤ → Type 0
  Is = IsSpanBetween a entry span.end

  below : (s e : ℤ) → Is s e → s <ℤ span.end
  below s e h = h.2

  length_of : (s e : ℤ) → Is s e → width ≤ℤ triple (e -ℤ s)
  length_of s e ((b, is, p, q), l, m) = let w = lasts.least b is in omega (arith, ints, w, p, q)

  pub near_first : (Old New : ℤ → ℤ → Type 0) (old mid new : ℕ) (next : Option Span) → mid ≡ old → ((s e : ℤ) → Old s e ↔ Is s e)
      → MatchOption next ((s e : ℤ) → Old s e → ⊥) (λ x. Old x.start x.end × ((s e : ℤ) → Old s e → x.start ≤ℤ s))
      → ((s e : ℤ) → New s e ↔ (Old s e × IfSome next (λ x. x.start <ℤ s))) → new ≡ drawn_more mid (one_if next)
      → IsNear a span width entry New old new next
  near_first Old New old mid new next still coming g r counted = record {
    is = next_one Is Old New span.end entry below left next g;
    rest = rest_is Is Old New span.end entry below left next g r;
    apart = λ s e is less share. let l = none_before Is Old New span.end entry below left next g s e is is.1 in absurd (omega (arith, ints, less, l));
    gone = λ clear. record {
      k = 0;
      p = entry;
      count = omega (arith, still, counted);
      far = omega (arith, ints);
      over = enters.before;
      after = λ s e is l. is.1;
    };
  }
    where
      left : (s e : ℤ) → Old s e ↔ (Is s e × (entry ≤ℤ s))
      left s e = (λ o. let h = (coming s e).0 o in (h, h.1), λ h. (coming s e).1 h.0)

  module _ (Old : ℤ → ℤ → Type 0) (old mid : ℕ) (x : Span) (near : IsNear a span width entry Old old mid (Some x)) where
    pub near_met : span.start <ℤ span.end → span.start <ℤ horizon → x.start <ℤ x.end → span.start <ℤ x.end → HasSharer a span.start span.end
    near_met long early lasts_on going = found near.is
      where
        found : Is x.start x.end → HasSharer a span.start span.end
        found ((b, is, p, q), l, m) =
            let d = (known.dates b is).1 in
            by_lt_z b.start span.start
            (λ less. (b, is, record { instant = span.start; before = early; in_first = (omega (arith, ints, less), omega (arith, ints, q, going)); in_second = (omega (arith, ints), long) }))
            (λ most. (b, is, record { instant = b.start; before = d; in_first = (omega (arith, ints), omega (arith, ints, p, q, lasts_on)); in_second = (most, omega (arith, ints, p, m)) }))

    few_gone : (g : IsGone a entry width span.start span.end old mid (Some x)) → g.k ≤ 2
    few_gone g =
        let f = g.far in
        let o = g.over in
        let l = enters.late in
        few_times g.k width (span.start -ℤ entry) some (omega (arith, ints, f, o)) (omega (arith, ints, l))

    pub near_few : AreClear (IsInstance a) (IsInstance a) → IsFewMore old mid 3
    near_few clear = let g = near.gone clear in let f = few_gone g in let n = g.count in (g.k + 1, omega (arith, f), n)

    -- past one that is over
    pub near_next : (New : ℤ → ℤ → Type 0) (new : ℕ) (next : Option Span) → ((x.start <ℤ x.end) × (span.start <ℤ x.end) → ⊥)
        → MatchOption next ((s e : ℤ) → Old s e → ⊥) (λ y. Old y.start y.end × ((s e : ℤ) → Old s e → y.start ≤ℤ s))
        → ((s e : ℤ) → New s e ↔ (Old s e × IfSome next (λ y. y.start <ℤ s))) → new ≡ drawn_more mid (one_if next)
        → (place_of_walk span.end (Some x) <ℤ place_of_walk span.end next) × IsNear a span width entry New old new next
    near_next New new next not_on g r counted = (
      onward,
      record {
        is = next_one Is Old New span.end from below left next g;
        rest = rest_is Is Old New span.end from below left next g r;
        apart = λ s e is less share. by_lt_z s x.start (λ l. near.apart s e is l share)
            (λ l. by_lt_z x.start s
            (λ m. let n = none_before Is Old New span.end from below left next g s e is (omega (arith, ints, m)) in absurd (omega (arith, ints, less, n)))
            (λ m. over_apart s e is (omega (arith, ints, l, m)) share));
        gone = λ clear. go clear (near.gone clear);
      },
    )
      where
        from : ℤ
        from = x.start +ℤ pos 1

        left : (s e : ℤ) → Old s e ↔ (Is s e × (from ≤ℤ s))
        left s e = (λ o. let h = (near.rest s e).0 o in (h.0, let l = h.1 in omega (arith, ints, l)), λ h. (near.rest s e).1 (h.0, let l = h.1 in omega (arith, ints, l)))

        onward : x.start <ℤ place_of_walk span.end next
        onward =
            let b = below x.start x.end near.is in
            let f = further Is Old New span.end from below left next g (omega (arith, ints, b)) in
            omega (arith, ints, f)

        lasts_on : x.start <ℤ x.end
        lasts_on = let w = length_of x.start x.end near.is in omega (arith, ints, w, some)

        over : x.end ≤ℤ span.start
        over = by_lt_z span.start x.end (λ l. absurd (not_on (lasts_on, l))) (λ l. l)

        over_apart : (s e : ℤ) → Is s e → s ≡ x.start → SharesInstant s e span.start span.end → ⊥
        over_apart s e is at share = go near.is is
          where
            go : Is x.start x.end → Is s e → ⊥
            go ((b, own, p, q), l, m) ((c, it, u, v), n, o) =
                let one = ap (λ (z : SaidInstance). z.end) (known.one b c own it (omega (arith, ints, p, u, at))) in
                let k = over in
                let t = share.in_first.1 in
                let f = share.in_second.0 in
                omega (arith, ints, one, q, v, k, t, f)

        go : AreClear (IsInstance a) (IsInstance a) → IsGone a entry width span.start span.end old mid (Some x) → IsGone a entry width span.start span.end old new next
        go clear gone =
            let c = gone.count in
            let f = gone.far in
            let w = length_of x.start x.end near.is in
            let l = gone.after x.start x.end near.is (omega (arith, ints)) in
            record {
              k = suc gone.k;
              p = x.end;
              count = omega (arith, c, counted);
              far = omega (arith, ints, f, w, l);
              over = over;
              after = λ s e is m. by_lt_z s x.end (λ less. absurd (meet near.is is (let o = onward in omega (arith, ints, m, o)) less)) (λ most. most);
            }
          where
            meet : Is x.start x.end → {s e : ℤ} → Is s e → x.start <ℤ s → s <ℤ x.end → ⊥
            meet ((b, own, p, q), l, m) {s} {e} ((d, it, u, v), n, o) later less =
                let w = lasts.least d it in
                let h = (known.dates d it).1 in
                clear b d d.start own it (record {
                  differ = λ same.
                      let y = known.slots b own in
                      let z = known.slots d it in
                      let f = ap (λ (k : Key). k.slot) same in
                      omega (arith, ints, y, z, f, p, u, later);
                  before = h;
                  in_first = (omega (arith, ints, p, u, later), omega (arith, ints, q, u, less));
                  in_second = (omega (arith, ints), omega (arith, ints, w, some));
                })

  module _ (Old : ℤ → ℤ → Type 0) (old new : ℕ) (near : IsNear a span width entry Old old new None) where
    pub near_none : IsSharedByNone a span.start span.end
    near_none b is share =
        let t = share.in_first.1 in
        let f = share.in_second.0 in
        by_lt_z b.start entry
        (λ early.
        let e = enters.early b.start (known.dates b is).0 early in
        let m = lasts.most b is in
        omega (arith, ints, e, m, t, f))
        (λ late. by_lt_z b.start span.end (λ less. near.apart b.start b.end ((b, is, refl, refl), late, less) less share)
        (λ far. let g = share.in_first.0 in let h = share.in_second.1 in omega (arith, ints, far, g, h)))

    pub near_all : AreClear (IsInstance a) (IsInstance a) → IsFewMore old new 3
    near_all clear =
        let g = near.gone clear in
        let f = g.far in
        let o = g.over in
        let l = enters.late in
        let k = few_times g.k width (span.start -ℤ entry) some (omega (arith, ints, f, o)) (omega (arith, ints, l)) in
        let n = g.count in
        (g.k + 0, omega (arith, k), n)

-- the same where the next one is known
pub near_at : (a : Event) (span : Span) (width entry : ℤ) (Coming : ℤ → ℤ → Type 0) (old new : ℕ) (next other : Option Span) → next ≡ other → IsNear a span width entry Coming old new next
    → IsNear a span width entry Coming old new other
near_at a span width entry Coming old new next other e h = subst (IsNear a span width entry Coming old new) e h

pub lasts_at : (all : Confirmed) → IsDrawable all → (i : ℕ) (a : Event) (width : ℤ) → IsSeriesAt all i a → IsWidthOf a width → LastsAbout a width
lasts_at all drawable i a width there of = drawable.lengths a (series_in all i a there) width of

-- what has no width has no instant
pub no_width : (a : Event) (width start end : ℤ) → LastsAbout a width → width ≡ pos 0 → IsSharedByNone a start end
no_width a width start end lasts none b is share =
    let m = lasts.most b is in
    let i = share.in_first in
    let f = i.0 in
    let l = i.1 in
    omega (arith, ints, m, none, f, l)

pub near_fewer : (all : Confirmed) (i : ℕ) → IsPlaceIn (length all.series) i → (bound : ℤ) (x : Span) (old next : Option Span) → old ≡ Some x
    → ((a : Event) → IsSeriesAt all i a → (x.start <ℤ place_of_walk bound next) × (place_of_walk bound next ≤ℤ bound))
    → unsigned_abs (bound -ℤ place_of_walk bound next) < unsigned_abs (bound -ℤ place_of_walk bound old)
near_fewer all i place bound x old next e h =
    let (a, at) = series_there all i place in
    let (further, within) = h a at in
    let here : place_of_walk bound old ≡ x.start = ap (place_of_walk bound) e in
    let p = abs_is (bound -ℤ place_of_walk bound next) (omega (arith, ints, within)) in
    let q = abs_is (bound -ℤ place_of_walk bound old) (omega (arith, ints, within, further, here)) in
    omega (arith, ints, p, q, further, here)

pub near_within : (a : Event) (span : Span) (width entry : ℤ) (Coming : ℤ → ℤ → Type 0) (old new : ℕ) (next : Option Span) → IsNear a span width entry Coming old new next → place_of_walk span.end next ≤ℤ span.end
near_within a span width entry Coming old new None h = omega (arith, ints)
near_within a span width entry Coming old new (Some x) h = let l = h.is.2 in omega (arith, ints, l)

-- ---- one series beside all spans

few_then : (old mid new m n : ℕ) → IsFewMore old mid m → IsFewMore mid new n → IsFewMore old new (m + n)
few_then old mid new m n (j, a, b) (k, c, d) = (j + k, omega (arith, a, c), omega (arith, b, d))

few_most : (old new m n : ℕ) → m ≤ n → IsFewMore old new m → IsFewMore old new n
few_most old new m n l (k, a, b) = (k, omega (arith, a, l), b)

pub none_more : (n most : ℕ) → IsFewMore n n most
none_more n most = (0, omega arith, omega arith)

pub record IsMetAt (all : Confirmed) (i : ℕ) (spans : List Span) (index : ℕ) (calendar : Confirmed) (old new : ℕ) : Type 0 where
  pub same : calendar ≡ all
  pub none : (a : Event) → IsSeriesAt all i a → (k : ℕ) (s : Span) → k < index → slice_get spans k ≡ Some s → IsSharedByNone a s.start s.end
  pub few : (a : Event) → IsSeriesAt all i a → AreClear (IsInstance a) (IsInstance a) → IsFewMore old new (index * 3)

module _ (all : Confirmed) (i : ℕ) (spans : List Span) (index : ℕ) (calendar : Confirmed) (old mid new : ℕ) (s : Span) (there : slice_get spans index ≡ Some s) (at : IsMetAt all i spans index calendar old mid)
    (few : (a : Event) → IsSeriesAt all i a → AreClear (IsInstance a) (IsInstance a) → IsFewMore mid new 3) where
  met_few : (a : Event) → IsSeriesAt all i a → AreClear (IsInstance a) (IsInstance a) → IsFewMore old new (index * 3 + 3)
  met_few a here clear = few_then old mid new (index * 3) 3 (at.few a here clear) (few a here clear)

  pub met_next : (calendar' : Confirmed) → calendar' ≡ calendar → ((a : Event) → IsSeriesAt all i a → IsSharedByNone a s.start s.end) → IsMetAt all i spans (index + 1) calendar' old new
  met_next calendar' same none = record {
    same = same ∙ at.same;
    none = λ a here k x less is. elim (cases_lt k index) [
      | inl was ↦ at.none a here k x was is
      | inr from ↦
          let e : k ≡ index = omega (arith, less, from) in
          let one : s ≡ x = same_Some s x (sym there ∙ ap (slice_get spans) (sym e) ∙ is) in
          subst (λ (y : Span). IsSharedByNone a y.start y.end) one (none a here)
    ];
    few = λ a here clear. few_most old new (index * 3 + 3) ((index + 1) * 3) (omega arith) (met_few a here clear);
  }

  pub met_found : ((a : Event) → IsSeriesAt all i a → HasSharer a s.start s.end) → (a : Event) → IsSeriesAt all i a → HasSharers a spans
  met_found has a here = (s, (index, slice_get_within spans index s there, get_or_from_slice_get spans index s s there), has a here)

  pub met_some : (a : Event) → IsSeriesAt all i a → AreClear (IsInstance a) (IsInstance a) → IsFewMore old new (length spans * 3)
  met_some a here clear =
      let w = slice_get_within spans index s there in
      few_most old new (index * 3 + 3) (length spans * 3) (omega (arith, w)) (met_few a here clear)

pub met_none : (all : Confirmed) (i : ℕ) (spans : List Span) (index : ℕ) (calendar : Confirmed) (old new : ℕ) → length spans ≤ index → IsMetAt all i spans index calendar old new
    → (a : Event) → IsSeriesAt all i a → HasNoSharers a spans
met_none all i spans index calendar old new past at a here s (k, w, e) = at.none a here k s (omega (arith, w, past)) (slice_get-get_or spans k s w ∙ ap Some e)

pub met_all : (all : Confirmed) (i : ℕ) (spans : List Span) (index : ℕ) (calendar : Confirmed) (old new : ℕ) → index ≤ length spans → IsMetAt all i spans index calendar old new
    → (a : Event) → IsSeriesAt all i a → AreClear (IsInstance a) (IsInstance a) → IsFewMore old new (length spans * 3)
met_all all i spans index calendar old new most at a here clear = few_most old new (index * 3) (length spans * 3) (omega (arith, most)) (at.few a here clear)

-- ---- all series

pub record IsAnyAt (all : Confirmed) (spans : List Span) (before : ℕ) (calendar : Confirmed) (old new : ℕ) : Type 0 where
  pub same : calendar ≡ all
  pub none : (i : ℕ) (a : Event) → 0 < i → i ≤ before → IsSeriesAt all i a → HasNoSharers a spans
  pub few : IsEachClear all → IsFewMore old new (before * (length spans * 3))

one_more_times : (k m : ℕ) → (k + 1) * m ≡ k * m + m
one_more_times k m = let e : k + 1 ≡ suc k = omega arith in let f : suc k * m ≡ m + k * m = omega arith in ap (λ n. n * m) e ∙ f ∙ add_comm m (k * m)

module _ (all : Confirmed) (spans : List Span) (before : ℕ) (calendar : Confirmed) (old mid new : ℕ) (w : before < length all.series) (at : IsAnyAt all spans before calendar old mid)
    (few : (a : Event) → IsSeriesAt all (before + 1) a → AreClear (IsInstance a) (IsInstance a) → IsFewMore mid new (length spans * 3)) where
  any_few : IsEachClear all → IsFewMore old new ((before + 1) * (length spans * 3))
  any_few clear =
      let (a, there) = series_there all (before + 1) (omega arith, omega (arith, w)) in
      subst (IsFewMore old new) (sym (one_more_times before (length spans * 3)))
      (few_then old mid new (before * (length spans * 3)) (length spans * 3) (at.few clear) (few a there (clear a (series_in all (before + 1) a there))))

  pub any_next : (calendar' : Confirmed) → calendar' ≡ calendar → ((a : Event) → IsSeriesAt all (before + 1) a → HasNoSharers a spans) → IsAnyAt all spans (before + 1) calendar' old new
  any_next calendar' same none = record {
    same = same ∙ at.same;
    none = λ i a some most there. elim (cases_lt before i) [
      | inl last ↦ none a (subst (λ k. IsSeriesAt all k a) (omega (arith, last, most)) there)
      | inr was ↦ at.none i a some was there
    ];
    few = any_few;
  }

  pub any_found : ((a : Event) → IsSeriesAt all (before + 1) a → HasSharers a spans) → HaveSharers all spans
  any_found has =
      let (a, there) = series_there all (before + 1) (omega arith, omega (arith, w)) in
      let h = has a there in
      let shared = h.2 in
      (h.0, h.1, (shared.0, (a, series_in all (before + 1) a there, shared.1), shared.2))

  pub any_some : IsEachClear all → IsFewMore old new (length all.series * (length spans * 3))
  any_some clear =
      few_most old new ((before + 1) * (length spans * 3)) (length all.series * (length spans * 3)) (mul-le-mul_right (length spans * 3) (omega (arith, w))) (any_few clear)

pub any_none : (all : Confirmed) (spans : List Span) (before : ℕ) (calendar : Confirmed) (old new : ℕ) → length all.series ≤ before → IsAnyAt all spans before calendar old new → HaveNoSharers all spans
any_none all spans before calendar old new past at s c b (a, (k, w, e), is) share =
    let there : slice_get all.series (k + 1 - 1) ≡ Some a = ap (slice_get all.series) (let e : k + 1 - 1 ≡ k = omega arith in e) ∙ slice_get-get_or all.series k a w ∙ ap Some e in
    at.none (k + 1) a (omega arith) (omega (arith, w, past)) there s c b is share

pub any_all : (all : Confirmed) (spans : List Span) (before : ℕ) (calendar : Confirmed) (old new : ℕ) → before ≤ length all.series → IsAnyAt all spans before calendar old new → IsEachClear all
    → IsFewMore old new (length all.series * (length spans * 3))
any_all all spans before calendar old new most at clear =
    few_most old new (before * (length spans * 3)) (length all.series * (length spans * 3)) (mul-le-mul_right (length spans * 3) most) (at.few clear)

-- ---- the singles themselves

pub record AreDrawnAt (all : Confirmed) (before : ℕ) (calendar : Confirmed) (items : List Span) (old new : ℕ) : Type 0 where
  pub same : calendar ≡ all
  pub spans : items ≡ map span_in (take before all.singles)
  pub count : IsMore old new before

abbrev span_from : ℤ → ℤ → Span
span_from x y = record { start = x; end = y }

pub singles_next : (all : Confirmed) (before : ℕ) (calendar calendar' : Confirmed) (spans : List Span) (old mid new : ℕ) (start end : ℤ) → before < length all.singles → AreDrawnAt all before calendar spans old mid
    → calendar' ≡ calendar → ((b : SaidInstance) → IsSingleAt all (before + 1) b → (start ≡ b.start) × (end ≡ b.end)) → new ≡ drawn_more mid 1
    → AreDrawnAt all (before + 1) calendar' (spans ++ (record { start = start; end = end }) ∷ []) old new
singles_next all before calendar calendar' spans old mid new start end w at same is counted =
    let (b, there) = some_single all.singles before w in
    let e : before + 1 - 1 ≡ before = omega arith in
    let s = is b (ap (slice_get all.singles) e ∙ there) in
    let c = at.count in
    record {
      same = same ∙ at.same;
      spans = ap (λ l. l ++ (record { start = start; end = end }) ∷ []) at.spans
          ∙ ap (λ x. map span_in (take before all.singles) ++ x ∷ []) (span_same start end b.start b.end s.0 s.1)
          ∙ sym (map-append span_in (take before all.singles) (b ∷ []))
          ∙ ap (λ x. map span_in (take before all.singles ++ x ∷ [])) (sym (get_or_from_slice_get all.singles before b b there))
          ∙ ap (map span_in) (sym (take_more all.singles before b w));
      count = omega (arith, c, counted);
    }
  where
    some_single : (xs : List SaidInstance) (k : ℕ) → k < length xs → (x : SaidInstance) × (slice_get xs k ≡ Some x)
    some_single [] k w = absurd (omega (arith, w))
    some_single (x ∷ xs) zero w = (x, refl)
    some_single (x ∷ xs) (suc k) w = some_single xs k (omega (arith, w))

    span_same : (a b c d : ℤ) → a ≡ c → b ≡ d → ◌≡◌ {A = Span} (record { start = a; end = b }) (record { start = c; end = d })
    span_same a b c d e f = ap (λ (x : ℤ). span_from x b) e ∙ ap (λ (y : ℤ). span_from c y) f

-- where no two spans share an instant, no two singles clash
pub singles_apart : (all : Confirmed) (spans : List Span) → spans ≡ map span_in all.singles → AreSpansApart spans → IsClear (Contains all.singles)
singles_apart all spans is apart a b t (i, w, e) (j, v, f) clash = elim (cases_order i j) [
  | inl same ↦
      clash.differ (ap (λ (x : SaidInstance). x.key) (sym e ∙ get_or_default all.singles i a b w ∙ ap (λ k. get_or all.singles k b) same ∙ f))
  | inr order ↦ apart i j t (record {
    first_in = omega (arith, w, long);
    second_in = omega (arith, v, long);
    differ = λ same. elim order [ inl l ↦ omega (arith, l, same) | inr l ↦ omega (arith, l, same) ];
    before = clash.before;
    in_first = subst (λ (s : Span). IsWithin s.start s.end t) (sym (at i a w e)) clash.in_first;
    in_second = subst (λ (s : Span). IsWithin s.start s.end t) (sym (at j b v f)) clash.in_second;
  })
]
  where
    long : length spans ≡ length all.singles
    long = ap length is ∙ length-map all.singles span_in

    at : (k : ℕ) (x : SaidInstance) → k < length all.singles → get_or all.singles k x ≡ x → span_at spans k ≡ span_in x
    at k x w e = ap (λ l. span_at l k) is ∙ get_or-map span_in all.singles k x (record { start = pos 0; end = pos 0 }) w ∙ ap span_in e

-- two that do clash
pub singles_overlap : (all : Confirmed) → HaveDifferentKeys all.singles → (spans : List Span) → spans ≡ map span_in all.singles → (o : Overlap) → IsOverlap spans o → HasClash (Contains all.singles) (IsOneOf all)
singles_overlap all keys spans is o h =
    let s = h.shared in
    let w : o.first < length all.singles = let l = s.first_in in omega (arith, l, long) in
    let v : o.second < length all.singles = let l = s.second_in in omega (arith, l, long) in
    let (a, e) = there all.singles o.first w in
    let (b, f) = there all.singles o.second v in
    record {
      a = a;
      b = b;
      t = o.instant;
      first = (o.first, w, e);
      second = inl (o.second, v, f);
      clash = record {
        differ = λ same. apart a b w v e f same s.differ;
        before = s.before;
        in_first = subst (λ (x : Span). IsWithin x.start x.end o.instant) (at o.first a w e) s.in_first;
        in_second = subst (λ (x : Span). IsWithin x.start x.end o.instant) (at o.second b v f) s.in_second;
      };
    }
  where
    long : length spans ≡ length all.singles
    long = ap length is ∙ length-map all.singles span_in

    at : (k : ℕ) (x : SaidInstance) → k < length all.singles → get_or all.singles k x ≡ x → span_at spans k ≡ span_in x
    at k x w e = ap (λ l. span_at l k) is ∙ get_or-map span_in all.singles k x (record { start = pos 0; end = pos 0 }) w ∙ ap span_in e

    there : (xs : List SaidInstance) (k : ℕ) → k < length xs → (x : SaidInstance) × (get_or xs k x ≡ x)
    there [] k w = absurd (omega (arith, w))
    there (x ∷ xs) zero w = (x, refl)
    there (x ∷ xs) (suc k) w = there xs k (omega (arith, w))

    apart : (a b : SaidInstance) → o.first < length all.singles → o.second < length all.singles → get_or all.singles o.first a ≡ a → get_or all.singles o.second b ≡ b → a.key ≡ b.key → o.first ≢ o.second → ⊥
    apart a b w v e f same differ = elim (cases_order o.first o.second) [
      | inl one ↦ differ one
      | inr order ↦ elim order [
        | inl lt ↦ keys o.first o.second a lt v (ap (λ (x : SaidInstance). x.key) e ∙ same ∙ sym (ap (λ (x : SaidInstance). x.key) (get_or_default all.singles o.second a b v ∙ f)))
        | inr lt ↦ keys o.second o.first b lt w (ap (λ (x : SaidInstance). x.key) f ∙ sym same ∙ sym (ap (λ (x : SaidInstance). x.key) (get_or_default all.singles o.first b a w ∙ e)))
      ]
    ]

-- ---- both

mapped : (xs : List SaidInstance) (x : SaidInstance) → Contains xs x → Contains (map span_in xs) (span_in x)
mapped xs x (k, w, e) = (k, let n = length-map xs span_in in omega (arith, w, n), get_or-map span_in xs k x (span_in x) w ∙ ap span_in e)

pub beside_judged : (all : Confirmed) → HaveOwnKeys all → (spans : List Span) → spans ≡ map span_in all.singles → IsClear (Contains all.singles) → (r : Bool)
    → MatchBool r (HaveSharers all spans) (HaveNoSharers all spans) → MatchBool r (HasClash (Contains all.singles) (IsOneOf all)) (AreClear (Contains all.singles) (IsOneOf all))
beside_judged all own spans is clear true (s, c, (b, of, share)) =
    let (a, single, same) = of_mapped span_in all.singles s (subst (λ l. Contains l s) is c) in
    record {
      a = a;
      b = b;
      t = share.instant;
      first = single;
      second = inr of;
      clash = record {
        differ = own.1 a b single of;
        before = share.before;
        in_first = subst (λ (x : Span). IsWithin x.start x.end share.instant) (sym same) share.in_second;
        in_second = share.in_first;
      };
    }
beside_judged all own spans is clear false none =
    singles_clear all clear (λ single c b of share. none (span_in single) (subst (λ l. Contains l (span_in single)) (sym is) (mapped all.singles single c)) b of share)

-- how many were drawn in all
each_times : (all : Confirmed) → singles_count all ≡ length all.singles * (length all.series * 3) + length all.singles
each_times all = one_more_times (length all.series * 3) (length all.singles) ∙ ap (λ n. n + length all.singles) (mul_comm (length all.series * 3) (length all.singles))

-- three for each series and each span, and for each span and each series
turned_times : (m n : ℕ) → m * (n * 3) ≡ n * (m * 3)
turned_times m n = sym (mul_assoc m n 3) ∙ ap (λ k. k * 3) (mul_comm m n) ∙ mul_assoc n m 3

pub singles_drawn : (all : Confirmed) (spans : List Span) → spans ≡ map span_in all.singles → (old mid new : ℕ) → IsMore old mid (length all.singles) → IsFewMore mid new (length all.series * (length spans * 3))
    → AreSinglesDrawn all old new
singles_drawn all spans is old mid new drawn (k, few, more) =
    let long : length spans ≡ length all.singles = ap length is ∙ length-map all.singles span_in in
    let most = turned_times (length all.series) (length spans) ∙ ap (λ n. n * (length all.series * 3)) long in
    let e = each_times all in
    (length all.singles + k, omega arith, omega (arith, few, most, e), omega (arith, drawn, more))

-- ---- where instances may start that aren't over by an instant

eq_by : (a b : ℤ) → a ≤ℤ b → b ≤ℤ a → a ≡ b
eq_by a b l m = omega (arith, ints, l, m)

saturated : (z : ℤ) → z ≤ℤ pos 9_223_372_036_854_775_807 → (saturate_signed w64 z ≡ z) ⊎ ((saturate_signed w64 z ≡ negsuc 9_223_372_036_854_775_807) × (z <ℤ negsuc 9_223_372_036_854_775_807))
saturated (pos n) h = inl (eq_by _ _ (omega (arith, ints, h)) (omega (arith, ints, h)))
saturated (negsuc n) h = elim (cases_lt n 9_223_372_036_854_775_808) [
  | inl below ↦ inl (eq_by _ _ (omega (arith, ints, below)) (omega (arith, ints, below)))
  | inr from ↦ inr (eq_by _ _ (omega (arith, ints, from)) (omega (arith, ints, from)), omega (arith, ints, from))
]

pub entry_is : (instant width entry : ℤ) → negsuc 9_223_372_036_854_775_807 ≤ℤ instant → instant ≤ℤ pos 9_223_372_036_854_775_807 → pos 0 <ℤ width → entry ≡ saturate_signed w64 (instant -ℤ (width -ℤ pos 1))
    → IsEntryInstant instant width entry
entry_is instant width entry least most some is =
    elim (saturated (instant -ℤ (width -ℤ pos 1)) (omega (arith, ints, most, some))) [
      | inl at ↦ record {
        before = omega (arith, ints, is, at, some);
        late = omega (arith, ints, is, at);
        early = λ start first less. omega (arith, ints, is, at, less);
      }
      | inr at ↦
          let e = at.0 in
          let l = at.1 in
          record {
            before = omega (arith, ints, is, e, least);
            late = omega (arith, ints, is, e, l);
            early = λ start first less. absurd (omega (arith, ints, is, e, first, less));
          }
    ]
