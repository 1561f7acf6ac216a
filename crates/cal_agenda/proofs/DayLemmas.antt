-- The days that a span touches, as they are found one after another.
use Rattle.std.proofs.Common.{◌≡◌, ℕ, ◌+◌, ◌-◌, ◌<◌, ◌≤◌, List, [], ◌∷◌, refl, sym, subst, inl, inr, arith, ℤ, pos, negsuc, ◌+ℤ◌, ◌≤ℤ◌, ◌<ℤ◌}
use Rattle.std.specs.Prelude.{Contains, AllPairs, ◌↔◌}
use Rattle.std.specs.Int.{int_max, int_min}
use Rattle.std.proofs.lemmas.Int.{ints, by_lt_z}
use Rattle.std.proofs.lemmas.List.Elements.{Contains-append_left, Contains-push, Contains-push_cases}
use Rattle.profile.specs.text.Values.{IsOffset}
use Rattle.profile.specs.series.Zones.{Zone, Means, IsBounds, local_time}
use Rattle.profile.specs.checker.Instances.{IsWithin}
use Rattle.profile.specs.checker.Agendas.{IsLocalDay}
use Rattle.cal_events.proofs.shared_lemmas.InOneOrder.{append_pairs}
use Rattle.cal_events.proofs.shared_lemmas.Overlaps.{later_of, earlier_of}
use Rattle.cal_agenda.specs.Pages.{PageDay, IsTouched, AreDays, IsWellWithin}
use Rattle.cal_agenda.specs.PageDays.{IsNear, AddsTouched}

-- ---- what a local time means is less than a day from the same reading in UTC

by_offset : (local t offset : ℤ) → IsOffset offset → t +ℤ offset ≡ local → IsNear local t
by_offset local t (pos n) o e = (omega (arith, ints, o, e), omega (arith, ints, o, e))
by_offset local t (negsuc n) o e = (omega (arith, ints, o, e), omega (arith, ints, o, e))

pub near_meaning : (zone : Zone) (least greatest local t : ℤ) → IsBounds zone least greatest → IsOffset least → IsOffset greatest → Means zone local t → IsNear local t
near_meaning zone least greatest local t bounds low high (inl first) =
    let (offset, at, e) = first.shown in
    by_offset local t offset (elim (bounds.one t offset at) [ inl f ↦ subst IsOffset (sym f) low | inr f ↦ subst IsOffset (sym f) high ]) e
near_meaning zone least greatest local t bounds low high (inr skipped) =
    by_offset local t skipped.onset.before (elim (bounds.sides skipped.onset skipped.listed) [ inl s ↦ subst IsOffset (sym s.0) low | inr s ↦ subst IsOffset (sym s.0) high ]) skipped.read

-- ---- a day and a span

pub touched_where : (from until start end : ℤ) (day : PageDay) → start ≡ int_max day.start from → end ≡ int_min day.end until → (start <ℤ end) ↔ IsTouched from until day
touched_where from until start end day starts ends =
    let l = later_of day.start from start starts in
    let e = earlier_of day.end until end ends in
    let own_start = l.0 in
    let own_end = e.0 in
    let its_start = l.1 in
    let its_end = e.1 in (
      (λ some. (start, (its_start, omega (arith, ints, some, its_end)), (own_start, omega (arith, ints, some, own_end)))),
      λ within.
          let t = within.0 in
          let low : start ≤ℤ t = elim l.2 [ inl same ↦ (let w = within.2.0 in omega (arith, ints, same, w)) | inr same ↦ (let w = within.1.0 in omega (arith, ints, same, w)) ] in
          let high : t <ℤ end = elim e.2 [ inl same ↦ (let w = within.2.1 in omega (arith, ints, same, w)) | inr same ↦ (let w = within.1.1 in omega (arith, ints, same, w)) ] in
          omega (arith, ints, low, high),
    )

-- ---- the days so far: those before an index, of which the day begins with an instant

pub record AreDaysSofar (zone : Zone) (from until : ℤ) (index : ℕ) (start : ℤ) (days : List PageDay) : Type 0 where
  pub begins : Means zone (local_time index 0) start
  pub near : IsNear (local_time index 0) start
  pub each : (day : PageDay) → Contains days day → IsLocalDay zone day.index day.start day.end × IsTouched from until day × (day.index < index)
  pub all : (t : ℤ) → IsWithin from until t → t <ℤ start → (day : PageDay) × Contains days day × IsWithin day.start day.end t
  pub ordered : AllPairs (λ a b. a.index < b.index) days

pub none_sofar : (zone : Zone) (from until : ℤ) (index : ℕ) (start : ℤ) → Means zone (local_time index 0) start → IsNear (local_time index 0) start → local_time (index + 1) 0 ≤ℤ from
    → AreDaysSofar zone from until index start []
none_sofar zone from until index start begins near early = record {
  begins = begins;
  near = near;
  each = λ day c. let w = c.1 in absurd (omega (arith, w));
  all = λ t within below. let high = near.1 in let low = within.0 in absurd (omega (arith, ints, early, high, low, below));
  ordered = λ i j d less w. absurd (omega (arith, w));
}

module _ (zone : Zone) (from until : ℤ) where
  pub one_more_day : (index : ℕ) (start end : ℤ) (old new : List PageDay) → AreDaysSofar zone from until index start old → Means zone (local_time (index + 1) 0) end → IsNear (local_time (index + 1) 0) end
      → AddsTouched from until (record { index = index; start = start; end = end }) old new → AreDaysSofar zone from until (index + 1) end new
  one_more_day index start end old new sofar means near (inl (e, touched)) =
      let day : PageDay = record { index = index; start = start; end = end } in
      subst (AreDaysSofar zone from until (index + 1) end) (sym e) (record {
        begins = means;
        near = near;
        each = λ d c. elim (Contains-push_cases old day d c) [
          | inl among ↦ let (local, shares, less) = sofar.each d among in (local, shares, omega (arith, less))
          | inr same ↦ subst (λ (x : PageDay). IsLocalDay zone x.index x.start x.end × IsTouched from until x × (x.index < index + 1)) same (record { begins = sofar.begins; ends = means }, touched, omega arith)
        ];
        all = λ t within below. by_lt_z t start
            (λ before. let (d, among, its) = sofar.all t within before in (d, Contains-append_left old (day ∷ []) d among, its))
            (λ behind. (day, Contains-push old day, (behind, below)));
        ordered = append_pairs (λ (a b : PageDay). a.index < b.index) old (day ∷ []) sofar.ordered (λ i j d less w. absurd (omega (arith, less, w)))
            (λ a b among last. elim (Contains-push_cases [] day b last) [
              | inl none ↦ (let w = none.1 in absurd (omega (arith, w)))
              | inr same ↦ subst (λ (x : PageDay). a.index < x.index) same (sofar.each a among).2
            ]);
      })
  one_more_day index start end old new sofar means near (inr (e, untouched)) =
      subst (AreDaysSofar zone from until (index + 1) end) (sym e) (record {
        begins = means;
        near = near;
        each = λ d c. let (local, shares, less) = sofar.each d c in (local, shares, omega (arith, less));
        all = λ t within below. by_lt_z t start (sofar.all t within) (λ behind. absurd (untouched (t, within, (behind, below))));
        ordered = sofar.ordered;
      })

  pub all_days : (index : ℕ) (start : ℤ) (days : List PageDay) → AreDaysSofar zone from until index start days → until ≤ℤ start → AreDays zone from until days
  all_days index start days sofar over = record {
    each = λ d c. let (local, shares, less) = sofar.each d c in (local, shares);
    all = λ t within. let high = within.1 in sofar.all t within (omega (arith, ints, high, over));
    ordered = sofar.ordered;
  }

-- ---- far from the ends of all years

pub well_within : (start end t m : ℤ) → IsWellWithin start → IsWellWithin end → m ≡ int_max start (int_min t end) → IsWellWithin m
well_within start end t m s e is =
    let l = later_of start (int_min t end) m is in
    let most = (earlier_of t end (int_min t end) refl).1 in
    let low = l.0 in
    let first = s.0 in
    (omega (arith, ints, low, first), elim l.2 [ inl same ↦ (let high = s.1 in omega (arith, ints, same, high)) | inr same ↦ (let high = e.1 in omega (arith, ints, same, most, high)) ])

-- an instant that is near to the beginning of a day of those years
pub near_within : (index : ℕ) (t : ℤ) → 368 ≤ index → index ≤ 3_652_423 → IsNear (local_time index 0) t → IsWellWithin t
near_within index t low high near = let a = near.0 in let b = near.1 in (omega (arith, ints, low, a), omega (arith, ints, high, b))

-- ---- which days are looked at, for a span of the years 2 to 9998

pub first_from : (from : ℤ) (day : ℕ) → negsuc 62_104_060_799 ≤ℤ from → from <ℤ local_time (day + 1) 0 → 731 ≤ day
first_from from day early below = omega (arith, ints, early, below)

pub last_to : (until : ℤ) (day : ℕ) → local_time day 0 ≤ℤ until → until ≤ℤ pos 253_370_764_800 → day ≤ 3_652_060
last_to until day above late = omega (arith, ints, above, late)

pub before_first : (from : ℤ) (day : ℕ) → 731 ≤ day → local_time day 0 ≤ℤ from → local_time (day - 1 + 1) 0 ≤ℤ from
before_first from day low above = let same : day - 1 + 1 ≡ day = omega (arith, low) in rw same above

-- where the day two later begins, a span that ends on a day is over
pub over : (until start : ℤ) (day index : ℕ) → until <ℤ local_time (day + 1) 0 → day + 2 ≤ index → IsNear (local_time index 0) start → until ≤ℤ start
over until start day index below behind near = let low = near.0 in omega (arith, ints, below, behind, low)
