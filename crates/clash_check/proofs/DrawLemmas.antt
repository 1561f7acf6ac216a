-- What is to come of the series of a calendar, before and after a draw.
use Rattle.std.proofs.Common.{◌≡◌, ◌≢◌, ◌∙◌, sym, ap, subst, inl, inr, arith, ℕ, ◌-◌, ◌<◌, List, [], map, length, set, get_or, ℤ, pos, ◌+ℤ◌, ◌≤ℤ◌, ◌<ℤ◌}
use Rattle.std.specs.Prelude.{Option, Some, None, MatchOption, ◌↔◌, Contains}
use Rattle.std.specs.List.{slice_get}
use Rattle.std.proofs.lemmas.Bool.{cases_lt, cases_eq}
use Rattle.std.proofs.lemmas.Int.{ints}
use Rattle.std.proofs.lemmas.List.{length-map, length-set, get_or-set_same, get_or-set_other}
use Rattle.std.proofs.lemmas.Option.{same_Some, slice_get-get_or, slice_get_past}
use Rattle.profile.specs.checker.Certificates.{IsSeriesAt}
use Rattle.profile.specs.events.Events.{Event}
use Rattle.profile.specs.events.Confirmed.{Confirmed}
use Rattle.cal_events.specs.Series.{series_said}
use Rattle.cal_events.specs.declared.series.Series.{Series}
use Rattle.clash_check.proofs.OpenLemmas.{at_place}
use Rattle.clash_check.specs.Draws.{IsPlaceIn, IsSpanBetween}
use Rattle.clash_check.specs.Opened.{IsFirstSpanFrom, IsFirstBetween}
use Rattle.clash_check.specs.Drawings.{IsComing}
use Rattle.clash_check.specs.declared.drawing.Wanted.{Wanted}
use Rattle.clash_check.specs.declared.open_series.OpenSeries.{OpenSeries}

-- ---- the list of what is wanted

same_place : (ws : List Wanted) (i : ℕ) (w : Wanted) → i < length ws → slice_get (set ws i w) i ≡ Some w
same_place ws i w within =
    let long = length-set ws i w in
    slice_get-get_or (set ws i w) i w (omega (arith, long, within)) ∙ ap Some (get_or-set_same ws i w w within)

other_place : (ws : List Wanted) (i j : ℕ) (w : Wanted) → j ≢ i → slice_get (set ws i w) j ≡ slice_get ws j
other_place ws i j w differ =
    let long = length-set ws i w in
    elim (cases_lt j (length ws)) [
      | inl less ↦ slice_get-get_or (set ws i w) j w (omega (arith, long, less)) ∙ ap Some (get_or-set_other ws i j w w differ) ∙ sym (slice_get-get_or ws j w less)
      | inr past ↦ slice_get_past (set ws i w) j (omega (arith, long, past)) ∙ sym (slice_get_past ws j past)
    ]

-- something is wanted of each series
pub part_at : (ws : List Wanted) (i : ℕ) → i < length ws → (part : Wanted) × (slice_get ws i ≡ Some part)
part_at ws i within = let none : Wanted = record { from = pos 0; bound = pos 0 } in (_, slice_get-get_or ws i none within)

-- ---- what comes

-- what is wanted of a series
pub coming : (all : Confirmed) (ws : List Wanted) (i : ℕ) (series : Event) (part : Wanted) → 0 < i → slice_get all.series (i - 1) ≡ Some series → slice_get ws (i - 1) ≡ Some part
    → (start end : ℤ) → IsComing all ws i start end ↔ IsSpanBetween series part.from part.bound start end
coming all ws i series part counted at wants start end = (
  λ c. subst (λ (m : Event). IsSpanBetween m part.from part.bound start end) (same_Some c.series series (sym c.at ∙ at))
      (subst (λ (w : Wanted). IsSpanBetween c.series w.from w.bound start end) (same_Some c.part part (sym c.wants ∙ wants)) c.is),
  λ is. record { counted = counted; series = series; at = at; part = part; wants = wants; is = is },
)

-- what is now wanted of a series
pub begun : (all : Confirmed) (ws : List Wanted) (i : ℕ) (w : Wanted) → IsPlaceIn (length all.series) i → length ws ≡ length all.series → (series : Event) → IsSeriesAt all i series
    → (start end : ℤ) → IsComing all (set ws (i - 1) w) i start end ↔ IsSpanBetween series w.from w.bound start end
begun all ws i w place count series at =
    let some = place.0 in
    let most = place.1 in
    coming all (set ws (i - 1) w) i series w some at (same_place ws (i - 1) w (omega (arith, some, most, count)))

-- of the others what was
pub others : (all : Confirmed) (ws : List Wanted) (i : ℕ) (w : Wanted) → 0 < i → (j : ℕ) → j ≢ i → (start end : ℤ) → IsComing all (set ws (i - 1) w) j start end ↔ IsComing all ws j start end
others all ws i w some j differ start end = (
  λ c. let counted = c.counted in
      record {
        counted = c.counted;
        series = c.series;
        at = c.at;
        part = c.part;
        wants = sym (other_place ws (i - 1) (j - 1) w (λ e. differ (omega (arith, e, some, counted)))) ∙ c.wants;
        is = c.is;
      },
  λ c. let counted = c.counted in
      record {
        counted = c.counted;
        series = c.series;
        at = c.at;
        part = c.part;
        wants = other_place ws (i - 1) (j - 1) w (λ e. differ (omega (arith, e, some, counted))) ∙ c.wants;
        is = c.is;
      },
)

-- ---- a draw

-- the first from an instant on, where it starts before a bound
pub first_before : (series : Event) (from bound start end : ℤ) → IsFirstSpanFrom series from (Some (start, end)) → start <ℤ bound → IsFirstBetween series from bound (Some (start, end))
first_before series from bound start end first less = (
  (first.0, first.1, less),
  λ s e is.
      let of = is.0 in
      let at = is.1 in
      let b = of.0 in
      let starts = of.2 in
      let l = first.2 b of.1 (omega (arith, ints, at, starts)) in
      omega (arith, ints, l, starts),
)

pub none_at_all : (series : Event) (from bound : ℤ) → IsFirstSpanFrom series from None → IsFirstBetween series from bound None
none_at_all series from bound none s e is =
    let of = is.0 in
    let at = is.1 in
    let starts = of.2 in
    none of.0 of.1 (omega (arith, ints, at, starts))

-- the first of what comes
module _ (all : Confirmed) (ws : List Wanted) (i : ℕ) (series : Event) (part : Wanted) (counted : 0 < i) (at : slice_get all.series (i - 1) ≡ Some series) (wants : slice_get ws (i - 1) ≡ Some part) where
  pub drawn_first : (found : Option (ℤ × ℤ)) → IsFirstBetween series part.from part.bound found
      → MatchOption found ((start end : ℤ) → IsComing all ws i start end → ⊥) (λ p. IsComing all ws i p.0 p.1 × ((start end : ℤ) → IsComing all ws i start end → p.0 ≤ℤ start))
  drawn_first None none = λ start end c. none start end ((coming all ws i series part counted at wants start end).0 c)
  drawn_first (Some p) first = (
    (coming all ws i series part counted at wants p.0 p.1).1 first.0,
    λ start end c. first.1 start end ((coming all ws i series part counted at wants start end).0 c),
  )

  -- those that start later still come
  pub later : (within : (i - 1) < length ws) (first last : ℤ) → IsFirstBetween series part.from part.bound (Some (first, last)) → (start end : ℤ)
      → IsComing all (set ws (i - 1) (record { from = first +ℤ pos 1; bound = part.bound })) i start end ↔ (IsComing all ws i start end × (first <ℤ start))
  later within first last is start end =
      let w : Wanted = record { from = first +ℤ pos 1; bound = part.bound } in
      let now = coming all (set ws (i - 1) w) i series w counted at (same_place ws (i - 1) w within) start end in
      let before = coming all ws i series part counted at wants start end in
      let from = is.0.1 in (
        λ c.
            let k = now.0 c in
            let l = k.1 in
            (before.1 (k.0, omega (arith, ints, l, from), k.2), omega (arith, ints, l)),
        λ c.
            let k = before.0 c.0 in
            let l = c.1 in
            now.1 (k.0, omega (arith, ints, l), k.2),
      )

-- ---- the series of a calendar

-- the one at a place
pub there : (xs : List Series) (all : List Event) (number place : ℕ) (s : Series) (series : Event) → map series_said xs ≡ all → place ≡ number - 1 → IsPlaceIn (length all) number
    → s ≡ get_or xs place s → slice_get all (number - 1) ≡ Some series → series_said s ≡ series
there xs all number place s series are at counted is has =
    let long = length-map xs series_said in
    let count = ap length are in
    let some = counted.0 in
    let most = counted.1 in
    same_Some (series_said s) series (sym (at_place xs all place s are (omega (arith, long, count, at, some, most)) is) ∙ ap (λ i. slice_get all i) at ∙ has)

-- there is one at each place
pub series_at : (all : List Event) (i : ℕ) → IsPlaceIn (length all) i → (series : Event) × (slice_get all (i - 1) ≡ Some series)
series_at all i counted =
    let some = counted.0 in
    let most = counted.1 in
    let none : Event = record { master = None; overrides = [] } in
    (_, slice_get-get_or all (i - 1) none (omega (arith, some, most)))

-- what is wanted there
pub wanted_at : (ws : List Wanted) (series : List Event) (i place : ℕ) (part : Wanted) → length ws ≡ length series → IsPlaceIn (length series) i → place ≡ i - 1 → part ≡ get_or ws place part
    → slice_get ws (i - 1) ≡ Some part
wanted_at ws series i place part count counted at is =
    let some = counted.0 in
    let most = counted.1 in
    ap (slice_get ws) (sym at) ∙ slice_get-get_or ws place part (omega (arith, count, at, some, most)) ∙ ap Some (sym is)

-- ---- the series that are open

-- the one at a place is among them
pub opened_at : (opened : List OpenSeries) (series : List Event) (i place : ℕ) (one : OpenSeries) → length opened ≡ length series → IsPlaceIn (length series) i → place ≡ i - 1 → one ≡ get_or opened place one
    → Contains opened one
opened_at opened series i place one count counted at is =
    let some = counted.0 in
    let most = counted.1 in
    (place, omega (arith, count, at, some, most), sym is)

-- and all of them stay of the calendar where that one does
pub still_same : (all : Confirmed) (opened : List OpenSeries) (place : ℕ) (one : OpenSeries) → ((other : OpenSeries) → Contains opened other → other.calendar.now ≡ all) → one.calendar.now ≡ all
    → (other : OpenSeries) → Contains (set opened place one) other → other.calendar.now ≡ all
still_same all opened place one same own other (k, w, e) =
    let long = length-set opened place one in
    let within : k < length opened = omega (arith, w, long) in
    elim (cases_eq k place) [
      | inl at ↦
          let is : one ≡ other = sym (get_or-set_same opened place one other (omega (arith, within, at))) ∙ ap (λ n. get_or (set opened place one) n other) (sym at) ∙ e in
          subst (λ (o : OpenSeries). o.calendar.now ≡ all) is own
      | inr differ ↦ same other (k, within, sym (get_or-set_other opened place k one other differ) ∙ e)
    ]
