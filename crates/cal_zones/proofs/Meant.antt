-- At each instant an offset is in force, so each local time means an instant; and where it can mean no other than one, it means that one.
use Rattle.std.proofs.Common.{◌≡◌, ◌∙◌, sym, refl, inl, inr, ◌⊎◌, ℕ, zero, suc, ◌+◌, ◌-◌, ◌*◌, ◌/◌, ◌%◌, ◌<◌, ◌≤◌, Bool, true, false, ◌==◌, Option, Some, None, arith, ℤ, pos, negsuc, ◌+ℤ◌, ◌-ℤ◌}
use Rattle.std.proofs.lemmas.Int.{by_lt_z}
use Rattle.std.proofs.lemmas.Bool.{cases_Bool, cases_order, eq-eqb, true≢false}
use Rattle.std.proofs.lemmas.Bool.Decides.{nat_tests}
use Rattle.std.specs.Int.Signed.{◌<ℤ◌}
use Rattle.jiff_core.proofs.SignedLemmas.{signed_arith}
use Rattle.profile.specs.series.Days.{year_of, days_before, days_in_month}
use Rattle.profile.specs.series.Zones.{IsOnset, IsLatest, IsFirstOf, NoneBegun, IsOffsetAt, Means, begins_on, onset_at, local_time}
use Rattle.cal_zones.specs.Shapes.{occurs_yearly, IsPlaceInMonth}
use Rattle.cal_zones.specs.Yearly.{IsDayOfYear}
use Rattle.cal_zones.specs.Onsets.{observance_of}
use Rattle.cal_zones.specs.Kinds.{AreEnds, IsOrdered, zone_of_form, zone_of}
use Rattle.cal_zones.specs.declared.yearly.MonthDays.{MonthDays}
use Rattle.cal_zones.specs.declared.yearly.MonthDays.TheVariants.{Day, FromStart, FromEnd, Week}
use Rattle.cal_zones.specs.declared.yearly.Yearly.{Yearly}
use Rattle.cal_zones.specs.declared.observance.Observance.{Observance}
use Rattle.cal_zones.specs.declared.zone.Form as rust
use Rattle.cal_zones.specs.declared.zone.Form.TheVariants as the
use Rattle.cal_zones.specs.declared.zone.Zone as kept
use Rattle.cal_zones.proofs.OneDay.{placed_in, month_least, year_earlier}
use Rattle.cal_zones.proofs.Onsets.{begins_back, first_of}
use Rattle.cal_zones.proofs.Once.{once}
use Rattle.cal_zones.proofs.Zones.{single_since, single_until, left_alone, right_alone, left_later, right_later, left_first, right_first, sides_of, means_early, means_late}

-- ---- each year has a day of the rule

weekday_there : (first least weekday : ℕ) → weekday < 7 → (b : ℕ) × (least ≤ b) × (b < least + 7) × ((first + b + 5) % 7 ≡ weekday)
weekday_there first least weekday h =
    let b = least + (weekday + 7 - (first + least + 5) % 7) % 7 in
    (b, omega arith, omega arith, omega arith)

place_there : (month : ℕ) (days : MonthDays) (first length : ℕ) → occurs_yearly month days ≡ true → 28 ≤ length → (b : ℕ) × IsPlaceInMonth days first length b
place_there month (Day d) first length h long = (d - 1, grind (arith, nat_tests))
place_there month (FromStart k w) first length h long =
    let there = weekday_there first (7 * (k - 1)) w (grind (arith, nat_tests)) in
    let some : 1 ≤ k = grind (arith, nat_tests) in
    (there.0, (there.3, there.1, omega (arith, there.2)))
place_there month (FromEnd k w) first length h long =
    let there = weekday_there first (length - 7 * k) w (grind (arith, nat_tests)) in
    let some : 1 ≤ k = grind (arith, nat_tests) in
    let few : k ≤ 4 = grind (arith, nat_tests) in
    (there.0, (there.3, omega (arith, there.1, there.2), omega (arith, there.1, there.2), omega (arith, there.1, there.2)))
place_there month (Week d w) first length h long =
    let there = weekday_there first (d - 1) w (grind (arith, nat_tests)) in
    let some : 1 ≤ d = grind (arith, nat_tests) in
    (there.0, (there.3, omega (arith, there.1), omega (arith, there.2)))

day_there : (r : Yearly) (year : ℕ) → (day : ℕ) × IsDayOfYear r year day
day_there r year =
    let index = days_before year r.month 1 in
    let length = days_in_month year r.month in
    let found = place_there r.month r.days index length r.yearly (month_least year r.month).0 in
    (index + found.0, placed_in r year index length found.0 refl refl found.1)

-- ---- the latest number up to one at which a test holds, and the first of all

pub record IsLastTo (p : ℕ → Bool) (n d : ℕ) : Type 0 where
  pub holds : p d ≡ true
  pub within : d ≤ n
  pub last : (e : ℕ) → p e ≡ true → e ≤ n → e ≤ d

abbrev HoldsNone : (ℕ → Bool) → ℕ → Type 0
HoldsNone p n = (e : ℕ) → p e ≡ true → e ≤ n → ⊥

here : (p : ℕ → Bool) (n : ℕ) → p n ≡ true → IsLastTo p n n
here p n h = record { holds = h; within = omega arith; last = λ e x w. w }

more : (p : ℕ → Bool) (n d : ℕ) → p (suc n) ≡ false → IsLastTo p n d → IsLastTo p (suc n) d
more p n d not_here h = record {
  holds = h.holds;
  within = omega (arith, h.within);
  last = λ e x w.
      elim (cases_order e (suc n)) [
        | inl same ↦ absurd (true≢false (sym (rw same at x) ∙ not_here))
        | inr (inl less) ↦ h.last e x (omega arith)
        | inr (inr past) ↦ absurd (omega arith)
      ];
}

none_more : (p : ℕ → Bool) (n : ℕ) → p (suc n) ≡ false → HoldsNone p n → HoldsNone p (suc n)
none_more p n not_here none e x w =
    elim (cases_order e (suc n)) [
      | inl same ↦ true≢false (sym (rw same at x) ∙ not_here)
      | inr (inl less) ↦ none e x (omega arith)
      | inr (inr past) ↦ absurd (omega arith)
    ]

none_at_0 : (p : ℕ → Bool) → p 0 ≡ false → HoldsNone p 0
none_at_0 p not_here e x w = let same : e ≡ 0 = omega arith in true≢false (sym (rw same at x) ∙ not_here)

last_to : (p : ℕ → Bool) (n : ℕ) → ((d : ℕ) × IsLastTo p n d) ⊎ HoldsNone p n
last_to p zero = elim (cases_Bool (p 0)) [ inl holds ↦ inl (0, here p 0 holds) | inr not_here ↦ inr (none_at_0 p not_here) ]
last_to p (suc n) =
    elim (cases_Bool (p (suc n))) [
      | inl holds ↦ inl (suc n, here p (suc n) holds)
      | inr not_here ↦ elim (last_to p n) [ inl found ↦ inl (found.0, more p n found.0 not_here found.1) | inr none ↦ inr (none_more p n not_here none) ]
    ]

-- by how many numbers are left to look at
first_from : (p : ℕ → Bool) (from left : ℕ) → p (from + left) ≡ true → ((e : ℕ) → p e ≡ true → from ≤ e) → (d : ℕ) × (p d ≡ true) × ((e : ℕ) → p e ≡ true → d ≤ e)
first_from p from zero h before = let end : from + 0 ≡ from = omega arith in (from, rw end at h, before)
first_from p from (suc left) h before =
    elim (cases_Bool (p from)) [
      | inl holds ↦ (from, holds, before)
      | inr not_here ↦
          let end : from + suc left ≡ suc from + left = omega arith in
          first_from p (suc from) left (rw end at h) (λ e x.
          elim (cases_order e from) [
            | inl same ↦ absurd (true≢false (sym (rw same at x) ∙ not_here))
            | inr (inl less) ↦ absurd (omega (arith, before e x))
            | inr (inr past) ↦ omega arith
          ])
    ]

-- ---- an observance has a first onset, and has begun or not

begins_there : (o : Observance) (rule : Option Yearly) → o.rule ≡ rule → (day : ℕ) × (begins_on (observance_of o) day ≡ true)
begins_there o None e = (o.day, let t : (o.day == o.day) ≡ true = eq-eqb o.day o.day refl in rw e t)
begins_there o (Some r) e =
    let there = day_there r (suc (year_of o.day)) in
    let later : o.day < there.0 = year_earlier o.day there.0 (omega (arith, there.1.in_year)) in
    (there.0, begins_back o r there.0 e (omega arith) there.1.on)

first_there : (o : Observance) → (x : ℤ) × IsFirstOf (observance_of o) x
first_there o =
    let some = begins_there o o.rule refl in
    let found = first_from (begins_on (observance_of o)) 0 some.0 (let e : 0 + some.0 ≡ some.0 = omega arith in rw e some.1) (λ e x. omega arith) in
    let x : ℤ = local_time found.0 o.second -ℤ o.offset_from in
    (x, first_of o found.0 x (record { begins = found.1; least = found.2 }) (omega (arith, signed_arith)))

abbrev BegunOrNot : Observance → ℤ → Type 0
BegunOrNot o t = NoneBegun (observance_of o) t ⊎ ((x : ℤ) × IsLatest (IsOnset (observance_of o)) t (onset_at (observance_of o) x))

none_begun : (o : Observance) (t : ℤ) → ((day : ℕ) → begins_on (observance_of o) day ≡ true → (t +ℤ o.offset_from) <ℤ local_time day o.second) → NoneBegun (observance_of o) t
none_begun o t none =
    let first = first_there o in
    (first.0, first.1, omega (arith, signed_arith, first.1.listed.read, none first.1.listed.day first.1.listed.begins))

latest_begun : (o : Observance) (t : ℤ) (days left day : ℕ) → left < 86_400 → (t +ℤ o.offset_from) ≡ local_time days (o.second + left) → IsLastTo (begins_on (observance_of o)) days day → BegunOrNot o t
latest_begun o t days left day small e h =
    let x : ℤ = local_time day o.second -ℤ o.offset_from in
    inr (
      x,
      record {
        listed = record { day = day; begins = h.holds; read = omega (arith, signed_arith); before = refl; after = refl };
        begun = omega (arith, signed_arith, h.within);
        latest = λ other l w. omega (arith, signed_arith, l.read, h.last l.day l.begins (omega (arith, signed_arith, l.read)));
      },
    )

begun_by : (o : Observance) (t since : ℤ) → (t +ℤ o.offset_from) ≡ local_time 0 o.second +ℤ since → BegunOrNot o t
begun_by o t (negsuc n) e = inl (none_begun o t (λ day b. omega (arith, signed_arith)))
begun_by o t (pos n) e =
    elim (last_to (begins_on (observance_of o)) (n / 86_400)) [
      | inl found ↦ latest_begun o t (n / 86_400) (n % 86_400) found.0 (omega arith) (omega (arith, signed_arith)) found.1
      | inr none ↦ inl (none_begun o t (λ day b.
          elim (cases_order day (n / 86_400)) [
            | inl same ↦ absurd (none day b (omega arith))
            | inr (inl less) ↦ absurd (none day b (omega arith))
            | inr (inr past) ↦ omega (arith, signed_arith)
          ]))
    ]

begun : (o : Observance) (t : ℤ) → BegunOrNot o t
begun o t = begun_by o t ((t +ℤ o.offset_from) -ℤ local_time 0 o.second) (omega (arith, signed_arith))

-- ---- an offset is in force, and a local time means an instant

pub in_force : (k : rust.Form) (t : ℤ) → (offset : ℤ) × IsOffsetAt (zone_of_form k) t offset
in_force (the.Constant f) t = (f.offset, refl)
in_force (the.Single a) t =
    let o = a.observance in
    elim (begun o t) [
      | inl none ↦ (o.offset_from, single_until (observance_of o) t none)
      | inr latest ↦ (o.offset_to, single_since (observance_of o) t latest.0 latest.1)
    ]
in_force (the.Pair p) t =
    let a = observance_of p.standard in
    let b = observance_of p.daylight in
    elim (begun p.standard t) [
      | inl none ↦
          elim (begun p.daylight t) [
            | inl neither ↦
                let x = first_there p.standard in
                let y = first_there p.daylight in
                by_lt_z x.0 y.0
                (λ lt. (a.offset_from, left_first a b t x.0 y.0 x.1 y.1 none (omega (arith, signed_arith))))
                (λ ge. (b.offset_from, right_first a b t x.0 y.0 x.1 y.1 neither ge))
            | inr y ↦ (b.offset_to, right_alone a b t y.0 y.1 none)
          ]
      | inr x ↦
          elim (begun p.daylight t) [
            | inl none ↦ (a.offset_to, left_alone a b t x.0 x.1 none)
            | inr y ↦
                by_lt_z x.0 y.0
                (λ lt. (b.offset_to, right_later a b t x.0 y.0 x.1 y.1 (omega (arith, signed_arith))))
                (λ ge. (a.offset_to, left_later a b t x.0 y.0 x.1 y.1 ge))
          ]
    ]

ordered : (from to : ℤ) → (least : ℤ) × (greatest : ℤ) × IsOrdered from to least greatest
ordered from to =
    by_lt_z from to
    (λ lt. (from, to, inl (refl, refl, omega (arith, signed_arith))))
    (λ ge. (to, from, inr (refl, refl, ge)))

ends_there : (k : rust.Form) → (least : ℤ) × (greatest : ℤ) × AreEnds (zone_of_form k) least greatest
ends_there (the.Constant f) = (f.offset, f.offset, (refl, refl))
ends_there (the.Single a) = ordered a.observance.offset_from a.observance.offset_to
ends_there (the.Pair p) = let o = ordered p.standard.offset_from p.standard.offset_to in (o.0, o.1, (o.2, p.there, p.back))

-- each local time means an instant
pub meant : (z : kept.Zone) (local : ℤ) → (t : ℤ) × Means (zone_of z) local t
meant z local =
    let ends = ends_there z.kind in
    let least = ends.0 in
    let greatest = ends.1 in
    let sides = sides_of (zone_of z) least greatest ends.2 in
    let early = local -ℤ greatest in
    let late = local -ℤ least in
    let first = in_force z.kind early in
    let second = in_force z.kind late in
    let sum : early +ℤ greatest ≡ local = omega (arith, signed_arith) in
    let sum_late : late +ℤ least ≡ local = omega (arith, signed_arith) in
    by_lt_z first.0 greatest
    (λ lt. (late, means_late (zone_of z) least greatest local early late first.0 second.0 (once z) sides sum sum_late first.1 (λ e. omega (arith, signed_arith)) second.1))
    (λ ge.
    let high : first.0 ≡ greatest = elim (sides.one early first.0 first.1) [ inl x ↦ omega (arith, signed_arith, sides.ordered) | inr x ↦ x ] in
    (early, means_early (zone_of z) least greatest local early sides sum (rw high at first.1)))

-- so what is known of each instant that it means is known of one
pub meant_alone : (z : kept.Zone) (local t : ℤ) → ((u : ℤ) → Means (zone_of z) local u → u ≡ t) → Means (zone_of z) local t
meant_alone z local t only = let found = meant z local in rw (only found.0 found.1) at found.1
