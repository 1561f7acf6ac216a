-- Days that the form of a rule allows, residues and arcs of them, of a series that is an hour long each Monday at 09:00 in UTC.
use Rattle.std.proofs.Common.{◌≡◌, refl, arith, [], ℤ, pos, ◌+ℤ◌, ◌≤ℤ◌, ◌<ℤ◌, true, false}
use Rattle.std.proofs.lemmas.Int.{ints}
use Rattle.profile.specs.series.Rules.{Pattern, is_in_step}
use Rattle.profile.specs.series.Days.{Daily, period_of, weekday_of}
use Rattle.profile.specs.series.Repeating.{ArcsMeet, IsCongruent}
use Rattle.profile.specs.series.Residues.{IsStride, is_in_form}
use Rattle.profile.specs.events.Residues.{IsResidue}
use Rattle.profile.proofs.SpanExamples.{mondays, each_monday, master, series}

-- ---- the form

-- Monday 2025-01-06 and the Monday before and after are days that it allows, also before DTSTART; Tuesday isn't
each_monday_allowed : (is_in_form mondays 739_622 ≡ true) × (is_in_form mondays 739_615 ≡ true) × (is_in_form mondays 739_629 ≡ true)
unfolding is_in_form is_in_step period_of weekday_of
each_monday_allowed = (refl, refl, refl)

tuesday_not_allowed : is_in_form mondays 739_623 ≡ false
unfolding is_in_form is_in_step period_of weekday_of
tuesday_not_allowed = refl

-- every second day from 2025-01-01 on
abbrev second_days : Pattern
second_days = record { frequency = Daily; interval = 2; week_start = 0; months = []; month_days = []; weekdays = []; positions = []; start = 739_617 }

every_second_day : (is_in_form second_days 739_617 ≡ true) × (is_in_form second_days 739_618 ≡ false) × (is_in_form second_days 739_619 ≡ true)
unfolding is_in_form is_in_step period_of weekday_of
every_second_day = (refl, refl, refl)

-- a week later it allows the same days
a_week : IsStride mondays 7
a_week = record { steps = (1, refl); weeks = λ missing. (1, refl) }

-- ---- residues

-- 1970-01-01 was a Thursday, and Monday at 09:00 is 4 days and 9 hours past the beginning of a week from there
monday_at_nine : IsResidue series 604_800 378_000
monday_at_nine = record {
  below = omega arith;
  master = master;
  is = refl;
  rule = each_monday;
  recurs = refl;
  first = 739_622;
  second = 32_400;
  on = (omega arith, refl);
  day = 739_622;
  in_form = each_monday_allowed.0;
  offset = pos 0;
  of_zone = refl;
  same = (0, 2_870, refl);
}

-- ---- arcs

-- two hours from 23:00 on reach the first half hour of a day
around_midnight : ArcsMeet 86_400 82_800 (pos 7_200) 0 (pos 1_800)
around_midnight = record { i = pos 3_600; j = pos 0; in_first = (omega (arith, ints), omega (arith, ints)); in_second = (omega (arith, ints), omega (arith, ints)); same = (0, 1, refl) }

-- an end isn't in its arc: an hour from 00:00 on, and an hour from 01:00 on
one_after_the_other : ArcsMeet 86_400 0 (pos 3_600) 3_600 (pos 3_600) → ⊥
one_after_the_other m = one m.same m.in_first m.in_second
  where
    one : {i j : ℤ} → IsCongruent 86_400 (pos 0 +ℤ i) (pos 3_600 +ℤ j) → (pos 0 ≤ℤ i) × (i <ℤ pos 3_600) → (pos 0 ≤ℤ j) × (j <ℤ pos 3_600) → ⊥
    one same first second =
        let k = same.0 in
        let l = same.1 in
        let e = same.2 in
        let first0 = first.0 in
        let first1 = first.1 in
        let second0 = second.0 in
        let second1 = second.1 in
        omega (arith, ints, e, first0, first1, second0, second1)

-- what has no length meets nothing
nothing_meets : ArcsMeet 86_400 0 (pos 0) 0 (pos 86_400) → ⊥
nothing_meets m =
    let first0 = m.in_first.0 in
    let first1 = m.in_first.1 in
    omega (arith, ints, first0, first1)
