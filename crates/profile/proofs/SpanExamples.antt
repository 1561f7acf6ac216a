-- From when on series do the same again, and after how many days, of one that is an hour long each Monday at 09:00 in UTC, and of a zone whose
-- clocks are set back once.
use Rattle.std.proofs.Common.{◌≡◌, refl, arith, ℕ, ◌*◌, ℤ, pos, negsuc, true, false, zero, suc, ◌<◌, ◌≤ℤ◌, sym, subst, ap, true≢false, rules, unwrap_or, lit≤, [], ◌∷◌, Some, None, inl, inr}
use Rattle.std.specs.Prelude.{Contains}
use Rattle.std.proofs.lemmas.Int.{ints}
use Rattle.std.proofs.lemmas.Bool.{eqb-true}
use Rattle.profile.specs.events.Properties.{Fixed, length_seconds}
use Rattle.profile.specs.series.Days.{Weekly}
use Rattle.profile.specs.series.Rules.{Pattern, Rule}
use Rattle.profile.specs.series.Periods.{IsMultiple, IsShift}
use Rattle.profile.specs.series.Zones.{Observance, Single, IsFirstOf}
use Rattle.profile.specs.events.EventComponents.{EventComponent}
use Rattle.profile.specs.events.Events.{Event}
use Rattle.profile.specs.events.Spans.{IsBoundOf, IsLeastPeriodOf, IsPastAll, IsPastOnsets, IsPeriodOf, IsSpan, IsWidthOf, has_end}

-- ---- Mondays from 2025-01-06 on, but not 2025-01-13

abbrev pub mondays : Pattern
mondays = record { frequency = Weekly; interval = 1; week_start = 0; months = []; month_days = []; weekdays = []; positions = []; start = 739_622 }

abbrev pub each_monday : Rule
each_monday = record { pattern = mondays; count = None; last = 3_652_424; until = None }

abbrev pub master : EventComponent
master = record {
  uid = [];
  organiser = None;
  stamp = None;
  sequence = 0;
  cancelled = false;
  recurrence = None;
  times = record { form = Fixed; zone = None; local = pos 1_736_154_000; start = pos 1_736_154_000; length = record { days = 0; seconds = 3600 } };
  rule = Some each_monday;
  additions = [];
  exceptions = pos 1_736_758_800 ∷ [];
  written = record { recurrence = None; additions = []; exceptions = record { form = Fixed; instant = pos 1_736_758_800 } ∷ [] };
  summary = [];
  attendees = [];
}

abbrev pub series : Event
series = record { master = Some master; overrides = [] }

the_rule : (rule : Rule) → master.rule ≡ Some rule → each_monday ≡ rule
the_rule rule e = ap (λ r. unwrap_or r each_monday) e

-- the rule has no end, so its last start doesn't count
endless : {P : Type 0} → (rule : Rule) → master.rule ≡ Some rule → has_end rule ≡ true → P
endless rule e ended = absurd (true≢false (sym (subst (λ r. has_end r ≡ true) (sym (the_rule rule e)) ended)))

named : (e : ℤ) → Contains (pos 1_736_758_800 ∷ []) e → pos 1_736_758_800 ≡ e
named e is = search rules

-- the exception counts, a second after it is late enough
after_the_exception : IsPastAll series (pos 1_736_758_801)
after_the_exception = record {
  master = master;
  is = refl;
  start = omega (arith, ints);
  onsets = (None, None, (refl, refl), tt, tt);
  exceptions = λ e is early late. let n = named e is in omega (arith, ints, n);
  last = λ rule is ended t start before. endless rule is ended;
}

the_master : (past : IsPastAll series (pos 1_736_758_800)) → past.master ≡ master
the_master past = ap (λ m. unwrap_or m master) (sym past.is)

at_it : IsPastAll series (pos 1_736_758_800) → ⊥
at_it past =
    let l = past.exceptions (pos 1_736_758_800) (subst (λ (m : EventComponent). Contains m.exceptions (pos 1_736_758_800)) (sym (the_master past)) (search rules)) (omega (arith, ints)) (omega (arith, ints)) in
    omega (arith, ints, l)

-- a week is a period, and the least
weeks : (n : ℕ) → IsPeriodOf series (n * 7)
weeks n = record {
  master = master;
  is = refl;
  rule = λ rule is _. subst (λ (r : Rule). IsShift r.pattern (n * 7)) (the_rule rule is) (record { steps = (n, refl); weeks = λ e. absurd (true≢false e); dates = λ e. absurd (true≢false (sym e)) });
  zone = tt;
}

days_of : (days : ℕ) → IsPeriodOf series days → IsMultiple days 7
days_of days period =
    let own : period.master.rule ≡ Some each_monday = ap (λ (m : EventComponent). m.rule) (sym (ap (λ m. unwrap_or m master) period.is)) in
    (period.rule each_monday own refl).steps

a_week : IsLeastPeriodOf series 7
a_week = record {
  some = omega arith;
  most = lit≤ tt;
  is = weeks 1;
  least = λ n some is. let m = days_of n is in let e = m.1 in omega (arith, some, e);
}

only : {one : Event} → Contains (series ∷ []) one → one ≡ series
only {one} (zero, l, e) = sym e
only {one} (suc k, l, e) = absurd (omega (arith, l))

-- two weeks settle it with itself too, ten days don't, nor does no day
two_weeks : IsSpan (series ∷ []) (pos 1_736_758_801) 14
two_weeks = record {
  some = omega arith;
  most = lit≤ tt;
  past = λ one c. subst (λ (a : Event). IsPastAll a (pos 1_736_758_801)) (sym (only c)) after_the_exception;
  period = λ one c. subst (λ (a : Event). IsPeriodOf a 14) (sym (only c)) (weeks 2);
}

ten_days : (from : ℤ) → IsSpan (series ∷ []) from 10 → ⊥
ten_days from span = let m = days_of 10 (span.period series (0, omega arith, refl)) in let e = m.1 in omega (arith, e)

no_day : (from : ℤ) → IsSpan (series ∷ []) from 0 → ⊥
no_day from span = let l = span.some in omega (arith, l)

-- the bound is an hour after the two weeks
an_hour : (width : ℤ) → IsWidthOf series width → width ≤ℤ pos 3600
an_hour width (m, is, inl (none, e)) =
    let same : m ≡ master = ap (λ n. unwrap_or n master) (sym is) in
    let f : width ≡ pos 3600 = rw e (ap (λ (n : EventComponent). pos (length_seconds n.times.length)) same) in
    omega (arith, ints, f)
an_hour width (m, is, inr (some, rest)) =
    let same : m ≡ master = ap (λ n. unwrap_or n master) (sym is) in
    let f = subst (λ (n : EventComponent). 0 < n.times.length.days) same some in
    absurd (omega (arith, f))

no_more : (one : Event) (width : ℤ) → Contains (series ∷ []) one → IsWidthOf one width → width ≤ℤ pos 3600
no_more one width c is = an_hour width (subst (λ (a : Event). IsWidthOf a width) (only c) is)

the_bound : IsBoundOf (series ∷ []) (pos 1_736_758_801) 14 (pos 1_737_972_001)
the_bound = (pos 3600, record { one = (series, (0, omega arith, refl), (master, refl, inl (refl, refl))); none_greater = no_more }, refl)

-- ---- a zone whose clocks are set back once, at 2025-11-02T06:00:00Z

abbrev set_back : Observance
set_back = record { day = 739_922; second = 7200; rule = None; offset_from = negsuc 14_399; offset_to = negsuc 17_999 }

the_onset : IsFirstOf set_back (pos 1_762_063_200)
the_onset = record {
  listed = record { day = 739_922; begins = refl; read = refl; before = refl; after = refl };
  least = λ other is. let d = eqb-true is.day 739_922 is.begins in let r = is.read in omega (arith, ints, r, d);
}

-- half a day after it the later showing of 01:30 is still what it never is again, a second later it isn't
half_a_day : IsPastOnsets (Single set_back) (pos 1_762_106_400) → ⊥
half_a_day past = search rules

and_a_second : IsPastOnsets (Single set_back) (pos 1_762_106_401)
and_a_second = (Some (pos 1_762_063_200), None, (pos 1_762_063_200, the_onset, refl, refl), omega (arith, ints), tt)
