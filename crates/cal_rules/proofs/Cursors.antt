-- Where a listing of the days of a rule is, from day to day.
use Rattle.std.proofs.Common.{◌≡◌, ◌∙◌, sym, refl, ℕ, ◌+◌, ◌-◌, ◌<◌, ◌≤◌, min, max, true, false, Option, Some, None, MatchOption, arith}
use Rattle.std.proofs.lemmas.Bool.{false≢true}
use Rattle.std.specs.List.{list_any, list_all}
use Rattle.profile.specs.series.Rules.{Pattern, Rule, allows, is_nth, is_missing, passes, is_in_step, count_days, last_rule_day}
use Rattle.cal_rules.specs.declared.facts.DayFacts.{DayFacts}
use Rattle.cal_rules.specs.declared.cursor.Cursor.{Cursor}
use Rattle.cal_rules.specs.declared.cursor.PeriodDays.{PeriodDays}
use Rattle.cal_rules.specs.Spans.{IsPeriodSpan}
use Rattle.cal_rules.specs.Known.{AreFacts}
use Rattle.cal_rules.specs.Counted.{NoneIn, HasNoDayFrom, is_chosen}
use Rattle.cal_rules.specs.Cursors.{is_from_first, is_among_last, IsCursorOf, IsPastFirst, IsPastNext}
use Rattle.cal_rules.proofs.Periods.{span_of}
use Rattle.cal_rules.proofs.Positions.{step_same, count_max, count_step, count_rest, chosen_by_place}
use Rattle.cal_rules.proofs.Counting.{none_counted, first_counted}
use Rattle.cal_rules.proofs.Places.{none_listed, none_from_first, same_places}

-- THE DAY AFTER

-- the cursor on the next day, with the counts for it
on_next : (p : Pattern) (c : Cursor) (day : DayFacts) (earlier later : ℕ) → IsCursorOf p c → c.day.index < c.span.end → day.index ≡ c.day.index + 1 → (day.index < c.span.end → AreFacts day) → (is_missing p.positions ≡ false → earlier ≤ count_days (passes p) c.span.first (c.day.index + 1 - c.span.first)) → (list_any is_from_first p.positions ≡ true → earlier ≡ count_days (passes p) c.span.first (c.day.index + 1 - c.span.first)) → (is_missing p.positions ≡ false → later ≡ count_days (passes p) (c.day.index + 1) (c.span.end - (c.day.index + 1))) → IsCursorOf p (record { day = day; span = c.span; earlier = earlier; later = later })
on_next p c day earlier later s inside e facts a x b =
    let here = s.inside inside in
    let low = here.period.not_before in
    let range = s.range in
    record {
      range = (omega arith, omega arith, range.2);
      inside = λ lt. record {
        facts = facts lt;
        period = span_of p.frequency p.week_start c.day.index c.span.first c.span.end day.index here.period (omega arith) lt;
        in_step = step_same p c.day.index day.index (here.period.same day.index (omega arith) lt) ∙ here.in_step;
        earlier = λ some. rw e (a some);
        exact = λ first. rw e (x first);
        later = λ some. rw e (b some);
      };
    }

-- a day that doesn't pass each part counts for nothing
pub on_flat : (p : Pattern) (c : Cursor) (day : DayFacts) → IsCursorOf p c → c.day.index < c.span.end → day.index ≡ c.day.index + 1 → (day.index < c.span.end → AreFacts day) → passes p c.day.index ≡ false → IsCursorOf p (record { day = day; span = c.span; earlier = c.earlier; later = c.later })
on_flat p c day s inside e facts out =
    let here = s.inside inside in
    let step = rw out at (count_step (passes p) c.span.first c.day.index here.period.not_before) in
    let left = rw out at (count_rest (passes p) c.day.index c.span.end inside) in
    on_next p c day c.earlier c.later s inside e facts (λ some. omega (arith, here.earlier some)) (λ first. omega (arith, here.exact first)) (λ some. omega (arith, here.later some))

-- without set positions nothing is counted
pub on_plain : (p : Pattern) (c : Cursor) (day : DayFacts) → IsCursorOf p c → c.day.index < c.span.end → day.index ≡ c.day.index + 1 → (day.index < c.span.end → AreFacts day) → is_missing p.positions ≡ true → IsCursorOf p (record { day = day; span = c.span; earlier = c.earlier; later = c.later })
on_plain p c day s inside e facts none =
    on_next p c day c.earlier c.later s inside e facts (λ some. absurd (false≢true (sym some ∙ none))) (λ first. absurd (false≢true (sym (none_listed is_from_first p.positions none) ∙ first))) (λ some. absurd (false≢true (sym some ∙ none)))

-- a day that passes is one less from there on
pub later_is : (p : Pattern) (c : Cursor) → IsCursorOf p c → c.day.index < c.span.end → is_missing p.positions ≡ false → passes p c.day.index ≡ true → c.later ≡ 1 + count_days (passes p) (c.day.index + 1) (c.span.end - (c.day.index + 1))
later_is p c s inside some here =
    (s.inside inside).later some ∙ rw here at (count_rest (passes p) c.day.index c.span.end inside)

-- and one more before
pub on_passed : (p : Pattern) (c : Cursor) (day : DayFacts) → IsCursorOf p c → c.day.index < c.span.end → day.index ≡ c.day.index + 1 → (day.index < c.span.end → AreFacts day) → is_missing p.positions ≡ false → passes p c.day.index ≡ true → IsCursorOf p (record { day = day; span = c.span; earlier = c.earlier + 1; later = c.later - 1 })
on_passed p c day s inside e facts some passed =
    let here = s.inside inside in
    let step = rw passed at (count_step (passes p) c.span.first c.day.index here.period.not_before) in
    let left = later_is p c s inside some passed in
    on_next p c day (c.earlier + 1) (c.later - 1) s inside e facts (λ _. omega (arith, here.earlier some)) (λ first. omega (arith, here.exact first)) (λ _. omega arith)

-- no more days than the period has
pub earlier_few : (p : Pattern) (c : Cursor) → IsCursorOf p c → c.day.index < c.span.end → is_missing p.positions ≡ false → c.earlier ≤ 3_653_155
earlier_few p c s inside some =
    let few = count_max (passes p) c.span.first (c.day.index - c.span.first) in
    omega (arith, (s.inside inside).earlier some, s.range)

-- whether it is chosen, by the counts
pub placed_is : (p : Pattern) (c : Cursor) → IsCursorOf p c → c.day.index < c.span.end → is_missing p.positions ≡ false → passes p c.day.index ≡ true → is_chosen p c.day.index ≡ allows (λ k. is_nth k c.earlier (c.later - 1)) p.positions
placed_is p c s inside some passed =
    let here = s.inside inside in
    let left = later_is p c s inside some passed in
    let before = count_days (passes p) c.span.first (c.day.index - c.span.first) in
    chosen_by_place p c.day.index c.span.first c.span.end before (c.later - 1) here.period here.in_step s.range.2 passed refl (omega arith) ∙ same_places before c.earlier (c.later - 1) p.positions (λ first. sym (here.exact first))

-- FROM THE END

-- where all set positions count from the last day, it isn't counted how many days pass before
pub entered_from_end : (p : Pattern) (day depth : ℕ) (span : PeriodDays) (here : DayFacts) (later : ℕ) → IsPeriodSpan p.frequency p.week_start day span.first span.end → is_in_step p day ≡ true → span.end ≤ 3_653_155 → list_all (is_among_last depth) p.positions ≡ true → AreFacts here → day ≤ here.index → here.index ≤ span.end → later ≡ count_days (passes p) here.index (span.end - here.index) → IsCursorOf p (record { day = here; span = span; earlier = 0; later = later })
entered_from_end p day depth span here later s step high deep facts low inside count =
    let first = s.first_day in
    let place = s.not_before in
    record {
      range = (omega arith, inside, high);
      inside = λ lt. record {
        facts = facts;
        period = span_of p.frequency p.week_start day span.first span.end here.index s (omega arith) lt;
        in_step = step_same p day here.index (s.same here.index (omega arith) lt) ∙ step;
        earlier = λ some. omega arith;
        exact = λ from_first. absurd (false≢true (sym (none_from_first depth p.positions deep) ∙ from_first));
        later = λ some. count;
      };
    }

-- THE NEXT ONE

-- the least rule day apart from COUNT
pub past_next : (r : Rule) (from : ℕ) (answer : Option Cursor) → 366 ≤ from → MatchOption answer (NoneIn (is_chosen r.pattern) (max from r.pattern.start) (min r.last last_rule_day + 1)) (IsPastFirst r.pattern (max from r.pattern.start) (min r.last last_rule_day + 1)) → MatchOption answer (HasNoDayFrom r from) (IsPastNext r from)
past_next r from None first h = none_counted r from h
past_next r from (Some after) first h =
    let low = h.first.not_before in
    let high = h.first.inside in
    record {
      is_cursor = h.is_cursor;
      next = first_counted r from (after.day.index - 1) h.first;
      range = (omega arith, omega arith);
    }
