-- A rule of FREQ, BYMONTH, BYMONTHDAY and BYDAY alone reads back with its lists as they are.
use Rattle.std.proofs.Common.{◌≡◌, refl, ℕ, true, ◌&&◌, List, [], ◌∷◌, ◌++◌, map, codes, decimal, None, ℤ, arith}
use Rattle.std.proofs.lemmas.Bool.{and_parts}
use Rattle.std.specs.Fmt.{signed_decimal}
use Rattle.std.specs.List.{list_all}
use Rattle.profile.specs.faults.Faults.{is_between}
use Rattle.profile.specs.series.Days.{Frequency}
use Rattle.profile.specs.series.Rules.{RuleText, WeekdayNumber, is_place, is_entry, has_few_entries, go_together}
use Rattle.profile.specs.series.RuleTexts.{RuleKey, Interval, Count, EndsAt, WeekStart, ByMonth, ByMonthDay, ByDay, BySetPosition, frequency_word, SpellsBetween, SpellsPlace, SpellsEntry, SpellsMonths, SpellsMonthDays, SpellsEntries, SpellsRule, listed, weekday_number_text}
use Rattle.cal_rules.proofs.ReadBack.{between_back, place_back, entry_back, month_small, comma, semicolon, lacks_decimal, lacks_place, lacks_entry}
use Rattle.cal_rules.proofs.WholeRule.{Built, start, more, list_values, list_piece, list_says, built_values, built_frequency, built_known, says_at}

abbrev pub plain_text : Frequency → List ℕ → List ℤ → List WeekdayNumber → List ℕ
plain_text f months days entries =
    codes "FREQ=" ++ frequency_word f ++ listed (codes ";BYMONTH=") (map decimal months) ++ listed (codes ";BYMONTHDAY=") (map signed_decimal days) ++ listed (codes ";BYDAY=") (map weekday_number_text entries)

abbrev pub plain_rule : Frequency → List ℕ → List ℤ → List WeekdayNumber → RuleText
plain_rule f months days entries = record {
  frequency = f;
  interval = 1;
  week_start = 0;
  months = months;
  month_days = days;
  weekdays = entries;
  positions = [];
  count = None;
  until = None;
}

abbrev plain_values : List ℕ → List ℤ → List WeekdayNumber → List (RuleKey × List (List ℕ))
plain_values months days entries =
    (ByDay, list_values (map weekday_number_text entries)) ∷ (ByMonthDay, list_values (map signed_decimal days)) ∷ (ByMonth, list_values (map decimal months)) ∷ []

plain_built : (f : Frequency) (months : List ℕ) (days : List ℤ) (entries : List WeekdayNumber) → list_all (is_between 1 12) months ≡ true → list_all (is_place 31) days ≡ true → list_all is_entry entries ≡ true
    → Built f (plain_text f months days entries) (plain_values months days entries)
plain_built f months days entries m d e =
    more _ _ ByDay _ _ (more _ _ ByMonthDay _ _ (more _ _ ByMonth _ _ start
    (list_piece decimal (is_between 1 12) (λ n b. lacks_decimal 59 semicolon n (month_small n b)) ByMonth months m))
    (list_piece signed_decimal (is_place 31) (λ z b. lacks_place 59 semicolon 31 z (omega arith) b) ByMonthDay days d))
    (list_piece weekday_number_text is_entry (lacks_entry 59 semicolon) ByDay entries e)

pub plain_back : (f : Frequency) (months : List ℕ) (days : List ℤ) (entries : List WeekdayNumber)
    → (list_all (is_between 1 12) months && has_few_entries months) ≡ true → (list_all (is_place 31) days && has_few_entries days) ≡ true → (list_all is_entry entries && has_few_entries entries) ≡ true
    → go_together (plain_rule f months days entries) ≡ true → SpellsRule (plain_text f months days entries) (plain_rule f months days entries)
plain_back f months days entries m d e together =
    let text = plain_text f months days entries in
    let all = plain_values months days entries in
    let b = plain_built f months days entries (and_parts (list_all (is_between 1 12) months) (has_few_entries months) m).0 (and_parts (list_all (is_place 31) days) (has_few_entries days) d).0 (and_parts (list_all is_entry entries) (has_few_entries entries) e).0 in
    let values = built_values f text all b in
    record {
      known = built_known f text all b;
      says = record {
        frequency = built_frequency f text all b;
        interval = says_at _ 1 1 _ _ (values Interval) refl;
        count = says_at _ None None _ _ (values Count) refl;
        until = says_at _ None None _ _ (values EndsAt) refl;
        week_start = says_at _ 0 0 _ _ (values WeekStart) refl;
        months = says_at SpellsMonths [] months _ _ (values ByMonth) (list_says (SpellsBetween 1 12) decimal (is_between 1 12) (λ n t. between_back 1 12 n (month_small n t) t) (λ n t. lacks_decimal 44 comma n (month_small n t)) months m);
        month_days = says_at SpellsMonthDays [] days _ _ (values ByMonthDay) (list_says (SpellsPlace 31) signed_decimal (is_place 31) (λ z t. place_back 31 z (omega arith) t) (λ z t. lacks_place 44 comma 31 z (omega arith) t) days d);
        weekdays = says_at SpellsEntries [] entries _ _ (values ByDay) (list_says SpellsEntry weekday_number_text is_entry entry_back (lacks_entry 44 comma) entries e);
        positions = says_at _ [] [] _ _ (values BySetPosition) refl;
      };
      together = together;
      one_end = refl;
    }
