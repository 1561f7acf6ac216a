-- A rule of one day a year that is written is text, and names that day.
use Rattle.std.proofs.Common.{◌≡◌, ◌∙◌, refl, sym, ap, subst, ℕ, zero, suc, ◌+◌, ◌-◌, ◌<◌, ◌≤◌, Bool, true, false, cond, ◌&&◌, ◌||◌, nat_lt, nat_le, List, [], ◌∷◌, ◌++◌, map, take, drop, codes, decimal, arith, ℤ, pos, negsuc, neg_ℤ}
use Rattle.std.specs.List.{list_all, list_any, range_with_len}
use Rattle.std.specs.Ordering.{int_eq}
use Rattle.std.specs.Fmt.{signed_decimal}
use Rattle.std.proofs.lemmas.Bool.{and_parts, and_from, or_left, or_right}
use Rattle.std.proofs.lemmas.Bool.Decides.{nat_tests}
use Rattle.profile.specs.faults.Faults.{is_between}
use Rattle.profile.specs.series.Days.{Yearly, days_in_month}
use Rattle.profile.specs.series.Rules.{WeekdayNumber, is_place, is_plain, is_entry, has_few_entries, go_together}
use Rattle.profile.specs.series.RuleTexts.{weekday_word, listed, weekday_number_text}
use Rattle.profile.specs.series.ZoneTexts.{MonthDays, OnDay, FromStart, FromEnd, InWeek, YearRule, month_days_of, weekdays_of, is_each_year, is_of_seven, names_days, SpellsYear}
use Rattle.ical_lines.proofs.CleanLines.{is_shown, shown_append, shown_decimal}
use Rattle.cal_rules.proofs.Parted.{same_octet}
use Rattle.cal_rules.proofs.OneRule.{weekday_test}
use Rattle.cal_rules.proofs.ReadBack.{month_small, up_to, below}
use Rattle.cal_rules.proofs.InOrder.{int_itself}
use Rattle.cal_rules.proofs.PlainRule.{plain_text, plain_rule, plain_back}

-- ---- what is named

month_there : (month : ℕ) (days : MonthDays) → is_each_year month days ≡ true → is_between 1 12 month ≡ true
month_there month (OnDay day) h = (and_parts (is_between 1 12 month) (is_between 1 28 day) h).0
month_there month (FromStart number weekday) h = (and_parts (is_between 1 12 month) (is_between 1 4 number) (and_parts (is_between 1 12 month && is_between 1 4 number) (nat_lt weekday 7) h).0).0
month_there month (FromEnd number weekday) h = (and_parts (is_between 1 12 month) (is_between 1 4 number) (and_parts (is_between 1 12 month && is_between 1 4 number) (nat_lt weekday 7) h).0).0
month_there month (InWeek first weekday) h =
    (and_parts (is_between 1 12 month) (nat_le 1 first) (and_parts (is_between 1 12 month && nat_le 1 first) (nat_le (first + 6) (days_in_month 1 month)) (and_parts (is_between 1 12 month && nat_le 1 first && nat_le (first + 6) (days_in_month 1 month)) (nat_lt weekday 7) h).0).0).0

-- a number from 1 to 4 and a weekday
pub record Numbered (number weekday : ℕ) : Type 0 where
  pub low : 1 ≤ number
  pub high : number ≤ 4
  pub small : weekday < 7

pub numbered : (month number weekday : ℕ) → (is_between 1 12 month && is_between 1 4 number && nat_lt weekday 7) ≡ true → Numbered number weekday
numbered month number weekday h =
    let p = and_parts (is_between 1 12 month && is_between 1 4 number) (nat_lt weekday 7) h in
    let q = and_parts (is_between 1 12 month) (is_between 1 4 number) p.0 in
    record { low = grind (arith, nat_tests); high = up_to 4 number q.1; small = below 7 weekday p.1 }

-- seven days of a month, and a weekday
pub record Week (first weekday : ℕ) : Type 0 where
  pub low : 1 ≤ first
  pub high : first ≤ 25
  pub small : weekday < 7

pub week : (month first weekday : ℕ) → (is_between 1 12 month && nat_le 1 first && nat_le (first + 6) (days_in_month 1 month) && nat_lt weekday 7) ≡ true → Week first weekday
week month first weekday h =
    let p = and_parts (is_between 1 12 month && nat_le 1 first && nat_le (first + 6) (days_in_month 1 month)) (nat_lt weekday 7) h in
    let q = and_parts (is_between 1 12 month && nat_le 1 first) (nat_le (first + 6) (days_in_month 1 month)) p.0 in
    let long : days_in_month 1 month ≤ 31 = grind arith in
    let low : 1 ≤ first = grind (arith, nat_tests) in
    let high : first + 6 ≤ days_in_month 1 month = grind (arith, nat_tests) in
    record { low = low; high = omega arith; small = below 7 weekday p.1 }

place_there : (n : ℕ) → 1 ≤ n → n ≤ 31 → is_between 1 31 n ≡ true
place_there n a b = grind (arith, nat_tests)

seven_there : (n : ℕ) → 1 ≤ n → n ≤ 25 → list_all (is_place 31) (month_days_of (InWeek n 0)) ≡ true
seven_there n a b =
    and_from _ _ (place_there n a (omega arith)) (and_from _ _ (place_there (n + 1) (omega arith) (omega arith)) (and_from _ _ (place_there (n + 2) (omega arith) (omega arith))
    (and_from _ _ (place_there (n + 3) (omega arith) (omega arith)) (and_from _ _ (place_there (n + 4) (omega arith) (omega arith)) (and_from _ _ (place_there (n + 5) (omega arith) (omega arith))
    (and_from _ _ (place_there (n + 6) (omega arith) (omega arith)) refl))))))

days_there : (month : ℕ) (days : MonthDays) → is_each_year month days ≡ true → list_all (is_place 31) (month_days_of days) ≡ true
days_there month (OnDay day) h =
    let most = up_to 28 day (and_parts (is_between 1 12 month) (is_between 1 28 day) h).1 in
    let least : 1 ≤ day = grind (arith, nat_tests) in
    and_from _ _ (place_there day least (omega arith)) refl
days_there month (FromStart number weekday) h = refl
days_there month (FromEnd number weekday) h = refl
days_there month (InWeek first weekday) h = let w = week month first weekday h in seven_there first w.low w.high

days_short : (days : MonthDays) → has_few_entries (month_days_of days) ≡ true
days_short (OnDay day) = refl
days_short (FromStart number weekday) = refl
days_short (FromEnd number weekday) = refl
days_short (InWeek first weekday) = refl

number_there : (n : ℕ) → 1 ≤ n → n ≤ 4 → is_between 1 53 n ≡ true
number_there n a b = grind (arith, nat_tests)

back_there : (n : ℕ) → n ≤ 4 → nat_lt (n - 1) 53 ≡ true
back_there n h = grind (arith, nat_tests)

entries_there : (month : ℕ) (days : MonthDays) → is_each_year month days ≡ true → list_all is_entry (weekdays_of days) ≡ true
entries_there month (OnDay day) h = refl
entries_there month (FromStart number weekday) h =
    let n = numbered month number weekday h in
    and_from _ _ (and_from _ _ (weekday_test weekday n.small) (or_right (is_plain (pos number)) _ (number_there number n.low n.high))) refl
entries_there month (FromEnd number weekday) h =
    let n = numbered month number weekday h in
    and_from _ _ (and_from _ _ (weekday_test weekday n.small) (back_there number n.high)) refl
entries_there month (InWeek first weekday) h = let w = week month first weekday h in and_from _ _ (and_from _ _ (weekday_test weekday w.small) refl) refl

entries_short : (days : MonthDays) → has_few_entries (weekdays_of days) ≡ true
entries_short (OnDay day) = refl
entries_short (FromStart number weekday) = refl
entries_short (FromEnd number weekday) = refl
entries_short (InWeek first weekday) = refl

together : (month : ℕ) (days : MonthDays) → go_together (plain_rule Yearly (month ∷ []) (month_days_of days) (weekdays_of days)) ≡ true
unfolding go_together
together month (OnDay day) = refl
together month (FromStart number weekday) = and_from _ _ (or_right (is_plain (pos number) && true) true refl) refl
together month (FromEnd number weekday) = refl
together month (InWeek first weekday) = refl

-- ---- the day that is named

of_seven : (n k : ℕ) → k ≤ 6 → is_between n (n + 6) (n + k) ≡ true
of_seven n k h = grind (arith, nat_tests)

first_of : (n : ℕ) → is_between n (n + 6) n ≡ true
first_of n = grind (arith, nat_tests)

all_seven : (n : ℕ) → list_all (is_of_seven n) (month_days_of (InWeek n 0)) ≡ true
all_seven n =
    and_from _ _ (first_of n) (and_from _ _ (of_seven n 1 (omega arith)) (and_from _ _ (of_seven n 2 (omega arith)) (and_from _ _ (of_seven n 3 (omega arith))
    (and_from _ _ (of_seven n 4 (omega arith)) (and_from _ _ (of_seven n 5 (omega arith)) (and_from _ _ (of_seven n 6 (omega arith)) refl))))))

from_none : (n : ℕ) → int_eq (pos n) (pos (n + 0)) ≡ true
from_none n = let e : n + 0 ≡ n = omega arith in rw e (int_itself (pos n))

abbrev has_seventh : ℕ → ℕ → Bool
has_seventh n more = list_any (λ x. int_eq x (pos (n + more))) (month_days_of (InWeek n 0))

one_of : (z : ℤ) (before after : List ℤ) → list_any (λ x. int_eq x z) (before ++ z ∷ after) ≡ true
one_of z [] after = or_left (int_eq z z) (list_any (λ x. int_eq x z) after) (int_itself z)
one_of z (x ∷ before) after = or_right (int_eq x z) (list_any (λ y. int_eq y z) (before ++ z ∷ after)) (one_of z before after)

has_day_0 : (n : ℕ) → has_seventh n 0 ≡ true
has_day_0 n = or_left _ _ (from_none n)

abbrev is_among_days : ℕ → ℕ → Type 0
is_among_days n k = list_any (λ x. int_eq x (pos (n + k))) (take k (month_days_of (InWeek n 0)) ++ pos (n + k) ∷ drop (suc k) (month_days_of (InWeek n 0))) ≡ true

has_day : (n k : ℕ) → is_among_days n k
has_day n k = one_of (pos (n + k)) (take k (month_days_of (InWeek n 0))) (drop (suc k) (month_days_of (InWeek n 0)))

has_seven : (n : ℕ) → list_all (has_seventh n) (range_with_len 0 7) ≡ true
has_seven n =
    and_from (has_seventh n 0) _ (has_day_0 n) (and_from (has_seventh n 1) _ (has_day n 1) (and_from (has_seventh n 2) _ (has_day n 2) (and_from (has_seventh n 3) _ (has_day n 3)
    (and_from (has_seventh n 4) _ (has_day n 4) (and_from (has_seventh n 5) _ (has_day n 5) (and_from (has_seventh n 6) true (has_day n 6) refl))))))

minus : (n : ℕ) → 1 ≤ n → negsuc (n - 1) ≡ neg_ℤ (pos n)
minus zero h = absurd (omega arith)
minus (suc n) h = let e : suc n - 1 ≡ n = omega arith in ap negsuc e

itself : (month : ℕ) (days : MonthDays) → is_each_year month days ≡ true → names_days days (month_days_of days) (weekdays_of days) ≡ true
itself month (OnDay day) h = and_from _ _ (and_from _ _ (int_itself (pos day)) refl) refl
itself month (FromStart number weekday) h = and_from _ _ (and_from _ _ (int_itself (pos number)) (same_octet weekday)) refl
itself month (FromEnd number weekday) h =
    let n = numbered month number weekday h in
    and_from _ _ (and_from _ _ (ap (int_eq (negsuc (number - 1))) (sym (minus number n.low)) ∙ int_itself (negsuc (number - 1))) (same_octet weekday)) refl
itself month (InWeek first weekday) h = and_from _ _ (and_from _ _ (all_seven first) (has_seven first)) (and_from _ _ (same_octet weekday) refl)

abbrev pub year_rule_text : YearRule → List ℕ
year_rule_text r = plain_text Yearly (r.month ∷ []) (month_days_of r.days) (weekdays_of r.days)

pub year_back : (r : YearRule) → is_each_year r.month r.days ≡ true → SpellsYear (year_rule_text r) r
year_back r h =
    let m = month_there r.month r.days h in (
      plain_rule Yearly (r.month ∷ []) (month_days_of r.days) (weekdays_of r.days),
      plain_back Yearly (r.month ∷ []) (month_days_of r.days) (weekdays_of r.days) (and_from _ _ (and_from _ _ m refl) refl) (and_from _ _ (days_there r.month r.days h) (days_short r.days)) (and_from _ _ (entries_there r.month r.days h) (entries_short r.days)) (together r.month r.days),
      and_from _ _ (and_from _ _ (and_from _ _ refl (and_from _ _ (same_octet r.month) refl)) (itself r.month r.days h)) h,
    )

-- ---- its text

shown_listed : {A : Type 0} (f : A → List ℕ) (test : A → Bool) → ((x : A) → test x ≡ true → list_all is_shown (f x) ≡ true) → (lead : List ℕ) → list_all is_shown lead ≡ true → (xs : List A) → list_all test xs ≡ true → list_all is_shown (listed lead (map f xs)) ≡ true
shown_listed f test shown lead l [] h = refl
shown_listed f test shown lead l (x ∷ xs) h =
    let p = and_parts (test x) (list_all test xs) h in
    shown_append (lead ++ f x) (listed (codes ",") (map f xs)) (shown_append lead (f x) l (shown x p.0)) (shown_listed f test shown (codes ",") refl xs p.1)

shown_place : (most : ℕ) → most ≤ 366 → (z : ℤ) → is_place most z ≡ true → list_all is_shown (signed_decimal z) ≡ true
shown_place most m (pos n) h = let small = up_to most n h in shown_decimal n (omega arith)
shown_place most m (negsuc n) h = let small = below most n h in shown_append (codes "-") (decimal (suc n)) refl (shown_decimal (suc n) (omega arith))

shown_weekday : (n : ℕ) → n < 7 → list_all is_shown (weekday_word n) ≡ true
shown_weekday zero h = refl
shown_weekday (suc zero) h = refl
shown_weekday (suc (suc zero)) h = refl
shown_weekday (suc (suc (suc zero))) h = refl
shown_weekday (suc (suc (suc (suc zero)))) h = refl
shown_weekday (suc (suc (suc (suc (suc zero))))) h = refl
shown_weekday (suc (suc (suc (suc (suc (suc zero)))))) h = refl
shown_weekday (suc (suc (suc (suc (suc (suc (suc n))))))) h = absurd (omega arith)

shown_number : (number : ℤ) (plain : Bool) → is_plain number ≡ plain → (is_plain number || is_place 53 number) ≡ true → list_all is_shown (cond plain [] (signed_decimal number)) ≡ true
shown_number number true e h = refl
shown_number number false e h = shown_place 53 (omega arith) number (subst (λ (b : Bool). (b || is_place 53 number) ≡ true) e h)

shown_entry : (entry : WeekdayNumber) → is_entry entry ≡ true → list_all is_shown (weekday_number_text entry) ≡ true
shown_entry entry h =
    let p = and_parts (nat_lt entry.weekday 7) (is_plain entry.number || is_place 53 entry.number) h in
    shown_append (cond (is_plain entry.number) [] (signed_decimal entry.number)) (weekday_word entry.weekday) (shown_number entry.number (is_plain entry.number) refl p.1) (shown_weekday entry.weekday (below 7 entry.weekday p.0))

pub shown_year : (r : YearRule) → is_each_year r.month r.days ≡ true → list_all is_shown (year_rule_text r) ≡ true
shown_year r h =
    let m : list_all (is_between 1 12) (r.month ∷ []) ≡ true = and_from _ _ (month_there r.month r.days h) refl in
    shown_append (codes "FREQ=YEARLY" ++ listed (codes ";BYMONTH=") (map decimal (r.month ∷ [])) ++ listed (codes ";BYMONTHDAY=") (map signed_decimal (month_days_of r.days))) (listed (codes ";BYDAY=") (map weekday_number_text (weekdays_of r.days)))
    (shown_append (codes "FREQ=YEARLY" ++ listed (codes ";BYMONTH=") (map decimal (r.month ∷ []))) (listed (codes ";BYMONTHDAY=") (map signed_decimal (month_days_of r.days)))
    (shown_append (codes "FREQ=YEARLY") (listed (codes ";BYMONTH=") (map decimal (r.month ∷ []))) refl (shown_listed decimal (is_between 1 12) (λ n e. shown_decimal n (month_small n e)) (codes ";BYMONTH=") refl (r.month ∷ []) m))
    (shown_listed signed_decimal (is_place 31) (shown_place 31 (omega arith)) (codes ";BYMONTHDAY=") refl (month_days_of r.days) (days_there r.month r.days h)))
    (shown_listed weekday_number_text is_entry shown_entry (codes ";BYDAY=") refl (weekdays_of r.days) (entries_there r.month r.days h))
