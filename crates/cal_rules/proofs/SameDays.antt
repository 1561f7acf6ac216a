-- A rule whose lists are put in order has the same days.
use Rattle.std.proofs.Common.{◌≡◌, ◌∙◌, ap, sym, refl, ℕ, zero, suc, ◌+◌, ◌-◌, Bool, true, false, cond, ◌||◌, ◌==◌, nat_eq, nat_le, if◌then◌else◌, List, [], ◌∷◌, map, filter, Contains, Option, None, Some, ℤ, pos, arith}
use Rattle.std.proofs.lemmas.Bool.{and_parts, false≢true}
use Rattle.std.specs.List.{list_any, list_all, range_with_len}
use Rattle.std.specs.Ordering.{int_eq}
use Rattle.profile.specs.faults.Faults.{is_between}
use Rattle.profile.specs.series.Days.{month_of, month_days_before, month_days_after, weekday_of}
use Rattle.profile.specs.series.Rules.{WeekdayNumber, Pattern, Rule, RuleText, Until, rule_of, is_missing, implies_month, implies_month_day, implies_weekday, counts_in_year, is_place, is_entry, has_few_entries, IsAllowed, allows, is_nth, names_weekday, same_weekdays_before, same_weekdays_after, passes_month, passes_month_day, passes_weekday, passes, is_in_step, is_base, reach, is_mate, mates_before, mates_after, is_placed, is_counted, is_within_count, is_rule_day}
use Rattle.profile.specs.series.RuleTexts.{months_from, numbers_from, entries_from, nth_number, nth_entry, is_same_entry, as_written}
use Rattle.cal_rules.proofs.Positions.{count_same}
use Rattle.cal_rules.proofs.WholeRule.{ranges}
use Rattle.cal_rules.proofs.InOrder.{kept, kept_missing, int_one, int_itself, number_there, numbers_missing, entry_one, entry_itself, entry_there, entries_missing, nat_one, month_there, months_missing}
use Rattle.cal_rules.proofs.Parted.{same_octet}

-- THE SAME ENTRIES

same_bool : (a b : Bool) → (a ≡ true → b ≡ true) → (b ≡ true → a ≡ true) → a ≡ b
same_bool true b f g = sym (f refl)
same_bool false true f g = g refl
same_bool false false f g = refl

-- an entry that is one of the list's passes where the entry does
one_passes : {A : Type 0} (same : A → A → Bool) (test : A → Bool) → ((z c : A) → same z c ≡ true → z ≡ c) → (zs : List A) (c : A) → list_any (λ z. same z c) zs ≡ true → test c ≡ true → list_any test zs ≡ true
one_passes same test one [] c h e = h
one_passes same test one (z ∷ zs) c h e =
    elim (same z c) as (λ b. same z c ≡ b → (b || list_any (λ y. same y c) zs) ≡ true → (test z || list_any test zs) ≡ true) [
      | true ↦ λ k _. let here : test z ≡ true = ap test (one z c k) ∙ e in rw here refl
      | false ↦ λ _ more. let rest = one_passes same test one zs c more e in elim (test z) as (λ t. (t || list_any test zs) ≡ true) [ true ↦ refl | false ↦ rest ]
    ] refl h

kept_passes : {A : Type 0} (same : A → A → Bool) (test : A → Bool) → ((z c : A) → same z c ≡ true → z ≡ c) → (zs xs : List A) → list_any test (kept same zs xs) ≡ true → list_any test zs ≡ true
kept_passes same test one zs [] h = absurd (false≢true h)
kept_passes same test one zs (x ∷ xs) h =
    elim (list_any (λ z. same z x) zs) as (λ b. list_any (λ z. same z x) zs ≡ b → list_any test (cond b (x ∷ kept same zs xs) (kept same zs xs)) ≡ true → list_any test zs ≡ true) [
      | true ↦ λ e. elim (test x) as (λ t. test x ≡ t → (t || list_any test (kept same zs xs)) ≡ true → list_any test zs ≡ true) [
        | true ↦ λ k _. one_passes same test one zs x e k
        | false ↦ λ _ more. kept_passes same test one zs xs more
      ] refl
      | false ↦ λ _ more. kept_passes same test one zs xs more
    ] refl h

-- an entry that is picked passes among those that are
picked_passes : {A : Type 0} (pick test : A → Bool) (xs : List A) (c : A) → Contains xs c → pick c ≡ true → test c ≡ true → list_any test (filter pick xs) ≡ true
picked_passes pick test [] c (k, l, e) h t = absurd (omega arith)
picked_passes pick test (x ∷ xs) c (zero, l, e) h t =
    let here : pick x ≡ true = ap pick e ∙ h in
    let passes : test x ≡ true = ap test e ∙ t in
    rw (here, passes) refl
picked_passes pick test (x ∷ xs) c (suc k, l, e) h t =
    let rest = picked_passes pick test xs c (k, omega arith, e) h t in
    elim (pick x) as (λ b. list_any test (cond b (x ∷ filter pick xs) (filter pick xs)) ≡ true) [
      | true ↦ elim (test x) as (λ b. (b || list_any test (filter pick xs)) ≡ true) [ true ↦ refl | false ↦ rest ]
      | false ↦ rest
    ]

passes_kept : {A : Type 0} (same : A → A → Bool) (sort test pick : A → Bool) → ((z : A) → same z z ≡ true) → (xs : List A) → ((z : A) → sort z ≡ true → Contains xs z) → (zs : List A) → ((z : A) → list_any (λ y. same y z) zs ≡ true → pick z ≡ true) → list_all sort zs ≡ true → list_any test zs ≡ true → list_any test (filter pick xs) ≡ true
passes_kept same sort test pick itself xs there [] picks h t = absurd (false≢true t)
passes_kept same sort test pick itself xs there (z ∷ zs) picks h t =
    let p = and_parts (sort z) (list_all sort zs) h in
    elim (test z) as (λ b. test z ≡ b → (b || list_any test zs) ≡ true → list_any test (filter pick xs) ≡ true) [
      | true ↦ λ e _. picked_passes pick test xs z (there z p.0) (picks z (rw (itself z) refl)) e
      | false ↦ λ _ more. passes_kept same sort test pick itself xs there zs
          (λ y k. picks y (elim (same z y) as (λ b. (b || list_any (λ x. same x y) zs) ≡ true) [ true ↦ refl | false ↦ k ])) p.1 more
    ] refl t

same_entries : {A : Type 0} (same : A → A → Bool) (sort test : A → Bool) → ((z c : A) → same z c ≡ true → z ≡ c) → ((z : A) → same z z ≡ true) → (xs : List A) → ((z : A) → sort z ≡ true → Contains xs z) → (zs : List A) → list_all sort zs ≡ true → allows test (kept same zs xs) ≡ allows test zs
same_entries same sort test one itself xs there zs h =
    let any : list_any test (kept same zs xs) ≡ list_any test zs = same_bool _ _ (kept_passes same test one zs xs) (passes_kept same sort test (λ c. list_any (λ z. same z c) zs) itself xs there zs (λ z k. k) h) in
    rw (kept_missing same sort itself xs there zs h, any) refl

-- THE SAME DAYS

-- the pattern with other lists
abbrev with_lists : Pattern → List ℕ → List ℤ → List WeekdayNumber → List ℤ → Pattern
with_lists p months month_days weekdays positions = record {
  frequency = p.frequency;
  interval = p.interval;
  week_start = p.week_start;
  months = months;
  month_days = month_days;
  weekdays = weekdays;
  positions = positions;
  start = p.start;
}

-- the lists have the same entries
record Alike (p q : Pattern) : Type 0 where
  pub no_months : is_missing p.months ≡ is_missing q.months
  pub no_month_days : is_missing p.month_days ≡ is_missing q.month_days
  pub no_weekdays : is_missing p.weekdays ≡ is_missing q.weekdays
  pub months : (test : ℕ → Bool) → allows test p.months ≡ allows test q.months
  pub month_days : (test : ℤ → Bool) → allows test p.month_days ≡ allows test q.month_days
  pub weekdays : (test : WeekdayNumber → Bool) → allows test p.weekdays ≡ allows test q.weekdays
  pub positions : (test : ℤ → Bool) → allows test p.positions ≡ allows test q.positions

implied : {A : Type 0} (test : A → Bool) (b : Bool) (x : A) (xs ys : List A) → allows test xs ≡ allows test ys → allows test (if b then x ∷ [] else xs) ≡ allows test (if b then x ∷ [] else ys)
implied test true x xs ys e = refl
implied test false x xs ys e = e

same_month : (p : Pattern) (ms : List ℕ) (ds : List ℤ) (es : List WeekdayNumber) (ps : List ℤ) (n : ℕ) → Alike (with_lists p ms ds es ps) p → passes_month (with_lists p ms ds es ps) n ≡ passes_month p n
unfolding passes_month
same_month p ms ds es ps n a =
    rw (a.no_months, a.no_month_days, a.no_weekdays) (implied (λ month. month == month_of n) (implies_month p) (month_of p.start) ms p.months (a.months (λ month. month == month_of n)))

same_month_day : (p : Pattern) (ms : List ℕ) (ds : List ℤ) (es : List WeekdayNumber) (ps : List ℤ) (n : ℕ) → Alike (with_lists p ms ds es ps) p → passes_month_day (with_lists p ms ds es ps) n ≡ passes_month_day p n
unfolding passes_month_day
same_month_day p ms ds es ps n a =
    let test : ℤ → Bool = λ k. is_nth k (month_days_before n) (month_days_after n) in
    rw (a.no_month_days, a.no_weekdays) (implied test (implies_month_day p) (pos (suc (month_days_before p.start))) ds p.month_days (a.month_days test))

same_weekday : (p : Pattern) (ms : List ℕ) (ds : List ℤ) (es : List WeekdayNumber) (ps : List ℤ) (n : ℕ) → Alike (with_lists p ms ds es ps) p → passes_weekday (with_lists p ms ds es ps) n ≡ passes_weekday p n
unfolding passes_weekday
same_weekday p ms ds es ps n a =
    let test = names_weekday (weekday_of n) (same_weekdays_before (counts_in_year p) n) (same_weekdays_after (counts_in_year p) n) in
    rw (a.no_months, a.no_weekdays) (implied test (implies_weekday p) (record { number = pos 0; weekday = weekday_of p.start }) es p.weekdays (a.weekdays test))

same_base : (p : Pattern) (ms : List ℕ) (ds : List ℤ) (es : List WeekdayNumber) (ps : List ℤ) (n : ℕ) → Alike (with_lists p ms ds es ps) p → is_base (with_lists p ms ds es ps) n ≡ is_base p n
unfolding is_base passes is_in_step
same_base p ms ds es ps n a =
    rw (same_month p ms ds es ps n a, same_month_day p ms ds es ps n a, same_weekday p ms ds es ps n a) refl

same_mate : (p : Pattern) (ms : List ℕ) (ds : List ℤ) (es : List WeekdayNumber) (ps : List ℤ) (n m : ℕ) → Alike (with_lists p ms ds es ps) p → is_mate (with_lists p ms ds es ps) n m ≡ is_mate p n m
unfolding is_mate
same_mate p ms ds es ps n m a = rw (same_base p ms ds es ps m a) refl

same_before : (p : Pattern) (ms : List ℕ) (ds : List ℤ) (es : List WeekdayNumber) (ps : List ℤ) (n : ℕ) → Alike (with_lists p ms ds es ps) p → mates_before (with_lists p ms ds es ps) n ≡ mates_before p n
unfolding mates_before
same_before p ms ds es ps n a =
    count_same (is_mate (with_lists p ms ds es ps) n) (is_mate p n) (n - reach p.frequency) (reach p.frequency) (λ m _ _. same_mate p ms ds es ps n m a)

same_after : (p : Pattern) (ms : List ℕ) (ds : List ℤ) (es : List WeekdayNumber) (ps : List ℤ) (n : ℕ) → Alike (with_lists p ms ds es ps) p → mates_after (with_lists p ms ds es ps) n ≡ mates_after p n
unfolding mates_after
same_after p ms ds es ps n a =
    count_same (is_mate (with_lists p ms ds es ps) n) (is_mate p n) (n + 1) (reach p.frequency) (λ m _ _. same_mate p ms ds es ps n m a)

same_place : (p : Pattern) (ms : List ℕ) (ds : List ℤ) (es : List WeekdayNumber) (ps : List ℤ) (n : ℕ) → Alike (with_lists p ms ds es ps) p → is_placed (with_lists p ms ds es ps) n ≡ is_placed p n
unfolding is_placed
same_place p ms ds es ps n a =
    rw (same_before p ms ds es ps n a, same_after p ms ds es ps n a) (a.positions (λ k. is_nth k (mates_before p n) (mates_after p n)))

abbrev parts : Pattern → Option ℕ → ℕ → Rule
parts p count last = record { pattern = p; count = count; last = last; until = None }

same_counted : (p : Pattern) (ms : List ℕ) (ds : List ℤ) (es : List WeekdayNumber) (ps : List ℤ) (count : Option ℕ) (last n : ℕ) → Alike (with_lists p ms ds es ps) p → is_counted (parts (with_lists p ms ds es ps) count last) n ≡ is_counted (parts p count last) n
unfolding is_counted
same_counted p ms ds es ps count last n a =
    rw (same_base p ms ds es ps n a, same_place p ms ds es ps n a) refl

same_count : (p : Pattern) (ms : List ℕ) (ds : List ℤ) (es : List WeekdayNumber) (ps : List ℤ) (count : Option ℕ) (last n : ℕ) → Alike (with_lists p ms ds es ps) p → is_within_count (parts (with_lists p ms ds es ps) count last) n ≡ is_within_count (parts p count last) n
unfolding is_within_count
same_count p ms ds es ps None last n a = refl
same_count p ms ds es ps (Some count) last n a =
    ap (λ k. nat_le k count) (count_same (is_counted (parts (with_lists p ms ds es ps) (Some count) last)) (is_counted (parts p (Some count) last)) p.start (n + 1 - p.start) (λ m _ _. same_counted p ms ds es ps (Some count) last m a))

same_day : (p : Pattern) (ms : List ℕ) (ds : List ℤ) (es : List WeekdayNumber) (ps : List ℤ) (count : Option ℕ) (last n : ℕ) → Alike (with_lists p ms ds es ps) p → is_rule_day (parts (with_lists p ms ds es ps) count last) n ≡ is_rule_day (parts p count last) n
unfolding is_rule_day
same_day p ms ds es ps count last n a =
    rw (same_counted p ms ds es ps count last n a, same_count p ms ds es ps count last n a) refl

-- what UNTIL says counts only by its last day
same_end : (p : Pattern) (count : Option ℕ) (last n : ℕ) (end : Option Until) → is_rule_day (record { pattern = p; count = count; last = last; until = end }) n ≡ is_rule_day (parts p count last) n
unfolding is_rule_day is_counted is_within_count
same_end p None last n end = refl
same_end p (Some count) last n end = refl

-- THE RULE

in_order : (t : RuleText) (start last : ℕ) → IsAllowed t → Alike (with_lists (rule_of t start last).pattern (months_from 1 t.months) (numbers_from 0 t.month_days) (entries_from 0 t.weekdays) (numbers_from 0 t.positions)) (rule_of t start last).pattern
unfolding months_from numbers_from entries_from
in_order t start last h =
    let r = ranges t h.0 in
    let months = (and_parts (list_all (is_between 1 12) t.months) (has_few_entries t.months) r.months).0 in
    let days = (and_parts (list_all (is_place 31) t.month_days) (has_few_entries t.month_days) r.month_days).0 in
    let entries = (and_parts (list_all is_entry t.weekdays) (has_few_entries t.weekdays) r.weekdays).0 in
    let places = (and_parts (list_all (is_place 366) t.positions) (has_few_entries t.positions) r.positions).0 in
    record {
      no_months = months_missing t.months months;
      no_month_days = numbers_missing 31 t.month_days (omega arith) days;
      no_weekdays = entries_missing t.weekdays entries;
      months = λ test. same_entries nat_eq (is_between 1 12) test nat_one same_octet (range_with_len 1 12) month_there t.months months;
      month_days = λ test. same_entries int_eq (is_place 31) test int_one int_itself (map nth_number (range_with_len 0 733)) (number_there 31 (omega arith)) t.month_days days;
      weekdays = λ test. same_entries is_same_entry is_entry test entry_one entry_itself (map nth_entry (range_with_len 0 749)) entry_there t.weekdays entries;
      positions = λ test. same_entries int_eq (is_place 366) test int_one int_itself (map nth_number (range_with_len 0 733)) (number_there 366 (omega arith)) t.positions places;
    }

pub same_days : (t : RuleText) (end : Option Until) (start last n : ℕ) → IsAllowed t → is_rule_day (rule_of (as_written t end) start last) n ≡ is_rule_day (rule_of t start last) n
same_days t end start last n h =
    same_end _ t.count last n end ∙ same_day (rule_of t start last).pattern (months_from 1 t.months) (numbers_from 0 t.month_days) (entries_from 0 t.weekdays) (numbers_from 0 t.positions) t.count last n (in_order t start last h) ∙ sym (same_end _ t.count last n t.until)
