-- What is written of a whole rule reads back.
use Rattle.std.proofs.Common.{◌≡◌, ◌∙◌, ap, sym, subst, refl, ℕ, ◌^◌, ◌<◌, ◌≤◌, Bool, true, false, cond, not, ◌&&◌, ◌==◌, nat_eq, nat_lt, nat_le, inl, inr, List, [], ◌∷◌, ◌++◌, length, map, filter_map, codes, decimal, All, append_assoc, append-nil, Option, None, Some, ℤ, arith, ◌/◌, ◌%◌, ◌+◌}
use Rattle.std.proofs.lemmas.Bool.{and_parts, and_from}
use Rattle.std.proofs.lemmas.Bool.Decides.{nat_tests}
use Rattle.std.proofs.lemmas.List.Elements.{All-nil, All-cons, All-append, All-same, All-from_recursion, filter_map-append}
use Rattle.std.proofs.lemmas.List.Splits.{slice_split_none, length-slice_split}
use Rattle.std.specs.Fmt.{signed_decimal}
use Rattle.std.specs.List.{list_all, onto_first, cons_option}
use Rattle.profile.specs.faults.Faults.{is_between}
use Rattle.profile.specs.series.Days.{Frequency, Daily, Weekly, Monthly, Yearly, days_in_month}
use Rattle.profile.specs.text.Values.{two_digits, four_digits, SpellsDate, SpellsTime, SpellsLocal}
use Rattle.profile.specs.series.Rules.{RuleText, Until, UntilDay, UntilLocal, UntilInstant, is_place, is_entry, is_count, has_few_entries, is_in_range, go_together, has_one_end}
use Rattle.profile.specs.series.RuleTexts.{RuleKey, Interval, Count, EndsAt, WeekStart, ByMonth, ByMonthDay, ByDay, BySetPosition, rule_parts, after_key, key_word, values_of, frequency_word, weekday_word, SpellsBetween, SpellsPlace, SpellsEntry, SpellsList, SpellsWeekday, SpellsCount, SpellsUntil, SpellsInterval, SpellsMonths, SpellsMonthDays, SpellsEntries, SpellsPositions, IsGivenPart, SaysOr, IsKnownPart, SpellsRule, listed, months_from, numbers_from, entries_from, weekday_number_text, count_text, until_text, rule_text, as_written, HandsIn}
use Rattle.cal_rules.proofs.Parted.{after_append}
use Rattle.cal_rules.proofs.ReadBack.{up_to, below, between_back, place_back, entry_back, written_list, month_small, comma, semicolon, lacks, lacks_append, lacks_all, lacks_decimal, lacks_place, lacks_weekday, lacks_entry}

-- ---- no semicolon in a value

lacks_listed : {A : Type 0} (f : A → List ℕ) (test : A → Bool) → ((x : A) → test x ≡ true → lacks 59 (f x) ≡ true) → (xs : List A) → list_all test xs ≡ true → lacks 59 (listed (codes ",") (map f xs)) ≡ true
lacks_listed f test clean [] h = refl
lacks_listed f test clean (x ∷ xs) h =
    let p = and_parts (test x) (list_all test xs) h in
    lacks_append 59 (f x) (listed (codes ",") (map f xs)) (clean x p.0) (lacks_listed f test clean xs p.1)

lacks_key : (key : RuleKey) → lacks 59 (key_word key) ≡ true
lacks_key Interval = refl
lacks_key Count = refl
lacks_key EndsAt = refl
lacks_key WeekStart = refl
lacks_key ByMonth = refl
lacks_key ByMonthDay = refl
lacks_key ByDay = refl
lacks_key BySetPosition = refl

-- ---- no semicolon in UNTIL

digit_clean : (n : ℕ) → n < 10 → not ((48 + n) == 59) ≡ true
digit_clean n h = grind (arith, nat_tests)

two_clean : (n : ℕ) → n < 100 → lacks 59 (two_digits n) ≡ true
two_clean n h = and_from (not ((48 + n / 10) == 59)) (not ((48 + n % 10) == 59) && true) (digit_clean (n / 10) (omega arith)) (and_from (not ((48 + n % 10) == 59)) true (digit_clean (n % 10) (omega arith)) refl)

four_clean : (n : ℕ) → n < 10_000 → lacks 59 (four_digits n) ≡ true
four_clean n h = lacks_append 59 (two_digits (n / 100)) (two_digits (n % 100)) (two_clean (n / 100) (omega arith)) (two_clean (n % 100) (omega arith))

date_clean : (text : List ℕ) (number : ℤ) → SpellsDate text number → lacks 59 text ≡ true
date_clean text number s =
    let long : days_in_month s.year s.month ≤ 31 = grind arith in
    rw s.spelled (lacks_append 59 (four_digits s.year ++ two_digits s.month) (two_digits s.day)
    (lacks_append 59 (four_digits s.year) (two_digits s.month) (four_clean s.year (omega (arith, s.last))) (two_clean s.month (omega (arith, s.date.1))))
    (two_clean s.day (omega (arith, s.date.3))))

time_clean : (text : List ℕ) (total : ℕ) → SpellsTime 60 text total → lacks 59 text ≡ true
time_clean text total s =
    rw s.spelled (lacks_append 59 (two_digits s.hour ++ two_digits s.minute) (two_digits s.second)
    (lacks_append 59 (two_digits s.hour) (two_digits s.minute) (two_clean s.hour (omega (arith, s.hours))) (two_clean s.minute (omega (arith, s.minutes))))
    (two_clean s.second (omega (arith, s.seconds))))

local_clean : (text : List ℕ) (seconds : ℤ) → SpellsLocal text seconds → lacks 59 text ≡ true
local_clean text seconds s =
    rw s.spelled (lacks_append 59 (s.date ++ codes "T") s.time (lacks_append 59 s.date (codes "T") (date_clean s.date s.number s.on) refl) (time_clean s.time s.second s.at_second))

until_clean : (text : List ℕ) (end : Until) → SpellsUntil text end → lacks 59 text ≡ true
until_clean text (UntilDay number) s = date_clean text number s
until_clean text (UntilLocal seconds) s = local_clean text seconds s
until_clean text (UntilInstant instant) (local, s, e) = rw e (lacks_append 59 local (codes "Z") (local_clean local instant s) refl)

-- ---- one more part

onto_append : (x : ℕ) (parts others : List (List ℕ)) → 0 < length parts → onto_first x (parts ++ others) ≡ onto_first x parts ++ others
onto_append x [] others h = absurd (omega arith)
onto_append x (part ∷ parts) others h = refl

split_more : (xs ys : List ℕ) → rule_parts (xs ++ 59 ∷ ys) ≡ rule_parts xs ++ rule_parts ys
split_more [] ys = refl
split_more (x ∷ xs) ys =
    let rest : rule_parts (xs ++ 59 ∷ ys) ≡ rule_parts xs ++ rule_parts ys = split_more xs ys in
    elim (x == 59) as (λ b. cond b ([] ∷ rule_parts (xs ++ 59 ∷ ys)) (onto_first x (rule_parts (xs ++ 59 ∷ ys))) ≡ cond b ([] ∷ rule_parts xs) (onto_first x (rule_parts xs)) ++ rule_parts ys) [
      | true ↦ ap (λ l. [] ∷ l) rest
      | false ↦ ap (onto_first x) rest ∙ onto_append x (rule_parts xs) (rule_parts ys) (omega (arith, length-slice_split (λ c. c == 59) xs))
    ]

-- nothing, or a semicolon, a key and its value
pub data Piece : List ℕ → RuleKey → List (List ℕ) → Type 0 where
  absent : (key : RuleKey) → Piece [] key []
  present : (key : RuleKey) (value : List ℕ) → lacks 59 value ≡ true → Piece (59 ∷ (key_word key ++ value)) key (value ∷ [])

piece_parts : (text piece : List ℕ) (key : RuleKey) (values : List (List ℕ)) → Piece piece key values → rule_parts (text ++ piece) ≡ rule_parts text ++ map (λ v. key_word key ++ v) values
piece_parts text piece key values (absent k) = ap rule_parts (append-nil text) ∙ sym (append-nil (rule_parts text))
piece_parts text piece key values (present k value clean) =
    split_more text (key_word k ++ value) ∙ ap (λ l. rule_parts text ++ l) (slice_split_none (λ c. c == 59) (key_word k ++ value) (lacks_all 59 (key_word k ++ value) (lacks_append 59 (key_word k) value (lacks_key k) clean)))

abbrev key_number : RuleKey → ℕ
key_number Interval = 0
key_number Count = 1
key_number EndsAt = 2
key_number WeekStart = 3
key_number ByMonth = 4
key_number ByMonthDay = 5
key_number ByDay = 6
key_number BySetPosition = 7

abbrev same_key : RuleKey → RuleKey → Bool
same_key k j = nat_eq (key_number k) (key_number j)

key_table : (k j : RuleKey) (value : List ℕ) → after_key (key_word k) (key_word j ++ value) ≡ cond (same_key k j) (Some value) None
unfolding after_key
key_table Interval Interval value = refl
key_table Interval Count value = refl
key_table Interval EndsAt value = refl
key_table Interval WeekStart value = refl
key_table Interval ByMonth value = refl
key_table Interval ByMonthDay value = refl
key_table Interval ByDay value = refl
key_table Interval BySetPosition value = refl
key_table Count Interval value = refl
key_table Count Count value = refl
key_table Count EndsAt value = refl
key_table Count WeekStart value = refl
key_table Count ByMonth value = refl
key_table Count ByMonthDay value = refl
key_table Count ByDay value = refl
key_table Count BySetPosition value = refl
key_table EndsAt Interval value = refl
key_table EndsAt Count value = refl
key_table EndsAt EndsAt value = refl
key_table EndsAt WeekStart value = refl
key_table EndsAt ByMonth value = refl
key_table EndsAt ByMonthDay value = refl
key_table EndsAt ByDay value = refl
key_table EndsAt BySetPosition value = refl
key_table WeekStart Interval value = refl
key_table WeekStart Count value = refl
key_table WeekStart EndsAt value = refl
key_table WeekStart WeekStart value = refl
key_table WeekStart ByMonth value = refl
key_table WeekStart ByMonthDay value = refl
key_table WeekStart ByDay value = refl
key_table WeekStart BySetPosition value = refl
key_table ByMonth Interval value = refl
key_table ByMonth Count value = refl
key_table ByMonth EndsAt value = refl
key_table ByMonth WeekStart value = refl
key_table ByMonth ByMonth value = refl
key_table ByMonth ByMonthDay value = refl
key_table ByMonth ByDay value = refl
key_table ByMonth BySetPosition value = refl
key_table ByMonthDay Interval value = refl
key_table ByMonthDay Count value = refl
key_table ByMonthDay EndsAt value = refl
key_table ByMonthDay WeekStart value = refl
key_table ByMonthDay ByMonth value = refl
key_table ByMonthDay ByMonthDay value = refl
key_table ByMonthDay ByDay value = refl
key_table ByMonthDay BySetPosition value = refl
key_table ByDay Interval value = refl
key_table ByDay Count value = refl
key_table ByDay EndsAt value = refl
key_table ByDay WeekStart value = refl
key_table ByDay ByMonth value = refl
key_table ByDay ByMonthDay value = refl
key_table ByDay ByDay value = refl
key_table ByDay BySetPosition value = refl
key_table BySetPosition Interval value = refl
key_table BySetPosition Count value = refl
key_table BySetPosition EndsAt value = refl
key_table BySetPosition WeekStart value = refl
key_table BySetPosition ByMonth value = refl
key_table BySetPosition ByMonthDay value = refl
key_table BySetPosition ByDay value = refl
key_table BySetPosition BySetPosition value = refl

frequency_table : (j : RuleKey) (value : List ℕ) → after_key (codes "FREQ=") (key_word j ++ value) ≡ None
unfolding after_key
frequency_table Interval value = refl
frequency_table Count value = refl
frequency_table EndsAt value = refl
frequency_table WeekStart value = refl
frequency_table ByMonth value = refl
frequency_table ByMonthDay value = refl
frequency_table ByDay value = refl
frequency_table BySetPosition value = refl

last_value : (found : List (List ℕ)) (value : List ℕ) (b : Bool) (o : Option (List ℕ)) → o ≡ cond b (Some value) None → found ++ cons_option o [] ≡ cond b (found ++ value ∷ []) found
last_value found value true o e = rw e refl
last_value found value false o e = rw e (append-nil found)

last_none : (found : List (List ℕ)) (b : Bool) → found ++ [] ≡ cond b (found ++ []) found
last_none found true = refl
last_none found false = append-nil found

piece_values : (text piece : List ℕ) (j : RuleKey) (values : List (List ℕ)) (k : RuleKey) → Piece piece j values → values_of (key_word k) (text ++ piece) ≡ cond (same_key k j) (values_of (key_word k) text ++ values) (values_of (key_word k) text)
piece_values text piece j values k (absent i) =
    ap (filter_map (after_key (key_word k))) (piece_parts text [] i [] (absent i)) ∙ filter_map-append (after_key (key_word k)) (rule_parts text) []
    ∙ last_none (values_of (key_word k) text) (same_key k i)
piece_values text piece j values k (present i value clean) =
    ap (filter_map (after_key (key_word k))) (piece_parts text (59 ∷ (key_word i ++ value)) i (value ∷ []) (present i value clean)) ∙ filter_map-append (after_key (key_word k)) (rule_parts text) ((key_word i ++ value) ∷ [])
    ∙ last_value (values_of (key_word k) text) value (same_key k i) (after_key (key_word k) (key_word i ++ value)) (key_table k i value)

piece_frequency : (text piece : List ℕ) (j : RuleKey) (values : List (List ℕ)) → Piece piece j values → values_of (codes "FREQ=") (text ++ piece) ≡ values_of (codes "FREQ=") text
piece_frequency text piece j values (absent i) =
    ap (filter_map (after_key (codes "FREQ="))) (piece_parts text [] i [] (absent i)) ∙ filter_map-append (after_key (codes "FREQ=")) (rule_parts text) []
    ∙ append-nil (values_of (codes "FREQ=") text)
piece_frequency text piece j values (present i value clean) =
    ap (filter_map (after_key (codes "FREQ="))) (piece_parts text (59 ∷ (key_word i ++ value)) i (value ∷ []) (present i value clean)) ∙ filter_map-append (after_key (codes "FREQ=")) (rule_parts text) ((key_word i ++ value) ∷ [])
    ∙ last_value (values_of (codes "FREQ=") text) value false (after_key (codes "FREQ=") (key_word i ++ value)) (frequency_table i value)

piece_known : (text piece : List ℕ) (j : RuleKey) (values : List (List ℕ)) → Piece piece j values → All IsKnownPart (rule_parts text) → All IsKnownPart (rule_parts (text ++ piece))
piece_known text piece j values (absent i) h =
    All-same IsKnownPart (rule_parts (text ++ [])) (rule_parts text ++ []) (piece_parts text [] i [] (absent i)) (All-append IsKnownPart (rule_parts text) [] h (All-nil IsKnownPart))
piece_known text piece j values (present i value clean) h =
    All-same IsKnownPart (rule_parts (text ++ 59 ∷ (key_word i ++ value))) (rule_parts text ++ (key_word i ++ value) ∷ []) (piece_parts text (59 ∷ (key_word i ++ value)) i (value ∷ []) (present i value clean))
    (All-append IsKnownPart (rule_parts text) ((key_word i ++ value) ∷ []) h (All-cons IsKnownPart (key_word i ++ value) [] (inr (i, value, after_append (key_word i) value)) (All-nil IsKnownPart)))

-- ---- all parts

-- FREQ and pieces, with the values of each key, the last one first
pub data Built (f : Frequency) : List ℕ → List (RuleKey × List (List ℕ)) → Type 0 where
  start : Built f (codes "FREQ=" ++ frequency_word f) []
  more : (text piece : List ℕ) (key : RuleKey) (values : List (List ℕ)) (before : List (RuleKey × List (List ℕ))) → Built f text before → Piece piece key values → Built f (text ++ piece) ((key, values) ∷ before)

abbrev gathered : RuleKey → List (RuleKey × List (List ℕ)) → List (List ℕ)
gathered k [] = []
gathered k (p ∷ ps) = cond (same_key k p.0) (gathered k ps ++ p.1) (gathered k ps)

start_values : (f : Frequency) (k : RuleKey) → values_of (key_word k) (codes "FREQ=" ++ frequency_word f) ≡ []
unfolding after_key
start_values Daily Interval = refl
start_values Daily Count = refl
start_values Daily EndsAt = refl
start_values Daily WeekStart = refl
start_values Daily ByMonth = refl
start_values Daily ByMonthDay = refl
start_values Daily ByDay = refl
start_values Daily BySetPosition = refl
start_values Weekly Interval = refl
start_values Weekly Count = refl
start_values Weekly EndsAt = refl
start_values Weekly WeekStart = refl
start_values Weekly ByMonth = refl
start_values Weekly ByMonthDay = refl
start_values Weekly ByDay = refl
start_values Weekly BySetPosition = refl
start_values Monthly Interval = refl
start_values Monthly Count = refl
start_values Monthly EndsAt = refl
start_values Monthly WeekStart = refl
start_values Monthly ByMonth = refl
start_values Monthly ByMonthDay = refl
start_values Monthly ByDay = refl
start_values Monthly BySetPosition = refl
start_values Yearly Interval = refl
start_values Yearly Count = refl
start_values Yearly EndsAt = refl
start_values Yearly WeekStart = refl
start_values Yearly ByMonth = refl
start_values Yearly ByMonthDay = refl
start_values Yearly ByDay = refl
start_values Yearly BySetPosition = refl

start_frequency : (f : Frequency) → values_of (codes "FREQ=") (codes "FREQ=" ++ frequency_word f) ≡ frequency_word f ∷ []
unfolding after_key
start_frequency Daily = refl
start_frequency Weekly = refl
start_frequency Monthly = refl
start_frequency Yearly = refl

start_known : (f : Frequency) → All IsKnownPart (rule_parts (codes "FREQ=" ++ frequency_word f))
unfolding after_key
start_known Daily = All-from_recursion IsKnownPart (rule_parts (codes "FREQ=" ++ frequency_word Daily)) (inl (Daily, refl), tt)
start_known Weekly = All-from_recursion IsKnownPart (rule_parts (codes "FREQ=" ++ frequency_word Weekly)) (inl (Weekly, refl), tt)
start_known Monthly = All-from_recursion IsKnownPart (rule_parts (codes "FREQ=" ++ frequency_word Monthly)) (inl (Monthly, refl), tt)
start_known Yearly = All-from_recursion IsKnownPart (rule_parts (codes "FREQ=" ++ frequency_word Yearly)) (inl (Yearly, refl), tt)

pub built_values : (f : Frequency) (text : List ℕ) (ps : List (RuleKey × List (List ℕ))) → Built f text ps → (k : RuleKey) → values_of (key_word k) text ≡ gathered k ps
built_values f text ps start k = start_values f k
built_values f text ps (more before piece key values qs b p) k =
    piece_values before piece key values k p ∙ ap (λ l. cond (same_key k key) (l ++ values) l) (built_values f before qs b k)

pub built_frequency : (f : Frequency) (text : List ℕ) (ps : List (RuleKey × List (List ℕ))) → Built f text ps → values_of (codes "FREQ=") text ≡ frequency_word f ∷ []
built_frequency f text ps start = start_frequency f
built_frequency f text ps (more before piece key values qs b p) = piece_frequency before piece key values p ∙ built_frequency f before qs b

pub built_known : (f : Frequency) (text : List ℕ) (ps : List (RuleKey × List (List ℕ))) → Built f text ps → All IsKnownPart (rule_parts text)
built_known f text ps start = start_known f
built_known f text ps (more before piece key values qs b p) = piece_known before piece key values p (built_known f before qs b)

-- ---- the pieces of a rule

abbrev pub list_values : List (List ℕ) → List (List ℕ)
list_values [] = []
list_values (entry ∷ entries) = (entry ++ listed (codes ",") entries) ∷ []

pub list_piece : {A : Type 0} (f : A → List ℕ) (test : A → Bool) → ((x : A) → test x ≡ true → lacks 59 (f x) ≡ true) → (key : RuleKey) (xs : List A) → list_all test xs ≡ true → Piece (listed (59 ∷ key_word key) (map f xs)) key (list_values (map f xs))
list_piece f test clean key [] h = absent key
list_piece f test clean key (x ∷ xs) h =
    let p = and_parts (test x) (list_all test xs) h in
    let rest = listed (codes ",") (map f xs) in
    subst (λ (t : List ℕ). Piece t key ((f x ++ rest) ∷ [])) (ap (λ t. 59 ∷ t) (sym (append_assoc (key_word key) (f x) rest)))
    (present key (f x ++ rest) (lacks_append 59 (f x) rest (clean x p.0) (lacks_listed f test clean xs p.1)))

short_enough : (n : ℕ) → nat_le n 366 ≡ true → n ≤ 366
short_enough n e = grind (arith, nat_tests)

pub list_says : {A : Type 0} (Is : List ℕ → A → Type 0) (f : A → List ℕ) (test : A → Bool) → ((x : A) → test x ≡ true → Is (f x) x) → ((x : A) → test x ≡ true → lacks 44 (f x) ≡ true)
    → (xs : List A) → (list_all test xs && has_few_entries xs) ≡ true → SaysOr (SpellsList Is) [] (list_values (map f xs)) xs
list_says Is f test spells clean [] h = refl
list_says Is f test spells clean (x ∷ xs) h =
    let p = and_parts (list_all test (x ∷ xs)) (has_few_entries (x ∷ xs)) h in
    written_list Is f test spells clean x xs p.0 (short_enough (length (x ∷ xs)) p.1)

small : (high n : ℕ) → high ≤ 100_000 → is_between 1 high n ≡ true → n < 2 ^ 64
small high n h e = let u = up_to high n e in omega arith

abbrev count_values : Option ℕ → List (List ℕ)
count_values None = []
count_values (Some n) = decimal n ∷ []

count_piece : (c : Option ℕ) → is_count c ≡ true → Piece (count_text c) Count (count_values c)
count_piece None e = absent Count
count_piece (Some n) e = present Count (decimal n) (lacks_decimal 59 semicolon n (small 100_000 n (omega arith) e))

count_says : (c : Option ℕ) → is_count c ≡ true → SaysOr (IsGivenPart SpellsCount) None (count_values c) c
count_says None e = refl
count_says (Some n) e = between_back 1 100_000 n (small 100_000 n (omega arith) e) e

abbrev until_values : Option Until → Option (List ℕ) → List (List ℕ)
until_values None text = []
until_values (Some _) None = []
until_values (Some _) (Some text) = text ∷ []

until_piece : (u : Option Until) (text : Option (List ℕ)) (end : Option Until) → HandsIn u text end → Piece (until_text u text) EndsAt (until_values u text)
until_piece None text end h = absent EndsAt
until_piece (Some u) None end h = absent EndsAt
until_piece (Some u) (Some text) None h = absurd h
until_piece (Some u) (Some text) (Some end) h = present EndsAt text (until_clean text end h)

until_says : (u : Option Until) (text : Option (List ℕ)) (end : Option Until) → HandsIn u text end → SaysOr (IsGivenPart SpellsUntil) None (until_values u text) end
until_says None text end h = h
until_says (Some u) None end h = h
until_says (Some u) (Some text) None h = absurd h
until_says (Some u) (Some text) (Some end) h = h

interval_piece : (n : ℕ) (b : Bool) → is_between 1 9999 n ≡ true → Piece (cond b [] (codes ";INTERVAL=" ++ decimal n)) Interval (cond b [] (decimal n ∷ []))
interval_piece n true e = absent Interval
interval_piece n false e = present Interval (decimal n) (lacks_decimal 59 semicolon n (small 9999 n (omega arith) e))

interval_says : (n : ℕ) (b : Bool) → (n == 1) ≡ b → is_between 1 9999 n ≡ true → SaysOr SpellsInterval 1 (cond b [] (decimal n ∷ [])) n
interval_says n true e h = let one : n ≡ 1 = grind (arith, nat_tests) in one
interval_says n false e h = between_back 1 9999 n (small 9999 n (omega arith) h) h

week_piece : (n : ℕ) (b : Bool) → n < 7 → Piece (cond b [] (codes ";WKST=" ++ weekday_word n)) WeekStart (cond b [] (weekday_word n ∷ []))
week_piece n true h = absent WeekStart
week_piece n false h = present WeekStart (weekday_word n) (lacks_weekday 59 semicolon n h)

week_says : (n : ℕ) (b : Bool) → (n == 0) ≡ b → n < 7 → SaysOr SpellsWeekday 0 (cond b [] (weekday_word n ∷ [])) n
week_says n true e h = let none : n ≡ 0 = grind (arith, nat_tests) in none
week_says n false e h = (h, refl)

-- ---- the rule

abbrev rule_values : RuleText → Option (List ℕ) → List (RuleKey × List (List ℕ))
rule_values t until =
    (WeekStart, cond (t.week_start == 0) [] (weekday_word t.week_start ∷ []))
    ∷ (BySetPosition, list_values (map signed_decimal (numbers_from 0 t.positions)))
    ∷ (ByDay, list_values (map weekday_number_text (entries_from 0 t.weekdays)))
    ∷ (ByMonthDay, list_values (map signed_decimal (numbers_from 0 t.month_days)))
    ∷ (ByMonth, list_values (map decimal (months_from 1 t.months)))
    ∷ (Interval, cond (t.interval == 1) [] (decimal t.interval ∷ []))
    ∷ (EndsAt, until_values t.until until)
    ∷ (Count, count_values t.count)
    ∷ []

-- what the ranges of a rule say, one by one
pub record Ranges (t : RuleText) : Type 0 where
  pub interval : is_between 1 9999 t.interval ≡ true
  pub count : is_count t.count ≡ true
  pub week : t.week_start < 7
  pub months : (list_all (is_between 1 12) t.months && has_few_entries t.months) ≡ true
  pub month_days : (list_all (is_place 31) t.month_days && has_few_entries t.month_days) ≡ true
  pub weekdays : (list_all is_entry t.weekdays && has_few_entries t.weekdays) ≡ true
  pub positions : (list_all (is_place 366) t.positions && has_few_entries t.positions) ≡ true

pub ranges : (t : RuleText) → is_in_range t ≡ true → Ranges t
unfolding is_in_range
ranges t h =
    let p6 = and_parts _ (list_all (is_place 366) t.positions && has_few_entries t.positions) h in
    let p5 = and_parts _ (list_all is_entry t.weekdays && has_few_entries t.weekdays) p6.0 in
    let p4 = and_parts _ (list_all (is_place 31) t.month_days && has_few_entries t.month_days) p5.0 in
    let p3 = and_parts _ (list_all (is_between 1 12) t.months && has_few_entries t.months) p4.0 in
    let p2 = and_parts _ (nat_lt t.week_start 7) p3.0 in
    let p1 = and_parts (is_between 1 9999 t.interval) (is_count t.count) p2.0 in
    record {
      interval = p1.0;
      count = p1.1;
      week = below 7 t.week_start p2.1;
      months = p3.1;
      month_days = p4.1;
      weekdays = p5.1;
      positions = p6.1;
    }

built : (t : RuleText) (until : Option (List ℕ)) (end : Option Until) → Ranges (as_written t end) → HandsIn t.until until end → Built t.frequency (rule_text t until) (rule_values t until)
built t until end r h =
    let m = and_parts (list_all (is_between 1 12) (months_from 1 t.months)) (has_few_entries (months_from 1 t.months)) r.months in
    let d = and_parts (list_all (is_place 31) (numbers_from 0 t.month_days)) (has_few_entries (numbers_from 0 t.month_days)) r.month_days in
    let e = and_parts (list_all is_entry (entries_from 0 t.weekdays)) (has_few_entries (entries_from 0 t.weekdays)) r.weekdays in
    let p = and_parts (list_all (is_place 366) (numbers_from 0 t.positions)) (has_few_entries (numbers_from 0 t.positions)) r.positions in
    more _ _ WeekStart _ _ (more _ _ BySetPosition _ _ (more _ _ ByDay _ _ (more _ _ ByMonthDay _ _ (more _ _ ByMonth _ _ (more _ _ Interval _ _ (more _ _ EndsAt _ _ (more _ _ Count _ _ start
    (count_piece t.count r.count))
    (until_piece t.until until end h))
    (interval_piece t.interval (t.interval == 1) r.interval))
    (list_piece decimal (is_between 1 12) (λ n b. lacks_decimal 59 semicolon n (month_small n b)) ByMonth (months_from 1 t.months) m.0))
    (list_piece signed_decimal (is_place 31) (λ z b. lacks_place 59 semicolon 31 z (omega arith) b) ByMonthDay (numbers_from 0 t.month_days) d.0))
    (list_piece weekday_number_text is_entry (lacks_entry 59 semicolon) ByDay (entries_from 0 t.weekdays) e.0))
    (list_piece signed_decimal (is_place 366) (λ z b. lacks_place 59 semicolon 366 z (omega arith) b) BySetPosition (numbers_from 0 t.positions) p.0))
    (week_piece t.week_start (t.week_start == 0) r.week)

pub says_at : {A : Type 0} (Is : List ℕ → A → Type 0) (missing : A) (x : A) (values found : List (List ℕ)) → values ≡ found → SaysOr Is missing found x → SaysOr Is missing values x
says_at Is missing x values found e h = rw e h

pub rule_back : (t : RuleText) (until : Option (List ℕ)) (end : Option Until) → is_in_range (as_written t end) ≡ true → go_together (as_written t end) ≡ true → has_one_end (as_written t end) ≡ true → HandsIn t.until until end → SpellsRule (rule_text t until) (as_written t end)
rule_back t until end range together ends h =
    let r = ranges (as_written t end) range in
    let b = built t until end r h in
    let text = rule_text t until in
    let values = built_values t.frequency text (rule_values t until) b in
    record {
      known = built_known t.frequency text (rule_values t until) b;
      says = record {
        frequency = built_frequency t.frequency text (rule_values t until) b;
        interval = says_at SpellsInterval 1 t.interval _ _ (values Interval) (interval_says t.interval (t.interval == 1) refl r.interval);
        count = says_at (IsGivenPart SpellsCount) None t.count _ _ (values Count) (count_says t.count r.count);
        until = says_at (IsGivenPart SpellsUntil) None end _ _ (values EndsAt) (until_says t.until until end h);
        week_start = says_at SpellsWeekday 0 t.week_start _ _ (values WeekStart) (week_says t.week_start (t.week_start == 0) refl r.week);
        months = says_at SpellsMonths [] (months_from 1 t.months) _ _ (values ByMonth) (list_says (SpellsBetween 1 12) decimal (is_between 1 12) (λ n e. between_back 1 12 n (month_small n e) e) (λ n e. lacks_decimal 44 comma n (month_small n e)) (months_from 1 t.months) r.months);
        month_days = says_at SpellsMonthDays [] (numbers_from 0 t.month_days) _ _ (values ByMonthDay) (list_says (SpellsPlace 31) signed_decimal (is_place 31) (λ z e. place_back 31 z (omega arith) e) (λ z e. lacks_place 44 comma 31 z (omega arith) e) (numbers_from 0 t.month_days) r.month_days);
        weekdays = says_at SpellsEntries [] (entries_from 0 t.weekdays) _ _ (values ByDay) (list_says SpellsEntry weekday_number_text is_entry entry_back (lacks_entry 44 comma) (entries_from 0 t.weekdays) r.weekdays);
        positions = says_at SpellsPositions [] (numbers_from 0 t.positions) _ _ (values BySetPosition) (list_says (SpellsPlace 366) signed_decimal (is_place 366) (λ z e. place_back 366 z (omega arith) e) (λ z e. lacks_place 44 comma 366 z (omega arith) e) (numbers_from 0 t.positions) r.positions);
      };
      together = together;
      one_end = ends;
    }
