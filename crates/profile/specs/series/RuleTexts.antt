-- The text of a recurrence rule: what it says, and what can be wrong with it (RFC 5545 3.3.10).
use Rattle.std.specs.Prelude.{◌≡◌, ℕ, ◌-◌, ◌/◌, ◌%◌, ◌<◌, ◌≤◌, ◌⊎◌, Bool, ◌&&◌, ◌==◌, true, false, if◌then◌else◌, IsTrue, Contains, All, List, [], ◌∷◌, ◌++◌, length, map, filter, codes, decimal, Option, Some, None, ℤ, pos, neg_ℤ, ◌-ℤ◌}
use Rattle.std.specs.Fmt.{signed_decimal}
use Rattle.std.specs.List.{slice_split, filter_map, AllZip, list_any, range_with_len}
use Rattle.std.specs.Ordering.{int_eq}
use Rattle.profile.specs.faults.Faults.{is_between}
use Rattle.profile.specs.series.Days.{Frequency, Daily, Weekly, Monthly, Yearly}
use Rattle.profile.specs.text.Values.{IsNumber, SpellsDate, SpellsLocal, SpellsStamp}
use Rattle.profile.specs.series.Rules.{RuleText, WeekdayNumber, Until, UntilDay, UntilLocal, UntilInstant, is_plain, go_together, has_one_end}

-- THE PARTS OF A TEXT

-- the parts, between semicolons
abbrev pub rule_parts : List ℕ → List (List ℕ)
rule_parts text = slice_split (λ c. c == 59) text

-- what follows a key, a name and `=`, in a part that begins with it
unfoldable pub after_key : List ℕ → List ℕ → Option (List ℕ)
after_key [] part = Some part
after_key (k ∷ key) [] = None
after_key (k ∷ key) (c ∷ part) = if c == k then after_key key part else None

-- the values of the parts with this key, in order
abbrev pub values_of : List ℕ → List ℕ → List (List ℕ)
values_of key text = filter_map (after_key key) (rule_parts text)

-- the parts that are read besides FREQ, each at most once
pub data RuleKey : Type 0 where
  Interval : RuleKey
  Count : RuleKey
  EndsAt : RuleKey
  WeekStart : RuleKey
  ByMonth : RuleKey
  ByMonthDay : RuleKey
  ByDay : RuleKey
  BySetPosition : RuleKey

abbrev pub key_word : RuleKey → List ℕ
key_word Interval = codes "INTERVAL="
key_word Count = codes "COUNT="
key_word EndsAt = codes "UNTIL="
key_word WeekStart = codes "WKST="
key_word ByMonth = codes "BYMONTH="
key_word ByMonthDay = codes "BYMONTHDAY="
key_word ByDay = codes "BYDAY="
key_word BySetPosition = codes "BYSETPOS="

-- VALUES

abbrev pub frequency_word : Frequency → List ℕ
frequency_word Daily = codes "DAILY"
frequency_word Weekly = codes "WEEKLY"
frequency_word Monthly = codes "MONTHLY"
frequency_word Yearly = codes "YEARLY"

abbrev pub SpellsFrequency : List ℕ → Frequency → Type 0
SpellsFrequency value frequency = value ≡ frequency_word frequency

-- the two letters of a weekday, 0 for Monday
abbrev pub weekday_word : ℕ → List ℕ
weekday_word n =
    if n == 0 then codes "MO" else (if n == 1 then codes "TU" else (if n == 2 then codes "WE" else (if n == 3 then codes "TH"
    else (if n == 4 then codes "FR" else (if n == 5 then codes "SA" else codes "SU")))))

abbrev pub SpellsWeekday : List ℕ → ℕ → Type 0
SpellsWeekday value weekday = (weekday < 7) × (value ≡ weekday_word weekday)

-- digits, leading zeros among them, that give a number of this range
abbrev pub SpellsBetween : ℕ → ℕ → List ℕ → ℕ → Type 0
SpellsBetween low high value n = IsNumber value n × IsTrue (is_between low high n)

-- a number from 1 to the most, with `+` or none before it, or with `-`: then it counts from the end
abbrev pub SpellsPlace : ℕ → List ℕ → ℤ → Type 0
SpellsPlace most value place =
    (digits : List ℕ) × (size : ℕ) × SpellsBetween 1 most digits size
    × ((((value ≡ digits) ⊎ (value ≡ codes "+" ++ digits)) × (place ≡ pos size))
    ⊎ ((value ≡ codes "-" ++ digits) × (place ≡ neg_ℤ (pos size))))

-- an entry of BYDAY: a weekday, and before it nothing, which counts as 0, or a number from 1 to 53 or from -53 to -1
abbrev pub SpellsEntry : List ℕ → WeekdayNumber → Type 0
SpellsEntry value entry =
    (front : List ℕ) × (letters : List ℕ) × (value ≡ front ++ letters) × SpellsWeekday letters entry.weekday
    × (((front ≡ []) × (entry.number ≡ pos 0)) ⊎ SpellsPlace 53 front entry.number)

-- values with commas between, at most 366 of them, which is this profile's choice
abbrev pub SpellsList : {A : Type 0} → (List ℕ → A → Type 0) → List ℕ → List A → Type 0
SpellsList IsValue value xs = AllZip IsValue (slice_split (λ c. c == 44) value) xs × (length xs ≤ 366)

-- a date, a local time, or a UTC time
abbrev pub SpellsUntil : List ℕ → Until → Type 0
SpellsUntil value (UntilDay number) = SpellsDate value number
SpellsUntil value (UntilLocal seconds) = SpellsLocal value seconds
SpellsUntil value (UntilInstant instant) = SpellsStamp value instant

-- 1 to 9,999 and 1 to 100,000 are this profile's choice
abbrev pub SpellsInterval : List ℕ → ℕ → Type 0
SpellsInterval = SpellsBetween 1 9999

abbrev pub SpellsCount : List ℕ → ℕ → Type 0
SpellsCount = SpellsBetween 1 100_000

abbrev pub SpellsMonths : List ℕ → List ℕ → Type 0
SpellsMonths = SpellsList (SpellsBetween 1 12)

abbrev pub SpellsMonthDays : List ℕ → List ℤ → Type 0
SpellsMonthDays = SpellsList (SpellsPlace 31)

abbrev pub SpellsEntries : List ℕ → List WeekdayNumber → Type 0
SpellsEntries = SpellsList SpellsEntry

abbrev pub SpellsPositions : List ℕ → List ℤ → Type 0
SpellsPositions = SpellsList (SpellsPlace 366)

-- a value that spells nothing: it isn't a value of its part, is out of its range, or is a list that is too long
abbrev pub SpellsNone : {A : Type 0} → (List ℕ → A → Type 0) → List ℕ → Type 0
SpellsNone {A} IsValue value = (x : A) → IsValue value x → ⊥

abbrev pub IsBadValue : RuleKey → List ℕ → Type 0
IsBadValue Interval = SpellsNone SpellsInterval
IsBadValue Count = SpellsNone SpellsCount
IsBadValue EndsAt = SpellsNone SpellsUntil
IsBadValue WeekStart = SpellsNone SpellsWeekday
IsBadValue ByMonth = SpellsNone SpellsMonths
IsBadValue ByMonthDay = SpellsNone SpellsMonthDays
IsBadValue ByDay = SpellsNone SpellsEntries
IsBadValue BySetPosition = SpellsNone SpellsPositions

-- WHAT A TEXT SAYS

-- FREQ with a frequency of a day or more, or another part that is read here
abbrev pub IsKnownPart : List ℕ → Type 0
IsKnownPart part =
    ((frequency : Frequency) × (after_key (codes "FREQ=") part ≡ Some (frequency_word frequency)))
    ⊎ ((key : RuleKey) × (value : List ℕ) × (after_key (key_word key) part ≡ Some value))

-- of the values of one part: a single one is spelled so, and where there is none that is missing
abbrev pub SaysOr : {A : Type 0} → (List ℕ → A → Type 0) → A → List (List ℕ) → A → Type 0
SaysOr IsValue missing [] x = x ≡ missing
SaysOr IsValue missing (value ∷ []) x = IsValue value x
SaysOr IsValue missing (_ ∷ _ ∷ _) x = ⊥

-- the value of a part that means nothing where it is missing
abbrev pub IsGivenPart : {A : Type 0} → (List ℕ → A → Type 0) → List ℕ → Option A → Type 0
IsGivenPart IsValue value None = ⊥
IsGivenPart IsValue value (Some x) = IsValue value x

-- FREQ occurs exactly once and says this
abbrev pub SaysFrequency : List (List ℕ) → Frequency → Type 0
SaysFrequency values frequency = values ≡ frequency_word frequency ∷ []

-- FREQ occurs exactly once, each other part once or not at all, and they say this
pub record SaysParts (text : List ℕ) (rule : RuleText) : Type 0 where
  pub frequency : SaysFrequency (values_of (codes "FREQ=") text) rule.frequency
  pub interval : SaysOr SpellsInterval 1 (values_of (codes "INTERVAL=") text) rule.interval
  pub count : SaysOr (IsGivenPart SpellsCount) None (values_of (codes "COUNT=") text) rule.count
  pub until : SaysOr (IsGivenPart SpellsUntil) None (values_of (codes "UNTIL=") text) rule.until
  pub week_start : SaysOr SpellsWeekday 0 (values_of (codes "WKST=") text) rule.week_start
  pub months : SaysOr SpellsMonths [] (values_of (codes "BYMONTH=") text) rule.months
  pub month_days : SaysOr SpellsMonthDays [] (values_of (codes "BYMONTHDAY=") text) rule.month_days
  pub weekdays : SaysOr SpellsEntries [] (values_of (codes "BYDAY=") text) rule.weekdays
  pub positions : SaysOr SpellsPositions [] (values_of (codes "BYSETPOS=") text) rule.positions

-- the text spells this rule: each part is known, they say it, go together, and have one end
pub record SpellsRule (text : List ℕ) (rule : RuleText) : Type 0 where
  pub known : All IsKnownPart (rule_parts text)
  pub says : SaysParts text rule
  pub together : go_together rule ≡ true
  pub one_end : has_one_end rule ≡ true

-- WHAT CAN BE WRONG WITH IT, BY THE NUMBER OF ITS REFUSAL

pub data RuleFault (text : List ℕ) : ℕ → Type 0 where
  -- a part is unknown, or empty, or its frequency isn't supported
  unknown : (part : List ℕ) → Contains (rule_parts text) part → (IsKnownPart part → ⊥) → RuleFault text 30
  -- a value spells nothing, also where its part occurs twice
  bad_value : (key : RuleKey) (value : List ℕ) → Contains (values_of (key_word key) text) value → IsBadValue key value → RuleFault text 31
  -- no FREQ, or two
  no_frequency : values_of (codes "FREQ=") text ≡ [] → RuleFault text 32
  two_frequencies : 1 < length (values_of (codes "FREQ=") text) → RuleFault text 32
  -- another part twice
  twice : (key : RuleKey) → 1 < length (values_of (key_word key) text) → RuleFault text 32
  -- parts that don't go together
  apart : (rule : RuleText) → SaysParts text rule → go_together rule ≡ false → RuleFault text 32
  -- both COUNT and UNTIL
  two_ends : (rule : RuleText) → SaysParts text rule → has_one_end rule ≡ false → RuleFault text 33

-- the least number of all faults that the text has
pub record IsLeastRuleFault (text : List ℕ) (number : ℕ) : Type 0 where
  pub fault : RuleFault text number
  pub least : (other : ℕ) → RuleFault text other → number ≤ other

-- THE ONE FORM IN WHICH A RULE IS WRITTEN

-- entries, the first after its lead, the others after commas; without entries nothing
abbrev pub listed : List ℕ → List (List ℕ) → List ℕ
listed lead [] = []
listed lead (entry ∷ entries) = lead ++ entry ++ listed (codes ",") entries

-- the months of a list from one on, ascending, each once
unfoldable pub months_from : ℕ → List ℕ → List ℕ
months_from first months = filter (λ n. list_any (λ month. month == n) months) (range_with_len first (13 - first))

-- the kth number from -366 on
abbrev pub nth_number : ℕ → ℤ
nth_number k = pos k -ℤ pos 366

-- the numbers of a list from the kth on and up to 366, ascending, each once
unfoldable pub numbers_from : ℕ → List ℤ → List ℤ
numbers_from k numbers = filter (λ n. list_any (λ number. int_eq number n) numbers) (map nth_number (range_with_len k (733 - k)))

abbrev pub is_same_entry : WeekdayNumber → WeekdayNumber → Bool
is_same_entry a b = int_eq a.number b.number && (a.weekday == b.weekday)

-- the kth entry from -53MO to 53SU: by number, where none counts as 0, then from Monday on
abbrev pub nth_entry : ℕ → WeekdayNumber
nth_entry k = record { number = pos (k / 7) -ℤ pos 53; weekday = k % 7 }

-- the entries of a list from the kth on, in that order, each once
unfoldable pub entries_from : ℕ → List WeekdayNumber → List WeekdayNumber
entries_from k entries = filter (λ e. list_any (λ entry. is_same_entry entry e) entries) (map nth_entry (range_with_len k (749 - k)))

abbrev pub weekday_number_text : WeekdayNumber → List ℕ
weekday_number_text entry = (if is_plain entry.number then [] else signed_decimal entry.number) ++ weekday_word entry.weekday

-- COUNT where it is written
abbrev pub count_text : Option ℕ → List ℕ
count_text None = []
count_text (Some count) = codes ";COUNT=" ++ decimal count

-- UNTIL where it is written, as the text that is given
abbrev pub until_text : Option Until → Option (List ℕ) → List ℕ
until_text None until = []
until_text (Some _) None = []
until_text (Some _) (Some text) = codes ";UNTIL=" ++ text

-- FREQ, COUNT or UNTIL, INTERVAL unless 1, BYMONTH, BYMONTHDAY, BYDAY, BYSETPOS, WKST unless MO; this profile's choice
abbrev pub rule_text : RuleText → Option (List ℕ) → List ℕ
rule_text rule until =
    codes "FREQ=" ++ frequency_word rule.frequency ++ count_text rule.count ++ until_text rule.until until
    ++ (if rule.interval == 1 then [] else codes ";INTERVAL=" ++ decimal rule.interval)
    ++ listed (codes ";BYMONTH=") (map decimal (months_from 1 rule.months))
    ++ listed (codes ";BYMONTHDAY=") (map signed_decimal (numbers_from 0 rule.month_days))
    ++ listed (codes ";BYDAY=") (map weekday_number_text (entries_from 0 rule.weekdays))
    ++ listed (codes ";BYSETPOS=") (map signed_decimal (numbers_from 0 rule.positions))
    ++ (if rule.week_start == 0 then [] else codes ";WKST=" ++ weekday_word rule.week_start)

-- the rule that is written: its lists in order, each entry once, and the end that was given
abbrev pub as_written : RuleText → Option Until → RuleText
as_written rule end = record {
  frequency = rule.frequency;
  interval = rule.interval;
  week_start = rule.week_start;
  months = months_from 1 rule.months;
  month_days = numbers_from 0 rule.month_days;
  weekdays = entries_from 0 rule.weekdays;
  positions = numbers_from 0 rule.positions;
  count = rule.count;
  until = end;
}

-- the text that is given for UNTIL spells this end; where the rule has no UNTIL, or nothing is given, none is written
abbrev pub HandsIn : Option Until → Option (List ℕ) → Option Until → Type 0
HandsIn None text end = end ≡ None
HandsIn (Some _) None end = end ≡ None
HandsIn (Some _) (Some text) None = ⊥
HandsIn (Some _) (Some text) (Some end) = SpellsUntil text end
