-- What a text says, all parts together: one rule, each number in its range, and the least fault.
use Rattle.std.proofs.Common.{◌≡◌, ◌∙◌, ap, sym, refl, ℕ, zero, suc, ◌<◌, ◌≤◌, Bool, true, false, ◌&&◌, ◌||◌, nat_lt, nat_le, inl, inr, ◌⊎◌, List, [], ◌∷◌, length, codes, subst, All, Contains, Option, None, Some, ℤ, pos, neg_ℤ, arith}
use Rattle.ical_lines.specs.Fault.{RefusesBy}
use Rattle.std.proofs.lemmas.Bool.Decides.{nat_tests}
use Rattle.std.proofs.lemmas.List.Elements.{All-contains}
use Rattle.std.specs.List.{list_all}
use Rattle.std.proofs.lemmas.Bool.{and_from, or_right}
use Rattle.profile.specs.faults.Faults.{is_between}
use Rattle.profile.specs.series.Days.{Frequency}
use Rattle.profile.specs.series.Rules.{RuleText, WeekdayNumber, Until, is_place, is_plain, is_entry, is_count, has_few_entries, is_in_range, go_together, has_one_end, IsAllowed}
use Rattle.profile.specs.series.RuleTexts.{RuleKey, Interval, Count, EndsAt, WeekStart, ByMonth, ByMonthDay, ByDay, BySetPosition, rule_parts, key_word, values_of, frequency_word, SpellsBetween, SpellsPlace, SpellsEntry, SpellsList, SpellsWeekday, SpellsCount, SpellsUntil, IsGivenPart, SaysOr, SaysFrequency, IsKnownPart, IsBadValue, SaysParts, SpellsRule, RuleFault, unknown, bad_value, no_frequency, two_frequencies, twice, apart, two_ends, IsLeastRuleFault}
use Rattle.ical_lines.specs.declared.fault.Fault.{Fault}
use Rattle.ical_lines.specs.declared.fault.Fault.TheVariants.{Refused, Memory}
use Rattle.ical_lines.specs.declared.fault.Refusal.{Refusal}
use Rattle.cal_rules.specs.declared.parts.Parts as rust
use Rattle.cal_rules.specs.Taken.{KeepsLeastFault, ArePartsTaken}
use Rattle.cal_rules.proofs.Parted.{all_good, bad_there, twice_there}
use Rattle.cal_rules.proofs.Numbers.{weekday_same, frequency_same, between_same, place_same, entry_same, until_same}
use Rattle.cal_rules.proofs.Entered.{zip_same, zip_all}

-- ---- ranges

says_test : {A : Type 0} (Is : List ℕ → A → Type 0) (missing : A) (test : A → Bool) → test missing ≡ true → ((v : List ℕ) (x : A) → Is v x → test x ≡ true) → (values : List (List ℕ)) (x : A) → SaysOr Is missing values x → test x ≡ true
says_test Is missing test m passes [] x s = ap test s ∙ m
says_test Is missing test m passes (v ∷ []) x s = passes v x s
says_test Is missing test m passes (v ∷ w ∷ vs) x s = absurd s

count_ranges : (v : List ℕ) (x : Option ℕ) → IsGivenPart SpellsCount v x → is_count x ≡ true
count_ranges v None s = absurd s
count_ranges v (Some n) s = s.1

pub weekday_test : (n : ℕ) → n < 7 → nat_lt n 7 ≡ true
weekday_test n h = grind (arith, nat_tests)

weekday_ranges : (v : List ℕ) (n : ℕ) → SpellsWeekday v n → nat_lt n 7 ≡ true
weekday_ranges v n s = weekday_test n s.0

fits : (n : ℕ) → n ≤ 366 → nat_le n 366 ≡ true
fits n h = grind (arith, nat_tests)

short : {A : Type 0} (xs : List A) → length xs ≤ 366 → has_few_entries xs ≡ true
short xs h = fits (length xs) h

from_end : (most size : ℕ) → is_between 1 most size ≡ true → is_place most (neg_ℤ (pos size)) ≡ true
from_end most zero h = grind (arith, nat_tests)
from_end most (suc n) h = grind (arith, nat_tests)

place_ranges : (most : ℕ) (v : List ℕ) (x : ℤ) → SpellsPlace most v x → is_place most x ≡ true
place_ranges most v x (digits, size, s, inl (f, e)) = ap (is_place most) e ∙ s.1
place_ranges most v x (digits, size, s, inr (f, e)) = ap (is_place most) e ∙ from_end most size s.1

number_ranges : (front : List ℕ) (x : ℤ) → ((front ≡ []) × (x ≡ pos 0)) ⊎ SpellsPlace 53 front x → (is_plain x || is_place 53 x) ≡ true
number_ranges front x (inl (e, f)) = ap (λ z. is_plain z || is_place 53 z) f
number_ranges front x (inr s) = or_right (is_plain x) (is_place 53 x) (place_ranges 53 front x s)

entry_ranges : (v : List ℕ) (x : WeekdayNumber) → SpellsEntry v x → is_entry x ≡ true
entry_ranges v x (front, letters, e, w, n) =
    and_from (nat_lt x.weekday 7) (is_plain x.number || is_place 53 x.number) (weekday_test x.weekday w.0) (number_ranges front x.number n)

list_ranges : {A : Type 0} (Is : List ℕ → A → Type 0) (test : A → Bool) → ((v : List ℕ) (x : A) → Is v x → test x ≡ true) → (v : List ℕ) (xs : List A) → SpellsList Is v xs → (list_all test xs && has_few_entries xs) ≡ true
list_ranges Is test passes v xs s = and_from (list_all test xs) (has_few_entries xs) (zip_all Is test passes _ xs s.0) (short xs s.1)

between_ranges : (low high : ℕ) (v : List ℕ) (x : ℕ) → SpellsBetween low high v x → is_between low high x ≡ true
between_ranges low high v x s = s.1

pub says_range : (text : List ℕ) (t : RuleText) → SaysParts text t → is_in_range t ≡ true
unfolding is_in_range
says_range text t s =
    let interval = says_test (SpellsBetween 1 9999) 1 (is_between 1 9999) refl (between_ranges 1 9999) _ t.interval s.interval in
    let count = says_test (IsGivenPart SpellsCount) None is_count refl count_ranges _ t.count s.count in
    let week_start = says_test SpellsWeekday 0 (λ n. nat_lt n 7) refl weekday_ranges _ t.week_start s.week_start in
    let months = says_test (SpellsList (SpellsBetween 1 12)) [] (λ xs. list_all (is_between 1 12) xs && has_few_entries xs) refl (list_ranges (SpellsBetween 1 12) (is_between 1 12) (between_ranges 1 12)) _ t.months s.months in
    let month_days = says_test (SpellsList (SpellsPlace 31)) [] (λ xs. list_all (is_place 31) xs && has_few_entries xs) refl (list_ranges (SpellsPlace 31) (is_place 31) (place_ranges 31)) _ t.month_days s.month_days in
    let weekdays = says_test (SpellsList SpellsEntry) [] (λ xs. list_all is_entry xs && has_few_entries xs) refl (list_ranges SpellsEntry is_entry entry_ranges) _ t.weekdays s.weekdays in
    let positions = says_test (SpellsList (SpellsPlace 366)) [] (λ xs. list_all (is_place 366) xs && has_few_entries xs) refl (list_ranges (SpellsPlace 366) (is_place 366) (place_ranges 366)) _ t.positions s.positions in
    and_from _ _ (and_from _ _ (and_from _ _ (and_from _ _ (and_from _ _ (and_from _ _ interval count) week_start) months) month_days) weekdays) positions

pub is_allowed : (text : List ℕ) (t : RuleText) → SaysParts text t → go_together t ≡ true → has_one_end t ≡ true → IsAllowed t
is_allowed text t s together ends = (says_range text t s, together, ends)

-- ---- one rule

says_same : {A : Type 0} (Is : List ℕ → A → Type 0) (missing : A) → ((v : List ℕ) (x y : A) → Is v x → Is v y → x ≡ y) → (values : List (List ℕ)) (x y : A) → SaysOr Is missing values x → SaysOr Is missing values y → x ≡ y
says_same Is missing one [] x y s t = s ∙ sym t
says_same Is missing one (v ∷ []) x y s t = one v x y s t
says_same Is missing one (v ∷ w ∷ vs) x y s t = absurd s

given_same : {A : Type 0} (Is : List ℕ → A → Type 0) → ((v : List ℕ) (x y : A) → Is v x → Is v y → x ≡ y) → (v : List ℕ) (x y : Option A) → IsGivenPart Is v x → IsGivenPart Is v y → x ≡ y
given_same Is one v None y s t = absurd s
given_same Is one v (Some x) None s t = absurd t
given_same Is one v (Some x) (Some y) s t = ap Some (one v x y s t)

list_same : {A : Type 0} (Is : List ℕ → A → Type 0) → ((v : List ℕ) (x y : A) → Is v x → Is v y → x ≡ y) → (v : List ℕ) (xs ys : List A) → SpellsList Is v xs → SpellsList Is v ys → xs ≡ ys
list_same Is one v xs ys s t = zip_same Is one _ xs ys s.0 t.0

says_frequency_same : (values : List (List ℕ)) (f g : Frequency) → SaysFrequency values f → SaysFrequency values g → f ≡ g
says_frequency_same values f g s t =
    let same : frequency_word f ∷ [] ≡ frequency_word g ∷ [] = sym s ∙ t in
    let word : frequency_word f ≡ frequency_word g = cc in
    frequency_same f g word

make : Frequency → ℕ → ℕ → List ℕ → List ℤ → List WeekdayNumber → List ℤ → Option ℕ → Option Until → RuleText
make frequency interval week_start months month_days weekdays positions count until = record {
  frequency = frequency;
  interval = interval;
  week_start = week_start;
  months = months;
  month_days = month_days;
  weekdays = weekdays;
  positions = positions;
  count = count;
  until = until;
}

make_same : (f f' : Frequency) (i i' w w' : ℕ) (m m' : List ℕ) (d d' : List ℤ) (e e' : List WeekdayNumber) (p p' : List ℤ) (c c' : Option ℕ) (u u' : Option Until) → f ≡ f' → i ≡ i' → w ≡ w' → m ≡ m' → d ≡ d' → e ≡ e' → p ≡ p' → c ≡ c' → u ≡ u' → make f i w m d e p c u ≡ make f' i' w' m' d' e' p' c' u'
make_same f f' i i' w w' m m' d d' e e' p p' c c' u u' ef ei ew em ed ee ep ec eu = cc

pub same_parts : (text : List ℕ) (a b : RuleText) → SaysParts text a → SaysParts text b → a ≡ b
unfolding make
same_parts text a b s t =
    make_same a.frequency b.frequency a.interval b.interval a.week_start b.week_start a.months b.months a.month_days b.month_days a.weekdays b.weekdays a.positions b.positions a.count b.count a.until b.until
    (says_frequency_same _ a.frequency b.frequency s.frequency t.frequency)
    (says_same (SpellsBetween 1 9999) 1 (between_same 1 9999) _ a.interval b.interval s.interval t.interval)
    (says_same SpellsWeekday 0 weekday_same _ a.week_start b.week_start s.week_start t.week_start)
    (says_same (SpellsList (SpellsBetween 1 12)) [] (list_same (SpellsBetween 1 12) (between_same 1 12)) _ a.months b.months s.months t.months)
    (says_same (SpellsList (SpellsPlace 31)) [] (list_same (SpellsPlace 31) (place_same 31)) _ a.month_days b.month_days s.month_days t.month_days)
    (says_same (SpellsList SpellsEntry) [] (list_same SpellsEntry entry_same) _ a.weekdays b.weekdays s.weekdays t.weekdays)
    (says_same (SpellsList (SpellsPlace 366)) [] (list_same (SpellsPlace 366) (place_same 366)) _ a.positions b.positions s.positions t.positions)
    (says_same (IsGivenPart SpellsCount) None (given_same SpellsCount (between_same 1 100_000)) _ a.count b.count s.count t.count)
    (says_same (IsGivenPart SpellsUntil) None (given_same SpellsUntil until_same) _ a.until b.until s.until t.until)

-- ---- faults of a text that says something

says_once : {A : Type 0} (Is : List ℕ → A → Type 0) (missing x : A) (values : List (List ℕ)) → SaysOr Is missing values x → 1 < length values → ⊥
says_once Is missing x [] s h = omega arith
says_once Is missing x (v ∷ []) s h = omega arith
says_once Is missing x (v ∷ w ∷ vs) s h = s

none_twice : (text : List ℕ) (t : RuleText) → SaysParts text t → (key : RuleKey) → 1 < length (values_of (key_word key) text) → ⊥
none_twice text t s Interval h = says_once (SpellsBetween 1 9999) 1 t.interval _ s.interval h
none_twice text t s Count h = says_once (IsGivenPart SpellsCount) None t.count _ s.count h
none_twice text t s EndsAt h = says_once (IsGivenPart SpellsUntil) None t.until _ s.until h
none_twice text t s WeekStart h = says_once SpellsWeekday 0 t.week_start _ s.week_start h
none_twice text t s ByMonth h = says_once (SpellsList (SpellsBetween 1 12)) [] t.months _ s.months h
none_twice text t s ByMonthDay h = says_once (SpellsList (SpellsPlace 31)) [] t.month_days _ s.month_days h
none_twice text t s ByDay h = says_once (SpellsList SpellsEntry) [] t.weekdays _ s.weekdays h
none_twice text t s BySetPosition h = says_once (SpellsList (SpellsPlace 366)) [] t.positions _ s.positions h

-- a value that is the only one of its part is good, and there is no other
says_good : {A : Type 0} (Is : List ℕ → A → Type 0) (missing x : A) (values : List (List ℕ)) (value : List ℕ) → SaysOr Is missing values x → Contains values value → ((y : A) → Is value y → ⊥) → ⊥
says_good Is missing x [] value s (k, l, e) bad = omega arith
says_good Is missing x (v ∷ []) value s (zero, l, e) bad = bad x (rw e at s)
says_good Is missing x (v ∷ []) value s (suc k, l, e) bad = omega arith
says_good Is missing x (v ∷ w ∷ vs) value s c bad = s

given_good : {A : Type 0} (Is : List ℕ → A → Type 0) (value : List ℕ) → ((y : A) → Is value y → ⊥) → (y : Option A) → IsGivenPart Is value y → ⊥
given_good Is value bad None h = h
given_good Is value bad (Some y) h = bad y h

none_bad : (text : List ℕ) (t : RuleText) → SaysParts text t → (key : RuleKey) (value : List ℕ) → Contains (values_of (key_word key) text) value → IsBadValue key value → ⊥
none_bad text t s Interval value c bad = says_good (SpellsBetween 1 9999) 1 t.interval _ value s.interval c bad
none_bad text t s Count value c bad = says_good (IsGivenPart SpellsCount) None t.count _ value s.count c (given_good SpellsCount value bad)
none_bad text t s EndsAt value c bad = says_good (IsGivenPart SpellsUntil) None t.until _ value s.until c (given_good SpellsUntil value bad)
none_bad text t s WeekStart value c bad = says_good SpellsWeekday 0 t.week_start _ value s.week_start c bad
none_bad text t s ByMonth value c bad = says_good (SpellsList (SpellsBetween 1 12)) [] t.months _ value s.months c bad
none_bad text t s ByMonthDay value c bad = says_good (SpellsList (SpellsPlace 31)) [] t.month_days _ value s.month_days c bad
none_bad text t s ByDay value c bad = says_good (SpellsList SpellsEntry) [] t.weekdays _ value s.weekdays c bad
none_bad text t s BySetPosition value c bad = says_good (SpellsList (SpellsPlace 366)) [] t.positions _ value s.positions c bad

frequency_once : (values : List (List ℕ)) (f : Frequency) → SaysFrequency values f → 1 < length values → ⊥
frequency_once values f s h = omega (arith, ap length s)

frequency_there : (values : List (List ℕ)) (f : Frequency) → SaysFrequency values f → values ≡ [] → ⊥
frequency_there values f s h = omega (arith, ap length s, ap length h)

opposite : (b c : Bool) → b ≡ true → c ≡ false → b ≡ c → ⊥
opposite b c e f g = let h : true ≡ false = sym e ∙ g ∙ f in cc

pub all_known : (text part : List ℕ) → All IsKnownPart (rule_parts text) → Contains (rule_parts text) part → (IsKnownPart part → ⊥) → ⊥
all_known text part known there h = h (All-contains IsKnownPart (rule_parts text) part known there)

-- ---- the least fault

pub from_30 : (text : List ℕ) (other : ℕ) → RuleFault text other → 30 ≤ other
from_30 text other (unknown part there h) = omega arith
from_30 text other (bad_value key value there h) = omega arith
from_30 text other (no_frequency h) = omega arith
from_30 text other (two_frequencies h) = omega arith
from_30 text other (twice key h) = omega arith
from_30 text other (apart rule s h) = omega arith
from_30 text other (two_ends rule s h) = omega arith

pub from_31 : (text : List ℕ) → All IsKnownPart (rule_parts text) → (other : ℕ) → RuleFault text other → 31 ≤ other
from_31 text known other (unknown part there h) = absurd (all_known text part known there h)
from_31 text known other (bad_value key value there h) = omega arith
from_31 text known other (no_frequency h) = omega arith
from_31 text known other (two_frequencies h) = omega arith
from_31 text known other (twice key h) = omega arith
from_31 text known other (apart rule s h) = omega arith
from_31 text known other (two_ends rule s h) = omega arith

-- no value is bad
abbrev pub AllGood : List ℕ → Type 0
AllGood text = (key : RuleKey) (value : List ℕ) → Contains (values_of (key_word key) text) value → IsBadValue key value → ⊥

pub from_32 : (text : List ℕ) → All IsKnownPart (rule_parts text) → AllGood text → (other : ℕ) → RuleFault text other → 32 ≤ other
from_32 text known good other (unknown part there h) = absurd (all_known text part known there h)
from_32 text known good other (bad_value key value there h) = absurd (good key value there h)
from_32 text known good other (no_frequency h) = omega arith
from_32 text known good other (two_frequencies h) = omega arith
from_32 text known good other (twice key h) = omega arith
from_32 text known good other (apart rule s h) = omega arith
from_32 text known good other (two_ends rule s h) = omega arith

pub from_33 : (text : List ℕ) (t : RuleText) → All IsKnownPart (rule_parts text) → SaysParts text t → go_together t ≡ true → (other : ℕ) → RuleFault text other → 33 ≤ other
from_33 text t known says together other (unknown part there h) = absurd (all_known text part known there h)
from_33 text t known says together other (bad_value key value there h) = absurd (none_bad text t says key value there h)
from_33 text t known says together other (no_frequency h) = absurd (frequency_there _ t.frequency says.frequency h)
from_33 text t known says together other (two_frequencies h) = absurd (frequency_once _ t.frequency says.frequency h)
from_33 text t known says together other (twice key h) = absurd (none_twice text t says key h)
from_33 text t known says together other (apart rule s h) = absurd (opposite (go_together t) (go_together rule) together h (ap go_together (same_parts text t rule says s)))
from_33 text t known says together other (two_ends rule s h) = omega arith

pub least_30 : (text : List ℕ) (n : ℕ) → n ≡ 30 → RuleFault text 30 → IsLeastRuleFault text n
least_30 text n e h = rw e (record { fault = h; least = from_30 text })

pub least_31 : (text : List ℕ) (n : ℕ) → All IsKnownPart (rule_parts text) → n ≡ 31 → RuleFault text 31 → IsLeastRuleFault text n
least_31 text n known e h = rw e (record { fault = h; least = from_31 text known })

pub least_no_frequency : (text : List ℕ) → All IsKnownPart (rule_parts text) → AllGood text → values_of (codes "FREQ=") text ≡ [] → IsLeastRuleFault text 32
least_no_frequency text known good none = record { fault = no_frequency none; least = from_32 text known good }

pub least_32 : (text : List ℕ) (t : RuleText) → All IsKnownPart (rule_parts text) → AllGood text → SaysParts text t → go_together t ≡ false → IsLeastRuleFault text 32
least_32 text t known good says h = record { fault = apart t says h; least = from_32 text known good }

pub least_33 : (text : List ℕ) (t : RuleText) → All IsKnownPart (rule_parts text) → SaysParts text t → go_together t ≡ true → has_one_end t ≡ false → IsLeastRuleFault text 33
least_33 text t known says together h = record { fault = two_ends t says h; least = from_33 text t known says together }

-- an unknown part
pub least_unknown : (text part : List ℕ) (e : Fault) → Contains (rule_parts text) part → RefusesBy (λ n. (n ≡ 30) × (IsKnownPart part → ⊥)) e → RefusesBy (IsLeastRuleFault text) e
least_unknown text part (Refused r) there h = least_30 text r.number h.0 (unknown part there h.1)
least_unknown text part Memory there h = tt

-- the fault that was kept
pub least_kept : (text : List ℕ) (p : rust.Parts) (f : Refusal) → ArePartsTaken (rule_parts text) p → p.fault ≡ Some f → IsLeastRuleFault text f.number
least_kept text p f taken e =
    elim (subst (KeepsLeastFault (rule_parts text) p) e taken.kept) [
      | inl (n, part, there, bad) ↦ least_31 text f.number taken.known n (bad_there text part there bad)
      | inr (n, again, good) ↦ rw n (record { fault = twice_there text again; least = from_32 text taken.known (all_good text good) })
    ]

-- ---- the law

pub one_rule_read : (text : List ℕ) (a b : RuleText) → SpellsRule text a → SpellsRule text b → a ≡ b
one_rule_read text a b s t = same_parts text a b s.says t.says

pub no_fault : (text : List ℕ) (number : ℕ) (t : RuleText) → RuleFault text number → SpellsRule text t → ⊥
no_fault text number t (unknown part there h) s = all_known text part s.known there h
no_fault text number t (bad_value key value there h) s = none_bad text t s.says key value there h
no_fault text number t (no_frequency h) s = frequency_there _ t.frequency s.says.frequency h
no_fault text number t (two_frequencies h) s = frequency_once _ t.frequency s.says.frequency h
no_fault text number t (twice key h) s = none_twice text t s.says key h
no_fault text number t (apart rule p h) s = opposite (go_together t) (go_together rule) s.together h (ap go_together (same_parts text t rule s.says p))
no_fault text number t (two_ends rule p h) s = opposite (has_one_end t) (has_one_end rule) s.one_end h (ap has_one_end (same_parts text t rule s.says p))
