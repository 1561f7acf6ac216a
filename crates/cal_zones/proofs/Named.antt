-- The day that BYMONTHDAY and BYDAY name: there is at most one.
use Rattle.std.proofs.Common.{◌≡◌, ◌∙◌, refl, ap, sym, subst, inl, inr, ◌⊎◌, ℕ, ◌+◌, ◌≤◌, Bool, true, false, ◌&&◌, ◌==◌, List, [], ◌∷◌, length, map, Option, Some, None, is_none, arith, ℤ, pos, neg_ℤ}
use Rattle.std.specs.List.{list_all, list_any, range_with_len}
use Rattle.std.specs.Option.{IfSome, IfNone}
use Rattle.std.specs.Ordering.{int_eq}
use Rattle.std.proofs.lemmas.Bool.{true≢false, false≢true, and_parts, or_cases, eqb-true}
use Rattle.std.proofs.lemmas.Bool.Decides.{nat_tests, Decides-int_eq}
use Rattle.std.proofs.lemmas.List.Folds.{list_all-map}
use Rattle.jiff_core.proofs.SignedLemmas.{signed_arith}
use Rattle.profile.specs.faults.Faults.{is_between}
use Rattle.profile.specs.series.Rules.{WeekdayNumber, RuleText, is_missing, is_yearly}
use Rattle.profile.specs.series.ZoneTexts.{MonthDays, OnDay, FromStart, FromEnd, InWeek, YearRule, are_only, is_weekday, is_of_seven, are_seven, names_days, is_each_year, is_plain_yearly, is_one_day}
use Rattle.cal_zones.specs.Named.{NamesNone}

-- ---- lists and tests

-- an entry that passes both
head_of : {A : Type 0} (p q : A → Bool) (xs : List A) → are_only p xs ≡ true → are_only q xs ≡ true → (x : A) × (p x ≡ true) × (q x ≡ true)
head_of p q [] h k = absurd (true≢false (sym h))
head_of p q (x ∷ xs) h k = (x, (and_parts (p x) (list_all p xs) h).0, (and_parts (q x) (list_all q xs) k).0)

meet : {A : Type 0} (p q : A → Bool) (xs : List A) → list_any p xs ≡ true → list_all q xs ≡ true → (x : A) × (p x ≡ true) × (q x ≡ true)
meet p q [] h k = absurd (true≢false (sym h))
meet p q (x ∷ xs) h k =
    let here = and_parts (q x) (list_all q xs) k in
    elim (or_cases (p x) (list_any p xs) h) [
      | inl e ↦ (x, e, here.0)
      | inr e ↦ meet p q xs e here.1
    ]

only_missing : {A : Type 0} (p : A → Bool) (xs : List A) → are_only p xs ≡ true → is_missing xs ≡ true → ⊥
only_missing p [] h m = true≢false (sym h)
only_missing p (x ∷ xs) h m = true≢false (sym m)

pub seven_at : (first : ℕ) (xs : List ℤ) → are_seven first xs ≡ true → (list_all (is_of_seven first) xs ≡ true) × (list_any (λ x. int_eq x (pos (first + 0))) xs ≡ true)
seven_at first xs h =
    let t = and_parts (list_all (is_of_seven first) xs) (list_all (λ more. list_any (λ x. int_eq x (pos (first + more))) xs) (range_with_len 0 7)) h in
    (t.0, (and_parts (list_any (λ x. int_eq x (pos (first + 0))) xs) (list_all (λ more. list_any (λ x. int_eq x (pos (first + more))) xs) (range_with_len 1 6)) t.1).0)

seven_missing : (first : ℕ) (xs : List ℤ) → are_seven first xs ≡ true → is_missing xs ≡ true → ⊥
seven_missing first [] h m = true≢false (sym (seven_at first [] h).1)
seven_missing first (x ∷ xs) h m = true≢false (sym m)

seven_low : (f g : ℕ) (xs : List ℤ) → are_seven f xs ≡ true → are_seven g xs ≡ true → g ≤ f
seven_low f g xs h k =
    let w = meet (λ x. int_eq x (pos (f + 0))) (is_of_seven g) xs (seven_at f xs h).1 (seven_at g xs k).0 in
    let same : w.0 ≡ pos (f + 0) = (Decides-int_eq w.0 (pos (f + 0))).0 w.1 in
    let within : is_between g (g + 6) (f + 0) ≡ true = subst (λ (z : ℤ). is_of_seven g z ≡ true) same w.2 in
    grind (arith, nat_tests)

-- the entries of a list in other words
pub only_map : {A B : Type 0} (test : B → Bool) (f : A → B) (xs : List A) (b : Bool) → are_only (λ x. test (f x)) xs ≡ b → are_only test (map f xs) ≡ b
only_map test f [] b h = h
only_map test f (x ∷ xs) b h = list_all-map test f (x ∷ xs) ∙ h

pub missing_map : {A B : Type 0} (f : A → B) (xs : List A) (b : Bool) → b ≡ (length xs == 0) → is_missing (map f xs) ≡ b
missing_map f [] b h = sym h
missing_map f (x ∷ xs) b h = let some : (length (x ∷ xs) == 0) ≡ false = grind (arith, nat_tests) in sym (h ∙ some)

pub missing : {A : Type 0} (xs : List A) (b : Bool) → b ≡ (length xs == 0) → is_missing xs ≡ b
missing [] b h = sym h
missing (x ∷ xs) b h = let some : (length (x ∷ xs) == 0) ≡ false = grind (arith, nat_tests) in sym (h ∙ some)

pub both : (a b : Bool) → a ≡ true → b ≡ true → a && b ≡ true
both a b h k = rw (h, k) refl

-- ---- one day

entries_same : (p q : ℤ) (v w : ℕ) (xs : List WeekdayNumber) → are_only (is_weekday p v) xs ≡ true → are_only (is_weekday q w) xs ≡ true → (p ≡ q) × (v ≡ w)
entries_same p q v w xs h k =
    let e = head_of (is_weekday p v) (is_weekday q w) xs h k in
    let a = and_parts (int_eq e.0.number p) (e.0.weekday == v) e.1 in
    let b = and_parts (int_eq e.0.number q) (e.0.weekday == w) e.2 in
    (sym ((Decides-int_eq e.0.number p).0 a.0) ∙ (Decides-int_eq e.0.number q).0 b.0, sym (eqb-true e.0.weekday v a.1) ∙ eqb-true e.0.weekday w b.1)

months_same : (m n : ℕ) (xs : List ℕ) → are_only (λ x. x == m) xs ≡ true → are_only (λ x. x == n) xs ≡ true → m ≡ n
months_same m n xs h k =
    let e = head_of (λ x. x == m) (λ x. x == n) xs h k in
    sym (eqb-true e.0 m e.1) ∙ eqb-true e.0 n e.2

numbers_same : (d e : ℕ) (xs : List ℤ) → are_only (λ x. int_eq x (pos d)) xs ≡ true → are_only (λ x. int_eq x (pos e)) xs ≡ true → d ≡ e
numbers_same d e xs h k =
    let w = head_of (λ x. int_eq x (pos d)) (λ x. int_eq x (pos e)) xs h k in
    let same : pos d ≡ pos e = sym ((Decides-int_eq w.0 (pos d)).0 w.1) ∙ (Decides-int_eq w.0 (pos e)).0 w.2 in
    omega (arith, signed_arith)

-- what each kind of day says of the two lists

on_day : (d : ℕ) (xs : List ℤ) (es : List WeekdayNumber) → names_days (OnDay d) xs es ≡ true → (are_only (λ x. int_eq x (pos d)) xs ≡ true) × (is_missing es ≡ true)
on_day d xs es h = and_parts (are_only (λ x. int_eq x (pos d)) xs) (is_missing es) h

from_start : (k w : ℕ) (xs : List ℤ) (es : List WeekdayNumber) → names_days (FromStart k w) xs es ≡ true → (is_missing xs ≡ true) × (are_only (is_weekday (pos k) w) es ≡ true)
from_start k w xs es h = and_parts (is_missing xs) (are_only (is_weekday (pos k) w) es) h

from_end : (k w : ℕ) (xs : List ℤ) (es : List WeekdayNumber) → names_days (FromEnd k w) xs es ≡ true → (is_missing xs ≡ true) × (are_only (is_weekday (neg_ℤ (pos k)) w) es ≡ true)
from_end k w xs es h = and_parts (is_missing xs) (are_only (is_weekday (neg_ℤ (pos k)) w) es) h

in_week : (f w : ℕ) (xs : List ℤ) (es : List WeekdayNumber) → names_days (InWeek f w) xs es ≡ true → (are_seven f xs ≡ true) × (are_only (is_weekday (pos 0) w) es ≡ true)
in_week f w xs es h = and_parts (are_seven f xs) (are_only (is_weekday (pos 0) w) es) h

both_ends : (month k j v w : ℕ) (es : List WeekdayNumber) → are_only (is_weekday (pos k) v) es ≡ true → are_only (is_weekday (neg_ℤ (pos j)) w) es ≡ true → (1 ≤ k) ⊎ (1 ≤ j) → ⊥
both_ends month k j v w es h l (inl low) = let e = (entries_same (pos k) (neg_ℤ (pos j)) v w es h l).0 in omega (arith, signed_arith)
both_ends month k j v w es h l (inr low) = let e = (entries_same (pos k) (neg_ℤ (pos j)) v w es h l).0 in omega (arith, signed_arith)

pub one_days : (month : ℕ) (xs : List ℤ) (es : List WeekdayNumber) (a b : MonthDays) → names_days a xs es ≡ true → names_days b xs es ≡ true → is_each_year month b ≡ true → a ≡ b
one_days month xs es (OnDay d) (OnDay e) h k y = ap OnDay (numbers_same d e xs (on_day d xs es h).0 (on_day e xs es k).0)
one_days month xs es (OnDay d) (FromStart j w) h k y = absurd (only_missing (is_weekday (pos j) w) es (from_start j w xs es k).1 (on_day d xs es h).1)
one_days month xs es (OnDay d) (FromEnd j w) h k y = absurd (only_missing (is_weekday (neg_ℤ (pos j)) w) es (from_end j w xs es k).1 (on_day d xs es h).1)
one_days month xs es (OnDay d) (InWeek f w) h k y = absurd (only_missing (is_weekday (pos 0) w) es (in_week f w xs es k).1 (on_day d xs es h).1)
one_days month xs es (FromStart i v) (OnDay e) h k y = absurd (only_missing (is_weekday (pos i) v) es (from_start i v xs es h).1 (on_day e xs es k).1)
one_days month xs es (FromStart i v) (FromStart j w) h k y =
    let e = entries_same (pos i) (pos j) v w es (from_start i v xs es h).1 (from_start j w xs es k).1 in
    let number : i ≡ j = omega (arith, signed_arith, e.0) in
    ap (λ n. FromStart n v) number ∙ ap (FromStart j) e.1
one_days month xs es (FromStart i v) (FromEnd j w) h k y =
    let low : 1 ≤ j = grind (arith, nat_tests) in
    absurd (both_ends month i j v w es (from_start i v xs es h).1 (from_end j w xs es k).1 (inr low))
one_days month xs es (FromStart i v) (InWeek f w) h k y = absurd (seven_missing f xs (in_week f w xs es k).0 (from_start i v xs es h).0)
one_days month xs es (FromEnd i v) (OnDay e) h k y = absurd (only_missing (is_weekday (neg_ℤ (pos i)) v) es (from_end i v xs es h).1 (on_day e xs es k).1)
one_days month xs es (FromEnd i v) (FromStart j w) h k y =
    let low : 1 ≤ j = grind (arith, nat_tests) in
    absurd (both_ends month j i w v es (from_start j w xs es k).1 (from_end i v xs es h).1 (inl low))
one_days month xs es (FromEnd i v) (FromEnd j w) h k y =
    let e = entries_same (neg_ℤ (pos i)) (neg_ℤ (pos j)) v w es (from_end i v xs es h).1 (from_end j w xs es k).1 in
    let number : i ≡ j = omega (arith, signed_arith, e.0) in
    ap (λ n. FromEnd n v) number ∙ ap (FromEnd j) e.1
one_days month xs es (FromEnd i v) (InWeek f w) h k y = absurd (seven_missing f xs (in_week f w xs es k).0 (from_end i v xs es h).0)
one_days month xs es (InWeek f v) (OnDay e) h k y = absurd (only_missing (is_weekday (pos 0) v) es (in_week f v xs es h).1 (on_day e xs es k).1)
one_days month xs es (InWeek f v) (FromStart j w) h k y = absurd (seven_missing f xs (in_week f v xs es h).0 (from_start j w xs es k).0)
one_days month xs es (InWeek f v) (FromEnd j w) h k y = absurd (seven_missing f xs (in_week f v xs es h).0 (from_end j w xs es k).0)
one_days month xs es (InWeek f v) (InWeek g w) h k y =
    let a = in_week f v xs es h in
    let b = in_week g w xs es k in
    let low = seven_low f g xs a.0 b.0 in
    let high = seven_low g f xs b.0 a.0 in
    let first : f ≡ g = omega arith in
    ap (λ n. InWeek n v) first ∙ ap (InWeek g) (entries_same (pos 0) (pos 0) v w es a.1 b.1).1

-- ---- none

-- where there is no BYDAY
pub none_on_day : (xs : List ℤ) (es : List WeekdayNumber) → is_missing es ≡ true
    → ((day : ℕ) → 1 ≤ day → day ≤ 28 → are_only (λ x. int_eq x (pos day)) xs ≡ false) → NamesNone xs es
none_on_day xs es m never month (OnDay d) h y =
    let low : 1 ≤ d = grind (arith, nat_tests) in
    let high : d ≤ 28 = grind (arith, nat_tests) in
    true≢false (sym (on_day d xs es h).0 ∙ never d low high)
none_on_day xs es m never month (FromStart k w) h y = only_missing (is_weekday (pos k) w) es (from_start k w xs es h).1 m
none_on_day xs es m never month (FromEnd k w) h y = only_missing (is_weekday (neg_ℤ (pos k)) w) es (from_end k w xs es h).1 m
none_on_day xs es m never month (InWeek f w) h y = only_missing (is_weekday (pos 0) w) es (in_week f w xs es h).1 m

-- where its entries differ
pub none_unlike : (xs : List ℤ) (es : List WeekdayNumber) → is_missing es ≡ false
    → ((number : ℤ) (weekday : ℕ) → are_only (is_weekday number weekday) es ≡ false) → NamesNone xs es
none_unlike xs es m never month (OnDay d) h y = true≢false (sym (on_day d xs es h).1 ∙ m)
none_unlike xs es m never month (FromStart k w) h y = true≢false (sym (from_start k w xs es h).1 ∙ never (pos k) w)
none_unlike xs es m never month (FromEnd k w) h y = true≢false (sym (from_end k w xs es h).1 ∙ never (neg_ℤ (pos k)) w)
none_unlike xs es m never month (InWeek f w) h y = true≢false (sym (in_week f w xs es h).1 ∙ never (pos 0) w)

abbrev entry : ℤ → ℕ → WeekdayNumber
entry number weekday = record { number = number; weekday = weekday }

-- entries that are all one name what that one does
alone : (p : WeekdayNumber → Bool) (e : WeekdayNumber) (es : List WeekdayNumber) → are_only (is_weekday e.number e.weekday) es ≡ true → are_only p es ≡ are_only p (e ∷ [])
alone p e [] h = absurd (false≢true h)
alone p e (x ∷ xs) h = all_alone p e x xs h
  where
    is_it : (e x : WeekdayNumber) → is_weekday e.number e.weekday x ≡ true → x ≡ e
    is_it e x h =
        let a = and_parts (int_eq x.number e.number) (x.weekday == e.weekday) h in
        let number : x.number ≡ e.number = (Decides-int_eq x.number e.number).0 a.0 in
        let weekday : x.weekday ≡ e.weekday = eqb-true x.weekday e.weekday a.1 in
        ap (λ n. entry n x.weekday) number ∙ ap (entry e.number) weekday

    twice : (b : Bool) → b && (b && true) ≡ b && true
    twice true = refl
    twice false = refl

    all_alone : (p : WeekdayNumber → Bool) (e x : WeekdayNumber) (xs : List WeekdayNumber) → list_all (is_weekday e.number e.weekday) (x ∷ xs) ≡ true → list_all p (x ∷ xs) ≡ p e && true
    all_alone p e x [] h = let a = and_parts (is_weekday e.number e.weekday x) true h in ap (λ y. p y && true) (is_it e x a.0)
    all_alone p e x (y ∷ ys) h =
        let a = and_parts (is_weekday e.number e.weekday x) (list_all (is_weekday e.number e.weekday) (y ∷ ys)) h in
        let here = is_it e x a.0 in
        let rest = all_alone p e y ys a.1 in
        rw (here, rest) (twice (p e))

pub names_alone : (days : MonthDays) (xs : List ℤ) (e : WeekdayNumber) (es : List WeekdayNumber) → are_only (is_weekday e.number e.weekday) es ≡ true
    → names_days days xs es ≡ names_days days xs (e ∷ [])
names_alone (OnDay d) xs e [] h = absurd (false≢true h)
names_alone (OnDay d) xs e (x ∷ es) h = refl
names_alone (FromStart k w) xs e es h = ap (λ b. is_missing xs && b) (alone (is_weekday (pos k) w) e es h)
names_alone (FromEnd k w) xs e es h = ap (λ b. is_missing xs && b) (alone (is_weekday (neg_ℤ (pos k)) w) e es h)
names_alone (InWeek f w) xs e es h = ap (λ b. are_seven f xs && b) (alone (is_weekday (pos 0) w) e es h)

pub some_alone : {A : Type 0} (f : A → MonthDays) (r : Option A) (xs : List ℤ) (e : WeekdayNumber) (es : List WeekdayNumber) → are_only (is_weekday e.number e.weekday) es ≡ true
    → IfSome r (λ days. names_days (f days) xs (e ∷ []) ≡ true) → IfSome r (λ days. names_days (f days) xs es ≡ true)
some_alone f None xs e es only h = tt
some_alone f (Some days) xs e es only h = names_alone (f days) xs e es only ∙ h

pub none_alone : {A : Type 0} (r : Option A) (xs : List ℤ) (e : WeekdayNumber) (es : List WeekdayNumber) → are_only (is_weekday e.number e.weekday) es ≡ true
    → IfNone r (NamesNone xs (e ∷ [])) → IfNone r (NamesNone xs es)
none_alone (Some x) xs e es only h = tt
none_alone None xs e es only h = λ month days names each. h month days (sym (names_alone days xs e es only) ∙ names) each

-- ---- a whole rule

pub record OneDay (rule : RuleText) (r : YearRule) : Type 0 where
  pub plain : is_plain_yearly rule ≡ true
  pub month : are_only (λ x. x == r.month) rule.months ≡ true
  pub days : names_days r.days rule.month_days rule.weekdays ≡ true
  pub each : is_each_year r.month r.days ≡ true

pub one_day_parts : (rule : RuleText) (r : YearRule) → is_one_day rule r ≡ true → OneDay rule r
one_day_parts rule r h =
    let a = and_parts (is_plain_yearly rule && are_only (λ x. x == r.month) rule.months && names_days r.days rule.month_days rule.weekdays) (is_each_year r.month r.days) h in
    let b = and_parts (is_plain_yearly rule && are_only (λ x. x == r.month) rule.months) (names_days r.days rule.month_days rule.weekdays) a.0 in
    let c = and_parts (is_plain_yearly rule) (are_only (λ x. x == r.month) rule.months) b.0 in
    record { plain = c.0; month = c.1; days = b.1; each = a.1 }

-- neither COUNT nor UNTIL ends it
pub none_ends : (rule : RuleText) (r : YearRule) → is_one_day rule r ≡ true → (is_none rule.count ≡ true) × (is_none rule.until ≡ true)
none_ends rule r h =
    let a = and_parts (is_yearly rule.frequency && (rule.interval == 1) && is_none rule.count && is_none rule.until) (is_missing rule.positions) (one_day_parts rule r h).plain in
    let b = and_parts (is_yearly rule.frequency && (rule.interval == 1) && is_none rule.count) (is_none rule.until) a.0 in
    let c = and_parts (is_yearly rule.frequency && (rule.interval == 1)) (is_none rule.count) b.0 in
    (c.1, b.1)

-- a rule names at most one month and day
pub one_named : (rule : RuleText) (month : ℕ) (days : MonthDays) (r : YearRule) → are_only (λ x. x == month) rule.months ≡ true
    → names_days days rule.month_days rule.weekdays ≡ true → is_one_day rule r ≡ true → (month ≡ r.month) × (days ≡ r.days)
one_named rule month days r m d h =
    let o = one_day_parts rule r h in
    (months_same month r.month rule.months m o.month, one_days r.month rule.month_days rule.weekdays days r.days d o.days o.each)

pub each_of : (rule : RuleText) (month : ℕ) (days : MonthDays) (r : YearRule) → are_only (λ x. x == month) rule.months ≡ true
    → names_days days rule.month_days rule.weekdays ≡ true → is_one_day rule r ≡ true → is_each_year month days ≡ true
each_of rule month days r m d h =
    let o = one_day_parts rule r h in
    let same = one_named rule month days r m d h in
    subst (λ (n : ℕ). is_each_year n days ≡ true) (sym same.0) (subst (λ (x : MonthDays). is_each_year r.month x ≡ true) (sym same.1) o.each)

pub none_month : (rule : RuleText) (r : YearRule) → ((month : ℕ) → 1 ≤ month → month ≤ 12 → are_only (λ x. x == month) rule.months ≡ false) → is_one_day rule r ≡ true → ⊥
none_month rule r never h =
    let o = one_day_parts rule r h in
    let range = each_month r.month r.days o.each in
    true≢false (sym o.month ∙ never r.month range.0 range.1)
  where
    each_month : (month : ℕ) (days : MonthDays) → is_each_year month days ≡ true → (1 ≤ month) × (month ≤ 12)
    each_month month (OnDay d) h = (grind (arith, nat_tests), grind (arith, nat_tests))
    each_month month (FromStart k w) h = (grind (arith, nat_tests), grind (arith, nat_tests))
    each_month month (FromEnd k w) h = (grind (arith, nat_tests), grind (arith, nat_tests))
    each_month month (InWeek f w) h = (grind (arith, nat_tests), grind (arith, nat_tests))

pub names_at : (days : MonthDays) (xs ys : List ℤ) (es fs : List WeekdayNumber) → xs ≡ ys → es ≡ fs → names_days days xs es ≡ true → names_days days ys fs ≡ true
names_at days xs ys es fs p q h =
    subst (λ (z : List ℤ). names_days days z fs ≡ true) p (subst (λ (z : List WeekdayNumber). names_days days xs z ≡ true) q h)

pub months_at : (month : ℕ) (xs ys : List ℕ) (b : Bool) → xs ≡ ys → are_only (λ x. x == month) xs ≡ b → are_only (λ x. x == month) ys ≡ b
months_at month xs ys b p h = subst (λ (z : List ℕ). are_only (λ x. x == month) z ≡ b) p h
