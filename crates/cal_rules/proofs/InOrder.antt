-- A rule whose lists are put in order may be read, where the rule may.
use Rattle.std.proofs.Common.{◌≡◌, ◌∙◌, ap, sym, refl, ℕ, zero, suc, ◌+◌, ◌-◌, ◌*◌, ◌/◌, ◌%◌, ◌<◌, ◌≤◌, Bool, true, false, cond, not, ◌&&◌, ◌||◌, ◌==◌, nat_eq, nat_lt, nat_le, List, [], ◌∷◌, length, map, filter, Contains, Option, None, Some, is_none, ℤ, pos, negsuc, ◌-ℤ◌, zero-add, arith}
use Rattle.std.proofs.lemmas.Bool.{and_parts, and_from}
use Rattle.std.proofs.lemmas.Bool.Decides.{nat_tests, Decides-int_eq}
use Rattle.std.proofs.lemmas.Int.{ints}
use Rattle.std.proofs.lemmas.List.FromFn.{length-map-range_with_len, get_or-map-range_with_len, length-range_with_len, get_or-range_with_len}
use Rattle.std.specs.List.{list_any, list_all, range_with_len}
use Rattle.std.specs.Ordering.{int_eq}
use Rattle.profile.specs.faults.Faults.{is_between}
use Rattle.profile.specs.series.Rules.{RuleText, WeekdayNumber, Until, is_weekly, is_long, is_place, is_plain, is_entry, is_missing, has_few_entries, is_in_range, go_together, IsAllowed}
use Rattle.profile.specs.series.RuleTexts.{months_from, numbers_from, entries_from, nth_number, nth_entry, is_same_entry, rule_text, as_written, HandsIn, SpellsRule}
use Rattle.cal_rules.proofs.WholeRule.{Ranges, ranges, rule_back}
use Rattle.cal_rules.proofs.ReadBack.{up_to, below}
use Rattle.cal_rules.proofs.OneRule.{weekday_test}
use Rattle.cal_rules.proofs.Parted.{same_octet}

-- ---- candidates that a list has

abbrev pub kept : {A : Type 0} → (A → A → Bool) → List A → List A → List A
kept same zs xs = filter (λ c. list_any (λ z. same z c) zs) xs

any_test : {A : Type 0} (same : A → A → Bool) (test : A → Bool) → ((z c : A) → same z c ≡ true → z ≡ c) → (zs : List A) (c : A) → list_any (λ z. same z c) zs ≡ true → list_all test zs ≡ true → test c ≡ true
any_test same test one [] c h g = cc
any_test same test one (z ∷ zs) c h g =
    let p = and_parts (test z) (list_all test zs) g in
    elim (same z c) as (λ b. same z c ≡ b → (b || list_any (λ y. same y c) zs) ≡ true → test c ≡ true) [
      | true ↦ λ e k. ap test (sym (one z c e)) ∙ p.0
      | false ↦ λ e k. any_test same test one zs c k p.1
    ] refl h

pub kept_test : {A : Type 0} (same : A → A → Bool) (test : A → Bool) → ((z c : A) → same z c ≡ true → z ≡ c) → (zs xs : List A) → list_all test zs ≡ true → list_all test (kept same zs xs) ≡ true
kept_test same test one zs [] h = refl
kept_test same test one zs (x ∷ xs) h =
    let rest = kept_test same test one zs xs h in
    elim (list_any (λ z. same z x) zs) as (λ b. list_any (λ z. same z x) zs ≡ b → list_all test (cond b (x ∷ kept same zs xs) (kept same zs xs)) ≡ true) [
      | true ↦ λ e. and_from (test x) (list_all test (kept same zs xs)) (any_test same test one zs x e h) rest
      | false ↦ λ e. rest
    ] refl

none_kept : {A : Type 0} (xs : List A) → filter (λ c. false) xs ≡ []
none_kept [] = refl
none_kept (x ∷ xs) = none_kept xs

either : {A : Type 0} (p q : A → Bool) (xs : List A) → length (filter (λ c. p c || q c) xs) ≤ length (filter p xs) + length (filter q xs)
either p q [] = omega arith
either p q (x ∷ xs) =
    let rest = either p q xs in
    elim (p x) as (λ a. length (cond (a || q x) (x ∷ filter (λ c. p c || q c) xs) (filter (λ c. p c || q c) xs)) ≤ length (cond a (x ∷ filter p xs) (filter p xs)) + length (cond (q x) (x ∷ filter q xs) (filter q xs))) [
      | true ↦ elim (q x) as (λ b. suc (length (filter (λ c. p c || q c) xs)) ≤ suc (length (filter p xs)) + length (cond b (x ∷ filter q xs) (filter q xs))) [ true ↦ omega arith | false ↦ omega arith ]
      | false ↦ elim (q x) as (λ b. length (cond b (x ∷ filter (λ c. p c || q c) xs) (filter (λ c. p c || q c) xs)) ≤ length (filter p xs) + length (cond b (x ∷ filter q xs) (filter q xs))) [ true ↦ omega arith | false ↦ omega arith ]
    ]

pub kept_short : {A : Type 0} (same : A → A → Bool) (zs xs : List A) → ((z : A) → length (filter (λ c. same z c) xs) ≤ 1) → length (kept same zs xs) ≤ length zs
kept_short same [] xs once = omega (arith, ap length (none_kept xs))
kept_short same (z ∷ zs) xs once =
    let more = either (λ c. same z c) (λ c. list_any (λ y. same y c) zs) xs in
    let rest = kept_short same zs xs once in
    omega (arith, once z)

kept_found : {A : Type 0} (p : A → Bool) (xs : List A) (c : A) → Contains xs c → p c ≡ true → is_missing (filter p xs) ≡ false
kept_found p [] c (k, l, e) h = absurd (omega arith)
kept_found p (x ∷ xs) c (zero, l, e) h =
    let q : p x ≡ true = ap p e ∙ h in rw q refl
kept_found p (x ∷ xs) c (suc k, l, e) h =
    let rest = kept_found p xs c (k, omega arith, e) h in
    elim (p x) as (λ b. is_missing (cond b (x ∷ filter p xs) (filter p xs)) ≡ false) [ true ↦ refl | false ↦ rest ]

pub kept_missing : {A : Type 0} (same : A → A → Bool) (test : A → Bool) → ((z : A) → same z z ≡ true) → (xs : List A) → ((z : A) → test z ≡ true → Contains xs z) → (zs : List A) → list_all test zs ≡ true → is_missing (kept same zs xs) ≡ is_missing zs
kept_missing same test itself xs there [] h = ap is_missing (none_kept xs)
kept_missing same test itself xs there (z ∷ zs) h =
    let p = and_parts (test z) (list_all test zs) h in
    kept_found (λ c. list_any (λ y. same y c) (z ∷ zs)) xs z (there z p.0) (rw (itself z) refl)

-- ---- the candidates differ

none_later : {A : Type 0} (same : A → A → Bool) (nth : ℕ → A) → ((z c : A) → same z c ≡ true → z ≡ c) → ((a b : ℕ) → nth a ≡ nth b → a ≡ b) → (k b n : ℕ) → k < b → length (filter (λ c. same (nth k) c) (map nth (range_with_len b n))) ≡ 0
none_later same nth one apart k b zero h = refl
none_later same nth one apart k b (suc n) h =
    let rest = none_later same nth one apart k (b + 1) n (omega arith) in
    elim (same (nth k) (nth b)) as (λ t. same (nth k) (nth b) ≡ t → length (cond t (nth b ∷ filter (λ c. same (nth k) c) (map nth (range_with_len (b + 1) n))) (filter (λ c. same (nth k) c) (map nth (range_with_len (b + 1) n)))) ≡ 0) [
      | true ↦ λ e. let eq = apart k b (one (nth k) (nth b) e) in absurd (omega arith)
      | false ↦ λ e. rest
    ] refl

pub at_most_once : {A : Type 0} (same : A → A → Bool) (nth : ℕ → A) → ((z c : A) → same z c ≡ true → z ≡ c) → ((a b : ℕ) → nth a ≡ nth b → a ≡ b) → (a n : ℕ) (z : A) → length (filter (λ c. same z c) (map nth (range_with_len a n))) ≤ 1
at_most_once same nth one apart a zero z = omega arith
at_most_once same nth one apart a (suc n) z =
    let rest = at_most_once same nth one apart (a + 1) n z in
    elim (same z (nth a)) as (λ t. same z (nth a) ≡ t → length (cond t (nth a ∷ filter (λ c. same z c) (map nth (range_with_len (a + 1) n))) (filter (λ c. same z c) (map nth (range_with_len (a + 1) n)))) ≤ 1) [
      | true ↦ λ e.
          let none : length (filter (λ c. same z c) (map nth (range_with_len (a + 1) n))) ≡ 0 = ap (λ y. length (filter (λ c. same y c) (map nth (range_with_len (a + 1) n)))) (one z (nth a) e) ∙ none_later same nth one apart a (a + 1) n (omega arith) in
          omega arith
      | false ↦ λ e. rest
    ] refl

pub is_nth : {A : Type 0} (nth : ℕ → A) (n k : ℕ) (z : A) → k < n → nth k ≡ z → Contains (map nth (range_with_len 0 n)) z
is_nth nth n k z h e = (k, omega (arith, length-map-range_with_len nth 0 n), get_or-map-range_with_len nth 0 n k k z h (zero-add k) ∙ e)

-- ---- numbers

pub int_one : (z c : ℤ) → int_eq z c ≡ true → z ≡ c
int_one z c e = (Decides-int_eq z c).0 e

pub int_itself : (z : ℤ) → int_eq z z ≡ true
int_itself z = (Decides-int_eq z z).1 refl

pub number_apart : (a b : ℕ) → nth_number a ≡ nth_number b → a ≡ b
number_apart a b e = omega (arith, ints)

pub number_there : (most : ℕ) → most ≤ 366 → (z : ℤ) → is_place most z ≡ true → Contains (map nth_number (range_with_len 0 733)) z
number_there most h (pos n) e =
    let u = up_to most n e in is_nth nth_number 733 (n + 366) (pos n) (omega arith) (omega (arith, ints))
number_there most h (negsuc n) e =
    let u = below most n e in is_nth nth_number 733 (365 - n) (negsuc n) (omega arith) (omega (arith, ints))

pub numbers_test : (test : ℤ → Bool) (zs : List ℤ) → list_all test zs ≡ true → list_all test (numbers_from 0 zs) ≡ true
unfolding numbers_from
numbers_test test zs h = kept_test int_eq test int_one zs (map nth_number (range_with_len 0 733)) h

pub numbers_short : (zs : List ℤ) → length (numbers_from 0 zs) ≤ length zs
unfolding numbers_from
numbers_short zs = kept_short int_eq zs (map nth_number (range_with_len 0 733)) (at_most_once int_eq nth_number int_one number_apart 0 733)

pub numbers_missing : (most : ℕ) (zs : List ℤ) → most ≤ 366 → list_all (is_place most) zs ≡ true → is_missing (numbers_from 0 zs) ≡ is_missing zs
unfolding numbers_from
numbers_missing most zs h all = kept_missing int_eq (is_place most) int_itself (map nth_number (range_with_len 0 733)) (number_there most h) zs all

-- ---- entries

pub entry_one : (z c : WeekdayNumber) → is_same_entry z c ≡ true → z ≡ c
entry_one z c e =
    let p = and_parts (int_eq z.number c.number) (z.weekday == c.weekday) e in
    let number : z.number ≡ c.number = int_one z.number c.number p.0 in
    let weekday : z.weekday ≡ c.weekday = grind (arith, nat_tests) in
    let make : ℤ → ℕ → WeekdayNumber = λ n w. record { number = n; weekday = w } in
    ap (λ n. make n z.weekday) number ∙ ap (make c.number) weekday

pub entry_itself : (z : WeekdayNumber) → is_same_entry z z ≡ true
entry_itself z = and_from (int_eq z.number z.number) (z.weekday == z.weekday) (int_itself z.number) (same_octet z.weekday)

pub entry_apart : (a b : ℕ) → nth_entry a ≡ nth_entry b → a ≡ b
entry_apart a b e =
    let n : (pos (a / 7) -ℤ pos 53) ≡ (pos (b / 7) -ℤ pos 53) = ap (λ (x : WeekdayNumber). x.number) e in
    let w : a % 7 ≡ b % 7 = ap (λ (x : WeekdayNumber). x.weekday) e in
    omega (arith, ints)

pub entries_test : (test : WeekdayNumber → Bool) (zs : List WeekdayNumber) → list_all test zs ≡ true → list_all test (entries_from 0 zs) ≡ true
unfolding entries_from
entries_test test zs h = kept_test is_same_entry test entry_one zs (map nth_entry (range_with_len 0 749)) h

pub entries_short : (zs : List WeekdayNumber) → length (entries_from 0 zs) ≤ length zs
unfolding entries_from
entries_short zs = kept_short is_same_entry zs (map nth_entry (range_with_len 0 749)) (at_most_once is_same_entry nth_entry entry_one entry_apart 0 749)

near : (n : ℕ) → (is_plain (pos n) || is_place 53 (pos n)) ≡ true → n ≤ 53
near n e = grind (arith, nat_tests)

same_entry : (k w : ℕ) (number : ℤ) → (pos (k / 7) -ℤ pos 53) ≡ number → k % 7 ≡ w → nth_entry k ≡ record { number = number; weekday = w }
same_entry k w number e f =
    let make : ℤ → ℕ → WeekdayNumber = λ n v. record { number = n; weekday = v } in
    ap (λ n. make n (k % 7)) e ∙ ap (make number) f

entry_at : (number : ℤ) (w : ℕ) → w < 7 → (is_plain number || is_place 53 number) ≡ true → Contains (map nth_entry (range_with_len 0 749)) (record { number = number; weekday = w })
entry_at (pos n) w h e =
    let u = near n e in
    is_nth nth_entry 749 (7 * (n + 53) + w) (record { number = pos n; weekday = w }) (omega arith) (same_entry (7 * (n + 53) + w) w (pos n) (omega (arith, ints)) (omega arith))
entry_at (negsuc n) w h e =
    let u = below 53 n e in
    is_nth nth_entry 749 (7 * (52 - n) + w) (record { number = negsuc n; weekday = w }) (omega arith) (same_entry (7 * (52 - n) + w) w (negsuc n) (omega (arith, ints)) (omega arith))

pub entry_there : (z : WeekdayNumber) → is_entry z ≡ true → Contains (map nth_entry (range_with_len 0 749)) z
entry_there z e =
    let p = and_parts (nat_lt z.weekday 7) (is_plain z.number || is_place 53 z.number) e in
    entry_at z.number z.weekday (below 7 z.weekday p.0) p.1

pub entries_missing : (zs : List WeekdayNumber) → list_all is_entry zs ≡ true → is_missing (entries_from 0 zs) ≡ is_missing zs
unfolding entries_from
entries_missing zs all = kept_missing is_same_entry is_entry entry_itself (map nth_entry (range_with_len 0 749)) entry_there zs all

-- ---- months

pub nat_one : (m n : ℕ) → nat_eq m n ≡ true → m ≡ n
nat_one m n e = grind (arith, nat_tests)

pub months_test : (test : ℕ → Bool) (zs : List ℕ) → list_all test zs ≡ true → list_all test (months_from 1 zs) ≡ true
unfolding months_from
months_test test zs h = kept_test nat_eq test nat_one zs (range_with_len 1 12) h

pub months_short : (zs : List ℕ) → length (months_from 1 zs) ≤ length zs
unfolding months_from
months_short zs = kept_short nat_eq zs (range_with_len 1 12) (at_most_once nat_eq (λ x. x) nat_one (λ a b e. e) 1 12)

pub month_bounds : (m : ℕ) → is_between 1 12 m ≡ true → (1 ≤ m) × (m ≤ 12)
month_bounds m e = (grind (arith, nat_tests), grind (arith, nat_tests))

pub month_there : (m : ℕ) → is_between 1 12 m ≡ true → Contains (range_with_len 1 12) m
month_there m e =
    let b = month_bounds m e in
    (m - 1, omega (arith, length-range_with_len 1 12), get_or-range_with_len 1 12 (m - 1) m (omega arith) ∙ omega arith)

pub months_missing : (zs : List ℕ) → list_all (is_between 1 12) zs ≡ true → is_missing (months_from 1 zs) ≡ is_missing zs
unfolding months_from
months_missing zs all = kept_missing nat_eq (is_between 1 12) same_octet (range_with_len 1 12) month_there zs all

-- ---- the rule

le_test : (m n : ℕ) → n ≤ m → nat_le m 366 ≡ true → nat_le n 366 ≡ true
le_test m n h e = grind (arith, nat_tests)

months_ordered : (zs : List ℕ) → (list_all (is_between 1 12) zs && has_few_entries zs) ≡ true → (list_all (is_between 1 12) (months_from 1 zs) && has_few_entries (months_from 1 zs)) ≡ true
months_ordered zs h =
    let p = and_parts (list_all (is_between 1 12) zs) (has_few_entries zs) h in
    and_from (list_all (is_between 1 12) (months_from 1 zs)) (has_few_entries (months_from 1 zs)) (months_test (is_between 1 12) zs p.0) (le_test (length zs) (length (months_from 1 zs)) (months_short zs) p.1)

numbers_ordered : (most : ℕ) (zs : List ℤ) → (list_all (is_place most) zs && has_few_entries zs) ≡ true → (list_all (is_place most) (numbers_from 0 zs) && has_few_entries (numbers_from 0 zs)) ≡ true
numbers_ordered most zs h =
    let p = and_parts (list_all (is_place most) zs) (has_few_entries zs) h in
    and_from (list_all (is_place most) (numbers_from 0 zs)) (has_few_entries (numbers_from 0 zs)) (numbers_test (is_place most) zs p.0) (le_test (length zs) (length (numbers_from 0 zs)) (numbers_short zs) p.1)

entries_ordered : (zs : List WeekdayNumber) → (list_all is_entry zs && has_few_entries zs) ≡ true → (list_all is_entry (entries_from 0 zs) && has_few_entries (entries_from 0 zs)) ≡ true
entries_ordered zs h =
    let p = and_parts (list_all is_entry zs) (has_few_entries zs) h in
    and_from (list_all is_entry (entries_from 0 zs)) (has_few_entries (entries_from 0 zs)) (entries_test is_entry zs p.0) (le_test (length zs) (length (entries_from 0 zs)) (entries_short zs) p.1)

in_order_range : (t : RuleText) (end : Option Until) → Ranges t → is_in_range (as_written t end) ≡ true
unfolding is_in_range
in_order_range t end r =
    and_from _ _ (and_from _ _ (and_from _ _ (and_from _ _ (and_from _ _ (and_from _ _ r.interval r.count) (weekday_test t.week_start r.week)) (months_ordered t.months r.months)) (numbers_ordered 31 t.month_days r.month_days)) (entries_ordered t.weekdays r.weekdays)) (numbers_ordered 366 t.positions r.positions)

either_kept : (a b c d : Bool) → (a ≡ true → c ≡ true) → d ≡ b → (a || b) ≡ true → (c || d) ≡ true
either_kept true b c d f e h = rw (f refl) refl
either_kept false b true d f e h = refl
either_kept false b false d f e h = e ∙ h

in_order_together : (t : RuleText) (end : Option Until) → Ranges t → go_together t ≡ true → go_together (as_written t end) ≡ true
unfolding go_together
in_order_together t end r h =
    let months = months_missing t.months (and_parts (list_all (is_between 1 12) t.months) (has_few_entries t.months) r.months).0 in
    let days = numbers_missing 31 t.month_days (omega arith) (and_parts (list_all (is_place 31) t.month_days) (has_few_entries t.month_days) r.month_days).0 in
    let entries = entries_missing t.weekdays (and_parts (list_all is_entry t.weekdays) (has_few_entries t.weekdays) r.weekdays).0 in
    let places = numbers_missing 366 t.positions (omega arith) (and_parts (list_all (is_place 366) t.positions) (has_few_entries t.positions) r.positions).0 in
    let p = and_parts _ (is_missing t.positions || not (is_missing t.months && is_missing t.month_days && is_missing t.weekdays)) h in
    let q = and_parts (not (is_weekly t.frequency) || is_missing t.month_days) (list_all (λ entry. is_plain entry.number) t.weekdays || (is_long t.frequency && is_missing t.month_days)) p.0 in
    and_from _ _
    (and_from _ _ (ap (λ b. not (is_weekly t.frequency) || b) days ∙ q.0)
    (either_kept (list_all (λ entry. is_plain entry.number) t.weekdays) (is_long t.frequency && is_missing t.month_days) (list_all (λ entry. is_plain entry.number) (entries_from 0 t.weekdays)) (is_long t.frequency && is_missing (numbers_from 0 t.month_days)) (entries_test (λ entry. is_plain entry.number) t.weekdays) (ap (λ b. is_long t.frequency && b) days) q.1))
    (rw (places, months, days, entries) p.1)

in_order_end : (count : Option ℕ) (u : Option Until) (text : Option (List ℕ)) (end : Option Until) → HandsIn u text end → (is_none count || is_none u) ≡ true → (is_none count || is_none end) ≡ true
in_order_end None u text end h e = refl
in_order_end (Some n) None text end h e = ap is_none h
in_order_end (Some n) (Some u) text end h e = cc

pub allowed_back : (t : RuleText) (until : Option (List ℕ)) (end : Option Until) → IsAllowed t → HandsIn t.until until end → SpellsRule (rule_text t until) (as_written t end)
allowed_back t until end h hands =
    let r = ranges t h.0 in
    rule_back t until end (in_order_range t end r) (in_order_together t end r h.1) (in_order_end t.count t.until until end hands h.2) hands
