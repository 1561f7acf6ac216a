-- What is written of a rule's values reads back.
use Rattle.std.proofs.Common.{◌≡◌, ◌∙◌, ap, refl, ℕ, zero, suc, ◌^◌, ◌<◌, ◌≤◌, Bool, true, false, cond, not, ◌&&◌, ◌||◌, ◌==◌, nat_lt, inl, inr, ◌⊎◌, List, [], ◌∷◌, ◌++◌, length, map, codes, decimal, All, append-nil, ℤ, pos, negsuc, arith}
use Rattle.std.proofs.lemmas.Bool.{and_parts, and_from, not-true}
use Rattle.std.proofs.lemmas.Bool.Decides.{nat_tests}
use Rattle.std.proofs.lemmas.Fmt.{decimal_is_IsNumeral}
use Rattle.std.proofs.lemmas.List.Elements.{All-nil, All-cons, All-head, All-tail}
use Rattle.std.proofs.lemmas.List.Splits.{slice_split_none, slice_split_at}
use Rattle.std.specs.Fmt.{signed_decimal}
use Rattle.std.proofs.lemmas.Str.Parse.{digit_from_value}
use Rattle.std.specs.Int.{IsInRange}
use Rattle.std.specs.Str.Parse.{AllDigits}
use Rattle.std.specs.List.{slice_split, list_all, AllZip}
use Rattle.profile.specs.faults.Faults.{is_between}
use Rattle.profile.specs.series.Rules.{WeekdayNumber, is_place, is_plain, is_entry}
use Rattle.profile.specs.text.Values.{IsNumber}
use Rattle.profile.specs.series.RuleTexts.{weekday_word, SpellsBetween, SpellsPlace, SpellsEntry, SpellsList, SpellsMonths, SpellsEntries, listed, weekday_number_text}

pub number_back : (n : ℕ) → n < 2 ^ 64 → IsNumber (decimal n) n
number_back n h = let d = decimal_is_IsNumeral n h in (d.0.0, d.0.1, d.1)

pub between_back : (low high n : ℕ) → n < 2 ^ 64 → is_between low high n ≡ true → SpellsBetween low high (decimal n) n
between_back low high n h e = (number_back n h, e)

pub up_to : (most n : ℕ) → is_between 1 most n ≡ true → n ≤ most
up_to most n e = grind (arith, nat_tests)

pub below : (most n : ℕ) → nat_lt n most ≡ true → n < most
below most n e = grind (arith, nat_tests)

from_end : (most n : ℕ) → nat_lt n most ≡ true → is_between 1 most (suc n) ≡ true
from_end most n e = grind (arith, nat_tests)

pub place_back : (most : ℕ) (place : ℤ) → most ≤ 366 → is_place most place ≡ true → SpellsPlace most (signed_decimal place) place
place_back most (pos n) h e =
    let small = up_to most n e in
    (decimal n, n, between_back 1 most n (omega arith) e, inl (inl refl, refl))
place_back most (negsuc n) h e =
    let small = below most n e in
    (decimal (suc n), suc n, between_back 1 most (suc n) (omega arith) (from_end most n e), inr (refl, refl))

plain_is_0 : (z : ℤ) → is_plain z ≡ true → z ≡ pos 0
plain_is_0 (pos n) e = let h : n ≡ 0 = grind (arith, nat_tests) in ap pos h
plain_is_0 (negsuc n) e = cc

pub or_other : (x y : Bool) → (x || y) ≡ true → x ≡ false → y ≡ true
or_other true y e f = cc
or_other false y e f = e

front_back : (number : ℤ) (plain : Bool) → is_plain number ≡ plain → (is_plain number || is_place 53 number) ≡ true
    → ((cond plain [] (signed_decimal number) ≡ []) × (number ≡ pos 0)) ⊎ SpellsPlace 53 (cond plain [] (signed_decimal number)) number
front_back number true e h = inl (refl, plain_is_0 number e)
front_back number false e h = inr (place_back 53 number (omega arith) (or_other (is_plain number) (is_place 53 number) h e))

pub entry_back : (entry : WeekdayNumber) → is_entry entry ≡ true → SpellsEntry (weekday_number_text entry) entry
entry_back entry e =
    let p = and_parts (nat_lt entry.weekday 7) (is_plain entry.number || is_place 53 entry.number) e in
    (cond (is_plain entry.number) [] (signed_decimal entry.number), weekday_word entry.weekday, refl, (below 7 entry.weekday p.0, refl), front_back entry.number (is_plain entry.number) refl p.1)

-- ---- lists

-- the entry has no comma
abbrev pub HasNoComma : List ℕ → Type 0
HasNoComma entry = All (λ c. (c == 44) ≡ false) entry

-- entries with commas between, read one by one
split_back : (entry : List ℕ) (entries : List (List ℕ)) → All HasNoComma (entry ∷ entries) → slice_split (λ c. c == 44) (entry ++ listed (codes ",") entries) ≡ entry ∷ entries
split_back entry [] h = ap (slice_split (λ c. c == 44)) (append-nil entry) ∙ slice_split_none (λ c. c == 44) entry (All-head HasNoComma entry [] h)
split_back entry (next ∷ entries) h =
    slice_split_at (λ c. c == 44) entry 44 (next ++ listed (codes ",") entries) (All-head HasNoComma entry (next ∷ entries) h) refl
    ∙ ap (λ l. entry ∷ l) (split_back next entries (All-tail HasNoComma entry (next ∷ entries) h))

pub list_back : {A : Type 0} (Is : List ℕ → A → Type 0) (entry : List ℕ) (entries : List (List ℕ)) (xs : List A) → All HasNoComma (entry ∷ entries) → AllZip Is (entry ∷ entries) xs → length xs ≤ 366 → SpellsList Is (entry ++ listed (codes ",") entries) xs
list_back Is entry entries xs clean zip short = (rw (split_back entry entries clean) zip, short)

-- ---- no comma and no semicolon in a value

abbrev pub IsMark : ℕ → Type 0
IsMark mark = (mark ≡ 44) ⊎ (mark ≡ 59)

pub comma : IsMark 44
comma = inl refl

pub semicolon : IsMark 59
semicolon = inr refl

abbrev pub lacks : ℕ → List ℕ → Bool
lacks mark xs = list_all (λ c. not (c == mark)) xs

pub lacks_append : (mark : ℕ) (xs ys : List ℕ) → lacks mark xs ≡ true → lacks mark ys ≡ true → lacks mark (xs ++ ys) ≡ true
lacks_append mark [] ys h g = g
lacks_append mark (x ∷ xs) ys h g =
    let p = and_parts (not (x == mark)) (lacks mark xs) h in
    and_from (not (x == mark)) (lacks mark (xs ++ ys)) p.0 (lacks_append mark xs ys p.1 g)

pub lacks_all : (mark : ℕ) (xs : List ℕ) → lacks mark xs ≡ true → All (λ c. (c == mark) ≡ false) xs
lacks_all mark [] h = All-nil (λ c. (c == mark) ≡ false)
lacks_all mark (x ∷ xs) h =
    let p = and_parts (not (x == mark)) (lacks mark xs) h in
    All-cons (λ c. (c == mark) ≡ false) x xs (not-true (x == mark) p.0) (lacks_all mark xs p.1)

-- a digit, or the minus sign
between_marks : (mark : ℕ) → IsMark mark → (c : ℕ) → IsInRange 45 57 c → not (c == mark) ≡ true
between_marks mark (inl e) c r = grind (arith, nat_tests)
between_marks mark (inr e) c r = grind (arith, nat_tests)

lacks_digits : (mark : ℕ) → IsMark mark → (ds : List ℕ) → AllDigits 10 ds → lacks mark ds ≡ true
lacks_digits mark m [] a = refl
lacks_digits mark m (c ∷ ds) a =
    let digit : IsInRange 48 57 c = digit_from_value c a.0 in
    and_from (not (c == mark)) (lacks mark ds) (between_marks mark m c (omega (arith, digit.0), digit.1)) (lacks_digits mark m ds a.1)

pub lacks_decimal : (mark : ℕ) → IsMark mark → (n : ℕ) → n < 2 ^ 64 → lacks mark (decimal n) ≡ true
lacks_decimal mark m n h = lacks_digits mark m (decimal n) (number_back n h).1

pub lacks_place : (mark : ℕ) → IsMark mark → (most : ℕ) (place : ℤ) → most ≤ 366 → is_place most place ≡ true → lacks mark (signed_decimal place) ≡ true
lacks_place mark m most (pos n) h e =
    let small = up_to most n e in lacks_decimal mark m n (omega arith)
lacks_place mark m most (negsuc n) h e =
    let small = below most n e in
    and_from (not (45 == mark)) (lacks mark (decimal (suc n))) (between_marks mark m 45 (omega arith, omega arith)) (lacks_decimal mark m (suc n) (omega arith))

clean_weekday : (n : ℕ) → n < 7 → (lacks 44 (weekday_word n) && lacks 59 (weekday_word n)) ≡ true
clean_weekday zero h = refl
clean_weekday (suc zero) h = refl
clean_weekday (suc (suc zero)) h = refl
clean_weekday (suc (suc (suc zero))) h = refl
clean_weekday (suc (suc (suc (suc zero)))) h = refl
clean_weekday (suc (suc (suc (suc (suc zero))))) h = refl
clean_weekday (suc (suc (suc (suc (suc (suc zero)))))) h = refl
clean_weekday (suc (suc (suc (suc (suc (suc (suc n))))))) h = absurd (omega arith)

pub lacks_weekday : (mark : ℕ) → IsMark mark → (n : ℕ) → n < 7 → lacks mark (weekday_word n) ≡ true
lacks_weekday mark (inl e) n h = rw e ((and_parts (lacks 44 (weekday_word n)) (lacks 59 (weekday_word n)) (clean_weekday n h)).0)
lacks_weekday mark (inr e) n h = rw e ((and_parts (lacks 44 (weekday_word n)) (lacks 59 (weekday_word n)) (clean_weekday n h)).1)

lacks_front : (mark : ℕ) → IsMark mark → (number : ℤ) (plain : Bool) → is_plain number ≡ plain → (is_plain number || is_place 53 number) ≡ true → lacks mark (cond plain [] (signed_decimal number)) ≡ true
lacks_front mark m number true e h = refl
lacks_front mark m number false e h = lacks_place mark m 53 number (omega arith) (or_other (is_plain number) (is_place 53 number) h e)

pub lacks_entry : (mark : ℕ) → IsMark mark → (entry : WeekdayNumber) → is_entry entry ≡ true → lacks mark (weekday_number_text entry) ≡ true
lacks_entry mark m entry e =
    let p = and_parts (nat_lt entry.weekday 7) (is_plain entry.number || is_place 53 entry.number) e in
    lacks_append mark (cond (is_plain entry.number) [] (signed_decimal entry.number)) (weekday_word entry.weekday) (lacks_front mark m entry.number (is_plain entry.number) refl p.1) (lacks_weekday mark m entry.weekday (below 7 entry.weekday p.0))

-- ---- lists of values

all_clean : {A : Type 0} (f : A → List ℕ) (test : A → Bool) → ((x : A) → test x ≡ true → lacks 44 (f x) ≡ true) → (xs : List A) → list_all test xs ≡ true → All HasNoComma (map f xs)
all_clean f test clean [] h = All-nil HasNoComma
all_clean f test clean (x ∷ xs) h =
    let p = and_parts (test x) (list_all test xs) h in
    All-cons HasNoComma (f x) (map f xs) (lacks_all 44 (f x) (clean x p.0)) (all_clean f test clean xs p.1)

all_spelled : {A : Type 0} (Is : List ℕ → A → Type 0) (f : A → List ℕ) (test : A → Bool) → ((x : A) → test x ≡ true → Is (f x) x) → (xs : List A) → list_all test xs ≡ true → AllZip Is (map f xs) xs
all_spelled Is f test spells [] h = tt
all_spelled Is f test spells (x ∷ xs) h =
    let p = and_parts (test x) (list_all test xs) h in
    (spells x p.0, all_spelled Is f test spells xs p.1)

pub written_list : {A : Type 0} (Is : List ℕ → A → Type 0) (f : A → List ℕ) (test : A → Bool) → ((x : A) → test x ≡ true → Is (f x) x) → ((x : A) → test x ≡ true → lacks 44 (f x) ≡ true)
    → (x : A) (xs : List A) → list_all test (x ∷ xs) ≡ true → length (x ∷ xs) ≤ 366 → SpellsList Is (f x ++ listed (codes ",") (map f xs)) (x ∷ xs)
written_list Is f test spells clean x xs h short =
    list_back Is (f x) (map f xs) (x ∷ xs) (all_clean f test clean (x ∷ xs) h) (all_spelled Is f test spells (x ∷ xs) h) short

pub month_small : (n : ℕ) → is_between 1 12 n ≡ true → n < 2 ^ 64
month_small n e = let h = up_to 12 n e in omega arith

pub months_back : (month : ℕ) (months : List ℕ) → list_all (is_between 1 12) (month ∷ months) ≡ true → length (month ∷ months) ≤ 366 → SpellsMonths (decimal month ++ listed (codes ",") (map decimal months)) (month ∷ months)
months_back = written_list (SpellsBetween 1 12) decimal (is_between 1 12) (λ n e. between_back 1 12 n (month_small n e) e) (λ n e. lacks_decimal 44 comma n (month_small n e))

pub places_back : (most : ℕ) (place : ℤ) (places : List ℤ) → most ≤ 366 → list_all (is_place most) (place ∷ places) ≡ true → length (place ∷ places) ≤ 366 → SpellsList (SpellsPlace most) (signed_decimal place ++ listed (codes ",") (map signed_decimal places)) (place ∷ places)
places_back most place places h = written_list (SpellsPlace most) signed_decimal (is_place most) (λ z e. place_back most z h e) (λ z e. lacks_place 44 comma most z h e) place places

pub entries_back : (entry : WeekdayNumber) (entries : List WeekdayNumber) → list_all is_entry (entry ∷ entries) ≡ true → length (entry ∷ entries) ≤ 366 → SpellsEntries (weekday_number_text entry ++ listed (codes ",") (map weekday_number_text entries)) (entry ∷ entries)
entries_back = written_list SpellsEntry weekday_number_text is_entry entry_back (lacks_entry 44 comma)
