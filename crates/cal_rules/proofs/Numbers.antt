-- Numbers, weekdays and dates as they are spelled.
use Rattle.std.proofs.Common.{◌≡◌, ◌∙◌, ◌≢◌, ap, sym, refl, ℕ, zero, suc, ◌+◌, ◌-◌, ◌*◌, ◌<◌, ◌≤◌, lit<, lit≤, true, false, cond, nat_eq, inl, inr, ◌⊎◌, List, [], ◌∷◌, ◌++◌, length, get_or, take, drop, codes, Option, None, Some, is_some, unwrap_or, subst, IfSome, MatchOption, ℤ, pos, neg_ℤ, arith, Result, Ok, Err}
use Rattle.std.proofs.lemmas.List.{take-append-drop, take_at, drop_at, get_or_at, length-append}
use Rattle.std.proofs.lemmas.Str.{IsCharBoundary-before_ascii}
use Rattle.std.proofs.lemmas.Str.Parse.{without_leading_plus_none, digit_from_value}
use Rattle.std.specs.Int.{IsInRange}
use denote.Ref.{Bor}
use Rattle.std.specs.Str.{IsCharBoundary}
use Rattle.std.specs.Str.Parse.{AllDigits, IsNumeral, digits_value, without_leading_plus, ParsesUnsigned}
use Rattle.std.specs.Result.{result_ok}
use Rattle.profile.specs.series.Days.{Frequency, Daily, Weekly, Monthly, Yearly}
use Rattle.profile.specs.text.Values.{IsNumber, SpellsDate, SpellsLocal, SpellsStamp}
use Rattle.profile.specs.series.Rules.{WeekdayNumber, Until, UntilDay, UntilLocal, UntilInstant}
use Rattle.profile.specs.series.RuleTexts.{frequency_word, weekday_word, SpellsWeekday, SpellsBetween, SpellsPlace, SpellsEntry, SpellsUntil, SpellsNone}
use Rattle.ical_values.proofs.Spelled.{clock_parts, date_length}
use Rattle.ical_values.proofs.Readings.{date_same, clock_same, stamp_same}
use Rattle.ical_values.proofs.Parts.{head, tail}

-- ---- words

-- a word has two letters, and says which weekday it is
abbrev weight : List ℕ → ℕ
weight word = 2 * get_or word 0 0 + get_or word 1 0

record OfWeekday (n : ℕ) : Type 0 where
  long : length (weekday_word n) ≡ 2
  low : get_or (weekday_word n) 0 0 < 128

of_weekday : (n : ℕ) → n < 7 → OfWeekday n
of_weekday zero h = record { long = refl; low = lit< tt }
of_weekday (suc zero) h = record { long = refl; low = lit< tt }
of_weekday (suc (suc zero)) h = record { long = refl; low = lit< tt }
of_weekday (suc (suc (suc zero))) h = record { long = refl; low = lit< tt }
of_weekday (suc (suc (suc (suc zero)))) h = record { long = refl; low = lit< tt }
of_weekday (suc (suc (suc (suc (suc zero))))) h = record { long = refl; low = lit< tt }
of_weekday (suc (suc (suc (suc (suc (suc zero)))))) h = record { long = refl; low = lit< tt }
of_weekday (suc (suc (suc (suc (suc (suc (suc n))))))) h = absurd (omega arith)

weekday_at : List ℕ → ℕ
weekday_at word =
    let w = weight word in
    cond (nat_eq w 233) 0 (cond (nat_eq w 253) 1 (cond (nat_eq w 243) 2 (cond (nat_eq w 240) 3 (cond (nat_eq w 222) 4 (cond (nat_eq w 231) 5 6)))))

weekday_back : (n : ℕ) → n < 7 → weekday_at (weekday_word n) ≡ n
unfolding weekday_at
weekday_back zero h = refl
weekday_back (suc zero) h = refl
weekday_back (suc (suc zero)) h = refl
weekday_back (suc (suc (suc zero))) h = refl
weekday_back (suc (suc (suc (suc zero)))) h = refl
weekday_back (suc (suc (suc (suc (suc zero))))) h = refl
weekday_back (suc (suc (suc (suc (suc (suc zero)))))) h = refl
weekday_back (suc (suc (suc (suc (suc (suc (suc n))))))) h = absurd (omega arith)

pub weekday_same : (value : List ℕ) (m n : ℕ) → SpellsWeekday value m → SpellsWeekday value n → m ≡ n
weekday_same value m n s t = sym (weekday_back m s.0) ∙ ap weekday_at (sym s.1 ∙ t.1) ∙ weekday_back n t.0

first_letter : (f g : Frequency) → frequency_word f ≡ frequency_word g → get_or (frequency_word f) 0 0 ≡ get_or (frequency_word g) 0 0
first_letter f g e = ap (λ w. get_or w 0 0) e

pub frequency_same : (f g : Frequency) → frequency_word f ≡ frequency_word g → f ≡ g
frequency_same Daily Daily e = refl
frequency_same Weekly Weekly e = refl
frequency_same Monthly Monthly e = refl
frequency_same Yearly Yearly e = refl
frequency_same Daily Weekly e = absurd (omega (arith, first_letter Daily Weekly e))
frequency_same Daily Monthly e = absurd (omega (arith, first_letter Daily Monthly e))
frequency_same Daily Yearly e = absurd (omega (arith, first_letter Daily Yearly e))
frequency_same Weekly Daily e = absurd (omega (arith, first_letter Weekly Daily e))
frequency_same Weekly Monthly e = absurd (omega (arith, first_letter Weekly Monthly e))
frequency_same Weekly Yearly e = absurd (omega (arith, first_letter Weekly Yearly e))
frequency_same Monthly Daily e = absurd (omega (arith, first_letter Monthly Daily e))
frequency_same Monthly Weekly e = absurd (omega (arith, first_letter Monthly Weekly e))
frequency_same Monthly Yearly e = absurd (omega (arith, first_letter Monthly Yearly e))
frequency_same Yearly Daily e = absurd (omega (arith, first_letter Yearly Daily e))
frequency_same Yearly Weekly e = absurd (omega (arith, first_letter Yearly Weekly e))
frequency_same Yearly Monthly e = absurd (omega (arith, first_letter Yearly Monthly e))

-- ---- numbers

not_plus : (bs : List ℕ) → ((rest : List ℕ) → bs ≡ 43 ∷ rest → ⊥) → get_or bs 0 0 ≢ 43
not_plus [] h = λ e. absurd (omega arith)
not_plus (c ∷ cs) h = λ e. h cs (ap (λ x. x ∷ cs) e)

-- nothing was stripped
pub stripped_none : (bs : List ℕ) (r : Option (Bor (List ℕ))) → is_some r ≡ false → MatchOption r ((rest : List ℕ) → bs ≡ 43 ∷ rest → ⊥) (λ x. bs ≡ 43 ∷ x.now) → (rest : List ℕ) → bs ≡ 43 ∷ rest → ⊥
stripped_none bs None e h = h
stripped_none bs (Some x) e h = cc

-- what `parse` reads where there is no `+`
plain_number : (bs : List ℕ) (n : ℕ) → ((rest : List ℕ) → bs ≡ 43 ∷ rest → ⊥) → IsNumeral 10 (without_leading_plus bs) → n ≡ digits_value 10 (without_leading_plus bs) → IsNumber bs n
plain_number bs n h p e =
    let same = without_leading_plus_none bs (not_plus bs h) in
    let q = rw same at p in
    (q.0, q.1, sym (rw same at e))

pub parsed : {E : Type 0} (bs : List ℕ) (r : Result ℕ E) → ((rest : List ℕ) → bs ≡ 43 ∷ rest → ⊥) → ParsesUnsigned 32 10 bs r → IfSome (result_ok r) (IsNumber bs)
parsed bs (Ok n) h p = plain_number bs n h p.0.0 p.1
parsed bs (Err e) h p = tt

pub between_same : (low high : ℕ) (value : List ℕ) (m n : ℕ) → SpellsBetween low high value m → SpellsBetween low high value n → m ≡ n
between_same low high value m n s t = sym s.0.2 ∙ t.0.2

-- ---- places

-- a digit isn't a sign
digit_first : (digits : List ℕ) → 0 < length digits → AllDigits 10 digits → IsInRange 48 57 (get_or digits 0 0)
digit_first [] h a = absurd (omega arith)
digit_first (c ∷ cs) h a = digit_from_value c a.0

sign_none : (c : ℕ) (rest digits : List ℕ) → c < 48 → 0 < length digits → AllDigits 10 digits → digits ≡ c ∷ rest → ⊥
sign_none c rest digits low h a e =
    let r = digit_first digits h a in
    let f : get_or digits 0 0 ≡ c = ap (λ x. get_or x 0 0) e in
    omega (arith, r.0)

no_plus : (most : ℕ) (value digits : List ℕ) → value ≡ 43 ∷ digits → SpellsNone (SpellsBetween 1 most) digits → SpellsNone (SpellsPlace most) value
no_plus most value digits e none place (d, n, s, inl (inl f, p)) = sign_none 43 digits d (omega arith) s.0.0 s.0.1 (sym f ∙ e)
no_plus most value digits e none place (d, n, s, inl (inr f, p)) = none n (rw (tail 43 43 d digits (sym f ∙ e)) at s)
no_plus most value digits e none place (d, n, s, inr (f, p)) = absurd (omega (arith, head 45 43 d digits (sym f ∙ e)))

no_bare : (most : ℕ) (value : List ℕ) → ((rest : List ℕ) → value ≡ 45 ∷ rest → ⊥) → ((rest : List ℕ) → value ≡ 43 ∷ rest → ⊥) → SpellsNone (SpellsBetween 1 most) value → SpellsNone (SpellsPlace most) value
no_bare most value minus plus none place (d, n, s, inl (inl f, p)) = none n (rw (sym f) at s)
no_bare most value minus plus none place (d, n, s, inl (inr f, p)) = plus d f
no_bare most value minus plus none place (d, n, s, inr (f, p)) = minus d f

-- after a `+`, where there is one
pub no_unsigned : (most : ℕ) (value digits : Bor (List ℕ)) (r : Option (Bor (List ℕ))) → MatchOption r ((rest : List ℕ) → value.now ≡ 43 ∷ rest → ⊥) (λ b. value.now ≡ 43 ∷ b.now) → ((rest : List ℕ) → value.now ≡ 45 ∷ rest → ⊥) → digits ≡ unwrap_or r value → SpellsNone (SpellsBetween 1 most) digits.now → SpellsNone (SpellsPlace most) value.now
no_unsigned most value digits (Some b) plus minus e none = no_plus most value.now b.now plus (subst (λ (d : Bor (List ℕ)). SpellsNone (SpellsBetween 1 most) d.now) e none)
no_unsigned most value digits None plus minus e none = no_bare most value.now minus plus (subst (λ (d : Bor (List ℕ)). SpellsNone (SpellsBetween 1 most) d.now) e none)

pub place_nonempty : (most : ℕ) (value : List ℕ) (place : ℤ) → SpellsPlace most value place → 0 < length value
place_nonempty most value place (d, n, s, inl (inl f, p)) = rw f s.0.0
place_nonempty most value place (d, n, s, inl (inr f, p)) = rw f (omega arith)
place_nonempty most value place (d, n, s, inr (f, p)) = rw f (omega arith)

pub place_same : (most : ℕ) (value : List ℕ) (a b : ℤ) → SpellsPlace most value a → SpellsPlace most value b → a ≡ b
place_same most value a b (d, m, s, inl (inl e, p)) (c, n, t, inl (inl f, q)) =
    p ∙ ap pos (between_same 1 most c m n (rw (sym e ∙ f) at s) t) ∙ sym q
place_same most value a b (d, m, s, inl (inr e, p)) (c, n, t, inl (inr f, q)) =
    p ∙ ap pos (between_same 1 most c m n (rw (tail 43 43 d c (sym e ∙ f)) at s) t) ∙ sym q
place_same most value a b (d, m, s, inr (e, p)) (c, n, t, inr (f, q)) =
    p ∙ ap (λ x. neg_ℤ (pos x)) (between_same 1 most c m n (rw (tail 45 45 d c (sym e ∙ f)) at s) t) ∙ sym q
place_same most value a b (d, m, s, inl (inl e, p)) (c, n, t, inl (inr f, q)) = absurd (sign_none 43 c d (omega arith) s.0.0 s.0.1 (sym e ∙ f))
place_same most value a b (d, m, s, inl (inr e, p)) (c, n, t, inl (inl f, q)) = absurd (sign_none 43 d c (omega arith) t.0.0 t.0.1 (sym f ∙ e))
place_same most value a b (d, m, s, inl (inl e, p)) (c, n, t, inr (f, q)) = absurd (sign_none 45 c d (omega arith) s.0.0 s.0.1 (sym e ∙ f))
place_same most value a b (d, m, s, inr (e, p)) (c, n, t, inl (inl f, q)) = absurd (sign_none 45 d c (omega arith) t.0.0 t.0.1 (sym f ∙ e))
place_same most value a b (d, m, s, inl (inr e, p)) (c, n, t, inr (f, q)) = absurd (omega (arith, head 43 45 d c (sym e ∙ f)))
place_same most value a b (d, m, s, inr (e, p)) (c, n, t, inl (inr f, q)) = absurd (omega (arith, head 45 43 d c (sym e ∙ f)))

-- ---- entries of BYDAY

boundary_at : (value front letters : List ℕ) → value ≡ front ++ letters → length front ≡ length value - 2 → length letters ≡ 2 → get_or letters 0 0 < 128 → IsCharBoundary value (length value - 2)
boundary_at value front [] e at two low = absurd (omega arith)
boundary_at value front (y ∷ ys) e at two low =
    let letter : get_or value (length value - 2) 0 ≡ y = ap (λ v. get_or v (length value - 2) 0) e ∙ get_or_at front y ys 0 (length value - 2) at in
    let long : length value ≡ length front + length (y ∷ ys) = ap length e ∙ length-append front (y ∷ ys) in
    IsCharBoundary-before_ascii value (length value - 2) (omega arith) (omega (arith, letter))

number_same : (front : List ℕ) (a b : ℤ) → ((front ≡ []) × (a ≡ pos 0)) ⊎ SpellsPlace 53 front a → ((front ≡ []) × (b ≡ pos 0)) ⊎ SpellsPlace 53 front b → a ≡ b
number_same front a b (inl p) (inl q) = p.1 ∙ sym q.1
number_same front a b (inr s) (inr t) = place_same 53 front a b s t
number_same front a b (inl p) (inr t) = absurd (omega (arith, ap length p.0, place_nonempty 53 front b t))
number_same front a b (inr s) (inl q) = absurd (omega (arith, ap length q.0, place_nonempty 53 front a s))

pub record EntryParts (value : List ℕ) (entry : WeekdayNumber) : Type 0 where
  pub long : 2 ≤ length value
  pub boundary : IsCharBoundary value (length value - 2)
  pub letters : SpellsWeekday (drop (length value - 2) value) entry.weekday
  pub front : ((take (length value - 2) value ≡ []) × (entry.number ≡ pos 0)) ⊎ SpellsPlace 53 (take (length value - 2) value) entry.number

pub entry_parts : (value : List ℕ) (entry : WeekdayNumber) → SpellsEntry value entry → EntryParts value entry
entry_parts value entry (front, letters, e, w, n) =
    let of = of_weekday entry.weekday w.0 in
    let two : length letters ≡ 2 = ap length w.1 ∙ of.long in
    let long : length value ≡ length front + length letters = ap length e ∙ length-append front letters in
    let at : length front ≡ length value - 2 = omega arith in
    let ahead : take (length value - 2) value ≡ front = ap (take (length value - 2)) e ∙ take_at front letters (length value - 2) at in
    let behind : drop (length value - 2) value ≡ letters = ap (drop (length value - 2)) e ∙ drop_at front letters (length value - 2) at in
    let low : get_or letters 0 0 < 128 = rw w.1 of.low in
    record {
      long = omega arith;
      boundary = boundary_at value front letters e at two low;
      letters = rw behind w;
      front = rw ahead n;
    }

front_none : (value front : List ℕ) (number : ℤ) → front ≡ take (length value - 2) value → nat_eq (length front) 0 ≡ false → SpellsNone (SpellsPlace 53) front → ((take (length value - 2) value ≡ []) × (number ≡ pos 0)) ⊎ SpellsPlace 53 (take (length value - 2) value) number → ⊥
front_none value front number e filled none (inl p) =
    let empty : nat_eq (length front) 0 ≡ true = rw (e ∙ p.0) refl in
    let h : true ≡ false = sym empty ∙ filled in cc
front_none value front number e filled none (inr s) = none number (rw (sym e) at s)

-- a front that isn't a number
pub entry_no_number : (value front : List ℕ) → front ≡ take (length value - 2) value → nat_eq (length front) 0 ≡ false → SpellsNone (SpellsPlace 53) front → SpellsNone SpellsEntry value
entry_no_number value front e filled none entry s = front_none value front entry.number e filled none (entry_parts value entry s).front

pub entry_reads : (value : List ℕ) (weekday : ℕ) (number : ℤ) → SpellsWeekday (drop (length value - 2) value) weekday → ((take (length value - 2) value ≡ []) × (number ≡ pos 0)) ⊎ SpellsPlace 53 (take (length value - 2) value) number → SpellsEntry value (record { number = number; weekday = weekday })
entry_reads value weekday number w n = (take (length value - 2) value, drop (length value - 2) value, sym (take-append-drop (length value - 2) value), w, n)

pub entry_same : (value : List ℕ) (a b : WeekdayNumber) → SpellsEntry value a → SpellsEntry value b → a ≡ b
entry_same value a b s t =
    let p = entry_parts value a s in
    let q = entry_parts value b t in
    let weekday : a.weekday ≡ b.weekday = weekday_same (drop (length value - 2) value) a.weekday b.weekday p.letters q.letters in
    let number : a.number ≡ b.number = number_same (take (length value - 2) value) a.number b.number p.front q.front in
    let make : ℤ → ℕ → WeekdayNumber = λ n w. record { number = n; weekday = w } in
    ap (λ n. make n a.weekday) number ∙ ap (make b.number) weekday

-- ---- UNTIL

pub no_until : (value : List ℕ) → SpellsNone SpellsStamp value → SpellsNone SpellsLocal value → SpellsNone SpellsDate value → SpellsNone SpellsUntil value
no_until value stamp local date (UntilDay number) s = date number s
no_until value stamp local date (UntilLocal seconds) s = local seconds s
no_until value stamp local date (UntilInstant instant) s = stamp instant s

local_length : (value : List ℕ) (seconds : ℤ) → SpellsLocal value seconds → length value ≡ 15
local_length value seconds s = (clock_parts 60 value seconds s).long

stamp_length : (value : List ℕ) (instant : ℤ) → SpellsStamp value instant → length value ≡ 16
stamp_length value instant (local, s, e) = omega (arith, ap length e, length-append local (codes "Z"), local_length local instant s)

pub until_same : (value : List ℕ) (a b : Until) → SpellsUntil value a → SpellsUntil value b → a ≡ b
until_same value (UntilDay a) (UntilDay b) s t = ap UntilDay (date_same value a b s t)
until_same value (UntilLocal a) (UntilLocal b) s t = ap UntilLocal (clock_same 60 value a b (lit≤ tt) s t)
until_same value (UntilInstant a) (UntilInstant b) s t = ap UntilInstant (stamp_same value a b s t)
until_same value (UntilDay a) (UntilLocal b) s t = absurd (omega (arith, date_length value a s, local_length value b t))
until_same value (UntilDay a) (UntilInstant b) s t = absurd (omega (arith, date_length value a s, stamp_length value b t))
until_same value (UntilLocal a) (UntilDay b) s t = absurd (omega (arith, local_length value a s, date_length value b t))
until_same value (UntilLocal a) (UntilInstant b) s t = absurd (omega (arith, local_length value a s, stamp_length value b t))
until_same value (UntilInstant a) (UntilDay b) s t = absurd (omega (arith, stamp_length value a s, date_length value b t))
until_same value (UntilInstant a) (UntilLocal b) s t = absurd (omega (arith, stamp_length value a s, local_length value b t))
