-- Laws of what is spelled: one value for a text, and one text that is written for a value.
use Rattle.std.proofs.Common.{Bool, true, false, cond, nat_eq, ◌≡◌, ◌∙◌, ℕ, suc, ◌%◌, ◌^◌, ◌<◌, ◌≤◌, inl, inr, List, [], ◌∷◌, ◌++◌, length, get_or, take, drop, codes, decimal, refl, sym, ap, arith, ℤ, pos, negsuc, neg_ℤ}
use Rattle.std.proofs.lemmas.Int.{ints}
use Rattle.std.proofs.lemmas.Bool.Decides.{nat_tests}
use Rattle.std.proofs.lemmas.List.{append_cancel_right}
use Rattle.std.proofs.lemmas.Fmt.{decimal_is_IsNumeral}
use Rattle.std.proofs.lemmas.Str.Parse.{digit_from_value}
use Rattle.std.specs.Int.{is_negative}
use Rattle.std.specs.Str.Parse.{AllDigits, digits_value}
use Rattle.profile.specs.series.Days.{IsDate, number_of_date, days_in_month}
use Rattle.profile.specs.text.Values.{two_digits, SpellsDate, SpellsTime, SpellsClock, SpellsStamp, WritesStamp, SpellsSequence, SpellsSize, SpellsOffset, WritesOffset}
use Rattle.ical_values.proofs.Spelled.{clock_parts, date_digits, two_same, four_same}
use Rattle.ical_values.proofs.Offsets.{time_same, size_same}

-- DATES AND CLOCKS

date_bounds : (text : List ℕ) (n : ℤ) (s : SpellsDate text n) → (s.month < 100) × (s.day < 100) × (s.year < 10_000)
date_bounds text n s =
    let long : days_in_month s.year s.month ≤ 31 = grind arith in
    (omega (arith, s.date.1), omega (arith, s.date.3), omega (arith, s.last))

pub date_same : (text : List ℕ) (m n : ℤ) → SpellsDate text m → SpellsDate text n → m ≡ n
date_same text m n s t =
    let d = date_digits text m s in
    let e = date_digits text n t in
    let p = date_bounds text m s in
    let q = date_bounds text n t in
    let year = four_same s.year t.year _ p.2 q.2 d.years e.years in
    let month = two_same s.month t.month _ p.0 q.0 d.months e.months in
    let day = two_same s.day t.day _ p.1 q.1 d.days e.days in
    s.counted ∙ rw (year, month, day) (sym t.counted)

pub clock_same : (limit : ℕ) (text : List ℕ) (a b : ℤ) → limit ≤ 60 → SpellsClock limit text a → SpellsClock limit text b → a ≡ b
clock_same limit text a b bound s t =
    let p = clock_parts limit text a s in
    let q = clock_parts limit text b t in
    let number = date_same _ p.number q.number p.on q.on in
    let second = time_same limit _ p.second q.second bound p.at_second q.at_second in
    p.counted ∙ rw (number, second) (sym q.counted)

pub stamp_same : (text : List ℕ) (a b : ℤ) → SpellsStamp text a → SpellsStamp text b → a ≡ b
stamp_same text a b (x, s, e) (y, t, f) =
    let same = append_cancel_right x y _ (sym e ∙ f) in
    clock_same 60 y a b (omega arith) (rw same at s) t

-- what is written is read
time_written : (text : List ℕ) (total : ℕ) → SpellsTime 59 text total → SpellsTime 60 text total
time_written text total s = record {
  hour = s.hour;
  minute = s.minute;
  second = s.second;
  hours = s.hours;
  minutes = s.minutes;
  seconds = omega (arith, s.seconds);
  spelled = s.spelled;
  counted = s.counted;
}

pub clock_written : (text : List ℕ) (seconds : ℤ) → SpellsClock 59 text seconds → SpellsClock 60 text seconds
clock_written text seconds s = record {
  date = s.date;
  time = s.time;
  number = s.number;
  second = s.second;
  on = s.on;
  at_second = time_written s.time s.second s.at_second;
  spelled = s.spelled;
  counted = s.counted;
}

pub stamp_written : (text : List ℕ) (instant : ℤ) → WritesStamp text instant → SpellsStamp text instant
stamp_written text instant (x, s, e) = (x, clock_written x instant s, e)

-- one form
time_form : (x y : List ℕ) (total : ℕ) → SpellsTime 59 x total → SpellsTime 59 y total → x ≡ y
time_form x y total s t =
    let hour : s.hour ≡ t.hour = omega (arith, s.counted, t.counted, s.minutes, t.minutes, s.seconds, t.seconds) in
    let minute : s.minute ≡ t.minute = omega (arith, s.counted, t.counted, s.minutes, t.minutes, s.seconds, t.seconds) in
    let second : s.second ≡ t.second = omega (arith, s.counted, t.counted, s.minutes, t.minutes, s.seconds, t.seconds) in
    s.spelled ∙ rw (hour, minute, second) (sym t.spelled)

abbrev pub OneDate : Type 0
OneDate = (year month day late_year late_month late_day : ℕ) → IsDate year month day → IsDate late_year late_month late_day → number_of_date year month day ≡ number_of_date late_year late_month late_day → (year ≡ late_year) × (month ≡ late_month) × (day ≡ late_day)

date_form : OneDate → (x y : List ℕ) (m n : ℤ) → m ≡ n → SpellsDate x m → SpellsDate y n → x ≡ y
date_form one x y m n e s t =
    let same = one s.year s.month s.day t.year t.month t.day s.date t.date (sym s.counted ∙ e ∙ t.counted) in
    s.spelled ∙ rw (same.0, same.1, same.2) (sym t.spelled)

second_bound : (limit : ℕ) (text : List ℕ) (total : ℕ) → SpellsTime limit text total → total < 86_400
second_bound limit text total s = omega (arith, s.counted, s.hours, s.minutes)

pub clock_form : OneDate → (x y : List ℕ) (seconds : ℤ) → SpellsClock 59 x seconds → SpellsClock 59 y seconds → x ≡ y
clock_form one x y seconds s t =
    let a = second_bound 59 s.time s.second s.at_second in
    let b = second_bound 59 t.time t.second t.at_second in
    let sum = sym s.counted ∙ t.counted in
    let number : s.number ≡ t.number = omega (arith, ints, a, b, sum) in
    let second : s.second ≡ t.second = omega (arith, ints, a, b, sum) in
    s.spelled ∙ rw (date_form one s.date t.date s.number t.number number s.on t.on, time_form s.time t.time t.second (rw second at s.at_second) t.at_second) (sym t.spelled)

pub stamp_form : OneDate → (x y : List ℕ) (instant : ℤ) → WritesStamp x instant → WritesStamp y instant → x ≡ y
stamp_form one x y instant (p, s, e) (q, t, f) = e ∙ ap (λ w. w ++ codes "Z") (clock_form one p q instant s t) ∙ sym f

-- SEQUENCES

plus_no_digit : (digits rest : List ℕ) → AllDigits 10 digits → digits ≡ 43 ∷ rest → ⊥
plus_no_digit [] rest h e = absurd (omega (arith, ap length e))
plus_no_digit (c ∷ cs) rest h e =
    absurd (omega (arith, digit_from_value c h.0, ap (λ x. get_or x 0 0) e))

pub sequence_same : (text : List ℕ) (a b : ℕ) → SpellsSequence text a → SpellsSequence text b → a ≡ b
sequence_same text a b (d, inl e, n, p) (c, inl f, m, q) = sym n.2 ∙ ap (digits_value 10) (sym e ∙ f) ∙ m.2
sequence_same text a b (d, inr e, n, p) (c, inr f, m, q) = sym n.2 ∙ ap (digits_value 10) (ap (drop 1) (sym e ∙ f)) ∙ m.2
sequence_same text a b (d, inl e, n, p) (c, inr f, m, q) = absurd (plus_no_digit d c n.1 (sym e ∙ f))
sequence_same text a b (d, inr e, n, p) (c, inl f, m, q) = absurd (plus_no_digit c d m.1 (sym f ∙ e))

pub sequence_written : (n : ℕ) → n < 2 ^ 31 → SpellsSequence (decimal n) n
sequence_written n h =
    let d = decimal_is_IsNumeral n (omega arith) in
    (decimal n, inl refl, (d.0.0, d.0.1, d.1), h)

-- OFFSETS

signs_differ : (xs ys text : List ℕ) → text ≡ 43 ∷ xs → text ≡ 45 ∷ ys → ⊥
signs_differ xs ys text e f = absurd (omega (arith, ap (λ x. get_or x 0 0) (sym e ∙ f)))

pub offset_same : (text : List ℕ) (a b : ℤ) → SpellsOffset text a → SpellsOffset text b → a ≡ b
offset_same text a b (d, m, s, inl e) (c, n, t, inl f) =
    let same = ap (drop 1) (sym e.0 ∙ f.0) in
    e.1 ∙ ap pos (size_same c m n (rw same at s) t) ∙ sym f.1
offset_same text a b (d, m, s, inr e) (c, n, t, inr f) =
    let same = ap (drop 1) (sym e.0 ∙ f.0) in
    e.2 ∙ ap (λ x. neg_ℤ (pos x)) (size_same c m n (rw same at s) t) ∙ sym f.2
offset_same text a b (d, m, s, inl e) (c, n, t, inr f) = absurd (signs_differ d c text e.0 f.0)
offset_same text a b (d, m, s, inr e) (c, n, t, inl f) = absurd (signs_differ c d text f.0 e.0)

size_by_test : (b : Bool) (time : List ℕ) (size : ℕ) → b ≡ nat_eq (size % 60) 0 → SpellsTime 59 time size → SpellsSize (cond b (take 4 time) time) size
size_by_test false time size e s = inl s
size_by_test true time size e s =
    let whole : size % 60 ≡ 0 = grind (arith, nat_tests) in
    let zero_seconds : s.second ≡ 0 = omega (arith, s.counted, s.seconds, whole) in
    let text : time ≡ two_digits s.hour ++ two_digits s.minute ++ codes "00" = s.spelled ∙ rw zero_seconds refl in
    let back : take 4 time ++ codes "00" ≡ time = ap (λ t. take 4 t ++ codes "00") text ∙ sym text in
    inr (rw back s)

pub offset_written : (text : List ℕ) (z : ℤ) → WritesOffset text z → SpellsOffset text z
offset_written text (pos n) (time, s, e) =
    let plus : is_negative (pos n) ≡ false = grind (arith, nat_tests) in
    (_, n, size_by_test (nat_eq (n % 60) 0) time n refl s, inl (rw plus at e, refl))
offset_written text (negsuc n) (time, s, e) =
    (_, suc n, size_by_test (nat_eq (suc n % 60) 0) time (suc n) refl s, inr (e, omega arith, refl))

pub offset_form : (x y : List ℕ) (z : ℤ) → WritesOffset x z → WritesOffset y z → x ≡ y
offset_form x y z (p, s, e) (q, t, f) =
    let same = time_form p q _ s t in
    e ∙ rw same (sym f)
