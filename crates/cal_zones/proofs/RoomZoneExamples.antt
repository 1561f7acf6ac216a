-- Words of a room that mean a zone, and words that mean none.
use Rattle.std.proofs.Common.{◌≡◌, ◌≢◌, ◌∙◌, ap, sym, subst, refl, arith, inl, inr, lit<, lit≤, ℕ, ◌+◌, ◌/◌, ◌%◌, ◌^◌, ◌<◌, ◌≤◌, true, ◌&&◌, nat_lt, List, [], ◌∷◌, ◌++◌, length, codes, decimal, Some, negsuc, unsigned_abs}
use Rattle.std.specs.Prelude.{get_or}
use Rattle.std.specs.List.{slice_split}
use Rattle.std.proofs.lemmas.Bool.{and_parts}
use Rattle.std.proofs.lemmas.Bool.Decides.{nat_tests}
use Rattle.std.proofs.lemmas.Fmt.{decimal_digit, decimal_step, first_decimal}
use Rattle.profile.specs.faults.Faults.{is_between}
use Rattle.profile.specs.text.Values.{WritesOffset}
use Rattle.profile.specs.series.RuleTexts.{weekday_word}
use Rattle.profile.specs.series.Zones.{Observance, Zone, Pair}
use Rattle.profile.specs.series.ZoneTexts.{MonthDays, OnDay, FromStart, FromEnd, InWeek, AreSpaced, is_each_year, year_pattern}
use Rattle.profile.specs.series.RoomZones.{IsRoomZone, IsNoRoomZone, WritesHourMinute, WritesMonthDay}
use Rattle.ical_values.proofs.Readings.{offset_same, offset_written}
use Rattle.cal_zones.proofs.RoomZoneLemmas.{offset_said}
use Rattle.cal_zones.proofs.RoomReads.{is_gap, one_or_eight, one_word, Cut}
use Rattle.cal_zones.proofs.WrittenRules.{numbered}

-- ---- Eastern time

abbrev pub standard : Observance
standard = record { day = 719_528; second = 7200; rule = Some (year_pattern (record { month = 11; days = FromStart 1 6 }) 719_528); offset_from = negsuc 14_399; offset_to = negsuc 17_999 }

abbrev pub daylight : Observance
daylight = record { day = 719_528; second = 7200; rule = Some (year_pattern (record { month = 3; days = FromStart 2 6 }) 719_528); offset_from = negsuc 17_999; offset_to = negsuc 14_399 }

two_in_the_morning : WritesHourMinute (codes "0200") 7200
two_in_the_morning = record { hour = 2; minute = 0; hours = lit≤ tt; minutes = lit≤ tt; is = refl; counted = refl }

eleven : codes "11" ≡ decimal 11
eleven = sym (decimal_step 11 (lit≤ tt) (omega arith) ∙ ap (λ l. l ++ 49 ∷ []) (decimal_digit 1 (lit< tt)))

differ : negsuc 17_999 ≢ negsuc 14_399
differ e = let same : unsigned_abs (negsuc 17_999) ≡ unsigned_abs (negsuc 14_399) = ap unsigned_abs e in absurd (omega (arith, same))

pub eastern : AreSpaced (Pair standard daylight) → IsRoomZone (codes "-0500 -0400 11 1SU 0200 3 2SU 0200") (Some (Pair standard daylight))
eastern spaced = inr (record {
  standard = negsuc 17_999;
  daylight = negsuc 14_399;
  differ = differ;
  standard_text = codes "-0500";
  daylight_text = codes "-0400";
  writes_standard = offset_said (negsuc 17_999) (lit< tt);
  writes_daylight = offset_said (negsuc 14_399) (lit< tt);
  a = standard;
  b = daylight;
  standard_onset = codes "11 1SU 0200";
  daylight_onset = codes "3 2SU 0200";
  begins_standard = record { day = codes "1SU"; time = codes "0200"; each = record { month = 11; days = FromStart 1 6 }; on = refl; writes_day = sym (ap (λ d. d ++ codes "SU") (decimal_digit 1 (lit< tt))); writes_time = two_in_the_morning; is = ap (λ l. l ++ codes " " ++ codes "1SU" ++ codes " " ++ codes "0200") eleven; first = refl; rule = refl; offset_from = refl; offset_to = refl };
  begins_daylight = record { day = codes "2SU"; time = codes "0200"; each = record { month = 3; days = FromStart 2 6 }; on = refl; writes_day = sym (ap (λ d. d ++ codes "SU") (decimal_digit 2 (lit< tt))); writes_time = two_in_the_morning; is = sym (ap (λ l. l ++ codes " " ++ codes "2SU" ++ codes " " ++ codes "0200") (decimal_digit 3 (lit< tt))); first = refl; rule = refl; offset_from = refl; offset_to = refl };
  is = refl;
  zone_is = refl;
  matched = (refl, refl, lit≤ tt);
  spaced = spaced;
})

-- ---- words that mean none

-- the words are neither one nor eight
many : (words : List ℕ) → (length (slice_split is_gap words) ≡ 1 → ⊥) → (length (slice_split is_gap words) ≡ 8 → ⊥) → IsNoRoomZone words
many words one eight z h = elim (one_or_eight words z h) [
  | inl (offset, w) ↦ one (ap length (one_word words offset w))
  | inr (zone, k) ↦ eight (ap length k.split)
]

nine : ◌≡◌ {A = ℕ} 9 1 → ⊥
nine e = absurd (omega (arith, e))

nine_more : ◌≡◌ {A = ℕ} 9 8 → ⊥
nine_more e = absurd (omega (arith, e))

pub two_spaces : IsNoRoomZone (codes "-0500  -0400 11 1SU 0200 3 2SU 0200")
two_spaces = many (codes "-0500  -0400 11 1SU 0200 3 2SU 0200") nine nine_more

-- of eight words
wrong : (words : List ℕ) → (length (slice_split is_gap words) ≡ 1 → ⊥) → ((zone : Zone) → Cut words zone → ⊥) → IsNoRoomZone words
wrong words one none z h = elim (one_or_eight words z h) [
  | inl (offset, w) ↦ one (ap length (one_word words offset w))
  | inr (zone, k) ↦ none zone k
]

eight : ◌≡◌ {A = ℕ} 8 1 → ⊥
eight e = absurd (omega (arith, e))

pub same_offsets : IsNoRoomZone (codes "-0500 -0500 11 1SU 0200 3 2SU 0200")
same_offsets = wrong (codes "-0500 -0500 11 1SU 0200 3 2SU 0200") eight (λ zone k.
    let s : codes "-0500" ≡ k.s = ap (λ l. get_or l 0 []) k.split in
    let d : codes "-0500" ≡ k.d = ap (λ l. get_or l 1 []) k.split in
    k.are.differ (offset_same (codes "-0500") k.are.standard k.are.daylight (offset_written (codes "-0500") k.are.standard (subst (λ (t : List ℕ). WritesOffset t k.are.standard) (sym s) k.are.writes_standard))
    (offset_written (codes "-0500") k.are.daylight (subst (λ (t : List ℕ). WritesOffset t k.are.daylight) (sym d) k.are.writes_daylight))))

late_hour : (second : ℕ) → WritesHourMinute (codes "2400") second → ⊥
late_hour second w =
    let first : 50 ≡ 48 + w.hour / 10 = ap (λ l. get_or l 0 0) w.is in
    let next : 52 ≡ 48 + w.hour % 10 = ap (λ l. get_or l 1 0) w.is in
    let h = w.hours in
    absurd (omega (arith, first, next, h))

pub past_midnight : IsNoRoomZone (codes "-0500 -0400 11 1SU 2400 3 2SU 0200")
past_midnight = wrong (codes "-0500 -0400 11 1SU 2400 3 2SU 0200") eight (λ zone k.
    let t : codes "2400" ≡ k.t1 = ap (λ l. get_or l 4 []) k.split in
    late_hour k.are.a.second (subst (λ (t : List ℕ). WritesHourMinute t k.are.a.second) (sym t) k.are.begins_standard.writes_time))

-- a day begins with a digit from 1 to 4, or with a minus sign
first_octet : (m : ℕ) (d : MonthDays) (day : List ℕ) → WritesMonthDay day d → is_each_year m d ≡ true → get_or day 0 0 ≤ 52
first_octet m (OnDay n) day w h = absurd w
first_octet m (InWeek n k) day w h = absurd w
first_octet m (FromStart n k) day w h =
    let b = numbered m n k h in
    let e : get_or day 0 0 ≡ 48 + n = ap (λ l. get_or l 0 0) (w ∙ ap (λ l. l ++ weekday_word k) (decimal_digit n (omega (arith, b.high)))) in
    omega (arith, e, b.high)
first_octet m (FromEnd n k) day w h = let e : get_or day 0 0 ≡ 45 = ap (λ l. get_or l 0 0) w in omega (arith, e)

-- and not with a plus sign
no_plus : (m : ℕ) (d : MonthDays) (day : List ℕ) → WritesMonthDay day d → is_each_year m d ≡ true → get_or day 0 0 ≡ 43 → ⊥
no_plus m (OnDay n) day w h p = absurd w
no_plus m (InWeek n k) day w h p = absurd w
no_plus m (FromStart n k) day w h p =
    let b = numbered m n k h in
    let e : get_or day 0 0 ≡ 48 + n = ap (λ l. get_or l 0 0) (w ∙ ap (λ l. l ++ weekday_word k) (decimal_digit n (omega (arith, b.high)))) in
    absurd (omega (arith, e, p))
no_plus m (FromEnd n k) day w h p = let e : get_or day 0 0 ≡ 45 = ap (λ l. get_or l 0 0) w in absurd (omega (arith, e, p))

pub fifth_sunday : IsNoRoomZone (codes "-0500 -0400 11 5SU 0200 3 2SU 0200")
fifth_sunday = wrong (codes "-0500 -0400 11 5SU 0200 3 2SU 0200") eight (λ zone k.
    let d : codes "5SU" ≡ k.d1 = ap (λ l. get_or l 3 []) k.split in
    let w = k.are.begins_standard.writes in
    let low : get_or k.d1 0 0 ≤ 52 = first_octet k.are.begins_standard.each.month k.are.begins_standard.each.days k.d1 w.1 w.2 in
    let is : 53 ≡ get_or k.d1 0 0 = ap (λ l. get_or l 0 0) d in
    absurd (omega (arith, low, is)))

pub plus_sign : IsNoRoomZone (codes "-0500 -0400 11 +1SU 0200 3 2SU 0200")
plus_sign = wrong (codes "-0500 -0400 11 +1SU 0200 3 2SU 0200") eight (λ zone k.
    let d : codes "+1SU" ≡ k.d1 = ap (λ l. get_or l 3 []) k.split in
    let w = k.are.begins_standard.writes in
    no_plus k.are.begins_standard.each.month k.are.begins_standard.each.days k.d1 w.1 w.2 (sym (ap (λ l. get_or l 0 0) d)))

between : (m : ℕ) → is_between 1 12 m ≡ true → 0 < m
between m e = grind (arith, nat_tests)

twelve : (m : ℕ) → is_between 1 12 m ≡ true → m < 2 ^ 64
twelve m e = grind (arith, nat_tests)

month_there : (m : ℕ) (d : MonthDays) (day : List ℕ) → WritesMonthDay day d → is_each_year m d ≡ true → is_between 1 12 m ≡ true
month_there m (OnDay n) day w h = absurd w
month_there m (InWeek n k) day w h = absurd w
month_there m (FromStart n k) day w h = (and_parts (is_between 1 12 m) (is_between 1 4 n) (and_parts (is_between 1 12 m && is_between 1 4 n) (nat_lt k 7) h).0).0
month_there m (FromEnd n k) day w h = (and_parts (is_between 1 12 m) (is_between 1 4 n) (and_parts (is_between 1 12 m && is_between 1 4 n) (nat_lt k 7) h).0).0

pub leading_zero : IsNoRoomZone (codes "-0500 -0400 11 1SU 0200 03 2SU 0200")
leading_zero = wrong (codes "-0500 -0400 11 1SU 0200 03 2SU 0200") eight (λ zone k.
    let b = k.are.begins_daylight in
    let w = b.writes in
    let t = month_there b.each.month b.each.days k.d2 w.1 w.2 in
    let m : codes "03" ≡ decimal b.each.month = ap (λ l. get_or l 5 []) k.split ∙ w.0 in
    let some : 48 < get_or (decimal b.each.month) 0 0 = first_decimal b.each.month (between b.each.month t) (twelve b.each.month t) in
    let zero_first : 48 ≡ get_or (decimal b.each.month) 0 0 = ap (λ l. get_or l 0 0) m in
    absurd (omega (arith, some, zero_first)))
