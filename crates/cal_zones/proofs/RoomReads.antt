-- How the words of a room are read: what they may say, and that nothing else is said.
use Rattle.std.proofs.Common.{◌≡◌, ◌≢◌, ◌∙◌, ap, sym, subst, refl, arith, inl, inr, ◌⊎◌, ℕ, zero, suc, ◌+◌, ◌/◌, ◌%◌, ◌^◌, ◌<◌, Bool, true, false, cond, not, ◌&&◌, ◌==◌, nat_lt, eqb, List, [], ◌∷◌, ◌++◌, length, codes, decimal, append_assoc, Option, Some, None, ℤ, pos, unsigned_abs}
use Rattle.std.specs.Int.{is_negative}
use Rattle.std.specs.List.{slice_split}
use Rattle.std.specs.Ordering.{int_eq}
use Rattle.std.proofs.lemmas.Int.{ints}
use Rattle.std.proofs.lemmas.Fmt.{decimal_by_steps}
use Rattle.std.proofs.lemmas.Bool.{and_parts, and_from}
use Rattle.std.proofs.lemmas.Bool.Decides.{nat_tests, Decides-int_eq}
use Rattle.std.proofs.lemmas.List.Splits.{slice_split_none, slice_split_at}
use Rattle.jiff_core.proofs.SignedLemmas.{signed_arith}
use Rattle.std.specs.Prelude.{Result, Ok, Err, IfOk, map, get_or, slice_index_or}
use Rattle.std.proofs.lemmas.List.{length-map}
use denote.Ref.{Bor}
use Rattle.profile.specs.faults.Faults.{is_between}
use Rattle.ical_lines.specs.Fault.{RefusesBy}
use Rattle.ical_lines.specs.declared.fault.Fault.{Fault}
use Rattle.ical_lines.specs.declared.fault.Refusal.{Refusal}
use Rattle.ical_lines.specs.declared.fault.Fault.TheVariants.{Refused}
use Rattle.cal_zones.specs.declared.room_zone.RoomZone.{RoomZone}
use Rattle.profile.specs.series.Days.{number_of_date, days_before_year, days_of_months}
use Rattle.profile.specs.text.Values.{SpellsLocal, WritesOffset, two_digits}
use Rattle.profile.specs.series.Rules.{RuleText}
use Rattle.profile.specs.series.RuleTexts.{weekday_word}
use Rattle.profile.specs.series.Zones.{Observance, Zone, Pair, local_time}
use Rattle.profile.specs.series.ZoneTexts as written
use Rattle.profile.specs.series.ZoneTexts.{AreMatched, AreSpaced, OnDay, FromStart, FromEnd, InWeek, YearRule, is_each_year, is_one_day, year_pattern, SpellsYear, SpellsNoYear, IsPairFault}
use Rattle.profile.specs.series.RoomZones.{IsRoomZone, IsTwoOffsets, BeginsSo, WritesHourMinute, WritesMonthDay}
use Rattle.ical_values.proofs.Readings.{offset_form}
use Rattle.cal_rules.proofs.Parted.{same_octet}
use Rattle.cal_rules.proofs.OneRule.{one_rule_read, no_fault}
use Rattle.cal_rules.proofs.ReadBack.{lacks, lacks_append, lacks_all}
use Rattle.cal_zones.specs.Onsets.{observance_of, yearly_rule}
use Rattle.cal_zones.specs.Shapes.{rule_named}
use Rattle.cal_zones.specs.Kinds.{pair_of}
use Rattle.cal_zones.specs.RoomWords.{size_octets, form_words, offset_octets, day_words, year_words, time_words, onset_words, pair_octets, is_word_day, is_word_rule, WritesYear, BeginsBy, IsReadAs, AreWords, GoTogether, three_words, eight_words}
use Rattle.cal_zones.specs.declared.yearly.Yearly.{Yearly}
use Rattle.cal_zones.specs.declared.yearly.MonthDays.TheVariants as rust_days
use Rattle.cal_zones.specs.declared.observance.Observance as rust
use Rattle.cal_zones.proofs.Named.{one_named, one_day_parts}
use Rattle.cal_zones.proofs.Reading.{unwritten}
use Rattle.cal_zones.proofs.RuleWords.{start_words, end_words}
use Rattle.cal_zones.proofs.WrittenRules.{numbered, year_back}
use Rattle.cal_zones.proofs.RoomZoneLemmas.{offset_said, offset_written}

-- ---- no space in a word

big : (k : ℕ) → not ((48 + k) == 32) ≡ true
big k = grind (arith, nat_tests)

lacks_two : (n : ℕ) → lacks 32 (two_digits n) ≡ true
lacks_two n = and_from _ _ (big (n / 10)) (and_from _ _ (big (n % 10)) refl)

lacks_sign : (b : Bool) → lacks 32 (cond b (codes "-") (codes "+")) ≡ true
lacks_sign true = refl
lacks_sign false = refl

lacks_seconds : (b : Bool) (n : ℕ) → lacks 32 (cond b [] (two_digits n)) ≡ true
lacks_seconds true n = refl
lacks_seconds false n = lacks_two n

lacks_octets : (offset : ℤ) → lacks 32 (offset_octets offset) ≡ true
lacks_octets offset =
    let n = unsigned_abs offset in
    lacks_append 32 (cond (is_negative offset) (codes "-") (codes "+")) (size_octets n) (lacks_sign (is_negative offset))
    (lacks_append 32 (two_digits (n / 3600) ++ two_digits (n / 60 % 60)) (cond (eqb (n % 60) 0) [] (two_digits (n % 60))) (lacks_append 32 (two_digits (n / 3600)) (two_digits (n / 60 % 60)) (lacks_two (n / 3600)) (lacks_two (n / 60 % 60))) (lacks_seconds (eqb (n % 60) 0) (n % 60)))

-- an offset is written in one form
pub offset_is : (text : List ℕ) (offset : ℤ) → WritesOffset text offset → text ≡ offset_octets offset
offset_is text offset w = offset_form text (offset_octets offset) offset w (offset_said offset (offset_written text offset w))

lacks_offset : (text : List ℕ) (offset : ℤ) → WritesOffset text offset → lacks 32 text ≡ true
lacks_offset text offset w = subst (λ (t : List ℕ). lacks 32 t ≡ true) (sym (offset_is text offset w)) (lacks_octets offset)

lacks_number : (n : ℕ) → n < 2 ^ 64 → lacks 32 (decimal n) ≡ true
lacks_number = decimal_by_steps (λ n ds. lacks 32 ds ≡ true) (λ n h. and_from _ _ (big n) refl) (λ n ds h was. lacks_append 32 ds ((48 + n % 10) ∷ []) was (and_from _ _ (big (n % 10)) refl))

lacks_weekday : (n : ℕ) → n < 7 → lacks 32 (weekday_word n) ≡ true
lacks_weekday zero h = refl
lacks_weekday (suc zero) h = refl
lacks_weekday (suc (suc zero)) h = refl
lacks_weekday (suc (suc (suc zero))) h = refl
lacks_weekday (suc (suc (suc (suc zero)))) h = refl
lacks_weekday (suc (suc (suc (suc (suc zero))))) h = refl
lacks_weekday (suc (suc (suc (suc (suc (suc zero)))))) h = refl
lacks_weekday (suc (suc (suc (suc (suc (suc (suc n))))))) h = absurd (omega arith)

month_small : (month : ℕ) (b c : Bool) → (is_between 1 12 month && b && c) ≡ true → month < 2 ^ 64
month_small month b c h =
    let p = and_parts (is_between 1 12 month) b (and_parts (is_between 1 12 month && b) c h).0 in
    small p.0
  where
    small : is_between 1 12 month ≡ true → month < 2 ^ 64
    small e = grind (arith, nat_tests)

-- a month and a day that are written
record IsClean (month day : List ℕ) : Type 0 where
  month_lacks : lacks 32 month ≡ true
  day_lacks : lacks 32 day ≡ true

clean_year : (m : ℕ) (d : written.MonthDays) (day : List ℕ) → WritesMonthDay day d → is_each_year m d ≡ true → IsClean (decimal m) day
clean_year m (OnDay n) day w h = absurd w
clean_year m (InWeek n k) day w h = absurd w
clean_year m (FromStart n k) day w h =
    let b = numbered m n k h in
    record {
      month_lacks = lacks_number m (month_small m (is_between 1 4 n) (nat_lt k 7) h);
      day_lacks = subst (λ (t : List ℕ). lacks 32 t ≡ true) (sym w) (lacks_append 32 (decimal n) (weekday_word k) (lacks_number n (omega (arith, b.high))) (lacks_weekday k b.small));
    }
clean_year m (FromEnd n k) day w h =
    let b = numbered m n k h in
    record {
      month_lacks = lacks_number m (month_small m (is_between 1 4 n) (nat_lt k 7) h);
      day_lacks = subst (λ (t : List ℕ). lacks 32 t ≡ true) (sym w) (lacks_append 32 (codes "-" ++ decimal n) (weekday_word k) (lacks_append 32 (codes "-") (decimal n) refl (lacks_number n (omega (arith, b.high)))) (lacks_weekday k b.small));
    }

lacks_time : (text : List ℕ) (second : ℕ) → WritesHourMinute text second → lacks 32 text ≡ true
lacks_time text second w = subst (λ (t : List ℕ). lacks 32 t ≡ true) (sym w.is) (lacks_append 32 (two_digits w.hour) (two_digits w.minute) (lacks_two w.hour) (lacks_two w.minute))

-- ---- eight words, or one

abbrev pub is_gap : ℕ → Bool
is_gap b = b == 32

next : (word : List ℕ) (rest : List ℕ) (more : List (List ℕ)) → lacks 32 word ≡ true → slice_split is_gap rest ≡ more → slice_split is_gap (word ++ 32 ∷ rest) ≡ word ∷ more
next word rest more l e = slice_split_at is_gap word 32 rest (lacks_all 32 word l) refl ∙ ap (λ x. word ∷ x) e

last : (word : List ℕ) → lacks 32 word ≡ true → slice_split is_gap word ≡ word ∷ []
last word l = slice_split_none is_gap word (lacks_all 32 word l)

in_a_row : (gap s d a b c e f g : List ℕ) → s ++ gap ++ d ++ gap ++ (a ++ gap ++ b ++ gap ++ c) ++ gap ++ (e ++ gap ++ f ++ gap ++ g) ≡ s ++ (gap ++ (d ++ (gap ++ (a ++ (gap ++ (b ++ (gap ++ (c ++ (gap ++ (e ++ (gap ++ (f ++ (gap ++ g)))))))))))))
in_a_row gap s d a b c e f g = simp append_assoc

pub one_word : (words : List ℕ) (offset : ℤ) → WritesOffset words offset → slice_split is_gap words ≡ words ∷ []
one_word words offset w = last words (lacks_offset words offset w)

pub record Cut (words : List ℕ) (zone : Zone) : Type 0 where
  pub s : List ℕ
  pub d : List ℕ
  pub m1 : List ℕ
  pub d1 : List ℕ
  pub t1 : List ℕ
  pub m2 : List ℕ
  pub d2 : List ℕ
  pub t2 : List ℕ
  pub are : AreWords s d m1 d1 t1 m2 d2 t2 zone
  pub is : words ≡ eight_words s d m1 d1 t1 m2 d2 t2
  pub split : slice_split is_gap words ≡ s ∷ d ∷ m1 ∷ d1 ∷ t1 ∷ m2 ∷ d2 ∷ t2 ∷ []

begins_by : (text : List ℕ) (from to : ℤ) (o : Observance) (b : BeginsSo text from to o) → BeginsBy (decimal b.each.month) b.day b.time from to o
begins_by text from to o b = record { each = b.each; writes = (refl, b.writes_day, b.on); writes_time = b.writes_time; first = b.first; rule = b.rule; offset_from = b.offset_from; offset_to = b.offset_to }

pub cut : (words : List ℕ) (zone : Zone) → IsTwoOffsets words zone → Cut words zone
cut words zone t =
    let x = t.begins_standard in
    let y = t.begins_daylight in
    let p = clean_year x.each.month x.each.days x.day x.writes_day x.on in
    let q = clean_year y.each.month y.each.days y.day y.writes_day y.on in
    let is : words ≡ eight_words t.standard_text t.daylight_text (decimal x.each.month) x.day x.time (decimal y.each.month) y.day y.time =
    t.is ∙ ap (λ o. t.standard_text ++ codes " " ++ t.daylight_text ++ codes " " ++ o ++ codes " " ++ t.daylight_onset) x.is
    ∙ ap (λ o. t.standard_text ++ codes " " ++ t.daylight_text ++ codes " " ++ three_words (decimal x.each.month) x.day x.time ++ codes " " ++ o) y.is in
    record {
      s = t.standard_text;
      d = t.daylight_text;
      m1 = decimal x.each.month;
      d1 = x.day;
      t1 = x.time;
      m2 = decimal y.each.month;
      d2 = y.day;
      t2 = y.time;
      are = record {
        standard = t.standard;
        daylight = t.daylight;
        differ = t.differ;
        writes_standard = t.writes_standard;
        writes_daylight = t.writes_daylight;
        a = t.a;
        b = t.b;
        begins_standard = begins_by t.standard_onset t.daylight t.standard t.a x;
        begins_daylight = begins_by t.daylight_onset t.standard t.daylight t.b y;
        zone_is = t.zone_is;
        matched = t.matched;
        spaced = t.spaced;
      };
      is = is;
      split = ap (slice_split is_gap) (is ∙ in_a_row (codes " ") t.standard_text t.daylight_text (decimal x.each.month) x.day x.time (decimal y.each.month) y.day y.time)
          ∙ next t.standard_text _ _ (lacks_offset t.standard_text t.standard t.writes_standard) (next t.daylight_text _ _ (lacks_offset t.daylight_text t.daylight t.writes_daylight)
          (next (decimal x.each.month) _ _ p.month_lacks (next x.day _ _ p.day_lacks (next x.time _ _ (lacks_time x.time t.a.second x.writes_time)
          (next (decimal y.each.month) _ _ q.month_lacks (next y.day _ _ q.day_lacks (last y.time (lacks_time y.time t.b.second y.writes_time))))))));
    }

-- what words that mean a zone are
pub one_or_eight : (words : List ℕ) (z : Option Zone) → IsRoomZone words z → ((offset : ℤ) × WritesOffset words offset) ⊎ ((zone : Zone) × Cut words zone)
one_or_eight words None h = inl (pos 0, subst (λ (t : List ℕ). WritesOffset t (pos 0)) (sym h) (offset_said (pos 0) (omega arith)))
one_or_eight words (Some zone) (inl (offset, some, writes, is)) = inl (offset, writes)
one_or_eight words (Some zone) (inr t) = inr (zone, cut words zone t)

-- ---- a month and a day

pub year_spelled : (text month day : List ℕ) (each : YearRule) → text ≡ codes "FREQ=YEARLY;BYMONTH=" ++ (month ++ (codes ";BYDAY=" ++ day)) → WritesYear month day each → SpellsYear text each
year_spelled text month day each e w = at each.month each.days w.0 w.1 w.2
  where
    at : (m : ℕ) (d : written.MonthDays) → month ≡ decimal m → WritesMonthDay day d → is_each_year m d ≡ true → SpellsYear text (record { month = m; days = d })
    at m (OnDay n) p q h = absurd q
    at m (InWeek n k) p q h = absurd q
    at m (FromStart n k) p q h =
        let t = start_words text m n k (weekday_word k) (rust_days.FromStart n k) refl h refl (e ∙ ap (λ x. codes "FREQ=YEARLY;BYMONTH=" ++ (x ++ (codes ";BYDAY=" ++ day))) p ∙ ap (λ x. codes "FREQ=YEARLY;BYMONTH=" ++ (decimal m ++ (codes ";BYDAY=" ++ x))) q) in
        subst (λ (x : List ℕ). SpellsYear x (record { month = m; days = FromStart n k })) (sym t) (year_back (record { month = m; days = FromStart n k }) h)
    at m (FromEnd n k) p q h =
        let t = end_words text m n k (weekday_word k) (rust_days.FromEnd n k) refl h refl (e ∙ ap (λ x. codes "FREQ=YEARLY;BYMONTH=" ++ (x ++ (codes ";BYDAY=" ++ day))) p ∙ ap (λ x. codes "FREQ=YEARLY;BYMONTH=" ++ (decimal m ++ (codes ";BYDAY=" ++ x))) q) in
        subst (λ (x : List ℕ). SpellsYear x (record { month = m; days = FromEnd n k })) (sym t) (year_back (record { month = m; days = FromEnd n k }) h)

pub year_same : (text : List ℕ) (a b : YearRule) → SpellsYear text a → SpellsYear text b → a ≡ b
year_same text a b (r, s, h) (q, t, k) =
    let o = one_day_parts q a (subst (λ (x : RuleText). is_one_day x a ≡ true) (one_rule_read text r q s t) h) in
    let n = one_named q a.month a.days b o.month o.days k in
    λ i. record { month = n.0 i; days = n.1 i }

pub no_year : (text : List ℕ) (each : YearRule) → SpellsNoYear text → SpellsYear text each → ⊥
no_year text each (inl (n, f)) (r, s, h) = no_fault text n r f s
no_year text each (inr (q, t, none)) (r, s, h) = none each (subst (λ (x : RuleText). is_one_day x each ≡ true) (one_rule_read text r q s t) h)

-- ---- a time

epoch : pos 0 ≡ number_of_date 1970 1 1
unfolding days_before_year days_of_months
epoch = refl

pub start_spelled : (text time : List ℕ) (second : ℕ) → text ≡ codes "19700101T" ++ (time ++ codes "00") → WritesHourMinute time second → SpellsLocal text (local_time 719_528 second)
start_spelled text time second e w = record {
  date = codes "19700101";
  time = two_digits w.hour ++ two_digits w.minute ++ two_digits 0;
  number = pos 0;
  second = second;
  on = record { year = 1970; month = 1; day = 1; first = omega arith; last = omega arith; date = (omega arith, omega arith, omega arith, omega arith); spelled = refl; counted = epoch };
  at_second = record { hour = w.hour; minute = w.minute; second = 0; hours = w.hours; minutes = w.minutes; seconds = omega arith; spelled = refl; counted = omega (arith, w.counted) };
  spelled = e ∙ ap (λ x. codes "19700101T" ++ (x ++ codes "00")) w.is;
  counted = omega (arith, ints);
}

-- ---- an onset

day_is : (day : List ℕ) (d : written.MonthDays) → WritesMonthDay day d → day_words d ≡ day
day_is day (OnDay n) w = absurd w
day_is day (InWeek n k) w = absurd w
day_is day (FromStart n k) w = sym w
day_is day (FromEnd n k) w = sym w

day_worded : (day : List ℕ) (d : written.MonthDays) → WritesMonthDay day d → is_word_day d ≡ true
day_worded day (OnDay n) w = absurd w
day_worded day (InWeek n k) w = absurd w
day_worded day (FromStart n k) w = refl
day_worded day (FromEnd n k) w = refl

pub second_small : (time : List ℕ) (second : ℕ) → WritesHourMinute time second → second < 86_400
second_small time second w =
    let h = w.hours in
    let m = w.minutes in
    let c = w.counted in
    omega (arith, h, m, c)

time_is : (time : List ℕ) (second : ℕ) → WritesHourMinute time second → time_words second ≡ time
time_is time second w =
    let m = w.minutes in
    let c = w.counted in
    let hour : second / 3600 ≡ w.hour = omega (arith, m, c) in
    let minute : second / 60 % 60 ≡ w.minute = omega (arith, m, c) in
    rw (hour, minute) (sym w.is)

time_whole : (time : List ℕ) (second : ℕ) → WritesHourMinute time second → second % 60 ≡ 0
time_whole time second w = let c = w.counted in omega (arith, c)

same_day : (n s m r : ℕ) → local_time n s ≡ local_time m r → s < 86_400 → r < 86_400 → n ≡ m
same_day n s m r e h k = omega (arith, signed_arith)

pub same_second : (n s m r : ℕ) → local_time n s ≡ local_time m r → s < 86_400 → r < 86_400 → s ≡ r
same_second n s m r e h k = omega (arith, signed_arith)

is_it : (a b : ℕ) → a ≡ b → eqb a b ≡ true
is_it a b e = subst (λ (x : ℕ). eqb a x ≡ true) e (same_octet a)

pub onset_read : (r : rust.Observance) (rule : Yearly) (from to start : ℤ) (month day time : List ℕ) → r.rule ≡ Some rule → local_time r.day r.second ≡ start → r.offset_from ≡ from → r.offset_to ≡ to
    → ((each : YearRule) → WritesYear month day each → rule_named rule.month rule.days ≡ each)
    → ((second : ℕ) → WritesHourMinute time second → start ≡ local_time 719_528 second)
    → (o : Observance) → BeginsBy month day time from to o → IsReadAs r o (three_words month day time)
onset_read r rule from to start month day time ruled starts f t reads_rule reads_start o b = record {
  is = λ i. record { day = day_same i; second = second_same i; rule = rule_same i; offset_from = (f ∙ sym b.offset_from) i; offset_to = (t ∙ sym b.offset_to) i };
  said = ap (λ x. year_words x ++ codes " " ++ time_words r.second) ruled
      ∙ ap (λ (x : YearRule). decimal x.month ++ codes " " ++ day_words x.days ++ codes " " ++ time_words r.second) each_same
      ∙ ap (λ x. decimal b.each.month ++ codes " " ++ x ++ codes " " ++ time_words r.second) (day_is day b.each.days b.writes.1)
      ∙ ap (λ x. x ++ codes " " ++ day ++ codes " " ++ time_words r.second) (sym b.writes.0)
      ∙ ap (λ x. month ++ codes " " ++ day ++ codes " " ++ x) (ap time_words second_same ∙ time_is time o.second b.writes_time);
  worded = and_from _ _ (and_from _ _ (is_it r.day 719_528 first_day) (is_it (r.second % 60) 0 (subst (λ (x : ℕ). x % 60 ≡ 0) (sym second_same) (time_whole time o.second b.writes_time))))
      (subst (λ (x : Option Yearly). is_word_rule x ≡ true) (sym ruled) (subst (λ (x : YearRule). is_word_day x.days ≡ true) (sym each_same) (day_worded day b.each.days b.writes.1)));
}
  where
    local : local_time r.day r.second ≡ local_time 719_528 o.second
    local = starts ∙ reads_start o.second b.writes_time

    first_day : r.day ≡ 719_528
    first_day = same_day r.day r.second 719_528 o.second local r.starts.2 (second_small time o.second b.writes_time)

    day_same : r.day ≡ o.day
    day_same = first_day ∙ sym b.first

    second_same : r.second ≡ o.second
    second_same = same_second r.day r.second 719_528 o.second local r.starts.2 (second_small time o.second b.writes_time)

    each_same : rule_named rule.month rule.days ≡ b.each
    each_same = reads_rule b.each b.writes

    rule_same : yearly_rule r.day r.rule ≡ o.rule
    rule_same = ap (yearly_rule r.day) ruled ∙ ap (λ (x : YearRule). Some (year_pattern x r.day)) each_same ∙ ap (λ d. Some (year_pattern b.each d)) day_same ∙ sym b.rule

-- ---- eight words

pub begun_at : (m d t : List ℕ) (from to x y : ℤ) (o : Observance) → x ≡ from → y ≡ to → BeginsBy m d t from to o → BeginsBy m d t x y o
begun_at m d t from to x y o e f b = record { each = b.each; writes = b.writes; writes_time = b.writes_time; first = b.first; rule = b.rule; offset_from = b.offset_from ∙ sym e; offset_to = b.offset_to ∙ sym f }

apart : (x y p q : ℤ) → x ≡ p → y ≡ q → p ≢ q → not (int_eq x y) ≡ true
apart x y p q e f differ = by (int_eq x y) refl
  where
    by : (b : Bool) → int_eq x y ≡ b → not b ≡ true
    by true h = absurd (differ (sym e ∙ (Decides-int_eq x y).0 h ∙ f))
    by false h = refl

module _ (s d m1 d1 t1 m2 d2 t2 : List ℕ) (st dl : ℤ) (reads_s : (offset : ℤ) → WritesOffset s offset → st ≡ offset) (reads_d : (offset : ℤ) → WritesOffset d offset → dl ≡ offset) where
  pub first_begins : (z : Zone) (w : AreWords s d m1 d1 t1 m2 d2 t2 z) → BeginsBy m1 d1 t1 dl st w.a
  first_begins z w = begun_at m1 d1 t1 w.daylight w.standard dl st w.a (reads_d w.daylight w.writes_daylight) (reads_s w.standard w.writes_standard) w.begins_standard

  pub second_begins : (z : Zone) (w : AreWords s d m1 d1 t1 m2 d2 t2 z) → BeginsBy m2 d2 t2 st dl w.b
  second_begins z w = begun_at m2 d2 t2 w.standard w.daylight st dl w.b (reads_s w.standard w.writes_standard) (reads_d w.daylight w.writes_daylight) w.begins_daylight

  module _ (a b : rust.Observance) (sets_a : a.offset_to ≡ st) (sets_b : b.offset_to ≡ dl) (reads_a : (o : Observance) → BeginsBy m1 d1 t1 dl st o → IsReadAs a o (three_words m1 d1 t1)) (reads_b : (o : Observance) → BeginsBy m2 d2 t2 st dl o → IsReadAs b o (three_words m2 d2 t2)) where
    pub two_said : (z : Zone) → AreWords s d m1 d1 t1 m2 d2 t2 z → pair_octets a b ≡ eight_words s d m1 d1 t1 m2 d2 t2
    two_said z w =
        let x = reads_a w.a (first_begins z w) in
        let y = reads_b w.b (second_begins z w) in
        let p : offset_octets a.offset_to ≡ s = ap offset_octets (sets_a ∙ reads_s w.standard w.writes_standard) ∙ sym (offset_is s w.standard w.writes_standard) in
        let q : offset_octets b.offset_to ≡ d = ap offset_octets (sets_b ∙ reads_d w.daylight w.writes_daylight) ∙ sym (offset_is d w.daylight w.writes_daylight) in
        ap (λ l. l ++ codes " " ++ offset_octets b.offset_to ++ codes " " ++ onset_words a ++ codes " " ++ onset_words b) p
        ∙ ap (λ l. s ++ codes " " ++ l ++ codes " " ++ onset_words a ++ codes " " ++ onset_words b) q
        ∙ ap (λ l. s ++ codes " " ++ d ++ codes " " ++ l ++ codes " " ++ onset_words b) x.said
        ∙ ap (λ l. s ++ codes " " ++ d ++ codes " " ++ three_words m1 d1 t1 ++ codes " " ++ l) y.said

    pub two_go : (a.rule ≡ None → ⊥) → (b.rule ≡ None → ⊥) → (z : Zone) → AreWords s d m1 d1 t1 m2 d2 t2 z → GoTogether a b
    two_go first second z w =
        let x = reads_a w.a (first_begins z w) in
        let y = reads_b w.b (second_begins z w) in
        let same : z ≡ pair_of a b = w.zone_is ∙ (λ i. Pair (sym x.is i) (sym y.is i)) in
        record {
          matched = subst AreMatched same w.matched;
          spaced = subst AreSpaced same w.spaced;
          worded = and_from _ _ (and_from _ _ x.worded y.worded) (apart a.offset_to b.offset_to w.standard w.daylight (sets_a ∙ reads_s w.standard w.writes_standard) (sets_b ∙ reads_d w.daylight w.writes_daylight) w.differ);
          first = first;
          second = second;
        }

pub not_refused : (a b : rust.Observance) (n : ℕ) → GoTogether a b → IsPairFault n (observance_of a) (observance_of b) → ⊥
not_refused a b n g (inl (e, inl h)) = g.first (unwritten a.day a.rule h)
not_refused a b n g (inl (e, inr h)) = g.second (unwritten b.day b.rule h)
not_refused a b n g (inr (inl (e, h))) = h g.matched
not_refused a b n g (inr (inr (e, (x, y, p, q, near)))) = let far = g.spaced x y p q in absurd (omega (arith, near, far))

-- what is joined is in those words
pub ok_said : {Words : Zone → Type 0} (r : Result RoomZone Fault) (joined words : List ℕ) → ((z : Zone) → Words z → joined ≡ words) → IfOk r (λ x. form_words x.kept.kind ≡ joined)
    → IfOk r (λ x. (z : Zone) → Words z → form_words x.kept.kind ≡ words)
ok_said (Ok x) joined words same h = λ z w. h ∙ same z w
ok_said (Err e) joined words same h = tt

pub fault_of : (P : ℕ → Type 0) (f : Fault) (e : Refusal) → f ≡ Refused e → RefusesBy P f → P e.number
fault_of P f e is h = subst (RefusesBy P) is h

-- ---- one word, or eight

pub one_there : (parts : List (Bor (List ℕ))) (words : List ℕ) (z : Option Zone) → map (λ x. x.now) parts ≡ slice_split is_gap words → length parts ≡ 1 → IsRoomZone words z → (offset : ℤ) × WritesOffset words offset
one_there parts words z e one h = elim (one_or_eight words z h) [
  | inl o ↦ o
  | inr (zone, k) ↦ let n : length parts ≡ 8 = sym (length-map parts (λ x. x.now)) ∙ ap length (e ∙ k.split) in absurd (omega (arith, n, one))
]

pub eight_there : (parts : List (Bor (List ℕ))) (words : List ℕ) (z : Option Zone) → map (λ x. x.now) parts ≡ slice_split is_gap words → (length parts ≡ 1 → ⊥) → IsRoomZone words z → (zone : Zone) × Cut words zone
eight_there parts words z e more h = elim (one_or_eight words z h) [
  | inl (offset, w) ↦ absurd (more (sym (length-map parts (λ x. x.now)) ∙ ap length (e ∙ one_word words offset w)))
  | inr k ↦ k
]

pub eight_many : (parts : List (Bor (List ℕ))) (words : List ℕ) (z : Option Zone) → map (λ x. x.now) parts ≡ slice_split is_gap words → (length parts ≡ 1 → ⊥) → IsRoomZone words z → length parts ≡ 8
eight_many parts words z e more h = let k = eight_there parts words z e more h in sym (length-map parts (λ x. x.now)) ∙ ap length (e ∙ k.1.split)

pub record Found (words p0 p1 p2 p3 p4 p5 p6 p7 : List ℕ) (zone : Zone) : Type 0 where
  pub are : AreWords p0 p1 p2 p3 p4 p5 p6 p7 zone
  pub is : words ≡ eight_words p0 p1 p2 p3 p4 p5 p6 p7

-- the eight words are those
pub found : (all : List (List ℕ)) (words : List ℕ) (zone : Zone) → all ≡ slice_split is_gap words → Cut words zone
    → Found words (get_or all 0 []) (get_or all 1 []) (get_or all 2 []) (get_or all 3 []) (get_or all 4 []) (get_or all 5 []) (get_or all 6 []) (get_or all 7 []) zone
found all words zone e k =
    subst (λ (l : List (List ℕ)). Found words (get_or l 0 []) (get_or l 1 []) (get_or l 2 []) (get_or l 3 []) (get_or l 4 []) (get_or l 5 []) (get_or l 6 []) (get_or l 7 []) zone) (sym (e ∙ k.split))
    (record { are = k.are; is = k.is })

at_place : (parts : List (Bor (List ℕ))) (i : ℕ) (x : Bor (List ℕ)) → x ≡ slice_index_or parts i x → i < length parts → x.now ≡ get_or (map (λ x. x.now) parts) i []
at_place [] i x e h = absurd (omega arith)
at_place (y ∷ ys) zero x e h = ap (λ (b : Bor (List ℕ)). b.now) e
at_place (y ∷ ys) (suc i) x e h = at_place ys i x e (omega arith)

abbrev pub IsAt : List (Bor (List ℕ)) → ℕ → Bor (List ℕ) → Type 0
IsAt parts i x = x ≡ slice_index_or parts i x

pub find_eight : (parts : List (Bor (List ℕ))) (words : List ℕ) (z : Option Zone) (p0 p1 p2 p3 p4 p5 p6 p7 : Bor (List ℕ)) → map (λ x. x.now) parts ≡ slice_split is_gap words → (length parts ≡ 1 → ⊥)
    → IsAt parts 0 p0 → IsAt parts 1 p1 → IsAt parts 2 p2 → IsAt parts 3 p3 → IsAt parts 4 p4 → IsAt parts 5 p5 → IsAt parts 6 p6 → IsAt parts 7 p7
    → IsRoomZone words z → (zone : Zone) × Found words p0.now p1.now p2.now p3.now p4.now p5.now p6.now p7.now zone
find_eight parts words z p0 p1 p2 p3 p4 p5 p6 p7 e more a0 a1 a2 a3 a4 a5 a6 a7 h =
    let k = eight_there parts words z e more h in
    let n = eight_many parts words z e more h in
    let e0 = at_place parts 0 p0 a0 (omega (arith, n)) in
    let e1 = at_place parts 1 p1 a1 (omega (arith, n)) in
    let e2 = at_place parts 2 p2 a2 (omega (arith, n)) in
    let e3 = at_place parts 3 p3 a3 (omega (arith, n)) in
    let e4 = at_place parts 4 p4 a4 (omega (arith, n)) in
    let e5 = at_place parts 5 p5 a5 (omega (arith, n)) in
    let e6 = at_place parts 6 p6 a6 (omega (arith, n)) in
    let e7 = at_place parts 7 p7 a7 (omega (arith, n)) in
    (k.0, rw (e0, e1, e2, e3, e4, e5, e6, e7) (found (map (λ x. x.now) parts) words k.0 e k.1))

pub one_ok : (r : Result RoomZone Fault) (words : List ℕ) → ((z : Option Zone) → IsRoomZone words z → (offset : ℤ) × WritesOffset words offset)
    → IfOk r (λ x. (offset : ℤ) → WritesOffset words offset → form_words x.kept.kind ≡ words) → IfOk r (λ x. (z : Option Zone) → IsRoomZone words z → form_words x.kept.kind ≡ words)
one_ok (Ok x) words there h = λ z w. let o = there z w in h o.0 o.1
one_ok (Err e) words there h = tt

pub eight_ok : (r : Result RoomZone Fault) (words p0 p1 p2 p3 p4 p5 p6 p7 : List ℕ) → ((z : Option Zone) → IsRoomZone words z → (zone : Zone) × Found words p0 p1 p2 p3 p4 p5 p6 p7 zone)
    → IfOk r (λ x. (z : Zone) → AreWords p0 p1 p2 p3 p4 p5 p6 p7 z → form_words x.kept.kind ≡ eight_words p0 p1 p2 p3 p4 p5 p6 p7) → IfOk r (λ x. (z : Option Zone) → IsRoomZone words z → form_words x.kept.kind ≡ words)
eight_ok (Ok x) words p0 p1 p2 p3 p4 p5 p6 p7 there h = λ z w. let f = there z w in h f.0 f.1.are ∙ sym f.1.is
eight_ok (Err e) words p0 p1 p2 p3 p4 p5 p6 p7 there h = tt
