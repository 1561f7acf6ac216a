-- The words of a room's zone are printable, so that the line of X-ROOM-ZONE is a content line.
-- Cited by zone_named_keeps and Calendar::with_zone of with_zone.
use Rattle.std.proofs.Common.{◌≡◌, ℕ, ℤ, ◌<◌, ◌≤◌, inl, inr, Bool, true, false, not, ◌&&◌, cond, nat_eq, List, [], ◌∷◌, ◌++◌, Option, Some, None, length, codes, decimal, refl, ap, arith, lt-ltb}
use Rattle.std.specs.List.{list_all, list_any}
use Rattle.std.proofs.lemmas.Bool.{and_parts}
use Rattle.std.proofs.lemmas.Bool.Decides.{nat_tests}
use Rattle.profile.specs.text.Lines.{is_content}
use Rattle.profile.specs.text.Values.{two_digits}
use Rattle.profile.specs.series.RuleTexts.{weekday_word}
use Rattle.profile.specs.series.Zones.{Zone, Observance}
use Rattle.profile.specs.series.ZoneTexts.{MonthDays, OnDay, FromStart, FromEnd, InWeek, is_each_year}
use Rattle.profile.specs.series.RoomZones.{WritesMonthDay, WritesHourMinute, BeginsSo, IsTwoOffsets, IsRoomZone}
use Rattle.profile.specs.faults.Faults.{is_between}
use Rattle.ical_lines.specs.Breaks.{is_break, is_one_line}
use Rattle.ical_lines.proofs.CleanLines.{is_shown, clean_shown, shown_append, shown_decimal, valued}
use Rattle.ical_values.proofs.ShownValues.{shown_two, shown_offset}

word_by : (a b c d e f : Bool) → list_all is_shown (cond a (codes "MO") (cond b (codes "TU") (cond c (codes "WE") (cond d (codes "TH") (cond e (codes "FR") (cond f (codes "SA") (codes "SU"))))))) ≡ true
word_by true b c d e f = refl
word_by false true c d e f = refl
word_by false false true d e f = refl
word_by false false false true e f = refl
word_by false false false false true f = refl
word_by false false false false false true = refl
word_by false false false false false false = refl

shown_weekday : (n : ℕ) → list_all is_shown (weekday_word n) ≡ true
shown_weekday n = word_by (nat_eq n 0) (nat_eq n 1) (nat_eq n 2) (nat_eq n 3) (nat_eq n 4) (nat_eq n 5)

small : (low high n : ℕ) → is_between low high n ≡ true → n ≤ high
small low high n h = grind (arith, nat_tests, h)

shown_small : (n high : ℕ) → high < 100 → n ≤ high → list_all is_shown (decimal n) ≡ true
shown_small n high h l = shown_decimal n (omega (arith, h, l))

shown_day : (month : ℕ) (text : List ℕ) (days : MonthDays) → is_each_year month days ≡ true → WritesMonthDay text days → list_all is_shown text ≡ true
shown_day month text (OnDay day) h w = absurd w
shown_day month text (FromStart number weekday) h w =
    let p = and_parts (is_between 1 12 month) (is_between 1 4 number) (and_parts (is_between 1 12 month && is_between 1 4 number) _ h).0 in
    rw w (shown_append (decimal number) (weekday_word weekday) (shown_small number 4 (omega arith) (small 1 4 number p.1)) (shown_weekday weekday))
shown_day month text (FromEnd number weekday) h w =
    let p = and_parts (is_between 1 12 month) (is_between 1 4 number) (and_parts (is_between 1 12 month && is_between 1 4 number) _ h).0 in
    rw w (shown_append (codes "-" ++ decimal number) (weekday_word weekday) (shown_append (codes "-") (decimal number) refl (shown_small number 4 (omega arith) (small 1 4 number p.1))) (shown_weekday weekday))
shown_day month text (InWeek first weekday) h w = absurd w

month_small : (month : ℕ) (days : MonthDays) → is_each_year month days ≡ true → month ≤ 12
month_small month (OnDay day) h = small 1 12 month (and_parts (is_between 1 12 month) _ h).0
month_small month (FromStart number weekday) h = small 1 12 month (and_parts (is_between 1 12 month) _ (and_parts (is_between 1 12 month && is_between 1 4 number) _ h).0).0
month_small month (FromEnd number weekday) h = small 1 12 month (and_parts (is_between 1 12 month) _ (and_parts (is_between 1 12 month && is_between 1 4 number) _ h).0).0
month_small month (InWeek first weekday) h = small 1 12 month (and_parts (is_between 1 12 month) _ (and_parts (is_between 1 12 month && _) _ (and_parts (is_between 1 12 month && _ && _) _ h).0).0).0

shown_time : (text : List ℕ) (second : ℕ) → WritesHourMinute text second → list_all is_shown text ≡ true
shown_time text second w =
    rw w.is (shown_append (two_digits w.hour) (two_digits w.minute) (shown_two w.hour (omega (arith, w.hours))) (shown_two w.minute (omega (arith, w.minutes))))

-- texts with spaces between
spaced : (a b : List ℕ) → list_all is_shown a ≡ true → list_all is_shown b ≡ true → list_all is_shown (a ++ codes " " ++ b) ≡ true
spaced a b h k = shown_append (a ++ codes " ") b (shown_append a (codes " ") h refl) k

shown_onset : (text : List ℕ) (from to : ℤ) (o : Observance) → BeginsSo text from to o → list_all is_shown text ≡ true
shown_onset text from to o b =
    rw b.is (spaced (decimal b.each.month ++ codes " " ++ b.day) b.time
    (spaced (decimal b.each.month) b.day (shown_small b.each.month 12 (omega arith) (month_small b.each.month b.each.days b.on)) (shown_day b.each.month b.day b.each.days b.on b.writes_day))
    (shown_time b.time o.second b.writes_time))

shown_two_offsets : (words : List ℕ) (zone : Zone) → IsTwoOffsets words zone → list_all is_shown words ≡ true
shown_two_offsets words zone t =
    rw t.is (spaced (t.standard_text ++ codes " " ++ t.daylight_text ++ codes " " ++ t.standard_onset) t.daylight_onset
    (spaced (t.standard_text ++ codes " " ++ t.daylight_text) t.standard_onset
    (spaced t.standard_text t.daylight_text (shown_offset t.standard_text t.standard t.writes_standard) (shown_offset t.daylight_text t.daylight t.writes_daylight))
    (shown_onset t.standard_onset t.daylight t.standard t.a t.begins_standard))
    (shown_onset t.daylight_onset t.standard t.daylight t.b t.begins_daylight))

pub shown_words : (words : List ℕ) (zone : Option Zone) → IsRoomZone words zone → list_all is_shown words ≡ true
shown_words words None h = rw h refl
shown_words words (Some zone) (inl (offset, _, writes, _)) = shown_offset words offset writes
shown_words words (Some zone) (inr t) = shown_two_offsets words zone t

-- ---- the line

abbrev pub zone_line : List ℕ → List ℕ
zone_line words = codes "X-ROOM-ZONE:" ++ words

pub line_content : (words : List ℕ) → list_all is_shown words ≡ true → is_content (zone_line words) ≡ true
line_content words h = valued (codes "X-ROOM-ZONE:") words (lt-ltb 11 (length (zone_line words)) (omega arith)) refl refl refl (clean_shown words h)

no_break : (c : ℕ) → is_shown c ≡ true → is_break c ≡ false
no_break c h = grind (arith, nat_tests, h)

no_breaks : (text : List ℕ) → list_all is_shown text ≡ true → list_any is_break text ≡ false
no_breaks [] h = refl
no_breaks (c ∷ cs) h =
    let p = and_parts (is_shown c) (list_all is_shown cs) h in
    rw (no_break c p.0, no_breaks cs p.1) refl

pub line_whole : (words : List ℕ) → list_all is_shown words ≡ true → is_one_line (zone_line words) ≡ true
line_whole words h = ap not (no_breaks (zone_line words) (shown_append (codes "X-ROOM-ZONE:") words refl h))
