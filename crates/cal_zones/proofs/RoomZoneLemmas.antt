-- What is known of a zone that the words of a room mean, and what the words of a kept one mean.
use Rattle.std.proofs.Common.{◌≡◌, ◌∙◌, ap, sym, subst, refl, arith, inl, inr, ℕ, ◌+◌, ◌/◌, ◌%◌, ◌<◌, ◌≤◌, Bool, true, false, cond, not, ◌&&◌, nat_le, eqb, List, [], ◌∷◌, ◌++◌, take, codes, decimal, append_assoc, Option, Some, None, ℤ, pos, ◌-ℤ◌, unsigned_abs}
use Rattle.std.specs.Int.{is_negative}
use Rattle.std.specs.Ordering.{int_eq}
use Rattle.std.proofs.lemmas.Int.{ints}
use Rattle.std.proofs.lemmas.Fmt.{decimal_digit}
use Rattle.std.proofs.lemmas.Bool.{true≢false, false≢true, and_parts, eqb-true}
use Rattle.std.proofs.lemmas.Bool.Decides.{Decides-int_eq}
use Rattle.profile.specs.text.Values.{IsOffset, SpellsTime, WritesOffset, two_digits}
use Rattle.profile.specs.series.Rules.{Pattern, is_base}
use Rattle.profile.specs.series.Zones.{Observance, Zone, Constant, Single, Pair, Onset, IsOnset}
use Rattle.profile.specs.series.ZoneTexts as written
use Rattle.profile.specs.series.ZoneTexts.{AreMatched, AreSpaced, IsRuleOnset, OnDay, FromStart, FromEnd, InWeek}
use Rattle.profile.specs.series.RoomZones.{IsRoomZone, IsTwoOffsets, BeginsSo, WritesHourMinute, WritesMonthDay}
use Rattle.cal_zones.specs.Onsets.{observance_of, yearly_rule}
use Rattle.cal_zones.specs.Shapes.{days_of, rule_named}
use Rattle.cal_zones.specs.Kinds.{zone_of, zone_of_form, pair_of}
use Rattle.cal_zones.specs.Repeats.{IsRegular, HasOffsets}
use Rattle.cal_zones.specs.RoomWords.{offset_octets, day_words, year_words, time_words, onset_words, form_words, is_word_day, is_word_rule, is_word_onset, has_words, own_zone}
use Rattle.cal_zones.specs.RoomZones.{words_of, room_of}
use Rattle.cal_zones.specs.declared.yearly.Yearly.{Yearly}
use Rattle.cal_zones.specs.declared.observance.Observance as rust
use Rattle.cal_zones.specs.declared.pair.Pair as kept
use Rattle.cal_zones.specs.declared.zone.Form.{Form}
use Rattle.cal_zones.specs.declared.zone.Form.TheVariants as the
use Rattle.cal_zones.specs.declared.room_zone.RoomZone.{RoomZone}

-- ---- a zone that words mean

pub offset_written : (text : List ℕ) (offset : ℤ) → WritesOffset text offset → IsOffset offset
offset_written text offset (time, s, e) =
    let h = s.hours in
    let m = s.minutes in
    let c = s.counted in
    omega (arith, h, m, c)

begun_offsets : (text : List ℕ) (from to : ℤ) (o : Observance) → IsOffset from → IsOffset to → BeginsSo text from to o → HasOffsets o
begun_offsets text from to o f t b = (subst IsOffset (sym b.offset_from) f, subst IsOffset (sym b.offset_to) t)

pub named_regular : (words : List ℕ) (z : Zone) → IsRoomZone words (Some z) → IsRegular z
named_regular words z (inl (offset, some, writes, is)) = subst IsRegular (sym is) (offset_written words offset writes)
named_regular words z (inr t) =
    let s = t.begins_standard in
    let d = t.begins_daylight in
    subst IsRegular (sym t.zone_is) (
      begun_offsets t.standard_onset t.daylight t.standard t.a (offset_written t.daylight_text t.daylight t.writes_daylight) (offset_written t.standard_text t.standard t.writes_standard) s,
      (s.each, s.rule),
      (d.each, d.rule),
      subst AreMatched t.zone_is t.matched,
    )

rule_onset : (o : Observance) (parts : Pattern) (x : Onset) → o.rule ≡ Some parts → IsOnset o x → IsRuleOnset o x.instant
rule_onset o parts x e h =
    let t : (nat_le o.day h.day && is_base parts h.day) ≡ true = rw e at h.begins in
    record { parts = parts; rule = e; day = h.day; on = (and_parts (nat_le o.day h.day) (is_base parts h.day) t).1; read = h.read }

never_at_once : (a b : Observance) (p q : Pattern) → a.rule ≡ Some p → b.rule ≡ Some q → AreSpaced (Pair a b) → (x y : Onset) → IsOnset a x → IsOnset b y → x.instant ≡ y.instant → ⊥
never_at_once a b p q e f spaced x y h j same =
    let far = spaced x.instant y.instant (rule_onset a p x e h) (rule_onset b q y f j) in
    let none : x.instant -ℤ y.instant ≡ pos 0 = omega (arith, ints, same) in
    let zero_far : 172_800 ≤ 0 = subst (λ (d : ℤ). 172_800 ≤ unsigned_abs d) none far in
    omega (arith, zero_far)

-- ---- the words of an offset

abbrev spelled : ℕ → List ℕ
spelled n = two_digits (n / 3600) ++ two_digits (n / 60 % 60) ++ two_digits (n % 60)

size_spelled : (n : ℕ) → n < 86_400 → SpellsTime 59 (spelled n) n
size_spelled n h = record {
  hour = n / 3600;
  minute = n / 60 % 60;
  second = n % 60;
  hours = omega (arith, h);
  minutes = omega arith;
  seconds = omega arith;
  spelled = refl;
  counted = omega (arith, h);
}

size_cut : (n : ℕ) (b : Bool) → two_digits (n / 3600) ++ two_digits (n / 60 % 60) ++ cond b [] (two_digits (n % 60)) ≡ cond b (take 4 (spelled n)) (spelled n)
size_cut n true = refl
size_cut n false = refl

pub offset_said : (offset : ℤ) → IsOffset offset → WritesOffset (offset_octets offset) offset
offset_said offset h =
    let n = unsigned_abs offset in
    (spelled n, size_spelled n h, ap (λ x. cond (is_negative offset) (codes "-") (codes "+") ++ x) (size_cut n (eqb (n % 60) 0)))

-- ---- the words of a kept zone mean it

constant_means : (k : ℤ) → IsOffset k → IsRoomZone (offset_octets k) (own_zone (Constant k))
constant_means k range = by (int_eq k (pos 0)) refl
  where
    by : (b : Bool) → int_eq k (pos 0) ≡ b → IsRoomZone (offset_octets k) (cond b None (Some (Constant k)))
    by true e = ap offset_octets ((Decides-int_eq k (pos 0)).0 e)
    by false e = inl (k, (λ z. true≢false (sym ((Decides-int_eq k (pos 0)).1 z) ∙ e)), offset_said k range, refl)

day_said : (d : written.MonthDays) → is_word_day d ≡ true → WritesMonthDay (day_words d) d
day_said (OnDay n) h = false≢true h
day_said (FromStart n w) h = refl
day_said (FromEnd n w) h = refl
day_said (InWeek n w) h = false≢true h

time_said : (s : ℕ) → s < 86_400 → s % 60 ≡ 0 → WritesHourMinute (time_words s) s
time_said s h whole = record { hour = s / 3600; minute = s / 60 % 60; hours = omega (arith, h); minutes = omega arith; is = refl; counted = omega (arith, h, whole) }

begins : (o : rust.Observance) (from : ℤ) → o.offset_from ≡ from → is_word_onset o ≡ true → BeginsSo (onset_words o) from o.offset_to (observance_of o)
begins o from e h = by o.rule refl
  where
    parts : ((eqb o.day 719_528 && eqb (o.second % 60) 0) ≡ true) × (is_word_rule o.rule ≡ true)
    parts = and_parts (eqb o.day 719_528 && eqb (o.second % 60) 0) (is_word_rule o.rule) h

    numbers : (eqb o.day 719_528 ≡ true) × (eqb (o.second % 60) 0 ≡ true)
    numbers = and_parts (eqb o.day 719_528) (eqb (o.second % 60) 0) parts.0

    by : (rule : Option Yearly) → o.rule ≡ rule → BeginsSo (onset_words o) from o.offset_to (observance_of o)
    by None r = absurd (false≢true (subst (λ (x : Option Yearly). is_word_rule x ≡ true) r parts.1))
    by (Some y) r = record {
      day = day_words (days_of y.days);
      time = time_words o.second;
      each = rule_named y.month y.days;
      on = y.yearly;
      writes_day = day_said (days_of y.days) (subst (λ (x : Option Yearly). is_word_rule x ≡ true) r parts.1);
      writes_time = time_said o.second o.starts.2 (eqb-true (o.second % 60) 0 numbers.1);
      is = ap (λ x. year_words x ++ codes " " ++ time_words o.second) r;
      first = eqb-true o.day 719_528 numbers.0;
      rule = ap (yearly_rule o.day) r;
      offset_from = e;
      offset_to = refl;
    }

pair_means : (p : kept.Pair) → has_words (the.Pair p) ≡ true → AreSpaced (pair_of p.standard p.daylight) → IsTwoOffsets (form_words (the.Pair p)) (pair_of p.standard p.daylight)
pair_means p h spaced = record {
  standard = p.standard.offset_to;
  daylight = p.daylight.offset_to;
  differ = λ e. false≢true (subst (λ (b : Bool). not b ≡ true) ((Decides-int_eq p.standard.offset_to p.daylight.offset_to).1 e) tests.1);
  standard_text = offset_octets p.standard.offset_to;
  daylight_text = offset_octets p.daylight.offset_to;
  writes_standard = offset_said p.standard.offset_to p.standard.to;
  writes_daylight = offset_said p.daylight.offset_to p.daylight.to;
  a = observance_of p.standard;
  b = observance_of p.daylight;
  standard_onset = onset_words p.standard;
  daylight_onset = onset_words p.daylight;
  begins_standard = begins p.standard p.daylight.offset_to (sym p.back) both.0;
  begins_daylight = begins p.daylight p.standard.offset_to (sym p.there) both.1;
  is = refl;
  zone_is = refl;
  matched = (p.there, p.back, p.near);
  spaced = spaced;
}
  where
    tests : ((is_word_onset p.standard && is_word_onset p.daylight) ≡ true) × (not (int_eq p.standard.offset_to p.daylight.offset_to) ≡ true)
    tests = and_parts (is_word_onset p.standard && is_word_onset p.daylight) (not (int_eq p.standard.offset_to p.daylight.offset_to)) h

    both : (is_word_onset p.standard ≡ true) × (is_word_onset p.daylight ≡ true)
    both = and_parts (is_word_onset p.standard) (is_word_onset p.daylight) tests.0

form_means : (k : Form) → has_words k ≡ true → AreSpaced (zone_of_form k) → IsRoomZone (form_words k) (own_zone (zone_of_form k))
form_means (the.Constant f) h s = constant_means f.offset f.range
form_means (the.Single a) h s = absurd (false≢true h)
form_means (the.Pair p) h s = inr (pair_means p h s)

pub spaced_by : (z : Zone) → ((a b : Observance) → z ≡ Pair a b → AreSpaced (Pair a b)) → AreSpaced z
spaced_by (Constant k) f = tt
spaced_by (Single a) f = tt
spaced_by (Pair a b) f = f a b refl

pub room_means : (r : RoomZone) → IsRoomZone (words_of r) (room_of r)
room_means r = form_means r.kept.kind r.worded (spaced_by (zone_of r.kept) r.spaced)

-- ---- as they are written

pub four : (a b c d : List ℕ) (gap : List ℕ) → a ++ (gap ++ (b ++ (gap ++ (c ++ (gap ++ d))))) ≡ a ++ gap ++ b ++ gap ++ c ++ gap ++ d
four a b c d gap = simp append_assoc

pub gathered : (gap a b c d p q r s : List ℕ) → a ≡ p → b ≡ q → c ≡ r → d ≡ s → a ++ gap ++ b ++ gap ++ c ++ gap ++ d ≡ p ++ gap ++ q ++ gap ++ r ++ gap ++ s
gathered gap a b c d p q r s e f g h = rw (e, f, g, h) refl

pub two : (a b gap : List ℕ) → a ++ (gap ++ b) ≡ a ++ gap ++ b
two a b gap = sym (append_assoc a gap b)

pub four_digits : (a b c d : ℕ) → a < 10 → b < 10 → c < 10 → d < 10 → decimal a ++ (decimal b ++ (decimal c ++ decimal d)) ≡ (48 + a) ∷ (48 + b) ∷ (48 + c) ∷ (48 + d) ∷ []
four_digits a b c d h j k l = rw (decimal_digit a h, decimal_digit b j, decimal_digit c k, decimal_digit d l) refl
