-- The words of a room mean at most one zone.
use Rattle.std.proofs.Common.{◌≡◌, ◌∙◌, ap, sym, subst, refl, arith, inl, inr, ℕ, List, [], ◌++◌, length, codes, Option, Some, None, ℤ, pos}
use Rattle.std.specs.Prelude.{get_or}
use Rattle.profile.specs.text.Values.{WritesOffset}
use Rattle.profile.specs.series.Zones.{Observance, Zone, Constant, Pair, local_time}
use Rattle.profile.specs.series.ZoneTexts.{YearRule, year_pattern}
use Rattle.profile.specs.series.RoomZones.{IsRoomZone, WritesHourMinute}
use Rattle.ical_values.proofs.Readings.{clock_same, offset_same, offset_written}
use Rattle.cal_zones.specs.RoomWords.{WritesYear, BeginsBy, AreWords}
use Rattle.cal_zones.proofs.RoomZoneLemmas.{offset_said}
use Rattle.cal_zones.proofs.RoomReads.{one_word, cut, Cut, year_spelled, year_same, start_spelled, same_second, second_small}

one_offset : (text : List ℕ) (a b : ℤ) → WritesOffset text a → WritesOffset text b → a ≡ b
one_offset text a b w v = offset_same text a b (offset_written text a w) (offset_written text b v)

one_year : (month day : List ℕ) (a b : YearRule) → WritesYear month day a → WritesYear month day b → a ≡ b
one_year month day a b w v = let text = codes "FREQ=YEARLY;BYMONTH=" ++ (month ++ (codes ";BYDAY=" ++ day)) in year_same text a b (year_spelled text month day a refl w) (year_spelled text month day b refl v)

one_time : (time : List ℕ) (a b : ℕ) → WritesHourMinute time a → WritesHourMinute time b → a ≡ b
one_time time a b w v =
    let text = codes "19700101T" ++ (time ++ codes "00") in
    let local = clock_same 60 text (local_time 719_528 a) (local_time 719_528 b) (omega arith) (start_spelled text time a refl w) (start_spelled text time b refl v) in
    same_second 719_528 a 719_528 b local (second_small time a w) (second_small time b v)

-- one onset
one_onset : (m d t : List ℕ) (from to x y : ℤ) (o p : Observance) → from ≡ x → to ≡ y → BeginsBy m d t from to o → BeginsBy m d t x y p → o ≡ p
one_onset m d t from to x y o p e f b c =
    λ i. record { day = day i; second = one_time t o.second p.second b.writes_time c.writes_time i; rule = rule i; offset_from = (b.offset_from ∙ e ∙ sym c.offset_from) i; offset_to = (b.offset_to ∙ f ∙ sym c.offset_to) i }
  where
    day : o.day ≡ p.day
    day = b.first ∙ sym c.first

    rule : o.rule ≡ p.rule
    rule = b.rule ∙ ap (λ (r : YearRule). Some (year_pattern r o.day)) (one_year m d b.each c.each b.writes c.writes) ∙ ap (λ n. Some (year_pattern c.each n)) day ∙ sym c.rule

one_pair : (s d m1 d1 t1 m2 d2 t2 : List ℕ) (z y : Zone) → AreWords s d m1 d1 t1 m2 d2 t2 z → AreWords s d m1 d1 t1 m2 d2 t2 y → z ≡ y
one_pair s d m1 d1 t1 m2 d2 t2 z y w v =
    let st = one_offset s w.standard v.standard w.writes_standard v.writes_standard in
    let dl = one_offset d w.daylight v.daylight w.writes_daylight v.writes_daylight in
    let a = one_onset m1 d1 t1 w.daylight w.standard v.daylight v.standard w.a v.a dl st w.begins_standard v.begins_standard in
    let b = one_onset m2 d2 t2 w.standard w.daylight v.standard v.daylight w.b v.b st dl w.begins_daylight v.begins_daylight in
    w.zone_is ∙ (λ i. Pair (a i) (b i)) ∙ sym v.zone_is

one_cut : (words : List ℕ) (z y : Zone) → Cut words z → Cut words y → z ≡ y
one_cut words z y k l =
    let e = sym k.split ∙ l.split in
    one_pair l.s l.d l.m1 l.d1 l.t1 l.m2 l.d2 l.t2 z y
    (subst (λ (x : List (List ℕ)). AreWords (get_or x 0 []) (get_or x 1 []) (get_or x 2 []) (get_or x 3 []) (get_or x 4 []) (get_or x 5 []) (get_or x 6 []) (get_or x 7 []) z) e k.are) l.are

apart : (words : List ℕ) (offset : ℤ) (zone : Zone) → WritesOffset words offset → Cut words zone → ⊥
apart words offset zone w k = let n : ◌≡◌ {A = ℕ} 1 8 = ap length (sym (one_word words offset w) ∙ k.split) in absurd (omega (arith, n))

utc_written : (words : List ℕ) → words ≡ codes "+0000" → WritesOffset words (pos 0)
utc_written words h = subst (λ (t : List ℕ). WritesOffset t (pos 0)) (sym h) (offset_said (pos 0) (omega arith))

not_utc : (words : List ℕ) (z : Zone) → words ≡ codes "+0000" → IsRoomZone words (Some z) → ⊥
not_utc words z h (inl (offset, some, writes, is)) = some (one_offset words offset (pos 0) writes (utc_written words h))
not_utc words z h (inr t) = apart words (pos 0) z (utc_written words h) (cut words z t)

one_some : (words : List ℕ) (a b : Zone) → IsRoomZone words (Some a) → IsRoomZone words (Some b) → a ≡ b
one_some words a b (inl (x, p, w, e)) (inl (y, q, v, f)) = e ∙ ap Constant (one_offset words x y w v) ∙ sym f
one_some words a b (inl (x, p, w, e)) (inr u) = absurd (apart words x b w (cut words b u))
one_some words a b (inr t) (inl (y, q, v, f)) = absurd (apart words y a v (cut words a t))
one_some words a b (inr t) (inr u) = one_cut words a b (cut words a t) (cut words b u)

pub one_room_zone : (words : List ℕ) (a b : Option Zone) → IsRoomZone words a → IsRoomZone words b → a ≡ b
one_room_zone words None None h k = refl
one_room_zone words None (Some b) h k = absurd (not_utc words b h k)
one_room_zone words (Some a) None h k = absurd (not_utc words a k h)
one_room_zone words (Some a) (Some b) h k = ap Some (one_some words a b h k)
