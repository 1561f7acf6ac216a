-- In the zone of a room, which words mean, each local time means an instant: what is kept of such a zone represents it.
-- Behind schedules_hold.
use Rattle.std.proofs.Common.{◌≡◌, ◌≢◌, ◌∙◌, ◌*◌, ◌+◌, ◌<◌, ◌≤◌, ℕ, ℤ, pos, ◌-ℤ◌, true, List, Option, None, Some, refl, sym, subst, inl, inr, arith, unsigned_abs}
use Rattle.profile.specs.events.ZonedTimes.{clock_of}
use Rattle.profile.specs.series.RoomZones.{BeginsSo, IsRoomZone, IsTwoOffsets}
use Rattle.profile.specs.series.Zones.{Observance, Onset, Zone, Constant, Pair, IsOnset, Means}
use Rattle.profile.specs.series.ZoneTexts as written
use Rattle.profile.specs.series.ZoneTexts.{OnDay, InWeek, AreMatched, AreSpaced, is_each_year, year_pattern}
use Rattle.profile.specs.text.Values.{WritesOffset}
use Rattle.cal_zones.specs.Kinds.{zone_of}
use Rattle.cal_zones.specs.Onsets.{observance_of}
use Rattle.cal_zones.specs.Shapes.{days_of}
use Rattle.cal_zones.specs.declared.observance.Observance as rust
use Rattle.cal_zones.specs.declared.pair.Pair as rust_pair
use Rattle.cal_zones.specs.declared.yearly.MonthDays.{MonthDays}
use Rattle.cal_zones.specs.declared.yearly.MonthDays.TheVariants.{Day, FromStart, FromEnd, Week}
use Rattle.cal_zones.specs.declared.zone.Form.TheVariants as the
use Rattle.cal_zones.specs.declared.zone.Zone as kept
use Rattle.cal_zones.proofs.Meant.{meant}
use Rattle.cal_events.proofs.shared_lemmas.OneInstance.{never_at_once}

abbrev pub IsTotal : Zone → Type 0
IsTotal clock = (local : ℤ) → (t : ℤ) × Means clock local t

represented : (k : kept.Zone) (clock : Zone) → zone_of k ≡ clock → IsTotal clock
represented k clock is = subst IsTotal is (meant k)

constant_total : (offset : ℤ) → unsigned_abs offset < 86_400 → IsTotal (Constant offset)
constant_total offset near = represented (record { kind = the.Constant (record { offset = offset; range = near }) }) (Constant offset) refl

less_than_day : (text : List ℕ) (offset : ℤ) → WritesOffset text offset → unsigned_abs offset < 86_400
less_than_day text offset (time, s, is) = omega (arith, s.hours, s.minutes, s.seconds, s.counted)

-- ---- an observance

abbrev kept_days : written.MonthDays → MonthDays
kept_days (OnDay day) = Day day
kept_days (written.FromStart number weekday) = FromStart number weekday
kept_days (written.FromEnd number weekday) = FromEnd number weekday
kept_days (InWeek first weekday) = Week first weekday

days_back : (days : written.MonthDays) → days_of (kept_days days) ≡ days
days_back (OnDay day) = refl
days_back (written.FromStart number weekday) = refl
days_back (written.FromEnd number weekday) = refl
days_back (InWeek first weekday) = refl

abbrev kept_of : (text : List ℕ) (x y : ℤ) (o : Observance) → BeginsSo text x y o → unsigned_abs x < 86_400 → unsigned_abs y < 86_400 → rust.Observance
kept_of text x y o b near also =
    let w = b.writes_time in
    let hours = w.hours in
    let minutes = w.minutes in
    let counted = w.counted in
    record {
      day = 719_528;
      second = o.second;
      rule = Some (record { month = b.each.month; days = kept_days b.each.days; yearly = subst (λ (days : written.MonthDays). is_each_year b.each.month days ≡ true) (sym (days_back b.each.days)) b.on });
      offset_from = x;
      offset_to = y;
      starts = (omega arith, omega arith, omega (arith, hours, minutes, counted));
      from = near;
      to = also;
    }

kept_is : (text : List ℕ) (x y : ℤ) (o : Observance) (b : BeginsSo text x y o) (near : unsigned_abs x < 86_400) (also : unsigned_abs y < 86_400) → observance_of (kept_of text x y o b near also) ≡ o
kept_is text x y o b near also =
    let years : Some (year_pattern (record { month = b.each.month; days = days_of (kept_days b.each.days) }) 719_528) ≡ Some (year_pattern b.each o.day) =
    λ i. Some (year_pattern (record { month = b.each.month; days = days_back b.each.days i }) (sym b.first i)) in
    let rule = years ∙ sym b.rule in
    λ i. record { day = sym b.first i; second = o.second; rule = rule i; offset_from = sym b.offset_from i; offset_to = sym b.offset_to i }

-- ---- two observances

pair_total : (words : List ℕ) (zone : Zone) (x : IsTwoOffsets words zone) → IsTotal zone
pair_total words zone x =
    let matched : AreMatched (Pair x.a x.b) = subst AreMatched x.zone_is x.matched in
    let spaced : AreSpaced (Pair x.a x.b) = subst AreSpaced x.zone_is x.spaced in
    let standard = less_than_day x.standard_text x.standard x.writes_standard in
    let daylight = less_than_day x.daylight_text x.daylight x.writes_daylight in
    let a = kept_of x.standard_onset x.daylight x.standard x.a x.begins_standard daylight standard in
    let b = kept_of x.daylight_onset x.standard x.daylight x.b x.begins_daylight standard daylight in
    let a_is : observance_of a ≡ x.a = kept_is x.standard_onset x.daylight x.standard x.a x.begins_standard daylight standard in
    let b_is : observance_of b ≡ x.b = kept_is x.daylight_onset x.standard x.daylight x.b x.begins_daylight standard daylight in
    let pair : rust_pair.Pair = record {
      standard = a;
      daylight = b;
      first = λ e. cc;
      second = λ e. cc;
      near = subst (λ (o : Observance). unsigned_abs (o.offset_from -ℤ o.offset_to) ≤ 43_200) (sym a_is) matched.2;
      there = refl;
      back = refl;
      apart = λ p q h j same.
          never_at_once x.a x.b (year_pattern x.begins_standard.each x.a.day) (year_pattern x.begins_daylight.each x.b.day) x.begins_standard.rule x.begins_daylight.rule spaced p q
          (subst (λ (o : Observance). IsOnset o p) a_is h) (subst (λ (o : Observance). IsOnset o q) b_is j) same;
    } in
    let zones : Pair (observance_of a) (observance_of b) ≡ Pair x.a x.b = λ i. Pair (a_is i) (b_is i) in
    represented (record { kind = the.Pair pair }) zone (zones ∙ sym x.zone_is)

-- ---- the zone of a room

pub room_total : (words : List ℕ) (room : Option Zone) → IsRoomZone words room → IsTotal (clock_of room)
room_total words None named = constant_total (pos 0) (omega arith)
room_total words (Some zone) (inl (offset, some, writes, is)) = subst IsTotal (sym is) (constant_total offset (less_than_day words offset writes))
room_total words (Some zone) (inr x) = pair_total words zone x
