-- The clocks of a room whose zone words mean.
-- Behind EventComponent::placed of place, one_meeting and one_instance of event.
use Rattle.std.proofs.Common.{ℕ, ◌<◌, List, subst, sym, inl, inr, arith, ℤ, pos, negsuc, ◌+ℤ◌, ◌-ℤ◌, ◌≤ℤ◌, unsigned_abs}
use Rattle.std.specs.Prelude.{Option, Some, None}
use Rattle.std.proofs.lemmas.Int.{ints}
use Rattle.profile.specs.text.Values.{WritesOffset}
use Rattle.profile.specs.series.Zones.{Zone, Constant, Pair, Means}
use Rattle.profile.specs.series.ZoneTexts.{AreMatched, AreSpaced, year_pattern}
use Rattle.profile.specs.series.RoomZones.{IsRoomZone, IsTwoOffsets}
use Rattle.profile.specs.events.ZonedTimes.{clock_of}
use Rattle.cal_zones.specs.Repeats.{IsRegular}
use Rattle.cal_zones.proofs.Zones.{unique, once_constant, once_pair}
use Rattle.cal_events.specs.Clocks.{IsSteady}
use Rattle.cal_events.proofs.shared_lemmas.Meanings.{one_meaning, utc_instant}
use Rattle.cal_events.proofs.shared_lemmas.Clocks.{ReadsWith, constant_reads, pair_reads, ascends}
use Rattle.cal_events.proofs.shared_lemmas.OneInstance.{utc_steady, keeps_near, never_at_once}

-- they are less than a day from UTC's
abbrev pub IsNear : Zone → Type 0
IsNear clock = (local t : ℤ) → Means clock local t → ((local -ℤ pos 86_399) ≤ℤ t) × (t ≤ℤ (local +ℤ pos 86_399))

pub record IsRoomClock (clock : Zone) : Type 0 where
  pub steady : IsSteady clock
  pub near : IsNear clock
  pub regular : IsRegular clock

less_than_day : (text : List ℕ) (offset : ℤ) → WritesOffset text offset → unsigned_abs offset < 86_400
less_than_day text offset (time, s, is) = omega (arith, s.hours, s.minutes, s.seconds, s.counted)

bounded : (k : ℤ) → unsigned_abs k < 86_400 → (negsuc 86_398 ≤ℤ k) × (k ≤ℤ pos 86_399)
bounded (pos n) w = (omega (arith, ints, w), omega (arith, ints, w))
bounded (negsuc n) w = (omega (arith, ints, w), omega (arith, ints, w))

constant_near : (k : ℤ) → unsigned_abs k < 86_400 → IsNear (Constant k)
constant_near k w local t h = let b = bounded k w in let e = constant_reads k local t h in (omega (arith, ints, b.0, b.1, e), omega (arith, ints, b.0, b.1, e))

reads_near : (x y local t : ℤ) → unsigned_abs x < 86_400 → unsigned_abs y < 86_400 → ReadsWith x y local t → ((local -ℤ pos 86_399) ≤ℤ t) × (t ≤ℤ (local +ℤ pos 86_399))
reads_near x y local t w v (inl e) = let b = bounded x w in (omega (arith, ints, b.0, b.1, e), omega (arith, ints, b.0, b.1, e))
reads_near x y local t w v (inr e) = let b = bounded y v in (omega (arith, ints, b.0, b.1, e), omega (arith, ints, b.0, b.1, e))

utc_near : IsNear (Constant (pos 0))
utc_near local t h = let e = utc_instant local t h in (omega (arith, ints, e), omega (arith, ints, e))

constant_clock : (k : ℤ) → unsigned_abs k < 86_400 → IsRoomClock (Constant k)
constant_clock k w = record {
  steady = record {
    offset = λ t p q h j. unique (Constant k) t p q (once_constant k) h j;
    meaning = one_meaning (Constant k) tt;
    keeps = keeps_near (Constant k) tt;
    ascends = ascends (Constant k) tt;
  };
  near = constant_near k w;
  regular = w;
}

pair_clock : (words : List ℕ) (zone : Zone) (x : IsTwoOffsets words zone) → IsRoomClock (Pair x.a x.b)
pair_clock words zone x =
    let matched : AreMatched (Pair x.a x.b) = subst AreMatched x.zone_is x.matched in
    let spaced : AreSpaced (Pair x.a x.b) = subst AreSpaced x.zone_is x.spaced in
    let standard = less_than_day x.standard_text x.standard x.writes_standard in
    let daylight = less_than_day x.daylight_text x.daylight x.writes_daylight in
    let from : unsigned_abs x.a.offset_from < 86_400 = subst (λ (k : ℤ). unsigned_abs k < 86_400) (sym x.begins_standard.offset_from) daylight in
    let to : unsigned_abs x.a.offset_to < 86_400 = subst (λ (k : ℤ). unsigned_abs k < 86_400) (sym x.begins_standard.offset_to) standard in
    record {
      steady = record {
        offset = λ t p q h j.
            unique (Pair x.a x.b) t p q
            (once_pair x.a x.b (never_at_once x.a x.b (year_pattern x.begins_standard.each x.a.day) (year_pattern x.begins_daylight.each x.b.day) x.begins_standard.rule x.begins_daylight.rule spaced))
            h j;
        meaning = one_meaning (Pair x.a x.b) matched;
        keeps = keeps_near (Pair x.a x.b) matched;
        ascends = ascends (Pair x.a x.b) matched;
      };
      near = λ local t h. reads_near x.a.offset_from x.a.offset_to local t from to (pair_reads x.a x.b local t matched h);
      regular = ((from, to), (x.begins_standard.each, x.begins_standard.rule), (x.begins_daylight.each, x.begins_daylight.rule), matched);
    }

pub room_clock : (words : List ℕ) (room : Option Zone) → IsRoomZone words room → IsRoomClock (clock_of room)
room_clock words None named = record { steady = utc_steady; near = utc_near; regular = omega arith }
room_clock words (Some zone) (inl (offset, some, writes, is)) = subst IsRoomClock (sym is) (constant_clock offset (less_than_day words offset writes))
room_clock words (Some zone) (inr x) = subst IsRoomClock (sym x.zone_is) (pair_clock words zone x)
