-- Where no onset comes the offset stays, and a local time that it reads there means that time less the offset.
use Rattle.std.proofs.Common.{◌≡◌, w64, inl, inr, ℕ, ◌≤◌, Some, arith, ℤ, pos, negsuc, ◌+ℤ◌, ◌-ℤ◌, ◌≤ℤ◌}
use Rattle.std.proofs.lemmas.Int.{by_lt_z}
use Rattle.std.specs.Int.{saturate_signed}
use Rattle.std.specs.Int.Signed.{◌<ℤ◌}
use Rattle.jiff_core.proofs.SignedLemmas.{signed_arith}
use Rattle.profile.specs.text.Values.{IsClockSeconds}
use Rattle.profile.specs.series.Zones as written
use Rattle.profile.specs.series.Zones.{Zone, Constant, Single, Pair, Onset, IsOnset, IsZoneOnset, InForce, Since, Until, IsOffsetAt, Means, local_time}
use Rattle.cal_zones.specs.Yearly.{IsFirstDay}
use Rattle.cal_zones.specs.Onsets.{observance_of}
use Rattle.cal_zones.specs.Spans.{AreNoneBetween, IsSpan}
use Rattle.cal_zones.specs.declared.yearly.Yearly.{Yearly}
use Rattle.cal_zones.specs.declared.observance.Observance.{Observance}
use Rattle.cal_zones.proofs.Force.{OneAtOnce}
use Rattle.cal_zones.proofs.Onsets.{begins_is}
use Rattle.cal_zones.proofs.Zones.{AreSides, unique, one_meaning}

in_force_stays : (Is : Onset → Type 0) (after before t k : ℤ) → AreNoneBetween Is after before → InForce Is after k → after ≤ℤ t → t <ℤ before → InForce Is t k
in_force_stays Is after before t k none (Since x h e) from to =
    Since x (record {
      listed = h.listed;
      begun = omega (arith, signed_arith, h.begun);
      latest = λ other l w.
          by_lt_z after other.instant
          (λ lt. absurd (omega (arith, signed_arith, none other l lt)))
          (λ ge. h.latest other l ge);
    }) e
in_force_stays Is after before t k none (Until x h e) from to =
    Until x (record { listed = h.listed; ahead = omega (arith, signed_arith, none x h.listed h.ahead); least = h.least }) e

offset_stays : (z : Zone) (after before t k : ℤ) → AreNoneBetween (IsZoneOnset z) after before → IsOffsetAt z after k → after ≤ℤ t → t <ℤ before → IsOffsetAt z t k
offset_stays (Constant o) after before t k none h from to = h
offset_stays (Single a) after before t k none h from to = in_force_stays (IsZoneOnset (Single a)) after before t k none h from to
offset_stays (Pair a b) after before t k none h from to = in_force_stays (IsZoneOnset (Pair a b)) after before t k none h from to

at_most : (z : Zone) (least greatest t k : ℤ) → AreSides z least greatest → IsOffsetAt z t k → k ≤ℤ greatest
at_most z least greatest t k b h =
    elim (b.one t k h) [
      | inl low ↦ omega (arith, signed_arith, b.ordered)
      | inr high ↦ omega (arith, signed_arith)
    ]

-- no earlier instant shows it, since each from `after` on has the same offset, and before that even the greatest doesn't reach it
means_between : (z : Zone) (least greatest after before local k : ℤ) → OneAtOnce (IsZoneOnset z) → AreSides z least greatest → AreNoneBetween (IsZoneOnset z) after before → IsOffsetAt z after k
    → (after +ℤ greatest) ≤ℤ local → local <ℤ (before +ℤ k) → Means z local (local -ℤ k)
means_between z least greatest after before local k u b none h from to =
    let high = at_most z least greatest after k b h in
    let here = offset_stays z after before (local -ℤ k) k none h (omega (arith, signed_arith)) (omega (arith, signed_arith)) in
    inl (record {
      shown = (k, here, omega (arith, signed_arith));
      least = λ other s.
          by_lt_z other (local -ℤ k)
          (λ lt.
          let reach = at_most z least greatest other s.0 b s.1 in
          let there = offset_stays z after before other k none h (omega (arith, signed_arith, s.2)) (omega (arith, signed_arith)) in
          let same : s.0 ≡ k = unique z other s.0 k u s.1 there in
          absurd (omega (arith, signed_arith, s.2)))
          (λ ge. ge);
    })

-- a sum that is cut off at the ends of a width is no greater, where a time past a clock's is below it
below_sum : (from local sum : ℤ) → IsClockSeconds from → from ≤ℤ local → local <ℤ saturate_signed w64 sum → local <ℤ sum
below_sum from local (pos n) f h k = omega (arith, signed_arith, f)
below_sum from local (negsuc n) f h k = omega (arith, signed_arith, f)

pub span_between : (z : Zone) (least greatest after before k from sum : ℤ) → OneAtOnce (IsZoneOnset z) → AreSides z least greatest → AreNoneBetween (IsZoneOnset z) after before → IsOffsetAt z after k
    → IsClockSeconds from → after +ℤ greatest ≡ from → sum ≡ before +ℤ k → IsSpan z from (saturate_signed w64 sum) k
span_between z least greatest after before k from sum u b none h f e total local t low high m =
    let below = below_sum from local sum f low high in
    one_meaning z least greatest local t (local -ℤ k) b m (means_between z least greatest after before local k u b none h (omega (arith, signed_arith)) (omega (arith, signed_arith)))

-- ---- where none of an observance's onsets comes

-- on no day of its rule from that of an instant on is there one before the first of these
pub none_by_rule : (o : Observance) (r : Yearly) (after next : ℤ) (today time from day : ℕ) → o.rule ≡ Some r → after +ℤ o.offset_from ≡ local_time today time
    → ((n : ℕ) → today ≤ n → o.day ≤ n → from ≤ n) → IsFirstDay r from day → next +ℤ o.offset_from ≡ local_time day o.second → AreNoneBetween (IsOnset (observance_of o)) after next
none_by_rule o r after next today time from day e shown reach first read x l past =
    let there = begins_is o r l.day e l.begins in
    let late : today ≤ l.day = omega (arith, signed_arith, l.read, o.starts.2) in
    let found : day ≤ l.day = first.least l.day there.1 (reach l.day late there.0) in
    omega (arith, signed_arith, l.read)

pub none_of_two : (a b : written.Observance) (after p q least : ℤ) → AreNoneBetween (IsOnset a) after p → AreNoneBetween (IsOnset b) after q → least ≤ℤ p → least ≤ℤ q → AreNoneBetween (IsZoneOnset (Pair a b)) after least
none_of_two a b after p q least h k low high x (inl l) past = omega (arith, signed_arith, h x l past)
none_of_two a b after p q least h k low high x (inr l) past = omega (arith, signed_arith, k x l past)
