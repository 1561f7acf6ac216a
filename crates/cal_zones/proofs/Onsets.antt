-- The first onset of an observance, and the latest up to an instant.
use Rattle.std.proofs.Common.{◌≡◌, refl, subst, ◌==◌, negsuc, w64, FitsSigned, inl, inr, Bool, Option, None, ◌^◌, ◌<ℤ◌, ℕ, ◌+◌, ◌-◌, ◌*◌, ◌/◌, ◌%◌, ◌≤◌, true, ◌&&◌, nat_le, Some, arith, ℤ, pos, unsigned_abs, ◌+ℤ◌, ◌-ℤ◌, ◌≤ℤ◌}
use Rattle.std.specs.Prelude.{SomeIff, MatchOption}
use Rattle.std.proofs.lemmas.Bool.{cases_lt}
use Rattle.std.proofs.lemmas.Bool.Decides.{nat_tests}
use Rattle.jiff_core.proofs.SignedLemmas.{signed_arith, one_part}
use Rattle.profile.specs.series.Rules.{is_base}
use Rattle.profile.specs.series.Zones.{Observance as Said, Onset, IsOnset, IsZoneOnset, Pair, IsLatest, IsFirstOf, onset_at, begins_on, local_time}
use Rattle.cal_zones.specs.Shapes.{yearly_pattern}
use Rattle.cal_zones.specs.Yearly.{IsOn, IsLatestDay, IsFirstDay}
use Rattle.cal_zones.specs.Onsets.{observance_of, yearly_rule, IsFirstDayOf, IsLatestAfter, IsNextAfter, IsNoneAfter}
use Rattle.cal_zones.specs.Spans.{AreNoneBetween, IsNextOnset, IsNextOr}
use Rattle.cal_zones.proofs.Bases.{base_is}
use Rattle.cal_zones.specs.declared.yearly.Yearly.{Yearly}
use Rattle.cal_zones.specs.declared.observance.Observance.{Observance}

-- it begins on the days of its rule, from DTSTART's on
pub begins_is : (o : Observance) (r : Yearly) (n : ℕ) → o.rule ≡ Some r → begins_on (observance_of o) n ≡ true → (o.day ≤ n) × IsOn r n
begins_is o r n e h =
    let t : (nat_le o.day n && is_base (yearly_pattern r.month r.days o.day) n) ≡ true = rw e at h in
    let base : is_base (yearly_pattern r.month r.days o.day) n ≡ true = grind (arith, nat_tests) in
    (grind (arith, nat_tests), (base_is r o.day n).0 base)

pub begins_back : (o : Observance) (r : Yearly) (n : ℕ) → o.rule ≡ Some r → o.day ≤ n → IsOn r n → begins_on (observance_of o) n ≡ true
begins_back o r n e first on =
    let base : is_base (yearly_pattern r.month r.days o.day) n ≡ true = (base_is r o.day n).1 on in
    let t : (nat_le o.day n && is_base (yearly_pattern r.month r.days o.day) n) ≡ true = grind (arith, nat_tests) in
    rw e t

pub first_by_rule : (o : Observance) (r : Yearly) (day : ℕ) → o.rule ≡ Some r → IsFirstDay r o.day day → IsFirstDayOf (observance_of o) day
first_by_rule o r day e h = record {
  begins = begins_back o r day e h.from h.on;
  least = λ other b. let t = begins_is o r other e b in h.least other t.1 t.0;
}

pub latest_after : (r : Yearly) (first_day : ℕ) (first instant result : ℤ) (since day : ℕ) → IsOn r first_day → first ≤ℤ instant → since ≡ unsigned_abs (instant -ℤ first) → IsLatestDay r (first_day + since / 86_400) day → result ≡ instant -ℤ pos (since % 86_400 + 86_400 * (first_day + since / 86_400 - day)) → IsLatestAfter r first_day first instant result
latest_after r first_day first instant result since day on begun s h e =
    let whole : instant ≡ first +ℤ pos since = omega (arith, signed_arith, one_part (instant -ℤ first)) in
    let from : first_day ≤ day = h.latest first_day on (omega arith) in
    record {
      day = day;
      on = h.on;
      from = from;
      place = omega (arith, signed_arith, h.within);
      begun = omega (arith, signed_arith);
      latest = λ other o b. h.latest other o (omega (arith, signed_arith));
    }

pub latest_of : (o : Observance) (r : Yearly) (first_day : ℕ) (first instant result : ℤ) → o.rule ≡ Some r → IsFirstDayOf (observance_of o) first_day → first +ℤ o.offset_from ≡ local_time first_day o.second → IsLatestAfter r first_day first instant result → IsLatest (IsOnset (observance_of o)) instant (onset_at (observance_of o) result)
latest_of o r first_day first instant result e f read h =
    let start = begins_is o r first_day e f.begins in
    record {
      listed = record {
        day = h.day;
        begins = begins_back o r h.day e (omega (arith, start.0, h.from)) h.on;
        read = omega (arith, signed_arith, h.place, h.from);
        before = refl;
        after = refl;
      };
      begun = h.begun;
      latest = λ other l b.
          let there = begins_is o r l.day e l.begins in
          let within = h.latest l.day there.1 (omega (arith, signed_arith, l.read)) in
          omega (arith, signed_arith, l.read, h.place);
    }

pub first_of : (o : Observance) (day : ℕ) (x : ℤ) → IsFirstDayOf (observance_of o) day → x +ℤ o.offset_from ≡ local_time day o.second → IsFirstOf (observance_of o) x
first_of o day x h read = record {
  listed = record { day = day; begins = h.begins; read = read; before = refl; after = refl };
  least = λ other l. omega (arith, signed_arith, l.read, h.least l.day l.begins);
}

-- ---- the next

-- a day later than that on which the latest could be
later_day : (first after : ℤ) (first_day since other : ℕ) → after ≡ first +ℤ pos since → (after +ℤ pos (86_400 * first_day)) <ℤ (first +ℤ pos (86_400 * other)) → first_day + since / 86_400 + 1 ≤ other
later_day first after first_day since other whole past = omega (arith, signed_arith, whole, past)

pub next_after : (r : Yearly) (first_day : ℕ) (first after result : ℤ) (since day : ℕ) → after ≡ first +ℤ pos since → IsFirstDay r (first_day + since / 86_400 + 1) day
    → result ≡ after +ℤ pos (86_400 * (day - (first_day + since / 86_400)) - since % 86_400) → IsNextAfter r first_day first after result
next_after r first_day first after result since day whole h e =
    let from = h.from in
    record {
      day = day;
      on = h.on;
      from = omega (arith, from);
      place = omega (arith, signed_arith, from, whole, e);
      ahead = omega (arith, signed_arith, from, e);
      first_one = λ other o past. h.least other o (later_day first after first_day since other whole past);
    }

pub none_after : (r : Yearly) (first_day : ℕ) (first after : ℤ) (since day : ℕ) → after ≡ first +ℤ pos since → IsFirstDay r (first_day + since / 86_400 + 1) day
    → pos (2 ^ 63) ≤ℤ (after +ℤ pos (86_400 * (day - (first_day + since / 86_400)) - since % 86_400)) → IsNoneAfter r first_day first after
none_after r first_day first after since day whole h far other o past =
    let from = h.from in
    let l = h.least other o (later_day first after first_day since other whole past) in
    omega (arith, signed_arith, from, whole, far, l)

pub next_of : (o : Observance) (r : Yearly) (first_day : ℕ) (first after result : ℤ) → o.rule ≡ Some r → IsFirstDayOf (observance_of o) first_day → first +ℤ o.offset_from ≡ local_time first_day o.second
    → IsNextAfter r first_day first after result → IsNextOnset (IsOnset (observance_of o)) after result
next_of o r first_day first after result e f read h =
    let start = begins_is o r first_day e f.begins in
    let from = h.from in
    let place = h.place in
    record {
      onset = onset_at (observance_of o) result;
      listed = record {
        day = h.day;
        begins = begins_back o r h.day e (omega (arith, start.0, from)) h.on;
        read = omega (arith, signed_arith, read, place, from);
        before = refl;
        after = refl;
      };
      at = refl;
      ahead = h.ahead;
      none = λ other l past.
          let there = begins_is o r l.day e l.begins in
          let x = l.read in
          let within = h.first_one l.day there.1 (omega (arith, signed_arith, x, read, past)) in
          omega (arith, signed_arith, x, read, place, within);
    }

pub none_of : (o : Observance) (r : Yearly) (first_day : ℕ) (first after : ℤ) → o.rule ≡ Some r → first +ℤ o.offset_from ≡ local_time first_day o.second → IsNoneAfter r first_day first after
    → AreNoneBetween (IsOnset (observance_of o)) after (pos (2 ^ 63))
none_of o r first_day first after e read h other l past =
    let there = begins_is o r l.day e l.begins in
    let x = l.read in
    let far = h l.day there.1 (omega (arith, signed_arith, x, read, past)) in
    omega (arith, signed_arith, x, read, far)

-- the first of all
pub next_first : (o : Observance) (day : ℕ) (first after : ℤ) → IsFirstDayOf (observance_of o) day → first +ℤ o.offset_from ≡ local_time day o.second → after <ℤ first
    → IsNextOnset (IsOnset (observance_of o)) after first
next_first o day first after h read ahead =
    let f = first_of o day first h read in
    record { onset = onset_at (observance_of o) first; listed = f.listed; at = refl; ahead = ahead; none = λ other l past. f.least other l }

same_day : (n m : ℕ) → (n == m) ≡ true → n ≡ m
same_day n m h = grind (arith, nat_tests)

-- an only one
pub none_again : (o : Observance) (day : ℕ) (first after : ℤ) → o.rule ≡ None → IsFirstDayOf (observance_of o) day → first +ℤ o.offset_from ≡ local_time day o.second → first ≤ℤ after
    → AreNoneBetween (IsOnset (observance_of o)) after (pos (2 ^ 63))
none_again o day first after e h read begun other l past =
    let same : l.day ≡ o.day = same_day l.day o.day (subst (λ r. begins_by o r l.day ≡ true) e l.begins) in
    let here : day ≡ o.day = same_day day o.day (subst (λ r. begins_by o r day ≡ true) e h.begins) in
    let x = l.read in
    absurd (omega (arith, signed_arith, same, here, x, read, begun, past))
  where
    begins_by : Observance → Option Yearly → ℕ → Bool
    begins_by o rule n = begins_on (record { day = o.day; second = o.second; rule = yearly_rule o.day rule; offset_from = o.offset_from; offset_to = o.offset_to }) n

-- of two observances: the one's next where the other has none before it
pub next_left : (a b : Said) (after x : ℤ) → IsNextOnset (IsOnset a) after x → AreNoneBetween (IsOnset b) after x → IsNextOnset (IsZoneOnset (Pair a b)) after x
next_left a b after x h k = record {
  onset = h.onset;
  listed = inl h.listed;
  at = h.at;
  ahead = h.ahead;
  none = λ other l past. elim l [ inl m ↦ h.none other m past | inr m ↦ k other m past ];
}

pub next_right : (a b : Said) (after y : ℤ) → AreNoneBetween (IsOnset a) after y → IsNextOnset (IsOnset b) after y → IsNextOnset (IsZoneOnset (Pair a b)) after y
next_right a b after y h k = record {
  onset = k.onset;
  listed = inr k.listed;
  at = k.at;
  ahead = k.ahead;
  none = λ other l past. elim l [ inl m ↦ h other m past | inr m ↦ k.none other m past ];
}

pub none_up_to : {Is : Onset → Type 0} {after before : ℤ} (early : ℤ) → AreNoneBetween Is after before → early ≤ℤ before → AreNoneBetween Is after early
none_up_to early h l other m past = let k = h other m past in omega (arith, signed_arith, k, l)

-- a sum that 64 bits don't hold
past_all : (sum : ℤ) → negsuc 9_223_372_036_854_775_807 ≤ℤ sum → (FitsSigned w64 sum → ⊥) → pos (2 ^ 63) ≤ℤ sum
past_all (pos n) low none = elim (cases_lt n (2 ^ 63)) [ inl less ↦ absurd (none (record { sfits = less })) | inr most ↦ omega (arith, signed_arith, most) ]
past_all (negsuc n) low none = absurd (none (record { sfits = omega (arith, signed_arith, low) }))

pub next_checked : (r : Yearly) (first_day : ℕ) (first after : ℤ) (since day : ℕ) (sum : Option ℤ) → after ≡ first +ℤ pos since → negsuc 9_223_372_036_854_775_807 ≤ℤ after
    → IsFirstDay r (first_day + since / 86_400 + 1) day → let next = after +ℤ pos (86_400 * (day - (first_day + since / 86_400)) - since % 86_400) in SomeIff sum (FitsSigned w64 next) next
    → MatchOption sum (IsNoneAfter r first_day first after) (IsNextAfter r first_day first after)
next_checked r first_day first after since day None whole low h none =
    none_after r first_day first after since day whole h (past_all _ (omega (arith, signed_arith, low)) none)
next_checked r first_day first after since day (Some sum) whole low h (fits, is) = next_after r first_day first after sum since day whole h is

pub next_or_of : (o : Observance) (r : Yearly) (first_day : ℕ) (first after : ℤ) (next : Option ℤ) → o.rule ≡ Some r → IsFirstDayOf (observance_of o) first_day → first +ℤ o.offset_from ≡ local_time first_day o.second
    → MatchOption next (IsNoneAfter r first_day first after) (IsNextAfter r first_day first after) → IsNextOr (IsOnset (observance_of o)) after next
next_or_of o r first_day first after None e f read h = none_of o r first_day first after e read h
next_or_of o r first_day first after (Some next) e f read h = next_of o r first_day first after next e f read h
