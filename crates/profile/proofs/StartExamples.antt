-- Starts, instances and their ends, worked by the definitions alone.
use Rattle.std.proofs.Common.{◌≡◌, zero, suc, true, List, [], ◌∷◌, codes, refl, inl, inr, arith, ℤ, pos, negsuc, ◌⊎◌, ◌+ℤ◌, ◌≤ℤ◌, ◌<ℤ◌}
use Rattle.std.specs.Prelude.{Option, Some, None, Contains}
use Rattle.std.proofs.lemmas.Int.{ints}
use Rattle.std.proofs.lemmas.Bool.{eqb-true}
use Rattle.profile.specs.series.Zones.{Observance, Zone, Constant, Single, Onset, Since, Until, IsZoneOnset, Shows, Means}
use Rattle.profile.specs.events.Properties.{Fixed, WholeDay}
use Rattle.profile.specs.events.ZonedTimes.{EventTimes}
use Rattle.profile.specs.events.EventComponents.{EventComponent}
use Rattle.profile.specs.events.Events.{Event}
use Rattle.profile.specs.events.Starts.{EndsAt, IsStart, IsInstance, Overlaps, SharesInstant, key_at}

-- an event in UTC without a rule, of one second, with these times beside it
abbrev event : Option ℤ → ℤ → List ℤ → List ℤ → EventComponent
event recurrence start additions exceptions = record {
  uid = codes "a";
  organiser = None;
  stamp = None;
  sequence = 0;
  cancelled = true;
  recurrence = recurrence;
  times = record { form = Fixed; zone = None; local = start; start = start; length = record { days = 0; seconds = 1 } };
  rule = None;
  additions = additions;
  exceptions = exceptions;
  written = record { recurrence = None; additions = []; exceptions = [] };
  summary = [];
  attendees = [];
}

-- DTSTART and two RDATEs, one of them DTSTART again, and one that EXDATE takes away
abbrev master : EventComponent
master = event None (pos 100) (pos 100 ∷ pos 200 ∷ pos 300 ∷ []) (pos 300 ∷ [])

-- without days it ends its seconds later
ends : EndsAt master.times (pos 200) (pos 201)
ends = (pos 200, inl (refl, refl), refl)

-- no instant is one of an empty list
none : (t : ℤ) → Contains [] t → ⊥
none t (k, w, e) = omega (arith, w)

at_dtstart : IsStart master [] (pos 100)
at_dtstart = record {
  given = inl refl;
  in_dates = (omega (arith, ints), omega (arith, ints));
  not_excepted = λ c. only c;
  not_replaced = λ r. omega (arith, r.among.1);
}
  where
    only : Contains (pos 300 ∷ []) (pos 100) → ⊥
    only (zero, w, e) = omega (arith, ints, e)
    only (suc k, w, e) = omega (arith, w)

-- RDATE at an EXDATE isn't a start
excepted : IsStart master [] (pos 300) → ⊥
excepted s = s.not_excepted (0, omega arith, refl)

-- an override for DTSTART takes that away, though it is cancelled, and is an instance itself; so is one that no start is for
abbrev override : EventComponent
override = event (Some (pos 100)) (pos 150) [] []

abbrev other : EventComponent
other = event (Some (pos 50)) (pos 60) [] []

abbrev meeting : Event
meeting = record { master = Some master; overrides = override ∷ other ∷ [] }

replaced : IsStart master meeting.overrides (pos 100) → ⊥
replaced s = s.not_replaced (record { override = override; among = (0, omega arith, refl); is = refl })

moved : IsInstance meeting (record { key = key_at override (pos 100); start = pos 150; end = pos 151 })
moved = inr (record { override = override; is = (0, omega arith, refl); recurrence = refl; key = refl; starts = refl; ends = (pos 150, inl (refl, refl), refl) })

added : IsInstance meeting (record { key = key_at other (pos 50); start = pos 60; end = pos 61 })
added = inr (record { override = other; is = (1, omega arith, refl); recurrence = refl; key = refl; starts = refl; ends = (pos 60, inl (refl, refl), refl) })

-- one second of an hour is shared; an end is in no instance, and an instance of no length holds nothing
last_second : Overlaps (pos 0) (pos 3600) (pos 3599) (pos 7200)
last_second = record { instant = pos 3599; in_first = (omega (arith, ints), omega (arith, ints)); in_second = (omega (arith, ints), omega (arith, ints)) }

touching : Overlaps (pos 0) (pos 3600) (pos 3600) (pos 7200) → ⊥
touching s = absurd (omega (arith, ints, s.in_first.1, s.in_second.0))

empty_shares_nothing : Overlaps (pos 100) (pos 100) (pos 0) (pos 3600) → ⊥
empty_shares_nothing s = absurd (omega (arith, ints, s.in_first.0, s.in_first.1))

-- from year 10000 on an instance of its last hour overlaps what is there, and clashes with nothing
in_10000 : Overlaps (pos 253_402_297_200) (pos 253_402_304_400) (pos 253_402_300_800) (pos 253_402_300_860)
in_10000 = record { instant = pos 253_402_300_800; in_first = (omega (arith, ints), omega (arith, ints)); in_second = (omega (arith, ints), omega (arith, ints)) }

in_10000_clashes_not : SharesInstant (pos 253_402_297_200) (pos 253_402_304_400) (pos 253_402_300_800) (pos 253_402_300_860) → ⊥
in_10000_clashes_not s = absurd (omega (arith, ints, s.before, s.in_second.0))

-- ---- whole days

-- one day, from this start on in this zone
abbrev day_in : Option Zone → ℤ → ℤ → EventTimes
day_in zone local start = record { form = WholeDay; zone = zone; local = local; start = start; length = record { days = 1; seconds = 0 } }

-- by UTC a day ends a day later: 10 March 2025
in_utc : (t : ℤ) → Means (Constant (pos 0)) t t
in_utc t = inl (record { shown = (pos 0, refl, omega (arith, ints)); least = λ other (offset, e, h). omega (arith, ints, e, h) })

day_ends : EndsAt (day_in None (pos 1_741_564_800) (pos 1_741_564_800)) (pos 1_741_564_800) (pos 1_741_651_200)
day_ends = (
  pos 1_741_651_200,
  inr (
    omega arith,
    (
      pos 1_741_564_800,
      (pos 1_741_564_800, pos 1_741_564_800, (pos 0, refl, refl), (739_685, 0, (omega arith, refl), refl), inl (in_utc (pos 1_741_564_800), refl)),
      in_utc (pos 1_741_651_200),
    ),
  ),
  refl,
)

-- on 9 March 2025 the clocks go from 00:00 to 01:00, from -0500 to -0400
spring : Observance
spring = record { day = 739_684; second = 0; rule = None; offset_from = negsuc 17_999; offset_to = negsuc 14_399 }

abbrev havana : Zone
havana = Single spring

onset : Onset
onset = record { instant = pos 1_741_496_400; before = negsuc 17_999; after = negsuc 14_399 }

listed : IsZoneOnset havana onset
unfolding spring onset
listed = record { day = 739_684; begins = refl; read = refl; before = refl; after = refl }

-- that is their only change
only_onset : (x : Onset) → IsZoneOnset havana x → (x.instant ≡ pos 1_741_496_400) × (x.before ≡ negsuc 17_999) × (x.after ≡ negsuc 14_399)
unfolding spring
only_onset x is =
    let day = eqb-true is.day 739_684 is.begins in
    let read = is.read in
    (omega (arith, ints, day, read), is.before, is.after)

-- what they show before it, and from it on
shown : (t local : ℤ) → Shows havana t local → ((t <ℤ pos 1_741_496_400) × (t ≡ local +ℤ pos 18_000)) ⊎ ((pos 1_741_496_400 ≤ℤ t) × (t ≡ local +ℤ pos 14_400))
shown t local (offset, Since x latest is, e) =
    let o = only_onset x latest.listed in
    let begun = latest.begun in
    let at = o.0 in
    let after = o.2 in
    inr (omega (arith, ints, begun, at), omega (arith, ints, is, after, e))
shown t local (offset, Until x first is, e) =
    let o = only_onset x first.listed in
    let ahead = first.ahead in
    let at = o.0 in
    let before = o.1 in
    inl (omega (arith, ints, ahead, at), omega (arith, ints, is, before, e))

-- from it on they are four hours behind UTC
shows_after : (t local : ℤ) → pos 1_741_496_400 ≤ℤ t → t ≡ local +ℤ pos 14_400 → Shows havana t local
unfolding onset
shows_after t local l e =
    (negsuc 14_399, Since onset (record { listed = listed; begun = l; latest = λ other is h. let at = (only_onset other is).0 in omega (arith, ints, at) }) refl, omega (arith, ints, e))

-- the midnight of that day is skipped, and means their change, when they show 01:00
skipped : Means havana (pos 1_741_478_400) (pos 1_741_496_400)
unfolding onset
skipped = inr (record {
  never = λ other shows. elim (shown other (pos 1_741_478_400) shows) [ inl (l, e) ↦ omega (arith, ints, l, e) | inr (l, e) ↦ omega (arith, ints, l, e) ];
  onset = onset;
  listed = listed;
  set_from = omega (arith, ints);
  set_past = omega (arith, ints);
  read = refl;
})

next_midnight : Means havana (pos 1_741_564_800) (pos 1_741_579_200)
next_midnight = inl (record {
  shown = shows_after (pos 1_741_579_200) (pos 1_741_564_800) (omega (arith, ints)) (omega (arith, ints));
  least = λ other shows. elim (shown other (pos 1_741_564_800) shows) [ inl (l, e) ↦ omega (arith, ints, l, e) | inr (l, e) ↦ omega (arith, ints, l, e) ];
})

-- it ends at the next midnight, 23 hours later
skipped_day_ends : EndsAt (day_in (Some havana) (pos 1_741_478_400) (pos 1_741_496_400)) (pos 1_741_496_400) (pos 1_741_579_200)
skipped_day_ends = (
  pos 1_741_579_200,
  inr (
    omega arith,
    (
      pos 1_741_478_400,
      (
        pos 1_741_482_000,
        pos 1_741_478_400,
        shows_after (pos 1_741_496_400) (pos 1_741_482_000) (omega (arith, ints)) (omega (arith, ints)),
        (739_684, 3_600, (omega arith, refl), refl),
        inl (skipped, refl),
      ),
      next_midnight,
    ),
  ),
  refl,
)
