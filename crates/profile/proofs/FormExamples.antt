-- Times by their forms, worked by the definitions alone: UTC, a zone, without zone, and whole days (RFC 5545 3.3.4, 3.3.5).
use Rattle.std.proofs.Common.{◌≡◌, ℕ, true, false, List, [], ◌∷◌, codes, refl, inl, ap, arith, ℤ, pos, length, ◌<◌}
use Rattle.std.specs.Prelude.{Some, None}
use Rattle.std.proofs.lemmas.Bool.{true≢false}
use Rattle.std.proofs.lemmas.Int.{ints}
use Rattle.profile.specs.series.Days.{days_before_year, days_of_months}
use Rattle.profile.specs.text.Trees.{Tree}
use Rattle.profile.specs.text.Values.{SpellsDate, SpellsLocal}
use Rattle.profile.specs.series.Zones.{Constant, Means}
use Rattle.profile.specs.series.RoomZones.{IsRoomZone}
use Rattle.profile.specs.events.Properties.{Fixed, Floating, WholeDay, Unsaid, Date, is_whole_day, time_kind, KindFault, IsDateText}
use Rattle.profile.specs.events.ZonedTimes.{SaysZonedTime, SaysEventTimes, IsInDates, InZoneFault, EventTimesFault, other_form}
use Rattle.profile.specs.events.EventComponents.{Store, Request, Cancel, Reply, names_by_fixed}
use Rattle.profile.specs.events.Occurrences.{Time}
use Rattle.profile.specs.rooms.Messages.{list_lines, instants_in, may_take}
use Rattle.profile.specs.events.Placed.{IsInstantIn}

-- ---- what VALUE allows

without_value : time_kind (codes "DTSTART:20250310") ≡ Unsaid
without_value = refl

a_date : time_kind (codes "DTSTART;VALUE=date:20250310") ≡ Date
a_date = refl

-- ---- texts

tenth_of_march : SpellsDate (codes "20250310") (pos 20_157)
unfolding days_before_year days_of_months
tenth_of_march = record { year = 2025; month = 3; day = 10; first = omega arith; last = omega arith; date = (omega arith, omega arith, omega arith, omega arith); spelled = refl; counted = refl }

eleventh_of_march : SpellsDate (codes "20250311") (pos 20_158)
unfolding days_before_year days_of_months
eleventh_of_march = record { year = 2025; month = 3; day = 11; first = omega arith; last = omega arith; date = (omega arith, omega arith, omega arith, omega arith); spelled = refl; counted = refl }

nine_local : SpellsLocal (codes "20250310T090000") (pos 1_741_597_200)
nine_local = record {
  date = codes "20250310";
  time = codes "090000";
  number = pos 20_157;
  second = 32_400;
  on = tenth_of_march;
  at_second = record { hour = 9; minute = 0; second = 0; hours = omega arith; minutes = omega arith; seconds = omega arith; spelled = refl; counted = refl };
  spelled = refl;
  counted = refl;
}

-- eight digits are a whole day, from its midnight on, with VALUE or without
a_whole_day : (object : Tree) → SaysZonedTime object (codes "DTSTART:20250310") WholeDay None (pos 1_741_564_800)
a_whole_day object = (refl, (refl, refl, (pos 20_157, tenth_of_march, refl)))

with_value : (object : Tree) → SaysZonedTime object (codes "DTSTART;VALUE=DATE:20250310") WholeDay None (pos 1_741_564_800)
with_value object = (refl, (refl, refl, (pos 20_157, tenth_of_march, refl)))

-- a local time without TZID floats
a_floating_time : (object : Tree) → SaysZonedTime object (codes "DTSTART:20250310T090000") Floating None (pos 1_741_597_200)
a_floating_time object = (refl, (refl, refl, nine_local))

-- where VALUE says DATE-TIME a date is malformed, and so is one beside TZID
no_date_time : (text : List ℕ) → 8 < length text → IsDateText text → ⊥
no_date_time text l d = let e : length text ≡ 8 = ap length d.1.spelled in absurd (omega arith)

a_time_as_a_date : KindFault Date (codes "20250310T090000Z") 11
a_time_as_a_date = (no_date_time (codes "20250310T090000Z") (omega arith), refl)

a_date_in_a_zone : (object : Tree) → InZoneFault object (codes "Z1") Date (codes "20250310") 11
a_date_in_a_zone object = inl refl

-- ---- the times of a VEVENT

utc_midnight : (t : ℤ) → Means (Constant (pos 0)) t t
utc_midnight t = inl (record { shown = (pos 0, refl, omega (arith, ints)); least = λ other (offset, e, h). omega (arith, ints, e, h) })

-- a whole day without an end lasts that day
lasts_a_day : (object : Tree) → SaysEventTimes object (codes "DTSTART;VALUE=DATE:20250310" ∷ [])
    (record { form = WholeDay; zone = None; local = pos 1_741_564_800; start = pos 1_741_564_800; length = record { days = 1; seconds = 0 } })
lasts_a_day object = record {
  line = codes "DTSTART;VALUE=DATE:20250310";
  once = refl;
  says = with_value object;
  means = utc_midnight (pos 1_741_564_800);
  end_line = None;
  duration_line = None;
  end_once = refl;
  duration_once = refl;
  lasts = refl;
  most = omega arith;
  in_dates = (omega (arith, ints), omega (arith, ints));
}

-- DTEND is the first day after it: one day, not two
lasts_to_the_eleventh : (object : Tree) → SaysEventTimes object (codes "DTSTART:20250310" ∷ codes "DTEND:20250311" ∷ [])
    (record { form = WholeDay; zone = None; local = pos 1_741_564_800; start = pos 1_741_564_800; length = record { days = 1; seconds = 0 } })
lasts_to_the_eleventh object = record {
  line = codes "DTSTART:20250310";
  once = refl;
  says = a_whole_day object;
  means = utc_midnight (pos 1_741_564_800);
  end_line = Some (codes "DTEND:20250311");
  duration_line = None;
  end_once = refl;
  duration_once = refl;
  lasts = (refl, (None, pos 1_741_651_200, (refl, (refl, refl, (pos 20_158, eleventh_of_march, refl))), utc_midnight (pos 1_741_651_200), (omega (arith, ints), omega (arith, ints))));
  most = omega arith;
  in_dates = (omega (arith, ints), omega (arith, ints));
}

-- a day and a time don't go together
day_and_time : (object : Tree) → EventTimesFault object (codes "DTSTART:20250310" ∷ codes "DTEND:20250310T090000" ∷ []) 57
day_and_time object = other_form (
  WholeDay,
  Floating,
  (codes "DTSTART:20250310", (0, omega arith, refl), (None, pos 1_741_564_800, a_whole_day object)),
  (codes "DTEND:20250310T090000", (0, omega arith, refl), (None, pos 1_741_597_200, (refl, (refl, refl, nine_local)))),
  λ e. true≢false (ap is_whole_day e),
)

-- the last day is no start, but an end
not_the_last_day : IsInDates false WholeDay false (pos 253_402_214_400) (pos 253_402_214_400) → ⊥
not_the_last_day (first, last) = omega (arith, ints, last)

ends_on_the_last_day : IsInDates true WholeDay false (pos 253_402_214_400) (pos 253_402_214_400)
ends_on_the_last_day = (omega (arith, ints), omega (arith, ints))

-- ---- instances are named by fixed times where they are stored or answered

by_fixed : (names_by_fixed (Some Store) ≡ true) × (names_by_fixed (Some Reply) ≡ true)
by_fixed = (refl, refl)

by_any : (names_by_fixed (Some Request) ≡ false) × (names_by_fixed (Some Cancel) ≡ false) × (names_by_fixed None ≡ false)
by_any = (refl, refl, refl)

-- ---- the lists of a body

a_fixed : ℤ → Time
a_fixed t = record { form = Fixed; instant = t }

a_day : ℤ → Time
a_day t = record { form = WholeDay; instant = t }

by_form : instants_in WholeDay (a_fixed (pos 5) ∷ a_day (pos 86_400) ∷ a_fixed (pos 7) ∷ []) ≡ pos 86_400 ∷ []
unfolding a_fixed a_day
by_form = refl

-- a fixed exception before the first date takes nothing away; of a day it depends on a zone
kept_exceptions : (may_take (a_fixed (pos 5)) ≡ true) × (may_take (a_day (pos 5)) ≡ true)
unfolding a_fixed a_day
kept_exceptions = (refl, refl)

day_lines : list_lines (codes "EXDATE;VALUE=DATE") (codes "20250310" ∷ codes "20250311" ∷ []) ≡ codes "EXDATE;VALUE=DATE:20250310,20250311" ∷ []
day_lines = refl

-- ---- in a room

-- fixed times are the same in each room
fixed_anywhere : IsInstantIn (Some (Constant (pos 3_600))) Fixed (pos 100) (pos 100)
fixed_anywhere = refl

-- an hour east of UTC a day begins an hour before that of UTC
a_day_to_the_east : IsInstantIn (Some (Constant (pos 3_600))) WholeDay (pos 86_400) (pos 82_800)
a_day_to_the_east = inl (record { shown = (pos 3_600, refl, refl); least = λ other (offset, e, h). omega (arith, ints, e, h) })

utc_in_words : IsRoomZone (codes "+0000") None
utc_in_words = refl
