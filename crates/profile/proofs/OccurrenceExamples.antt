-- STATUS, RECURRENCE-ID, RDATE and EXDATE of a VEVENT, worked by the definitions alone.
use Rattle.std.proofs.Common.{◌≡◌, ℕ, true, false, List, [], ◌∷◌, codes, refl, inl, arith, pos, sym}
use Rattle.std.specs.Prelude.{Some, None}
use Rattle.std.proofs.lemmas.Bool.{true≢false}
use Rattle.std.proofs.lemmas.Int.{ints}
use Rattle.profile.specs.series.Days.{days_before_year, days_of_months}
use Rattle.profile.specs.text.Trees.{Tree}
use Rattle.profile.specs.text.Values.{SpellsStamp}
use Rattle.profile.specs.series.Zones.{Constant, Means}
use Rattle.profile.specs.events.Properties.{Fixed}
use Rattle.profile.specs.events.Occurrences.{Time, SaysStatus, has_range, entries_named, is_period, IsListed, IsInside, recurs_as_instance, SaysOccurrences, OccurrenceFault, bad_additions, recurs, in_entry}

-- ---- STATUS

cancelled : SaysStatus (codes "UID:a" ∷ codes "status:Cancelled" ∷ []) true
cancelled = (Some (codes "status:Cancelled"), refl, refl)

tentative : SaysStatus (codes "STATUS:TENTATIVE" ∷ []) false
tentative = (Some (codes "STATUS:TENTATIVE"), refl, refl)

no_status : SaysStatus (codes "UID:a" ∷ []) false
no_status = (None, refl, refl)

-- ---- lists

-- two lines of one property, the second with a TZID of its own
first : List ℕ
first = codes "RDATE:20250310T090000Z,20250312T090000Z"

second : List ℕ
second = codes "rdate;TZID=Z1:20250311T090000"

both : entries_named (codes "RDATE") (first ∷ codes "UID:a" ∷ second ∷ codes "EXDATE:20250310T090000Z" ∷ []) ≡ (first, codes "20250310T090000Z") ∷ (first, codes "20250312T090000Z") ∷ (second, codes "20250311T090000") ∷ []
unfolding first second
both = refl

-- an empty text is a text too, and is refused as one
an_empty_text : entries_named (codes "EXDATE") (codes "EXDATE:" ∷ []) ≡ (codes "EXDATE:", []) ∷ []
an_empty_text = refl

a_period : is_period (codes "RDATE") (codes "20250310T090000Z/PT1H") ≡ true
a_period = refl

no_period : is_period (codes "EXDATE") (codes "20250310T090000Z/PT1H") ≡ false
no_period = refl

a_range : has_range (codes "RECURRENCE-ID;RANGE=THISANDFUTURE:20250310T090000Z") ≡ true
a_range = refl

no_range : has_range (codes "RECURRENCE-ID;VALUE=DATE-TIME:20250310T090000Z") ≡ false
no_range = refl

-- ---- one VEVENT

nine : SpellsStamp (codes "20250310T090000Z") (pos 1_741_597_200)
unfolding days_before_year days_of_months
nine = (
  codes "20250310T090000",
  record {
    date = codes "20250310";
    time = codes "090000";
    number = pos 20_157;
    second = 32_400;
    on = record { year = 2025; month = 3; day = 10; first = omega arith; last = omega arith; date = (omega arith, omega arith, omega arith, omega arith); spelled = refl; counted = refl };
    at_second = record { hour = 9; minute = 0; second = 0; hours = omega arith; minutes = omega arith; seconds = omega arith; spelled = refl; counted = refl };
    spelled = refl;
    counted = refl;
  },
  refl,
)

at_nine : Means (Constant (pos 0)) (pos 1_741_597_200) (pos 1_741_597_200)
at_nine = inl (record { shown = (pos 0, refl, omega (arith, ints)); least = λ other (offset, e, h). omega (arith, ints, e, h) })

-- added and taken away again: a start that is both stays in both lists
lines : List (List ℕ)
lines = codes "UID:a" ∷ codes "RDATE:20250310T090000Z,20250310T090000Z" ∷ codes "EXDATE:20250310T090000Z" ∷ []

at_nine_written : Time
at_nine_written = record { form = Fixed; instant = pos 1_741_597_200 }

say : (object : Tree) → SaysOccurrences false false object lines (record { recurrence = None; additions = at_nine_written ∷ at_nine_written ∷ []; exceptions = at_nine_written ∷ [] })
unfolding lines at_nine_written
say object =
    let added : IsListed object (codes "RDATE") (codes "RDATE:20250310T090000Z,20250310T090000Z", codes "20250310T090000Z") at_nine_written = (refl, (None, pos 1_741_597_200, (refl, nine), at_nine)) in
    let inside : IsInside object (codes "RDATE:20250310T090000Z,20250310T090000Z", codes "20250310T090000Z") at_nine_written =
    (None, pos 1_741_597_200, (refl, nine), at_nine, (omega (arith, ints), omega (arith, ints), omega (arith, ints))) in
    record {
      is = record { line = None; once = refl; present = λ h. absurd (true≢false (sym h)); is = tt };
      fixed_recurrence = λ h. absurd (true≢false (sym h));
      adds = ((added, (added, tt)), omega arith);
      inside = (inside, (inside, tt));
      takes = (((refl, (None, pos 1_741_597_200, (refl, nine), at_nine)), tt), omega arith);
      alone = refl;
    }

-- ---- faults

-- RDATE beside RECURRENCE-ID is 67, EXDATE isn't
a_recurring_instance : (object : Tree) → OccurrenceFault false false object (codes "RECURRENCE-ID:20250310T090000Z" ∷ codes "RDATE:20250310T090000Z" ∷ []) 67
a_recurring_instance object = recurs refl

a_single_instance : recurs_as_instance false (codes "RECURRENCE-ID:20250310T090000Z" ∷ codes "EXDATE:20250310T090000Z" ∷ []) ≡ false
a_single_instance = refl

-- of what is added neither may recur
an_added_instance : (object : Tree) → OccurrenceFault true false object (codes "RDATE:20250310T090000Z" ∷ []) 67
an_added_instance object = recurs refl

an_added_one_with_exceptions : recurs_as_instance true (codes "EXDATE:20250310T090000Z" ∷ []) ≡ false
an_added_one_with_exceptions = refl

a_series_alone : recurs_as_instance false (codes "RRULE:FREQ=DAILY" ∷ codes "RDATE:20250310T090000Z" ∷ []) ≡ false
a_series_alone = refl

periods_are_56 : (object : Tree) → OccurrenceFault false false object (codes "RDATE:20250310T090000Z,20250310T090000Z/PT1H" ∷ []) 56
periods_are_56 object = bad_additions (in_entry (codes "RDATE:20250310T090000Z,20250310T090000Z/PT1H", codes "20250310T090000Z/PT1H") (1, omega arith, refl) (inl (refl, refl)))
