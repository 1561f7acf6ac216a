-- What the lines of a VEVENT say, worked by the definitions alone.
use Rattle.std.proofs.Common.{◌≡◌, true, false, List, [], ◌∷◌, ◌<◌, length, codes, inl, inr, refl, ap, arith, ℕ, pos, sym}
use Rattle.std.specs.Prelude.{Some, None}
use Rattle.std.proofs.lemmas.Bool.{true≢false}
use Rattle.std.proofs.lemmas.Int.{ints}
use Rattle.profile.specs.series.Days.{days_before_year, days_of_months}
use Rattle.profile.specs.text.Values.{SpellsStamp, SpellsLocal, SpellsDuration, unescaped}
use Rattle.profile.specs.text.Trees.{Tree}
use Rattle.profile.specs.events.EventComponents.{EventComponent, Accepted, Declined, Request, SaysEventComponent, EventComponentFault, has_accepted, in_presence, missing, ORGANIZER}
use Rattle.profile.specs.events.Properties.{Fixed, Floating, WholeDay, IsDateText, TimeFault}
use Rattle.profile.specs.events.ZonedTimes.{SpellsMidnight, SaysZonedTime, SaysNoStart}
use Rattle.cal_events.proofs.shared_lemmas.Meanings.{utc_means}

-- 2025-03-10T09:00:00Z is 1,741,597,200
nine_local : SpellsLocal (codes "20250310T090000") (pos 1_741_597_200)
unfolding days_before_year days_of_months
nine_local = record {
  date = codes "20250310";
  time = codes "090000";
  number = pos 20_157;
  second = 32_400;
  on = record { year = 2025; month = 3; day = 10; first = omega arith; last = omega arith; date = (omega arith, omega arith, omega arith, omega arith); spelled = refl; counted = refl };
  at_second = record { hour = 9; minute = 0; second = 0; hours = omega arith; minutes = omega arith; seconds = omega arith; spelled = refl; counted = refl };
  spelled = refl;
  counted = refl;
}

nine : SpellsStamp (codes "20250310T090000Z") (pos 1_741_597_200)
nine = (codes "20250310T090000", nine_local, refl)

ninety_minutes : SpellsDuration (codes "PT90M") 0 5_400
ninety_minutes = (
  codes "PT90M",
  (
    codes "T90M",
    inr (inr (inl (
      record {
        hour_part = [];
        minute_part = codes "90M";
        second_part = [];
        hours = 0;
        minutes = 90;
        seconds = 0;
        hour = inl (refl, refl);
        minute = inr (codes "90", (omega arith, (omega arith, (omega arith, tt)), refl), refl);
        second = inl (refl, refl);
        some = omega arith;
        spelled = refl;
        counted = refl;
      },
      refl,
    ))),
    refl,
  ),
  inl refl,
)

lines : List (List ℕ)
lines = codes "uid:a" ∷ codes "DTSTART;VALUE=date-time:20250310T090000Z" ∷ codes "DURATION:PT90M" ∷ codes "ATTENDEE;PARTSTAT=Accepted:MAILTO:Room@example.com" ∷ codes "ATTENDEE;PARTSTAT=DECLINED:mailto:room@example.com" ∷ []

said : EventComponent
said = record {
  uid = codes "a";
  organiser = None;
  stamp = None;
  sequence = 0;
  cancelled = false;
  recurrence = None;
  additions = [];
  exceptions = [];
  written = record { recurrence = None; additions = []; exceptions = [] };
  times = record { form = Fixed; zone = None; local = pos 1_741_597_200; start = pos 1_741_597_200; length = record { days = 0; seconds = 5_400 } };
  rule = None;
  summary = [];
  attendees = record { address = codes "mailto:room@example.com"; participation = Accepted; scheduled = true } ∷ record { address = codes "mailto:room@example.com"; participation = Declined; scheduled = true } ∷ [];
}

no_need : {A : Type 0} → false ≡ true → A
no_need h = absurd (true≢false (sym h))

-- the lines of a calendar's VEVENT say this event, in whatever object they are
say : (object : Tree) → SaysEventComponent object None lines said
unfolding lines said unescaped
say object = record {
  uid = record { line = Some (codes "uid:a"); once = refl; present = λ _. refl; is = (refl, (omega arith, omega arith)) };
  organiser = record { line = None; once = refl; present = no_need; is = tt };
  stamp = record { line = None; once = refl; present = no_need; is = tt };
  sequence = (None, record { line = None; once = refl; present = no_need; is = tt }, refl);
  status = (None, refl, refl);
  times = inl (record {
    line = codes "DTSTART;VALUE=date-time:20250310T090000Z";
    once = refl;
    says = (refl, nine);
    means = utc_means (pos 1_741_597_200);
    end_line = None;
    duration_line = Some (codes "DURATION:PT90M");
    end_once = refl;
    duration_once = refl;
    lasts = (ninety_minutes, tt);
    most = omega arith;
    in_dates = (omega (arith, ints), omega (arith, ints), omega (arith, ints));
  });
  rule = record { text = None; spells = record { line = None; once = refl; present = no_need; is = tt }; gives = tt };
  occurrences = record {
    is = record { line = None; once = refl; present = no_need; is = tt };
    fixed_recurrence = λ by_fixed. no_need by_fixed;
    adds = (tt, omega arith);
    inside = tt;
    takes = (tt, omega arith);
    alone = refl;
  };
  instants = record { slot = refl; added = refl; taken = refl };
  summary = refl;
  attendees = (
    record { address = ((codes "MAILTO", codes "Room@example.com", refl, refl, refl, omega arith), refl); participation = refl; scheduled = refl },
    (record { address = ((codes "mailto", codes "room@example.com", refl, refl, refl, omega arith), refl); participation = refl; scheduled = refl }, tt),
  );
}

-- the first answer counts: the room has accepted, and the event holds it for ninety minutes
accepts : has_accepted (codes "mailto:room@example.com") said ≡ true
unfolding said
accepts = refl

-- a message lacks an organiser there
lacks : (object : Tree) → EventComponentFault object (Some Request) lines 63
unfolding lines
lacks object = in_presence (missing ORGANIZER refl refl)

-- what is wrong with a start: VALUE decides first, then the text
a_period : TimeFault (codes "DTSTART;VALUE=Period:20250310T090000Z/PT1H") 56
a_period = refl

another_word : TimeFault (codes "DTSTART;VALUE=TEXT:20250310T090000Z") 11
another_word = refl

no_date : (text : List ℕ) → 8 < length text → IsDateText text → ⊥
no_date text l d = let e : length text ≡ 8 = ap length d.1.spelled in absurd (omega arith)

a_utc_time_as_a_date : TimeFault (codes "DTSTART;VALUE=DATE:20250310T090000Z") 11
a_utc_time_as_a_date = (no_date (codes "20250310T090000Z") (omega arith), refl)

a_floating_time_as_a_date : TimeFault (codes "DTSTART;VALUE=DATE:20250310T090000") 11
a_floating_time_as_a_date = (no_date (codes "20250310T090000") (omega arith), refl)

-- a time that isn't fixed: where VALUE is missing, the text says whether it is a date
tenth_of_march : SpellsMidnight (codes "20250310") (pos 1_741_564_800)
unfolding days_before_year days_of_months
tenth_of_march = (
  pos 20_157,
  record { year = 2025; month = 3; day = 10; first = omega arith; last = omega arith; date = (omega arith, omega arith, omega arith, omega arith); spelled = refl; counted = refl },
  refl,
)

a_date : (object : Tree) → SaysZonedTime object (codes "DTSTART;VALUE=DATE:20250310") WholeDay None (pos 1_741_564_800)
a_date object = (refl, (refl, refl, tenth_of_march))

a_date_unsaid : (object : Tree) → SaysZonedTime object (codes "DTSTART:20250310") WholeDay None (pos 1_741_564_800)
a_date_unsaid object = (refl, (refl, refl, tenth_of_march))

a_floating_time : (object : Tree) → SaysZonedTime object (codes "DTSTART:20250310T090000") Floating None (pos 1_741_597_200)
a_floating_time object = (refl, (refl, refl, nine_local))

-- a CANCEL may lack its start: then its times are those of nothing
no_start_said : (object : Tree) → SaysNoStart object (codes "UID:a" ∷ codes "DURATION:PT90M" ∷ []) (record { form = Fixed; zone = None; local = pos 0; start = pos 0; length = record { days = 0; seconds = 5_400 } })
no_start_said object = record {
  missing = refl;
  end_line = None;
  duration_line = Some (codes "DURATION:PT90M");
  end_once = refl;
  duration_once = refl;
  lasts = ninety_minutes;
  most = omega arith;
  form = refl;
  zone = refl;
  local = refl;
  start = refl;
}
