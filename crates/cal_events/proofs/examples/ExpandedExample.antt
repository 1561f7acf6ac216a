-- What `expand` prints, worked by the definitions alone: nine seconds from 09:00Z on, on the first and the second of January 2025, of which
-- the first is moved to the time of the second.
use Rattle.std.proofs.Common.{◌≡◌, ◌∙◌, ℕ, zero, suc, false, List, [], ◌∷◌, ◌++◌, codes, lit<, sym, ap, subst, refl, inl, inr, arith, ℤ, pos}
use Rattle.std.specs.Prelude.{Some, None, Contains}
use Rattle.std.proofs.lemmas.Int.{ints}
use Rattle.std.proofs.lemmas.Fmt.{decimal_digit}
use Rattle.std.proofs.lemmas.Option.{same_Some}
use Rattle.profile.specs.series.Days.{days_before_year, days_of_months}
use Rattle.profile.specs.text.Values.{WritesStamp}
use Rattle.profile.specs.checker.Instances.{Key, Instance}
use Rattle.profile.specs.events.Properties.{Fixed}
use Rattle.profile.specs.events.ZonedTimes.{EventTimes}
use Rattle.profile.specs.events.Occurrences.{Time}
use Rattle.profile.specs.events.EventComponents.{EventComponent}
use Rattle.profile.specs.events.Events.{Event}
use Rattle.profile.specs.events.Starts.{EndsAt, IsInstance, IsOfOverride, key_at}
use Rattle.profile.specs.events.Expanding.{IsInstanceLine}
use Rattle.cal_events.proofs.shared_lemmas.OneInstance.{booked_same}

abbrev first : ℤ
first = pos 1_735_722_000

abbrev second : ℤ
second = pos 1_735_808_400

abbrev nine_seconds_from : ℤ → EventTimes
nine_seconds_from start = record { form = Fixed; zone = None; local = start; start = start; length = record { days = 0; seconds = 9 } }

-- a time in UTC
abbrev in_utc : ℤ → Time
in_utc instant = record { form = Fixed; instant = instant }

abbrev master : EventComponent
master = record {
  uid = codes "a";
  organiser = None;
  stamp = None;
  sequence = 0;
  cancelled = false;
  recurrence = None;
  times = nine_seconds_from first;
  rule = None;
  additions = second ∷ [];
  exceptions = [];
  written = record { recurrence = None; additions = in_utc second ∷ []; exceptions = [] };
  summary = [];
  attendees = [];
}

abbrev moved : EventComponent
moved = record {
  uid = codes "a";
  organiser = None;
  stamp = None;
  sequence = 0;
  cancelled = false;
  recurrence = Some first;
  times = nine_seconds_from second;
  rule = None;
  additions = [];
  exceptions = [];
  written = record { recurrence = Some (in_utc first); additions = []; exceptions = [] };
  summary = [];
  attendees = [];
}

abbrev meeting : Event
meeting = record { master = Some master; overrides = moved ∷ [] }

abbrev instance : Instance
instance = record { key = record { organiser = []; uid = codes "a"; slot = first }; start = second; end = pos 1_735_808_409 }

it_is : IsInstance meeting instance
it_is = inr (record { override = moved; is = (0, omega arith, refl); recurrence = refl; key = refl; starts = refl; ends = (second, inl (refl, refl), refl) })

ends_so : (b : Instance) → b.start ≡ second → EndsAt (nine_seconds_from second) b.start b.end → pos 1_735_808_409 ≡ b.end
ends_so b e (later, inl (z, f), g) = omega (arith, ints, e, f, g)
ends_so b e (later, inr (some, f), g) = absurd (omega (arith, some))

no_other : (b : Instance) → IsOfOverride meeting b → instance ≡ b
no_other b h = go h.is
  where
    go : Contains (moved ∷ []) h.override → instance ≡ b
    go (zero, w, e) =
        let slot : first ≡ b.key.slot = same_Some first b.key.slot (ap (λ (x : EventComponent). x.recurrence) e ∙ h.recurrence) in
        let start : b.start ≡ second = h.starts ∙ ap (λ (x : EventComponent). x.times.start) (sym e) in
        booked_same instance b
        (ap (λ t. record { organiser = []; uid = codes "a"; slot = t }) slot ∙ ap (λ (x : EventComponent). key_of_it x) e ∙ sym h.key) (sym start)
        (ends_so b start (subst (λ (x : EventComponent). EndsAt x.times b.start b.end) (sym e) h.ends))
      where
        key_of_it : EventComponent → Key
        key_of_it x = key_at x b.key.slot
    go (suc k, w, e) = absurd (omega (arith, w))

-- ---- its line

first_written : WritesStamp (codes "20250101T090000Z") first
unfolding days_before_year days_of_months
first_written = (
  codes "20250101T090000",
  record {
    date = codes "20250101";
    time = codes "090000";
    number = pos 20_089;
    second = 32_400;
    on = record { year = 2025; month = 1; day = 1; first = omega arith; last = omega arith; date = (omega arith, omega arith, omega arith, omega arith); spelled = refl; counted = refl };
    at_second = record { hour = 9; minute = 0; second = 0; hours = omega arith; minutes = omega arith; seconds = omega arith; spelled = refl; counted = refl };
    spelled = refl;
    counted = refl;
  },
  refl,
)

second_written : WritesStamp (codes "20250102T090000Z") second
unfolding days_before_year days_of_months
second_written = (
  codes "20250102T090000",
  record {
    date = codes "20250102";
    time = codes "090000";
    number = pos 20_090;
    second = 32_400;
    on = record { year = 2025; month = 1; day = 2; first = omega arith; last = omega arith; date = (omega arith, omega arith, omega arith, omega arith); spelled = refl; counted = refl };
    at_second = record { hour = 9; minute = 0; second = 0; hours = omega arith; minutes = omega arith; seconds = omega arith; spelled = refl; counted = refl };
    spelled = refl;
    counted = refl;
  },
  refl,
)

its_line : IsInstanceLine instance (codes "20250101T090000Z 20250102T090000Z 9\n")
its_line = record {
  slot = codes "20250101T090000Z";
  start = codes "20250102T090000Z";
  seconds = 9;
  writes_slot = first_written;
  writes_start = second_written;
  lasts = refl;
  is = sym (ap (λ (d : List ℕ). codes "20250101T090000Z" ++ codes " " ++ codes "20250102T090000Z" ++ codes " " ++ d ++ codes "\n") (decimal_digit 9 (lit< tt)));
}
