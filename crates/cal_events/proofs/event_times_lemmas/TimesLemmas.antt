-- What DTSTART, DTEND and DURATION say, put together.
-- Cited by SaidTimes::judge, judge_from, judge_alone, read_extent.
use Rattle.std.proofs.Common.{◌≡◌, ◌∙◌, ℕ, ◌≤◌, ◌==◌, Bool, true, false, cond, not, Less, Equal, Greater, List, codes, subst, sym, ap, refl, inl, inr, arith, ℤ, pos, ◌+ℤ◌, ◌*ℤ◌, ◌<ℤ◌}
use Rattle.std.specs.Prelude.{nat_lt, Option, Some, None, Result, Ok, Err, IfOk, IfErr, ◌⊎◌, ◌≢◌, ◌↔◌, IsTrue}
use Rattle.std.specs.Ordering.{is_lt, nat_cmp, ord_max}
use Rattle.std.proofs.lemmas.Bool.{true≢false}
use Rattle.std.proofs.lemmas.Bool.Decides.{nat_tests}
use denote.Enum.Bare.{sameb, same_true, differs_true, differs_false}
use Rattle.std.proofs.lemmas.Int.{ints}
use Rattle.profile.specs.text.Trees.{Tree}
use Rattle.profile.specs.text.Lines.{line_value}
use Rattle.profile.specs.text.Values.{IsClockSeconds, SpellsDuration, SpellsNegative, SpellsLong}
use Rattle.profile.specs.series.Zones.{Zone, Means}
use Rattle.profile.specs.events.Properties.{Form, Fixed, Floating, WholeDay, is_whole_day, Length, OccursAtMostOnce, SomeLine, length_seconds, LastsFor, IsNoDuration, IsNegativeOrLong}
use Rattle.profile.specs.events.ZonedTimes.{is_in_zone, clock_of, SaysZonedTime, SaysForm, EventTimes, IsInDates, IsCountedBy, LastsUntil, SaysNoStart, SaysInstant, SaysInDates, SaysOutOfDates, SaysEventTimes, EventTimesFault, bad_duration, ends_early, ends_late, ends_out, lasts_long, starts_out, other_form, part_of_day}
use Rattle.cal_events.specs.declared.event_times.Extent.{Extent}
use Rattle.cal_events.specs.declared.event_times.Extent.TheVariants.{To, For, Open}
use Rattle.cal_events.specs.declared.event_times.SaidEnd.{SaidEnd}
use Rattle.cal_events.specs.contracts.when.Form.{the_type}
use Rattle.cal_events.specs.declared.when.Form.{Form as Kept}
use Rattle.cal_events.specs.declared.when.Form.TheVariants as forms
use Rattle.cal_events.specs.declared.when.When.{When}
use Rattle.ical_lines.specs.declared.fault.Refusal.{Refusal}
use Rattle.ical_values.specs.declared.duration.Duration.{Duration}
use Rattle.cal_events.specs.Component.{length_of, form_of, form_said, zone_said, local_said, IsLengthTo, GivesLength, GivesAlone, ExtentFault, AloneFault, other_form as is_other, part_of_day as is_part, ends_early as lies_before, ends_late as lies_late, lasts_long as is_long}
use Rattle.cal_events.specs.Zoned.{ends_in, EndsSo, IsExtentIn, AreSaid, AreSaidAlone, IsExtentLine, MayHave}
use Rattle.cal_events.specs.Occurrences.{IsLineNamed}
use Rattle.cal_events.specs.Property.{IsLineOf}
use Rattle.cal_events.specs.declared.property.Property.TheVariants as durations
use Rattle.cal_events.specs.declared.property.Property.TheVariants.{Dtend}
use Rattle.ical_lines.specs.Text.{line_text}
use Rattle.ical_lines.specs.declared.line.Line.{Line}
use Rattle.profile.specs.faults.Blame.{Numbered}
use Rattle.profile.specs.series.ZoneBlame.{NumberedZone}
use Rattle.profile.specs.events.EventBlame.{EventBlame, IsWrong, beside, together}
use Rattle.profile.specs.events.EventComponents.{Method, DTSTART, DTEND, DURATION}
use Rattle.cal_events.proofs.shared_lemmas.EventLemmas.{some_line, IsNone, long_length}
use Rattle.cal_events.proofs.shared_lemmas.Meanings.{utc_instant}

abbrev Lines : Type 0
Lines = List (List ℕ)

-- ---- forms

-- what `==` and `!=` of two forms say
form_from : Form → Kept
form_from Fixed = forms.Fixed
form_from Floating = forms.Floating
form_from WholeDay = forms.WholeDay

from_of : (a : Kept) → form_from (form_of a) ≡ a
unfolding form_from
from_of forms.Fixed = refl
from_of forms.Floating = refl
from_of forms.WholeDay = refl

pub forms_differ : (a b : Kept) → not (sameb the_type a b) ≡ true → form_of a ≢ form_of b
forms_differ a b h e = differs_true the_type a b h (sym (from_of a) ∙ ap form_from e ∙ from_of b)

pub forms_same : (a b : Kept) → not (sameb the_type a b) ≡ false → form_of a ≡ form_of b
forms_same a b h = ap form_of (differs_false the_type tt a b h)

pub same_form : (a b : Kept) → sameb the_type a b ≡ true → form_of a ≡ form_of b
same_form a b h = ap form_of (same_true the_type tt a b h)

-- ---- an end, and the length up to it

-- the line says an end of this form, so many seconds after a start, in the dates or not
abbrev Ends : Tree → List ℕ → Form → ℤ → ℤ → Bool → Type 0
Ends object line form start seconds in_dates =
    (zone : Option Zone) × (local : ℤ) × SaysZonedTime object line form zone local × Means (clock_of zone) local (start +ℤ seconds)
    × (IsTrue in_dates ↔ IsInDates true form (is_in_zone line) local (start +ℤ seconds))

-- as it is said of a start of the same form
ends_alike : (object : Tree) (line : List ℕ) (form : Form) (start : ℤ) (end : SaidEnd) → form_of end.form ≡ form → EndsSo object line start end → Ends object line form start end.seconds end.in_dates
ends_alike object line form start end same h = subst (λ (f : Form). Ends object line f start end.seconds end.in_dates) same h

-- in the dates
ends_within : (object : Tree) (line : List ℕ) (form : Form) (start seconds : ℤ) (in_dates : Bool) → Ends object line form start seconds in_dates → IsTrue in_dates
    → SaysInDates true object line form (start +ℤ seconds)
ends_within object line form start seconds in_dates (zone, local, says, means, dates) within = (zone, local, says, means, dates.0 within)

-- an instant
ends_at : (object : Tree) (line : List ℕ) (form : Form) (start seconds : ℤ) (in_dates : Bool) → Ends object line form start seconds in_dates → SaysInstant object line form (start +ℤ seconds)
ends_at object line form start seconds in_dates (zone, local, says, means, dates) = (zone, local, says, means)

-- a date begins at a midnight, which by the clocks of UTC is the instant
midnight : (object : Tree) (line : List ℕ) (t : ℤ) → SaysInstant object line WholeDay t → (day : ℤ) × (t ≡ day *ℤ pos 86_400)
midnight object line t (_, local, (allowed, (name, alone, (day, date, is))), means) =
    (day, utc_instant local t (subst (λ (z : Option Zone). Means (clock_of z) local t) alone means) ∙ is)

-- the length is the seconds up to the end
between : (object : Tree) (first line : List ℕ) (form : Form) (start seconds : ℤ) (length : Length) → SaysInstant object first form start → SaysInstant object line form (start +ℤ seconds)
    → IsLengthTo form seconds length → IsCountedBy form length × (seconds ≡ pos (length_seconds length))
between object first line Fixed start seconds length a b (days, is) = (days, omega (arith, ints, days, is))
between object first line Floating start seconds length a b (days, is) = (days, omega (arith, ints, days, is))
between object first line WholeDay start seconds length a b (none, least, most) =
    let (d, p) = midnight object first start a in
    let (e, q) = midnight object line (start +ℤ seconds) b in
    (none, omega (arith, ints, none, least, most, p, q))

until : (object : Tree) (first line : List ℕ) (form : Form) (start seconds : ℤ) (in_dates : Bool) (length : Length) → SaysInstant object first form start
    → Ends object line form start seconds in_dates → IsLengthTo form seconds length → IsTrue in_dates → LastsUntil object form start line length
until object first line form start seconds in_dates length a ends is within =
    let h = between object first line form start seconds length a (ends_at object line form start seconds in_dates ends) is in
    (h.0, subst (λ (x : ℤ). SaysInDates true object line form (start +ℤ x)) h.1 (ends_within object line form start seconds in_dates ends within))

-- ---- the times together

abbrev pub judged : When → ℤ → Duration → EventTimes
judged start instant length = record { form = form_said start; zone = zone_said start; local = local_said start; start = instant; length = length_of length }

module _ (object : Tree) (lines : Lines) (start : When) (instant : ℤ) (in_dates : Bool) where
  -- the instant that DTSTART says
  instant_said : (extent : Extent) (a : AreSaid object lines start instant in_dates extent) → SaysInstant object a.line (form_said start) instant
  instant_said extent a = (zone_said start, local_said start, a.start_said.says, a.start_said.means)

  begins : (extent : Extent) → AreSaid object lines start instant in_dates extent → SomeLine (codes "DTSTART") (λ line. SaysInstant object line (form_said start) instant) lines
  begins extent a = some_line (codes "DTSTART") (λ line. SaysInstant object line (form_said start) instant) lines a.line a.once (instant_said extent a)

  -- its form
  formed : (extent : Extent) → AreSaid object lines start instant in_dates extent → SomeLine (codes "DTSTART") (λ line. SaysForm object line (form_said start)) lines
  formed extent a = some_line (codes "DTSTART") (λ line. SaysForm object line (form_said start)) lines a.line a.once (zone_said start, local_said start, a.start_said.says)

  pub times_said : (extent : Extent) (length : Duration) (stamp : ℤ) → stamp ≡ instant → AreSaid object lines start instant in_dates extent → GivesLength (form_said start) extent (length_of length)
      → length_seconds (length_of length) ≤ 31_622_400 → IsTrue in_dates → IsTrue (ends_in extent) → SaysEventTimes object lines (judged start stamp length)
  times_said extent length stamp same a gives most starts ends = subst (λ (t : ℤ). SaysEventTimes object lines (judged start t length)) (sym same) (go extent a gives ends)
    where
      go : (extent : Extent) → AreSaid object lines start instant in_dates extent → GivesLength (form_said start) extent (length_of length) → IsTrue (ends_in extent)
          → SaysEventTimes object lines (judged start instant length)
      go (To end) a (alike, is) within =
          let (line, once, none, time) = a.extent_in in
          let ends = ends_alike object line (form_said start) instant end alike time in
          record {
            line = a.line;
            once = a.once;
            says = a.start_said.says;
            means = a.start_said.means;
            end_line = Some line;
            duration_line = None;
            end_once = once;
            duration_once = none;
            lasts = until object a.line line (form_said start) instant end.seconds end.in_dates (length_of length) (instant_said (To end) a) ends is within;
            most = most;
            in_dates = a.start_said.dates.0 starts;
          }
      go (For duration) a (is, suits) within =
          let (line, none, once, lasts) = a.extent_in in
          record {
            line = a.line;
            once = a.once;
            says = a.start_said.says;
            means = a.start_said.means;
            end_line = None;
            duration_line = Some line;
            end_once = none;
            duration_once = once;
            lasts = (subst (λ (x : Length). LastsFor line x) (sym is) lasts, suits);
            most = most;
            in_dates = a.start_said.dates.0 starts;
          }
      go Open a is within =
          let (none, nothing) = a.extent_in in
          record {
            line = a.line;
            once = a.once;
            says = a.start_said.says;
            means = a.start_said.means;
            end_line = None;
            duration_line = None;
            end_once = none;
            duration_once = nothing;
            lasts = is;
            most = most;
            in_dates = a.start_said.dates.0 starts;
          }

  -- what is wrong with the length
  pub extent_judged : (extent : Extent) (n : ℕ) → AreSaid object lines start instant in_dates extent → ExtentFault (form_said start) extent n → EventTimesFault object lines n
  extent_judged extent n a (is_other end differ) =
      let (line, once, none, (zone, local, says, means, dates)) = a.extent_in in
      let last = some_line (codes "DTEND") (λ l. SaysForm object l (form_of end.form)) lines line once (zone, local, says) in
      other_form (form_said start, form_of end.form, formed extent a, last, λ e. differ (sym e))
  extent_judged extent n a (is_part duration whole part) =
      let (line, none, once, lasts) = a.extent_in in
      let first = subst (λ (f : Form). SomeLine (codes "DTSTART") (λ l. SaysForm object l f) lines) whole (formed extent a) in
      part_of_day (length_of duration, first, some_line (codes "DURATION") (λ l. LastsFor l (length_of duration)) lines line once lasts, part)
  extent_judged extent n a (lies_before end alike h) =
      let (line, once, none, time) = a.extent_in in
      let at = ends_at object line (form_said start) instant end.seconds end.in_dates (ends_alike object line (form_said start) instant end alike time) in
      let early : (instant +ℤ end.seconds) <ℤ instant = omega (arith, ints, h) in
      ends_early (form_said start, instant, instant +ℤ end.seconds, begins extent a, some_line (codes "DTEND") (λ l. SaysInstant object l (form_said start) (instant +ℤ end.seconds)) lines line once at, early)
  extent_judged extent n a (lies_late end alike h) =
      let (line, once, none, time) = a.extent_in in
      let at = ends_at object line (form_said start) instant end.seconds end.in_dates (ends_alike object line (form_said start) instant end alike time) in
      let late : (instant +ℤ pos 31_622_400) <ℤ (instant +ℤ end.seconds) = omega (arith, ints, h) in
      ends_late (form_said start, instant, instant +ℤ end.seconds, begins extent a, some_line (codes "DTEND") (λ l. SaysInstant object l (form_said start) (instant +ℤ end.seconds)) lines line once at, late)
  extent_judged extent n a (is_long duration h) =
      let (line, none, once, lasts) = a.extent_in in
      lasts_long (some_line (codes "DURATION") IsNegativeOrLong lines line once (inr (length_of duration, lasts, h)))

-- one of the two is outside

not_true : (b : Bool) → b ≡ false → IsTrue b → ⊥
not_true b is h = true≢false (sym h ∙ is)

end_out : (object : Tree) (lines : Lines) (start : ℤ) (extent : Extent) → IsExtentIn object lines start extent → ends_in extent ≡ false → EventTimesFault object lines 52
end_out object lines start (To end) (line, once, none, (zone, local, says, means, dates)) outside =
    ends_out (some_line (codes "DTEND") (SaysOutOfDates true object) lines line once
    (form_of end.form, zone, local, start +ℤ end.seconds, says, means, λ h. not_true end.in_dates outside (dates.1 h)))
end_out object lines start (For duration) r outside = absurd (true≢false outside)
end_out object lines start Open r outside = absurd (true≢false outside)

module _ (object : Tree) (lines : Lines) (start : When) (instant : ℤ) (in_dates : Bool) (extent : Extent) (a : AreSaid object lines start instant in_dates extent) where
  pub start_judged : in_dates ≡ false → EventTimesFault object lines 52
  start_judged outside =
      starts_out (some_line (codes "DTSTART") (SaysOutOfDates false object) lines a.line a.once
      (form_said start, zone_said start, local_said start, instant, a.start_said.says, a.start_said.means, λ w. not_true in_dates outside (a.start_said.dates.1 w)))

  pub end_judged : ends_in extent ≡ false → EventTimesFault object lines 52
  end_judged outside = end_out object lines instant extent a.extent_in outside

-- a start in the dates is an instant that a stamp can have
clocked : (object : Tree) (line : List ℕ) (form : Form) (zone : Option Zone) (local t : ℤ) → SaysZonedTime object line form zone local → Means (clock_of zone) local t
    → IsInDates false form (is_in_zone line) local t → IsClockSeconds t
clocked object line Fixed _ local t says means dates = (omega (arith, ints, dates.1), omega (arith, ints, dates.2))
clocked object line Floating _ local t (allowed, (name, alone, spells)) means dates =
    let e = utc_instant local t (subst (λ (z : Option Zone). Means (clock_of z) local t) alone means) in
    (omega (arith, ints, e, dates.0), omega (arith, ints, e, dates.1))
clocked object line WholeDay _ local t (allowed, (name, alone, spells)) means dates =
    let e = utc_instant local t (subst (λ (z : Option Zone). Means (clock_of z) local t) alone means) in
    (omega (arith, ints, e, dates.0), omega (arith, ints, e, dates.1))

pub within_clock : (object : Tree) (lines : Lines) (start : When) (instant : ℤ) (in_dates : Bool) (extent : Extent) → AreSaid object lines start instant in_dates extent → IsTrue in_dates → IsClockSeconds instant
within_clock object lines start instant in_dates extent a within =
    clocked object a.line (form_said start) (zone_said start) (local_said start) instant a.start_said.says a.start_said.means (a.start_said.dates.0 within)

-- ---- without a start

module _ (object : Tree) (lines : Lines) (times : EventTimes) where
  pub alone_said : (extent : Extent) → AreSaidAlone object lines extent → GivesAlone extent times.length → length_seconds times.length ≤ 31_622_400 → IsTrue (ends_in extent)
      → times.form ≡ Fixed → times.zone ≡ None → times.local ≡ pos 0 → times.start ≡ pos 0 → SaysNoStart object lines times
  alone_said (To end) a is most within f z l t =
      let (line, once, none, time) = a.extent_in in
      record {
        missing = a.missing;
        end_line = Some line;
        duration_line = None;
        end_once = once;
        duration_once = none;
        lasts = (is, (form_of end.form, pos 0 +ℤ end.seconds, ends_within object line (form_of end.form) (pos 0) end.seconds end.in_dates time within));
        most = most;
        form = f;
        zone = z;
        local = l;
        start = t;
      }
  alone_said (For duration) a is most within f z l t =
      let (line, none, once, lasts) = a.extent_in in
      record {
        missing = a.missing;
        end_line = None;
        duration_line = Some line;
        end_once = none;
        duration_once = once;
        lasts = subst (λ (x : Length). LastsFor line x) (sym is) lasts;
        most = most;
        form = f;
        zone = z;
        local = l;
        start = t;
      }
  alone_said Open a is most within f z l t =
      let (none, nothing) = a.extent_in in
      record {
        missing = a.missing;
        end_line = None;
        duration_line = None;
        end_once = none;
        duration_once = nothing;
        lasts = is;
        most = most;
        form = f;
        zone = z;
        local = l;
        start = t;
      }

pub alone_judged : (object : Tree) (lines : Lines) (extent : Extent) (n : ℕ) → AreSaidAlone object lines extent → AloneFault extent n → EventTimesFault object lines n
alone_judged object lines (To end) n a h = absurd h
alone_judged object lines Open n a h = absurd h
alone_judged object lines (For duration) n a (is_part d whole part) = absurd (true≢false (sym (ap is_whole_day whole)))
alone_judged object lines (For duration) n a (is_long d h) =
    let (line, none, once, lasts) = a.extent_in in
    lasts_long (some_line (codes "DURATION") IsNegativeOrLong lines line once (inr (length_of duration, lasts, h)))

pub alone_out : (object : Tree) (lines : Lines) (extent : Extent) → AreSaidAlone object lines extent → ends_in extent ≡ false → EventTimesFault object lines 52
alone_out object lines extent a outside = end_out object lines (pos 0) extent a.extent_in outside

-- ---- an end of the start's form

pub end_faulty : (r : Result Duration Refusal) (end : SaidEnd) (form : Form) → form_of end.form ≡ form
    → IfErr r (λ e. ((e.number ≡ 50) × (end.seconds <ℤ pos 0)) ⊎ ((e.number ≡ 51) × (pos 31_622_400 <ℤ end.seconds))) → IfErr r (λ e. ExtentFault form (To end) e.number)
end_faulty (Ok d) end form alike h = tt
end_faulty (Err e) end form alike h = go e.number h
  where
    go : (n : ℕ) → ((n ≡ 50) × (end.seconds <ℤ pos 0)) ⊎ ((n ≡ 51) × (pos 31_622_400 <ℤ end.seconds)) → ExtentFault form (To end) n
    go n (inl (k, early)) = subst (ExtentFault form (To end)) (sym k) (lies_before end alike early)
    go n (inr (k, late)) = subst (ExtentFault form (To end)) (sym k) (lies_late end alike late)

-- ---- with a start or without

pub ok_so : {A E : Type 0} (r : Result A E) (P Q : A → Type 0) → ((a : A) → P a → Q a) → IfOk r P → IfOk r Q
ok_so (Ok a) P Q so h = so a h
ok_so (Err e) P Q so h = tt

-- ---- DURATION alone

-- the fault of this number is in a text of it
abbrev pub IsBadDuration : List ℕ → ℕ → Type 0
IsBadDuration text n =
    ((n ≡ 12) ⊎ (n ≡ 51)) × (n ≡ 12 → IsNone text) × (n ≡ 12 → SpellsNegative text → ⊥) × (n ≡ 51 → SpellsNegative text ⊎ SpellsLong text)

pub bad_text : (text : List ℕ) (r : Result Duration Refusal) → IfErr r (λ e. (e.number ≡ 12) ⊎ (e.number ≡ 51)) → IfErr r (λ e. e.number ≡ 12 → IsNone text)
    → IfErr r (λ e. e.number ≡ 12 → SpellsNegative text → ⊥) → IfErr r (λ e. e.number ≡ 51 → SpellsNegative text ⊎ SpellsLong text)
    → IfErr r (λ e. IsBadDuration text e.number)
bad_text text (Ok d) refuses none positive long = tt
bad_text text (Err e) refuses none positive long = (refuses, none, positive, long)

pub wrong_duration : (line : List ℕ) (n : ℕ) → IsBadDuration (line_value line) n → IsWrong DURATION line n
wrong_duration line n (inl k, none, positive, long) = inl (k, none k)
wrong_duration line n (inr k, none, positive, long) = inr (k, long k)

pub duration_fault : (object : Tree) (lines : Lines) (line : List ℕ) (n : ℕ) → OccursAtMostOnce (codes "DURATION") lines (Some line) → IsBadDuration (line_value line) n
    → EventTimesFault object lines n
duration_fault object lines line n once (inl k, none, positive, long) =
    subst (EventTimesFault object lines) (sym k) (bad_duration (some_line (codes "DURATION") IsNoDuration lines line once (none k, positive k)))
duration_fault object lines line n once (inr k, none, positive, long) =
    subst (EventTimesFault object lines) (sym k)
    (lasts_long (some_line (codes "DURATION") IsNegativeOrLong lines line once (elim (long k) [ inl h ↦ inl h | inr h ↦ long_length line h ])))

-- ---- at which lines

abbrev pub IsLater : ℕ → ℕ → ℕ → Type 0
IsLater a b later = ((a ≤ b) × (later ≡ b)) ⊎ ((b ≤ a) × (later ≡ a))

pub later_is : (a b : ℕ) → IsLater a b (ord_max nat_cmp a b)
later_is a b = go (nat_lt b a) (b == a) refl
  where
    go : (p q : Bool) → nat_lt b a ≡ p → IsLater a b (cond (is_lt (cond p Less (cond q Equal Greater))) a b)
    go true q e = inr (grind (arith, nat_tests, e), refl)
    go false true e = inl (grind (arith, nat_tests, e), refl)
    go false false e = inl (grind (arith, nat_tests, e), refl)

pub extent_may : (form : Form) (extent : Extent) (n : ℕ) → ExtentFault form extent n → MayHave extent n
extent_may form extent n (is_other end differ) = refl
extent_may form extent n (is_part duration whole part) = refl
extent_may form extent n (lies_before end alike h) = refl
extent_may form extent n (lies_late end alike h) = refl
extent_may form extent n (is_long duration h) = refl

pub alone_may : (extent : Extent) (n : ℕ) → AloneFault extent n → MayHave extent n
alone_may (For duration) n h = extent_may Fixed (For duration) n h
alone_may (To end) n h = absurd h
alone_may Open n h = absurd h

-- only an end is outside
pub outside_may : (extent : Extent) → ends_in extent ≡ false → MayHave extent 52
outside_may (To end) h = refl
outside_may (For duration) h = absurd (true≢false h)
outside_may Open h = absurd (true≢false h)

module _ (m : Option Method) (zones : List NumberedZone) (event : Numbered) where
  pub extent_blamed : (extent : Extent) (n at : ℕ) → IsExtentLine event extent at → MayHave extent n → EventBlame m zones event n at
  extent_blamed (To end) n at line may = together DTEND may line
  extent_blamed (For duration) n at line may = together DURATION may line
  extent_blamed Open n at line may = absurd may

  pub start_blamed : (n at : ℕ) → IsLineNamed DTSTART event at → n ≡ 52 → EventBlame m zones event n at
  start_blamed n at line is = rw is (together DTSTART refl line)

  -- DTEND beside DURATION, at the later of both
  pub both_blamed : (end duration : Line) → IsLineOf Dtend event end → IsLineOf durations.Duration event duration → (later : ℕ)
      → IsLater end.number duration.number later → EventBlame m zones event 61 later
  both_blamed end duration first second later (inl (before, is)) =
      rw is (beside end.number DURATION DTEND before (inr (refl, refl)) (record { line = line_text duration; among = second.0; holds = second.1 }) (record { line = line_text end; among = first.0; holds = first.1 }))
  both_blamed end duration first second later (inr (before, is)) =
      rw is (beside duration.number DTEND DURATION before (inl (refl, refl)) (record { line = line_text end; among = first.0; holds = first.1 }) (record { line = line_text duration; among = second.0; holds = second.1 }))

-- ---- the days of a DURATION

abbrev OneReading : List ℕ → Type 0
OneReading text = (days seconds other_days other_seconds : ℕ) → SpellsDuration text days seconds → SpellsDuration text other_days other_seconds
    → (days ≡ other_days) × (seconds ≡ other_seconds)
