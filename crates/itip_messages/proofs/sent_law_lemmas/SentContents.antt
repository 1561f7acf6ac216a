-- An event that is said again has the same content.
-- Behind requests_read_back, shown_reads_back.
use Rattle.std.proofs.Common.{◌≡◌, ◌∙◌, refl, sym, ap, subst, inl, inr, arith, ℤ, zero, suc, Bool, true, false, not, ◌||◌, cond, List, [], ◌∷◌, ◌++◌, ℕ, codes, filter, map, append-nil}
use Rattle.std.specs.Prelude.{◌↔◌, Contains}
use Rattle.std.proofs.lemmas.List.{map-append}
use Rattle.std.proofs.lemmas.List.Elements.{Contains-append_cases, filter-append}
use Rattle.profile.specs.events.EventComponents.{EventComponent, instants_of}
use Rattle.profile.specs.events.Properties.{BothOrNeither, Form, Fixed, Floating, WholeDay, is_fixed, is_floating, is_whole_day}
use Rattle.profile.specs.events.Occurrences.{Time}
use Rattle.profile.specs.events.ZonedTimes.{EventTimes, SpellsMidnight, clock_of}
use Rattle.profile.specs.rooms.Messages.{AreAscending, Content, IsContent, IsZoneRest, StartsIn, WritesListed, WritesRule, WritesTimes, instants_in, is_in_dates, is_of_form, may_take}
use Rattle.profile.specs.text.Values.{WritesLocal, WritesStamp, duration_text}
use Rattle.cal_events.proofs.shared_lemmas.InOneOrder.{in_filtered, in_mapped, of_filtered, of_mapped}
use Rattle.itip_messages.specs.SentLaw.{AreListedAgain, time_as, times_again}
use Rattle.itip_messages.proofs.body_lemmas.TimeLists.{of_form}

abbrev Lines : Type 0
Lines = List (List ℕ)

abbrev SameItems : List ℤ → List ℤ → Type 0
SameItems xs ys = (i : ℤ) → Contains xs i ↔ Contains ys i

abbrev SameTimes : List Time → List Time → Type 0
SameTimes xs ys = (form : Form) → SameItems (instants_in form xs) (instants_in form ys)

part_same : (Writes : List ℕ → ℤ → Type 0) (name : List ℕ) (xs ys : List ℤ) (lines : Lines) → SameItems xs ys → WritesTimes Writes name xs lines → WritesTimes Writes name ys lines
part_same Writes name xs ys lines same w = record {
  ascending = w.ascending;
  are = record { exact = λ i. (λ c. (same i).0 ((w.are.exact i).0 c), λ c. (w.are.exact i).1 ((same i).1 c)); order = w.are.order };
  texts = w.texts;
  each = w.each;
  is = w.is;
}

times_same : (name : List ℕ) (xs ys : List Time) (lines : Lines) → SameTimes xs ys → WritesListed name xs lines → WritesListed name ys lines
times_same name xs ys lines same w = record {
  fixed = w.fixed;
  floating = w.floating;
  days = w.days;
  in_utc = part_same WritesStamp name (instants_in Fixed xs) (instants_in Fixed ys) w.fixed (same Fixed) w.in_utc;
  local = part_same WritesLocal name (instants_in Floating xs) (instants_in Floating ys) w.floating (same Floating) w.local;
  dates = part_same SpellsMidnight (name ++ codes ";VALUE=DATE") (instants_in WholeDay xs) (instants_in WholeDay ys) w.days (same WholeDay) w.dates;
  are = w.are;
}

swapped : (xs ys : List Time) → SameTimes xs ys → SameTimes ys xs
swapped xs ys same form i = ((same form i).1, (same form i).0)

-- ---- times that are said again

all_of : (form : Form) (xs : List ℤ) → ((i : ℤ) → is_of_form form (time_as form i) ≡ true) → instants_in form (map (time_as form) xs) ≡ xs
all_of form [] h = refl
all_of form (x ∷ xs) h =
    ap (λ b. map (λ (t : Time). t.instant) (cond b (time_as form x ∷ filter (is_of_form form) (map (time_as form) xs)) (filter (is_of_form form) (map (time_as form) xs)))) (h x)
    ∙ ap (λ l. x ∷ l) (all_of form xs h)

none_of : (form other : Form) (xs : List ℤ) → ((i : ℤ) → is_of_form form (time_as other i) ≡ false) → instants_in form (map (time_as other) xs) ≡ []
none_of form other [] h = refl
none_of form other (x ∷ xs) h =
    ap (λ b. map (λ (t : Time). t.instant) (cond b (time_as other x ∷ filter (is_of_form form) (map (time_as other) xs)) (filter (is_of_form form) (map (time_as other) xs)))) (h x)
    ∙ none_of form other xs h

both_in : (form : Form) (xs ys : List Time) → instants_in form (xs ++ ys) ≡ instants_in form xs ++ instants_in form ys
both_in form xs ys =
    ap (map (λ (t : Time). t.instant)) (filter-append (is_of_form form) xs ys) ∙ map-append (λ (t : Time). t.instant) (filter (is_of_form form) xs) (filter (is_of_form form) ys)

three_in : (form : Form) (fixed floating days : List ℤ) → instants_in form (times_again fixed floating days)
    ≡ instants_in form (map (time_as Fixed) fixed) ++ instants_in form (map (time_as Floating) floating) ++ instants_in form (map (time_as WholeDay) days)
three_in form fixed floating days =
    both_in form (map (time_as Fixed) fixed ++ map (time_as Floating) floating) (map (time_as WholeDay) days)
    ∙ ap (λ l. l ++ instants_in form (map (time_as WholeDay) days)) (both_in form (map (time_as Fixed) fixed) (map (time_as Floating) floating))

fixed_again : (fixed floating days : List ℤ) → instants_in Fixed (times_again fixed floating days) ≡ fixed
fixed_again fixed floating days =
    three_in Fixed fixed floating days
    ∙ (λ i. all_of Fixed fixed (λ t. refl) i ++ none_of Fixed Floating floating (λ t. refl) i ++ none_of Fixed WholeDay days (λ t. refl) i) ∙ append-nil (fixed ++ []) ∙ append-nil fixed

floating_again : (fixed floating days : List ℤ) → instants_in Floating (times_again fixed floating days) ≡ floating
floating_again fixed floating days =
    three_in Floating fixed floating days
    ∙ (λ i. none_of Floating Fixed fixed (λ t. refl) i ++ all_of Floating floating (λ t. refl) i ++ none_of Floating WholeDay days (λ t. refl) i) ∙ append-nil floating

days_again : (fixed floating days : List ℤ) → instants_in WholeDay (times_again fixed floating days) ≡ days
days_again fixed floating days =
    three_in WholeDay fixed floating days ∙ (λ i. none_of WholeDay Fixed fixed (λ t. refl) i ++ none_of WholeDay Floating floating (λ t. refl) i ++ all_of WholeDay days (λ t. refl) i)

-- they are the same of each form
ascending_same : (instants ascending again : List ℤ) → AreAscending instants ascending → again ≡ ascending → SameItems instants again
ascending_same instants ascending again a e i = (λ c. subst (λ (l : List ℤ). Contains l i) (sym e) ((a.exact i).1 c), λ c. (a.exact i).0 (subst (λ (l : List ℤ). Contains l i) e c))

pub again_same : (times again : List Time) → AreListedAgain times again → SameTimes times again
again_same times again a Fixed = ascending_same (instants_in Fixed times) a.fixed (instants_in Fixed again) a.in_utc (ap (instants_in Fixed) a.are ∙ fixed_again a.fixed a.floating a.days)
again_same times again a Floating = ascending_same (instants_in Floating times) a.floating (instants_in Floating again) a.local (ap (instants_in Floating) a.are ∙ floating_again a.fixed a.floating a.days)
again_same times again a WholeDay = ascending_same (instants_in WholeDay times) a.days (instants_in WholeDay again) a.dates (ap (instants_in WholeDay) a.are ∙ days_again a.fixed a.floating a.days)

-- ---- their instants, whatever the form

form_itself : (time : Time) → is_of_form time.form time ≡ true
form_itself time = by time.form refl
  where
    by : (form : Form) → time.form ≡ form → is_of_form form time ≡ true
    by Fixed e = ap is_fixed e
    by Floating e = ap is_floating e
    by WholeDay e = ap is_whole_day e

in_some_form : (xs ys : List Time) → SameTimes xs ys → (t : ℤ) → Contains (instants_of xs) t → Contains (instants_of ys) t
in_some_form xs ys same t c =
    let at = of_mapped (λ (time : Time). time.instant) xs t c in
    let form = at.0.form in
    let own = in_mapped (λ (time : Time). time.instant) (filter (is_of_form form) xs) at.0 (in_filtered (is_of_form form) xs at.0 at.1 (form_itself at.0)) in
    let other = of_mapped (λ (time : Time). time.instant) (filter (is_of_form form) ys) t ((same form t).0 (subst (Contains (instants_in form xs)) at.2 own)) in
    subst (Contains (instants_of ys)) other.2 (in_mapped (λ (time : Time). time.instant) ys other.0 (of_filtered (is_of_form form) ys other.0 other.1).0)

-- those that are said again have the same instants
pub same_instants : (times again : List Time) → AreListedAgain times again → (t : ℤ) → Contains (instants_of times) t ↔ Contains (instants_of again) t
same_instants times again a t =
    let same = again_same times again a in (in_some_form times again same t, in_some_form again times (swapped times again same) t)

-- those that may take a start away are among all, and those where a start may be are among them
pub takes_some : (times : List Time) (t : ℤ) → Contains (instants_of (filter may_take times)) t → Contains (instants_of times) t
takes_some times t c =
    let at = of_mapped (λ (time : Time). time.instant) (filter may_take times) t c in
    subst (Contains (instants_of times)) at.2 (in_mapped (λ (time : Time). time.instant) times at.0 (of_filtered may_take times at.0 at.1).0)

pub takes_dated : (times : List Time) (t : ℤ) → Contains (instants_of times) t → is_in_dates t ≡ true → Contains (instants_of (filter may_take times)) t
takes_dated times t c h =
    let at = of_mapped (λ (time : Time). time.instant) times t c in
    let takes : may_take at.0 ≡ true = either (not (is_fixed at.0.form)) (is_in_dates at.0.instant) (ap is_in_dates at.2 ∙ h) in
    subst (Contains (instants_of (filter may_take times))) at.2 (in_mapped (λ (time : Time). time.instant) (filter may_take times) at.0 (in_filtered may_take times at.0 at.1 takes))
  where
    either : (a b : Bool) → b ≡ true → a || b ≡ true
    either true b e = refl
    either false b e = e

-- what was cut to those that may take a start away, and is cut to them again
all_kept : {X : Type 0} (p : X → Bool) (xs : List X) → ((x : X) → Contains xs x → p x ≡ true) → filter p xs ≡ xs
all_kept p [] f = refl
all_kept p (x ∷ xs) f = ap (λ b. cond b (x ∷ filter p xs) (filter p xs)) (f x (zero, omega arith, refl)) ∙ ap (λ l. x ∷ l) (all_kept p xs (λ y c. f y (suc c.0, omega (arith, c.1), c.2)))

may_each : (form : Form) (xs : List Time) (i : ℤ) → Contains (instants_in form (filter may_take xs)) i → may_take (time_as form i) ≡ true
may_each form xs i c = of_form form (filter may_take xs) (λ f t. may_take (time_as f t) ≡ true) (λ time d. (of_filtered may_take xs time d).1) i c

-- a time that is said again is one of these
of_again : (fixed floating days : List ℤ) (P : Time → Type 0) → ((i : ℤ) → Contains fixed i → P (time_as Fixed i)) → ((i : ℤ) → Contains floating i → P (time_as Floating i)) → ((i : ℤ) → Contains days i → P (time_as WholeDay i))
    → (time : Time) → Contains (times_again fixed floating days) time → P time
of_again fixed floating days P f g h time c = elim (Contains-append_cases (map (time_as Fixed) fixed ++ map (time_as Floating) floating) (map (time_as WholeDay) days) time c) [
  | inl d ↦
      elim (Contains-append_cases (map (time_as Fixed) fixed) (map (time_as Floating) floating) time d) [
        | inl k ↦ let r = of_mapped (time_as Fixed) fixed time k in subst P r.2 (f r.0 r.1)
        | inr k ↦ let r = of_mapped (time_as Floating) floating time k in subst P r.2 (g r.0 r.1)
      ]
  | inr d ↦ let r = of_mapped (time_as WholeDay) days time d in subst P r.2 (h r.0 r.1)
]

pub dates_same : (xs ys : List Time) → AreListedAgain (filter may_take xs) ys → SameTimes (filter may_take xs) (filter may_take ys)
dates_same xs ys a =
    let kept : filter may_take ys ≡ ys = all_kept may_take ys
    (λ time c. of_again a.fixed a.floating a.days (λ t. may_take t ≡ true) (λ i d. may_each Fixed xs i ((a.in_utc.exact i).0 d)) (λ i d. may_each Floating xs i ((a.local.exact i).0 d)) (λ i d. may_each WholeDay xs i ((a.dates.exact i).0 d))
    time (subst (λ (l : List Time). Contains l time) a.are c)) in
    subst (SameTimes (filter may_take xs)) (sym kept) (again_same (filter may_take xs) ys a)

-- so an event that is said again adds the same instants, and takes the same away where a start may be
pub added_same : (times again : List Time) (added back : List ℤ) → AreListedAgain times again → added ≡ instants_of times → back ≡ instants_of again → (t : ℤ) → Contains back t ↔ Contains added t
added_same times again added back a e f t =
    let same = same_instants times again a t in (
      λ c. subst (λ (l : List ℤ). Contains l t) (sym e) (same.1 (subst (λ (l : List ℤ). Contains l t) f c)),
      λ c. subst (λ (l : List ℤ). Contains l t) (sym f) (same.0 (subst (λ (l : List ℤ). Contains l t) e c)),
    )

pub taken_same : (times again : List Time) (taken back : List ℤ) → AreListedAgain (filter may_take times) again → taken ≡ instants_of times → back ≡ instants_of again
    → (t : ℤ) → Contains (filter is_in_dates back) t ↔ Contains (filter is_in_dates taken) t
taken_same times again taken back a e f t =
    let same = same_instants (filter may_take times) again a t in (
      λ c.
          let at = of_filtered is_in_dates back t c in
          let among = takes_some times t (same.1 (subst (λ (l : List ℤ). Contains l t) f at.0)) in
          in_filtered is_in_dates taken t (subst (λ (l : List ℤ). Contains l t) (sym e) among) at.1,
      λ c.
          let at = of_filtered is_in_dates taken t c in
          let among = same.0 (takes_dated times t (subst (λ (l : List ℤ). Contains l t) e at.0) at.1) in
          in_filtered is_in_dates back t (subst (λ (l : List ℤ). Contains l t) (sym f) among) at.1,
    )

abbrev WritesSame : EventComponent → EventComponent → Type 0
WritesSame event other = (lines : Lines) → WritesRule event.times.form (clock_of event.times.zone) event.rule lines → WritesRule event.times.form (clock_of event.times.zone) other.rule lines

one_way : (event other : EventComponent) → event.times ≡ other.times → SameTimes event.written.additions other.written.additions → SameTimes (filter may_take event.written.exceptions) (filter may_take other.written.exceptions) → WritesSame event other
    → (content : Content) → IsContent content event → IsContent content other
one_way event other times adds takes rule content c = record {
  start = c.start;
  starts = subst (λ (t : EventTimes). StartsIn t.form t.zone t c.start) times c.starts;
  rule = c.rule;
  recurs = subst (λ (t : EventTimes). WritesRule t.form (clock_of t.zone) other.rule c.rule) times (rule c.rule c.recurs);
  additions = c.additions;
  adds = times_same (codes "RDATE") event.written.additions other.written.additions c.additions adds c.adds;
  exceptions = c.exceptions;
  takes = times_same (codes "EXDATE") (filter may_take event.written.exceptions) (filter may_take other.written.exceptions) c.exceptions takes c.takes;
  are = c.are ∙ ap (λ (t : EventTimes). c.start ∷ (codes "DURATION:" ++ duration_text t.length.days t.length.seconds) ∷ (c.rule ++ (c.additions ++ c.exceptions))) times;
  in_zone = subst (λ (t : EventTimes). BothOrNeither IsZoneRest t.zone content.zone) times c.in_zone;
}

pub same_content : (event sent : EventComponent) → sent.times ≡ event.times → AreListedAgain event.written.additions sent.written.additions → AreListedAgain (filter may_take event.written.exceptions) sent.written.exceptions
    → ((lines : Lines) → WritesRule event.times.form (clock_of event.times.zone) event.rule lines ↔ WritesRule event.times.form (clock_of event.times.zone) sent.rule lines) → (content : Content) → IsContent content event ↔ IsContent content sent
same_content event sent times adds takes rule content =
    let items = again_same event.written.additions sent.written.additions adds in
    let dates = dates_same event.written.exceptions sent.written.exceptions takes in (
      one_way event sent (sym times) items dates (λ lines. (rule lines).0) content,
      one_way sent event times (swapped event.written.additions sent.written.additions items) (swapped (filter may_take event.written.exceptions) (filter may_take sent.written.exceptions) dates)
          (λ lines w. subst (λ (t : EventTimes). WritesRule t.form (clock_of t.zone) event.rule lines) (sym times) ((rule lines).1 (subst (λ (t : EventTimes). WritesRule t.form (clock_of t.zone) sent.rule lines) times w))) content,
    )
