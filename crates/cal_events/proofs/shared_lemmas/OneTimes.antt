-- The lines of a VEVENT say its times in at most one way, and not at all where they have a fault.
-- Behind Calendar::of_object of calendar, Calendar::read of calendar, EventComponent::read of component, EventComponent::series of component, EventComponent::singles of component, EventComponent::singles_at of component and 17 more.
use Rattle.std.proofs.Common.{◌≡◌, ℕ, ◌+◌, ◌*◌, ◌≤◌, Bool, true, false, List, length, codes, subst, sym, ap, ◌∙◌, inl, inr, arith, ℤ, pos, ◌+ℤ◌, ◌<ℤ◌}
use Rattle.std.specs.Prelude.{Option, Some, None, is_some}
use Rattle.std.proofs.lemmas.Bool.{true≢false}
use Rattle.std.proofs.lemmas.Int.{ints}
use Rattle.std.proofs.lemmas.Option.{same_Some}
use Rattle.profile.specs.text.Lines.{line_value, line_param}
use Rattle.profile.specs.text.Trees.{Tree}
use Rattle.profile.specs.text.Values.{SpellsDuration, SpellsNegative}
use Rattle.profile.specs.series.Zones.{Zone, Constant, IsOneMeaning, Means}
use Rattle.profile.specs.events.Properties.{lines_named, IsMissing, OccursAtMostOnce, SomeLine, Form, Fixed, Floating, WholeDay, Length, length_seconds, LastsFor, IsNegativeOrLong}
use Rattle.profile.specs.events.ZonedTimes.{zone_named, is_in_zone, SaysZoneOf, SpellsZoned, SaysZonedText, SaysZonedTime, clock_of, SaysInstant, IsInDates, SaysInDates, SaysOutOfDates, ZonedTextFault, SaysForm, EventTimes, IsCountedBy, SuitsForm, LastsUntil, LastsSo, LastsAlone, SaysEventTimes, SaysNoStart, SaysTimes, StartAndEndLie, EventTimesFault, bad_start, bad_end, bad_duration, ends_early, ends_late, lasts_long, starts_out, ends_out, other_form, part_of_day, end_and_duration}
use Rattle.profile.specs.events.Occurrences.{IsOutside}
use Rattle.ical_tree.proofs.OneLine.{IsFunctional, same_option, only_line}
use Rattle.cal_events.proofs.shared_lemmas.Meanings.{one_meaning}

abbrev pub Lines : Type 0
Lines = List (List ℕ)

abbrev pub OneZonedTime : Type 0
OneZonedTime =
    (object : Tree) (line text : List ℕ) (f g : Form) (a b : Option Zone) (s t : ℤ) → SaysZonedText object line text f a s → SaysZonedText object line text g b t
    → (f ≡ g) × (a ≡ b) × (s ≡ t)

abbrev pub NoTimeFault : Type 0
NoTimeFault = (object : Tree) (line text : List ℕ) (f : Form) (a : Option Zone) (s : ℤ) (n : ℕ) → SaysZonedText object line text f a s → ZonedTextFault object line text n → ⊥

abbrev pub OneDuration : Type 0
OneDuration = (text : List ℕ) (d s e t : ℕ) → SpellsDuration text d s → SpellsDuration text e t → (d ≡ e) × (s ≡ t)

abbrev pub NotBoth : Type 0
NotBoth = (text : List ℕ) (d s : ℕ) → SpellsDuration text d s → SpellsNegative text → ⊥

pub same_line : (name : List ℕ) (lines : Lines) (a b : Option (List ℕ)) → OccursAtMostOnce name lines a → OccursAtMostOnce name lines b → a ≡ b
same_line name lines a b h k = same_option a b (sym h ∙ k)

pub at_most_one : (name : List ℕ) (lines : Lines) (l : Option (List ℕ)) → OccursAtMostOnce name lines l → length (lines_named name lines) ≤ 1
at_most_one name lines None h = let e : length (lines_named name lines) ≡ 0 = ap length h in omega arith
at_most_one name lines (Some x) h = let e : length (lines_named name lines) ≡ 1 = ap length h in omega arith

abbrev pub IsLone : Lines → List ℕ → Type 0
IsLone lines name = length (lines_named name lines) ≤ 1

-- ---- one instant

-- a time that isn't fixed is of no zone
pub some_zone : {A B : Type 0} (zone : Zone) → A × (Some zone ≡ None) × B → ⊥
some_zone zone (a, is, b) = true≢false (ap is_some is)

-- the clocks of what a text says show a local time at one instant
pub clock_one : (object : Tree) (line text : List ℕ) (form : Form) (zone : Option Zone) (local : ℤ) → SaysZonedText object line text form zone local → IsOneMeaning (clock_of zone)
clock_one object line text form None local h = one_meaning (Constant (pos 0)) tt
clock_one object line text Floating (Some zone) local h = absurd (some_zone zone h.1)
clock_one object line text WholeDay (Some zone) local h = absurd (some_zone zone h.1)
clock_one object line text Fixed (Some zone) local h = spelled (line_param (codes "TZID") line) h.1
  where
    named : (o : Option Tree) → SaysZoneOf o zone → IsOneMeaning zone
    named None says = absurd says
    named (Some part) says = one_meaning zone says.matched

    spelled : (o : Option (List ℕ)) → SpellsZoned object o text (Some zone) local → IsOneMeaning zone
    spelled None says = absurd says
    spelled (Some name) says = named (zone_named name object) says.1

-- the instant that a text says
abbrev SaysText : Tree → List ℕ → List ℕ → Form → ℤ → Type 0
SaysText object line text form t = (zone : Option Zone) × (local : ℤ) × SaysZonedText object line text form zone local × Means (clock_of zone) local t

-- a text says one time, and one instant
pub text_instant : OneZonedTime → (object : Tree) (line text : List ℕ) (f g : Form) (s t : ℤ) → SaysText object line text f s → SaysText object line text g t → (f ≡ g) × (s ≡ t)
text_instant one object line text f g s t (zone, local, says, means) (other, clock, said, meant) =
    let e = one object line text f g zone other local clock says said in
    let means' = subst (λ (l : ℤ). Means (clock_of other) l s) e.2 (subst (λ (z : Option Zone). Means (clock_of z) local s) e.1 means) in
    (e.0, clock_one object line text g other clock said clock s t means' meant)

pub one_instant : OneZonedTime → (object : Tree) (line : List ℕ) (f g : Form) (s t : ℤ) → SaysInstant object line f s → SaysInstant object line g t → (f ≡ g) × (s ≡ t)
one_instant one object line f g s t h k = text_instant one object line (line_value line) f g s t h k

pub dated : (is_end : Bool) (object : Tree) (line : List ℕ) (form : Form) (t : ℤ) → SaysInDates is_end object line form t → SaysInstant object line form t
dated is_end object line form t (zone, local, says, means, dates) = (zone, local, says, means)

-- an instant that is in the dates isn't outside
text_is_in : OneZonedTime → (is_end : Bool) (object : Tree) (line text : List ℕ) (f g : Form) (zone other : Option Zone) (local clock t instant : ℤ) → SaysZonedText object line text f zone local
    → Means (clock_of zone) local t → SaysZonedText object line text g other clock → Means (clock_of other) clock instant → IsInDates is_end f (is_in_zone line) local t
    → IsInDates is_end g (is_in_zone line) clock instant
text_is_in one is_end object line text f g zone other local clock t instant says means said meant dates =
    let e = one object line text f g zone other local clock says said in
    let i = text_instant one object line text f g t instant (zone, local, says, means) (other, clock, said, meant) in
    subst (λ (x : ℤ). IsInDates is_end g (is_in_zone line) clock x) i.1
    (subst (λ (l : ℤ). IsInDates is_end g (is_in_zone line) l t) e.2 (subst (λ (x : Form). IsInDates is_end x (is_in_zone line) local t) e.0 dates))

pub text_not_out : OneZonedTime → (object : Tree) (line text : List ℕ) (form : Form) (zone : Option Zone) (local t : ℤ) → SaysZonedText object line text form zone local
    → Means (clock_of zone) local t → IsInDates false form (is_in_zone line) local t → IsOutside object (line, text) → ⊥
text_not_out one object line text form zone local t says means dates (time, other, clock, said, meant, out) =
    out (text_is_in one false object line text form time.form zone other local clock t time.instant says means said meant dates)

pub not_out : OneZonedTime → (is_end : Bool) (object : Tree) (line : List ℕ) (form : Form) (zone : Option Zone) (local t : ℤ) → SaysZonedTime object line form zone local
    → Means (clock_of zone) local t → IsInDates is_end form (is_in_zone line) local t → SaysOutOfDates is_end object line → ⊥
not_out one is_end object line form zone local t says means dates (another, other, clock, instant, said, meant, out) =
    out (text_is_in one is_end object line (line_value line) form another zone other local clock t instant says means said meant dates)

-- ---- one length

length_same : (a b : Length) → a.days ≡ b.days → a.seconds ≡ b.seconds → a ≡ b
length_same a b p q = λ i. record { days = p i; seconds = q i }

pub length_one : OneDuration → IsFunctional LastsFor
length_one one line a b h k = let e = one (line_value line) a.days a.seconds b.days b.seconds h k in length_same a b e.0 e.1

-- lengths that are counted alike and come to as many seconds
pub counted_same : (form : Form) (a b : Length) → IsCountedBy form a → IsCountedBy form b → length_seconds a ≡ length_seconds b → a ≡ b
counted_same Fixed a b h k e = length_same a b (h ∙ sym k) (omega (arith, h, k, e))
counted_same Floating a b h k e = length_same a b (h ∙ sym k) (omega (arith, h, k, e))
counted_same WholeDay a b h k e = length_same a b (omega (arith, h, k, e)) (h ∙ sym k)

same_length : OneZonedTime → OneDuration → (object : Tree) (form : Form) (start : ℤ) (e d : Option (List ℕ)) (a b : Length) → LastsSo object form start e d a → LastsSo object form start e d b → a ≡ b
same_length one two object form start None None a b h k = h ∙ sym k
same_length one two object form start None (Some l) a b h k = length_one two l a b h.0 k.0
same_length one two object form start (Some l) None a b h k =
    let first = start +ℤ pos (length_seconds a) in
    let second = start +ℤ pos (length_seconds b) in
    let e = one_instant one object l form form first second (dated true object l form _ h.1) (dated true object l form _ k.1) in
    counted_same form a b h.0 k.0 (omega (arith, ints, e.1))
same_length one two object form start (Some l) (Some o) a b h k = absurd h

-- ---- one event's times

times_same : (a b : EventTimes) → a.form ≡ b.form → a.zone ≡ b.zone → a.local ≡ b.local → a.start ≡ b.start → a.length ≡ b.length → a ≡ b
times_same a b f p q r s = λ i. record { form = f i; zone = p i; local = q i; start = r i; length = s i }

pub one_times : OneZonedTime → OneDuration → (object : Tree) (lines : Lines) (a b : EventTimes) → SaysEventTimes object lines a → SaysEventTimes object lines b → a ≡ b
one_times one two object lines a b s t =
    let line : s.line ≡ t.line = same_Some s.line t.line (same_line (codes "DTSTART") lines (Some s.line) (Some t.line) s.once t.once) in
    let says : SaysZonedTime object t.line a.form a.zone a.local = subst (λ (l : List ℕ). SaysZonedTime object l a.form a.zone a.local) line s.says in
    let e = one object t.line (line_value t.line) a.form b.form a.zone b.zone a.local b.local says t.says in
    let start = (one_instant one object t.line a.form b.form a.start b.start (a.zone, a.local, says, s.means) (b.zone, b.local, t.says, t.means)).1 in
    let end = same_line (codes "DTEND") lines s.end_line t.end_line s.end_once t.end_once in
    let duration = same_line (codes "DURATION") lines s.duration_line t.duration_line s.duration_once t.duration_once in
    let lasts : LastsSo object b.form b.start t.end_line t.duration_line a.length =
    subst (λ (d : Option (List ℕ)). LastsSo object b.form b.start t.end_line d a.length) duration
    (subst (λ (x : Option (List ℕ)). LastsSo object b.form b.start x s.duration_line a.length) end
    (subst (λ (x : ℤ). LastsSo object b.form x s.end_line s.duration_line a.length) start
    (subst (λ (f : Form). LastsSo object f a.start s.end_line s.duration_line a.length) e.0 s.lasts))) in
    times_same a b e.0 e.1 e.2 start (same_length one two object b.form b.start t.end_line t.duration_line a.length b.length lasts t.lasts)

-- without a start

same_alone : OneDuration → (object : Tree) (e d : Option (List ℕ)) (a b : Length) → LastsAlone object e d a → LastsAlone object e d b → a ≡ b
same_alone two object None None a b h k = h ∙ sym k
same_alone two object None (Some l) a b h k = length_one two l a b h k
same_alone two object (Some l) None a b h k = h.0 ∙ sym k.0
same_alone two object (Some l) (Some o) a b h k = absurd h

one_alone : OneDuration → (object : Tree) (lines : Lines) (a b : EventTimes) → SaysNoStart object lines a → SaysNoStart object lines b → a ≡ b
one_alone two object lines a b s t =
    let end = same_line (codes "DTEND") lines s.end_line t.end_line s.end_once t.end_once in
    let duration = same_line (codes "DURATION") lines s.duration_line t.duration_line s.duration_once t.duration_once in
    let lasts : LastsAlone object t.end_line t.duration_line a.length =
    subst (λ (d : Option (List ℕ)). LastsAlone object t.end_line d a.length) duration (subst (λ (x : Option (List ℕ)). LastsAlone object x s.duration_line a.length) end s.lasts) in
    times_same a b (s.form ∙ sym t.form) (s.zone ∙ sym t.zone) (s.local ∙ sym t.local) (s.start ∙ sym t.start) (same_alone two object t.end_line t.duration_line a.length b.length lasts t.lasts)

-- a start is there, or is missing
there_or_missing : (lines : Lines) (line : List ℕ) → OccursAtMostOnce (codes "DTSTART") lines (Some line) → IsMissing (codes "DTSTART") lines → ⊥
there_or_missing lines line once missing = let k : 0 ≡ 1 = sym (ap length missing) ∙ ap length once in absurd (omega (arith, k))

pub one_times_by : OneZonedTime → OneDuration → {may : Bool} (object : Tree) (lines : Lines) (a b : EventTimes) → SaysTimes may object lines a → SaysTimes may object lines b → a ≡ b
one_times_by one two object lines a b (inl s) (inl t) = one_times one two object lines a b s t
one_times_by one two object lines a b (inl s) (inr (_, t)) = absurd (there_or_missing lines s.line s.once t.missing)
one_times_by one two object lines a b (inr (_, s)) (inl t) = absurd (there_or_missing lines t.line t.once s.missing)
one_times_by one two object lines a b (inr (_, s)) (inr (_, t)) = one_alone two object lines a b s t

-- the clocks of an event's times show a local time at one instant
pub clock_by : {may : Bool} (object : Tree) (lines : Lines) (t : EventTimes) → SaysTimes may object lines t → IsOneMeaning (clock_of t.zone)
clock_by object lines t (inl s) = clock_one object s.line (line_value s.line) t.form t.zone t.local s.says
clock_by object lines t (inr (_, s)) = subst (λ (z : Option Zone). IsOneMeaning (clock_of z)) (sym s.zone) (one_meaning (Constant (pos 0)) tt)

-- ---- there is no fault where times are said

module _ (one : OneZonedTime) (none : NoTimeFault) (two : OneDuration) (apart : NotBoth) (object : Tree) (lines : Lines) (times : EventTimes) (s : SaysEventTimes object lines times) where
  -- the start that is there
  start_is : (P : List ℕ → Type 0) (l : SomeLine (codes "DTSTART") P lines) → s.line ≡ l.0
  start_is P l = same_Some s.line l.0 (only_line (codes "DTSTART") lines (Some s.line) l.0 s.once l.1)

  -- the end that is there
  end_said : (P : List ℕ → Type 0) (l : SomeLine (codes "DTEND") P lines) → LastsUntil object times.form times.start l.0 times.length
  end_said P l = go s.end_line s.duration_line (only_line (codes "DTEND") lines s.end_line l.0 s.end_once l.1) s.lasts
    where
      go : (e d : Option (List ℕ)) → e ≡ Some l.0 → LastsSo object times.form times.start e d times.length → LastsUntil object times.form times.start l.0 times.length
      go None d h lasts = cc
      go (Some x) (Some o) h lasts = absurd lasts
      go (Some x) None h lasts = subst (λ (y : List ℕ). LastsUntil object times.form times.start y times.length) (same_Some x l.0 h) lasts

  -- the DURATION that is there
  duration_suits : (P : List ℕ → Type 0) (l : SomeLine (codes "DURATION") P lines) → LastsFor l.0 times.length × SuitsForm times.form times.length
  duration_suits P l = go s.end_line s.duration_line (only_line (codes "DURATION") lines s.duration_line l.0 s.duration_once l.1) s.lasts
    where
      go : (e d : Option (List ℕ)) → d ≡ Some l.0 → LastsSo object times.form times.start e d times.length → LastsFor l.0 times.length × SuitsForm times.form times.length
      go e None h lasts = cc
      go (Some x) (Some o) h lasts = absurd lasts
      go None (Some o) h lasts = (subst (λ (y : List ℕ). LastsFor y times.length) (same_Some o l.0 h) lasts.0, lasts.1)

  duration_said : (P : List ℕ → Type 0) (l : SomeLine (codes "DURATION") P lines) → LastsFor l.0 times.length
  duration_said P l = (duration_suits P l).0

  -- the start that is there, as the times say it
  start_said : (P : List ℕ → Type 0) (l : SomeLine (codes "DTSTART") P lines) → SaysZonedTime object l.0 times.form times.zone times.local
  start_said P l = subst (λ (x : List ℕ). SaysZonedTime object x times.form times.zone times.local) (start_is P l) s.says

  -- whatever is said of the start and the end that are there is of the form of the times
  start_form : (form : Form) (l : SomeLine (codes "DTSTART") (λ line. SaysForm object line form) lines) → times.form ≡ form
  start_form form l = (one object l.0 (line_value l.0) times.form form times.zone l.2.0 times.local l.2.1 (start_said _ l) l.2.2).0

  end_form : (form : Form) (l : SomeLine (codes "DTEND") (λ line. SaysForm object line form) lines) → times.form ≡ form
  end_form form l = let until = (end_said _ l).1 in (one object l.0 (line_value l.0) times.form form until.0 l.2.0 until.1 l.2.1 until.2 l.2.2).0

  -- the start and the end that are there are those of the times
  ends_said : (R : ℤ → ℤ → Type 0) → StartAndEndLie object R lines → R times.start (times.start +ℤ pos (length_seconds times.length))
  ends_said R (form, start, end, first, last, r) =
      let here : SaysInstant object first.0 times.form times.start = (times.zone, times.local, start_said _ first, s.means) in
      let a = one_instant one object first.0 times.form form times.start start here first.2 in
      let until = end_said _ last in
      let b = one_instant one object last.0 times.form form (times.start +ℤ pos (length_seconds times.length)) end (dated true object last.0 times.form _ until.1) last.2 in
      subst (λ (z : ℤ). R times.start z) (sym b.1) (subst (λ (z : ℤ). R z end) (sym a.1) r)

  pub no_times_fault : (n : ℕ) → EventTimesFault object lines n → ⊥
  no_times_fault n (bad_start l) = none object l.0 (line_value l.0) times.form times.zone times.local n (start_said _ l) l.2
  no_times_fault n (bad_end l) = let until = (end_said _ l).1 in none object l.0 (line_value l.0) times.form until.0 until.1 n until.2 l.2
  no_times_fault n (bad_duration l) = l.2.0 times.length.days times.length.seconds (duration_said _ l)
  no_times_fault n (ends_early x) = let h = ends_said (λ start end. end <ℤ start) x in absurd (omega (arith, ints))
  no_times_fault n (ends_late x) =
      let h = ends_said (λ start end. (start +ℤ pos 31_622_400) <ℤ end) x in
      let most : 86_400 * times.length.days + times.length.seconds ≤ 31_622_400 = s.most in
      absurd (omega (arith, ints))
  no_times_fault n (lasts_long (line, at, inl negative)) =
      apart (line_value line) times.length.days times.length.seconds (duration_said IsNegativeOrLong (line, at, inl negative)) negative
  no_times_fault n (lasts_long (line, at, inr (length, lasts, long))) =
      let e = length_one two line times.length length (duration_said IsNegativeOrLong (line, at, inr (length, lasts, long))) lasts in
      let most : length_seconds length ≤ 31_622_400 = subst (λ (x : Length). length_seconds x ≤ 31_622_400) e s.most in
      absurd (omega arith)
  no_times_fault n (starts_out l) =
      not_out one false object s.line times.form times.zone times.local times.start s.says s.means s.in_dates (subst (λ (x : List ℕ). SaysOutOfDates false object x) (sym (start_is _ l)) l.2)
  no_times_fault n (ends_out l) = let until = (end_said _ l).1 in not_out one true object l.0 times.form until.0 until.1 _ until.2 until.3 until.4 l.2
  no_times_fault n (other_form (start, end, first, last, differ)) = differ (sym (start_form start first) ∙ end_form end last)
  no_times_fault n (part_of_day (length, first, (line, at, lasts), part)) =
      let suits = duration_suits (λ l. LastsFor l length) (line, at, lasts) in
      let none : times.length.seconds ≡ 0 = subst (λ (f : Form). SuitsForm f times.length) (start_form WholeDay first) suits.1 in
      let e : times.length ≡ length = length_one two line times.length length suits.0 lasts in
      let none' : length.seconds ≡ 0 = subst (λ (x : Length). x.seconds ≡ 0) e none in
      absurd (omega (arith, none', part))
  no_times_fault n (end_and_duration e d) =
      go s.end_line s.duration_line (only_line (codes "DTEND") lines s.end_line e.0 s.end_once e.1) (only_line (codes "DURATION") lines s.duration_line d.0 s.duration_once d.1) s.lasts
    where
      go : (x y : Option (List ℕ)) → x ≡ Some e.0 → y ≡ Some d.0 → LastsSo object times.form times.start x y times.length → ⊥
      go None y h k is = cc
      go (Some x) None h k is = cc
      go (Some x) (Some y) h k is = is

-- nor where no start is said

pub none_there : (P : List ℕ → Type 0) (lines : Lines) → IsMissing (codes "DTSTART") lines → SomeLine (codes "DTSTART") P lines → ⊥
none_there P lines missing (line, there, _) = let k : length (lines_named (codes "DTSTART") lines) ≡ 0 = ap length missing in absurd (omega (arith, k, there.1))

module _ (one : OneZonedTime) (none : NoTimeFault) (two : OneDuration) (apart : NotBoth) (object : Tree) (lines : Lines) (times : EventTimes) (s : SaysNoStart object lines times) where
  end_alone : (P : List ℕ → Type 0) (l : SomeLine (codes "DTEND") P lines) → (form : Form) × (end : ℤ) × SaysInDates true object l.0 form end
  end_alone P l = go s.end_line s.duration_line (only_line (codes "DTEND") lines s.end_line l.0 s.end_once l.1) s.lasts
    where
      go : (e d : Option (List ℕ)) → e ≡ Some l.0 → LastsAlone object e d times.length → (form : Form) × (end : ℤ) × SaysInDates true object l.0 form end
      go None d h lasts = cc
      go (Some x) (Some o) h lasts = absurd lasts
      go (Some x) None h lasts = subst (λ (y : List ℕ). (form : Form) × (end : ℤ) × SaysInDates true object y form end) (same_Some x l.0 h) lasts.1

  duration_alone : (P : List ℕ → Type 0) (l : SomeLine (codes "DURATION") P lines) → LastsFor l.0 times.length
  duration_alone P l = go s.end_line s.duration_line (only_line (codes "DURATION") lines s.duration_line l.0 s.duration_once l.1) s.lasts
    where
      go : (e d : Option (List ℕ)) → d ≡ Some l.0 → LastsAlone object e d times.length → LastsFor l.0 times.length
      go e None h lasts = cc
      go (Some x) (Some o) h lasts = absurd lasts
      go None (Some o) h lasts = subst (λ (y : List ℕ). LastsFor y times.length) (same_Some o l.0 h) lasts

  no_alone_fault : (n : ℕ) → EventTimesFault object lines n → ⊥
  no_alone_fault n (bad_start l) = none_there _ lines s.missing l
  no_alone_fault n (bad_end l) = let (form, end, (zone, local, says, means, dates)) = end_alone _ l in none object l.0 (line_value l.0) form zone local n says l.2
  no_alone_fault n (bad_duration l) = l.2.0 times.length.days times.length.seconds (duration_alone _ l)
  no_alone_fault n (ends_early (form, start, end, first, last, r)) = none_there _ lines s.missing first
  no_alone_fault n (ends_late (form, start, end, first, last, r)) = none_there _ lines s.missing first
  no_alone_fault n (lasts_long (line, at, inl negative)) =
      apart (line_value line) times.length.days times.length.seconds (duration_alone IsNegativeOrLong (line, at, inl negative)) negative
  no_alone_fault n (lasts_long (line, at, inr (length, lasts, long))) =
      let e = length_one two line times.length length (duration_alone IsNegativeOrLong (line, at, inr (length, lasts, long))) lasts in
      let most : length_seconds length ≤ 31_622_400 = subst (λ (x : Length). length_seconds x ≤ 31_622_400) e s.most in
      absurd (omega arith)
  no_alone_fault n (starts_out l) = none_there _ lines s.missing l
  no_alone_fault n (ends_out l) = let (form, end, (zone, local, says, means, dates)) = end_alone _ l in not_out one true object l.0 form zone local end says means dates l.2
  no_alone_fault n (other_form (start, end, first, last, differ)) = none_there _ lines s.missing first
  no_alone_fault n (part_of_day (length, first, last, part)) = none_there _ lines s.missing first
  no_alone_fault n (end_and_duration e d) =
      go s.end_line s.duration_line (only_line (codes "DTEND") lines s.end_line e.0 s.end_once e.1) (only_line (codes "DURATION") lines s.duration_line d.0 s.duration_once d.1) s.lasts
    where
      go : (x y : Option (List ℕ)) → x ≡ Some e.0 → y ≡ Some d.0 → LastsAlone object x y times.length → ⊥
      go None y h k is = cc
      go (Some x) None h k is = cc
      go (Some x) (Some y) h k is = is

pub no_times_fault_by : OneZonedTime → NoTimeFault → OneDuration → NotBoth → {may : Bool} (object : Tree) (lines : Lines) (times : EventTimes) → SaysTimes may object lines times → (n : ℕ) → EventTimesFault object lines n → ⊥
no_times_fault_by one none two apart object lines times (inl s) n f = no_times_fault one none two apart object lines times s n f
no_times_fault_by one none two apart object lines times (inr (m, s)) n f = no_alone_fault one none two apart object lines times s n f

-- ---- how often the properties of the times occur

pub times_lone : {may : Bool} (object : Tree) (lines : Lines) (times : EventTimes) → SaysTimes may object lines times
    → IsLone lines (codes "DTSTART") × IsLone lines (codes "DTEND") × IsLone lines (codes "DURATION")
times_lone object lines times (inl s) = (
  at_most_one (codes "DTSTART") lines (Some s.line) s.once,
  at_most_one (codes "DTEND") lines s.end_line s.end_once,
  at_most_one (codes "DURATION") lines s.duration_line s.duration_once,
)
times_lone object lines times (inr (m, s)) = (
  at_most_one (codes "DTSTART") lines None s.missing,
  at_most_one (codes "DTEND") lines s.end_line s.end_once,
  at_most_one (codes "DURATION") lines s.duration_line s.duration_once,
)

pub start_there : {may : Bool} (object : Tree) (lines : Lines) (times : EventTimes) → SaysTimes may object lines times → may ≡ false → IsMissing (codes "DTSTART") lines → ⊥
start_there object lines times (inl s) needed h = let k : 0 ≡ 1 = sym (ap length h) ∙ ap length s.once in absurd (omega (arith, k))
start_there object lines times (inr (m, s)) needed h = true≢false (sym m ∙ needed)
