-- Two families of clocks by which each VEVENT of a meeting says the same: then the meeting has the same instances on both. For
-- `adapted_has_the_same_instances`.
use Rattle.std.proofs.Common.{◌≡◌, ap, sym, refl, subst, arith, inl, inr, ℕ, ◌+◌, ◌/◌, ◌%◌, ◌==◌, Bool, true, false, List, [], ◌∷◌, ◌++◌, Option, Some, None, ℤ, pos, ◌≤ℤ◌}
use Rattle.std.specs.Prelude.{◌||◌, Contains, All, codes, is_some}
use Rattle.std.specs.List.{slice_split}
use Rattle.std.proofs.lemmas.Bool.Decides.{nat_tests}
use Rattle.std.proofs.lemmas.List.Elements.{All-append, All-nil, All-cons, Contains-push}
use Rattle.std.proofs.lemmas.List.Splits.{slice_split_none}
use Rattle.profile.specs.text.Lines.{line_value, line_param}
use Rattle.profile.specs.text.Values.{SpellsLocal, SpellsStamp, two_digits, four_digits}
use Rattle.profile.specs.checker.Instances.{Instance}
use Rattle.profile.specs.series.Rules.{Rule, RuleText}
use Rattle.profile.specs.series.RuleTexts.{SpellsRule}
use Rattle.profile.specs.series.Zones.{Zone, Means}
use Rattle.profile.specs.events.Properties.{Form, Fixed, Floating, WholeDay, Length, LastsFor, lines_named, is_of}
use Rattle.profile.specs.events.ZonedTimes.{clock_of, IsInDates, IsCountedBy, length_alone}
use Rattle.profile.specs.doors.Uses.{IsLineIn, SaysLocal, is_time_line}
use Rattle.profile.specs.doors.OnClocks.{GivesRuleOn, IsRuleStartOn, IsDaysLaterOn, MayStart}
use Rattle.profile.specs.doors.OnClocks as may
use Rattle.profile.specs.doors.InstancesOnClocks.{Clock, MeansOn, ShowsOn, ClockTime, SpellsClockTime, IsClockOf, SaysInstantOn, ListsOn, ReplacesOn, counted_by, StartOn, StartsOn, first, by_rule, added, LastsOn, until, lasting, neither, IsLaterOn, EndsOn, IsOfMasterOn, IsOfOverrideOn, IsInstanceOn}
use Rattle.cal_doors.proofs.LawClocks.{AreNear}
use Rattle.cal_doors.proofs.LawEvents.{in_lines, of_dates}
use Rattle.cal_doors.proofs.LawStarts.{in_utc}

-- ---- a line with one time has no comma

abbrev HasNoComma : List ℕ → Type 0
HasNoComma text = All (λ c. (c == 44) ≡ false) text

no_comma : (n : ℕ) → ((48 + n) == 44) ≡ false
no_comma n = grind (arith, nat_tests)

two_apart : (n : ℕ) → HasNoComma (two_digits n)
two_apart n = All-cons (λ c. (c == 44) ≡ false) (48 + n / 10) ((48 + n % 10) ∷ []) (no_comma (n / 10)) (All-cons (λ c. (c == 44) ≡ false) (48 + n % 10) [] (no_comma (n % 10)) (All-nil (λ c. (c == 44) ≡ false)))

joined : (a b : List ℕ) → HasNoComma a → HasNoComma b → HasNoComma (a ++ b)
joined a b h k = All-append (λ c. (c == 44) ≡ false) a b h k

local_apart : (text : List ℕ) (local : ℤ) → SpellsLocal text local → HasNoComma text
local_apart text local s =
    let d = s.on in
    let t = s.at_second in
    let four : HasNoComma (four_digits d.year) = joined (two_digits (d.year / 100)) (two_digits (d.year % 100)) (two_apart (d.year / 100)) (two_apart (d.year % 100)) in
    let date : HasNoComma s.date =
    subst HasNoComma (sym d.spelled) (joined (four_digits d.year ++ two_digits d.month) (two_digits d.day) (joined (four_digits d.year) (two_digits d.month) four (two_apart d.month)) (two_apart d.day)) in
    let time : HasNoComma s.time =
    subst HasNoComma (sym t.spelled) (joined (two_digits t.hour ++ two_digits t.minute) (two_digits t.second) (joined (two_digits t.hour) (two_digits t.minute) (two_apart t.hour) (two_apart t.minute)) (two_apart t.second)) in
    let mark : HasNoComma (codes "T") = All-cons (λ c. (c == 44) ≡ false) 84 [] refl (All-nil (λ c. (c == 44) ≡ false)) in
    subst HasNoComma (sym s.spelled) (joined (s.date ++ codes "T") s.time (joined s.date (codes "T") date mark) time)

pub says_whole : (line : List ℕ) (local : ℤ) → SpellsLocal (line_value line) local → SaysLocal line local
says_whole line local s =
    let one : slice_split (λ c. c == 44) (line_value line) ≡ line_value line ∷ [] = slice_split_none (λ c. c == 44) (line_value line) (local_apart (line_value line) local s) in
    (line_value line, subst (λ texts. Contains texts (line_value line)) (sym one) (Contains-push [] (line_value line)), s)

-- ---- which lines say times

first_of : (a b c d e : Bool) → a ≡ true → (a || (b || (c || (d || e)))) ≡ true
first_of a b c d e h = grind (arith, nat_tests)

second_of : (a b c d e : Bool) → b ≡ true → (a || (b || (c || (d || e)))) ≡ true
second_of a b c d e h = grind (arith, nat_tests)

third_of : (a b c d e : Bool) → c ≡ true → (a || (b || (c || (d || e)))) ≡ true
third_of a b c d e h = grind (arith, nat_tests)

fifth_of : (a b c d e : Bool) → e ≡ true → (a || (b || (c || (d || (e || false))))) ≡ true
fifth_of a b c d e h = grind (arith, nat_tests)

-- a property whose lines say times
abbrev IsOfTimes : List ℕ → Type 0
IsOfTimes property = (line : List ℕ) → is_of property line ≡ true → is_time_line line ≡ true

of_start : IsOfTimes (codes "DTSTART")
of_start line h =
    first_of (is_of (codes "DTSTART") line) (is_of (codes "DTEND") line) (is_of (codes "RECURRENCE-ID") line) (is_of (codes "RDATE") line) (is_of (codes "EXDATE") line || false) h

of_end : IsOfTimes (codes "DTEND")
of_end line h =
    second_of (is_of (codes "DTSTART") line) (is_of (codes "DTEND") line) (is_of (codes "RECURRENCE-ID") line) (is_of (codes "RDATE") line) (is_of (codes "EXDATE") line || false) h

of_slot : IsOfTimes (codes "RECURRENCE-ID")
of_slot line h =
    third_of (is_of (codes "DTSTART") line) (is_of (codes "DTEND") line) (is_of (codes "RECURRENCE-ID") line) (is_of (codes "RDATE") line) (is_of (codes "EXDATE") line || false) h

of_exception : IsOfTimes (codes "EXDATE")
of_exception line h =
    fifth_of (is_of (codes "DTSTART") line) (is_of (codes "DTEND") line) (is_of (codes "RECURRENCE-ID") line) (is_of (codes "RDATE") line) (is_of (codes "EXDATE") line) h

-- ---- from the clocks of a name to others

-- what a VEVENT says by its times in the zone of this name it says by these others too
pub record Moves (c d : Clock) (name : List ℕ) (lines : List (List ℕ)) : Type 0 where
  pub times : (line : List ℕ) (local t : ℤ) → IsLineIn name lines line → SaysLocal line local → MeansOn c local t → MeansOn d local t
  pub rules : (start line : List ℕ) (local : ℤ) (text : RuleText) (rule : Rule) → Contains (lines_named (codes "DTSTART") lines) start → IsLineIn name lines start
      → SaysLocal start local → pos 0 ≤ℤ local → Contains (lines_named (codes "RRULE") lines) line → SpellsRule (line_value line) text → GivesRuleOn (MeansOn c) local text rule
      → GivesRuleOn (MeansOn d) local text rule × ((t : ℤ) → IsRuleStartOn (MeansOn c) local rule t → IsRuleStartOn (MeansOn d) local rule t)
  pub ends : (start line : List ℕ) (local : ℤ) (length : Length) (t end : ℤ) → Contains (lines_named (codes "DTSTART") lines) start → IsLineIn name lines start
      → SaysLocal start local → pos 0 ≤ℤ local → Contains (lines_named (codes "DURATION") lines) line → LastsFor line length → MayStart (MeansOn c) lines local t
      → IsDaysLaterOn (MeansOn c) (ShowsOn c) length.days t end → IsDaysLaterOn (MeansOn d) (ShowsOn d) length.days t end

-- so it is with each clock that a name of a VEVENT means
abbrev pub AllMove : (List ℕ → Clock → Type 0) → (List ℕ → Clock → Type 0) → List (List ℕ) → Type 0
AllMove Named Others lines = (name line : List ℕ) (c : Clock) → IsLineIn name lines line → Named name c → (d : Clock) × Others name d × Moves c d name lines

-- no clock that a name of a VEVENT means is a day or more from UTC
abbrev pub AllNear : (List ℕ → Clock → Type 0) → List (List ℕ) → Type 0
AllNear Named lines = (name line : List ℕ) (c : Clock) → IsLineIn name lines line → Named name c → AreNear (MeansOn c)

-- ---- what a line says

module _ (Named Others : List ℕ → Clock → Type 0) (lines : List (List ℕ)) (move : AllMove Named Others lines) where
  clock_there : (room : Option Zone) (form : Form) (name : Option (List ℕ)) (local : ℤ) (line text : List ℕ) → Contains lines line → is_time_line line ≡ true
      → (SpellsLocal text local → SaysLocal line local) → line_param (codes "TZID") line ≡ name → SpellsClockTime form name text local → (c : Clock) → IsClockOf Named room form name c
      → (d : Clock) × IsClockOf Others room form name d × ((t : ℤ) → MeansOn c local t → MeansOn d local t)
  clock_there room Fixed None local line text is_in timed says param spelled c shown = (c, shown, λ t m. m)
  clock_there room Fixed (Some name) local line text is_in timed says param spelled c shown =
      let is : IsLineIn name lines line = record { among = is_in; says_times = timed; in_zone = param } in
      let m = move name line c is shown in
      (m.0, m.1, λ t h. m.2.times line local t is (says spelled) h)
  clock_there room Floating name local line text is_in timed says param spelled c shown = (c, shown, λ t m. m)
  clock_there room WholeDay name local line text is_in timed says param spelled c shown = (c, shown, λ t m. m)

  instant_there : (room : Option Zone) (line text : List ℕ) (t : ℤ) → Contains lines line → is_time_line line ≡ true → ((local : ℤ) → SpellsLocal text local → SaysLocal line local)
      → SaysInstantOn Named room line text t → SaysInstantOn Others room line text t
  instant_there room line text t is_in timed says h =
      let m = clock_there room h.time.form h.time.name h.time.local line text is_in timed (says h.time.local) h.says.named h.says.spelled h.clock h.shown in
      record { time = h.time; says = h.says; clock = m.0; shown = m.1; means = m.2 t h.means }

  pub lists_there : (room : Option Zone) (property : List ℕ) → IsOfTimes property → (t : ℤ) → ListsOn Named room property lines t → ListsOn Others room property lines t
  lists_there room property timed t (line, there, (text, among, says)) =
      let i = in_lines property lines line there in
      (line, there, (text, among, instant_there room line text t i.0 (timed line i.1) (λ local s. (text, among, s)) says))

  pub replaces_there : (room : Option Zone) (t : ℤ) → ReplacesOn Named room lines t → ReplacesOn Others room lines t
  replaces_there room t (line, there, says) =
      let i = in_lines (codes "RECURRENCE-ID") lines line there in
      (line, there, instant_there room line (line_value line) t i.0 (of_slot line i.1) (λ local s. says_whole line local s) says)

  lasts_there : (form : Form) (counted : ℤ) (length : Length) → LastsOn Named lines form counted length → LastsOn Others lines form counted length
  lasts_there form counted length (until line end clock there says e shown means counts) =
      let i = in_lines (codes "DTEND") lines line there in
      let m = clock_there None end.form end.name end.local line (line_value line) i.0 (of_end line i.1) (λ s. says_whole line end.local s) says.named says.spelled clock shown in
      until line end m.0 there says e m.1 (m.2 _ means) counts
  lasts_there form counted length (lasting line there lasts suits) = lasting line there lasts suits
  lasts_there form counted length (neither no_end no_duration is) = neither no_end no_duration is

-- ---- its starts, and when they end

-- a length that isn't said in days
abbrev IsExact : Form → ℕ → Type 0
IsExact Fixed days = days ≡ 0
IsExact Floating days = Unit {0}
IsExact WholeDay days = Unit {0}

exact_later : (room : Option Zone) (form : Form) (c d : Clock) (days : ℕ) (t later : ℤ) → IsExact form days → IsLaterOn form c room days t later → IsLaterOn form d room days t later
exact_later room Fixed c d days t later none (inl h) = inl h
exact_later room Fixed c d days t later none (inr (some, _)) = absurd (omega (arith, some, none))
exact_later room Floating c d days t later none h = h
exact_later room WholeDay c d days t later none h = h

exact_counted : (form : Form) (length : Length) → IsCountedBy form length → IsExact form length.days
exact_counted Fixed length h = h
exact_counted Floating length h = tt
exact_counted WholeDay length h = tt

exact_alone : (form : Form) (length : Length) → length ≡ length_alone form → IsExact form length.days
exact_alone Fixed length e = ap (λ (l : Length). l.days) e
exact_alone Floating length e = tt
exact_alone WholeDay length e = tt

module _ (Named Others : List ℕ → Clock → Type 0) (room : Option Zone) (near_room : AreNear (Means (clock_of room))) (lines : List (List ℕ)) (near : AllNear Named lines)
    (move : AllMove Named Others lines) where
  -- an RDATE on whatever clocks
  dated : (M : ℤ → ℤ → Type 0) (local t : ℤ) (line text : List ℕ) (form : Form) (name : Option (List ℕ)) (at : ℤ) → Contains (lines_named (codes "RDATE") lines) line
      → Contains (slice_split (λ c. c == 44) (line_value line)) text → line_param (codes "TZID") line ≡ name → SpellsClockTime form name text at → (c : Clock)
      → IsClockOf Named room form name c → MeansOn c at t → MayStart M lines local t
  dated M local t line text Fixed None at there among param spelled c shown m =
      may.added line there (text, among, subst (SpellsStamp text) (in_utc at t (subst (λ x. MeansOn x at t) shown m)) spelled)
  dated M local t line text Fixed (Some name) at there among param spelled c shown m =
      let i = in_lines (codes "RDATE") lines line there in
      let n = (near name line c (record { among = i.0; says_times = of_dates line i.1; in_zone = param }) shown).earlier at t m in
      may.added_local line at there (text, among, inl spelled) n
  dated M local t line text Floating name at there among param spelled c shown m =
      may.added_local line at there (text, among, inl spelled.1) (near_room.earlier at t (subst (λ x. MeansOn x at t) shown m))
  dated M local t line text WholeDay name at there among param spelled c shown m =
      may.added_local line at there (text, among, inr spelled.1) (near_room.earlier at t (subst (λ x. MeansOn x at t) shown m))

  may_start : (name : List ℕ) (local : ℤ) (c : Clock) (t : ℤ) → StartsOn Named room lines (record { form = Fixed; name = Some name; local = local }) c t → MayStart (MeansOn c) lines local t
  may_start name local c t (first m) = may.first m
  may_start name local c t (by_rule line text rule there spelled gives h) = may.by_rule line text rule there spelled gives h
  may_start name local c t (added (line, there, (text, among, says))) =
      dated (MeansOn c) local t line text says.time.form says.time.name says.time.local there among says.says.named says.says.spelled says.clock says.shown says.means

  -- a start on the one clock, and on the other
  record Linked (form : Form) (name : Option (List ℕ)) (local : ℤ) (c d : Clock) : Type 0 where
    means : (t : ℤ) → MeansOn c local t → MeansOn d local t
    counts : (t : ℤ) → MeansOn (counted_by form c) local t → MeansOn (counted_by form d) local t
    rule : (line : List ℕ) (text : RuleText) (rule : Rule) → Contains (lines_named (codes "RRULE") lines) line → SpellsRule (line_value line) text
        → GivesRuleOn (MeansOn (counted_by form c)) local text rule
        → GivesRuleOn (MeansOn (counted_by form d)) local text rule × ((t : ℤ) → IsRuleStartOn (MeansOn c) local rule t → IsRuleStartOn (MeansOn d) local rule t)
    later : (line : List ℕ) (length : Length) (t end : ℤ) → Contains (lines_named (codes "DURATION") lines) line → LastsFor line length
        → StartsOn Named room lines (record { form = form; name = name; local = local }) c t → IsLaterOn form c room length.days t end → IsLaterOn form d room length.days t end

  linked_itself : (form : Form) (name : Option (List ℕ)) (local : ℤ) (c : Clock) → Linked form name local c c
  linked_itself form name local c = record {
    means = λ t m. m;
    counts = λ t m. m;
    rule = λ line text rule there spelled gives. (gives, λ t h. h);
    later = λ line length t end there lasts starts h. h;
  }

  linked : (line : List ℕ) → Contains (lines_named (codes "DTSTART") lines) line → (form : Form) (name : Option (List ℕ)) (local counted : ℤ)
      → line_param (codes "TZID") line ≡ name → SpellsClockTime form name (line_value line) local → (c : Clock) → IsClockOf Named room form name c
      → IsInDates false form (is_some name) local counted → (d : Clock) × IsClockOf Others room form name d × Linked form name local c d
  linked line there Fixed None local counted param spelled c shown dates = (c, shown, linked_itself Fixed None local c)
  linked line there Fixed (Some name) local counted param spelled c shown dates =
      let i = in_lines (codes "DTSTART") lines line there in
      let is : IsLineIn name lines line = record { among = i.0; says_times = of_start line i.1; in_zone = param } in
      let says = says_whole line local spelled in
      let m = move name line c is shown in (
        m.0,
        m.1,
        record {
          means = λ t h. m.2.times line local t is says h;
          counts = λ t h. m.2.times line local t is says h;
          rule = λ other text rule among spells gives. m.2.rules line other local text rule there is says dates.0 among spells gives;
          later = λ other length t end among lasts starts h. m.2.ends line other local length t end there is says dates.0 among lasts (may_start name local c t starts) h;
        },
      )
  linked line there Floating name local counted param spelled c shown dates = (c, shown, linked_itself Floating name local c)
  linked line there WholeDay name local counted param spelled c shown dates = (c, shown, linked_itself WholeDay name local c)

  start_there : (start : ClockTime) (c : Clock) (counted : ℤ) → StartOn Named room lines start c counted
      → (d : Clock) × StartOn Others room lines start d counted × Linked start.form start.name start.local c d
  start_there start c counted s =
      let l = linked s.line s.there start.form start.name start.local counted s.says.named s.says.spelled c s.shown s.in_dates in
      (l.0, record { line = s.line; there = s.there; says = s.says; shown = l.1; counts = l.2.counts counted s.counts; in_dates = s.in_dates }, l.2)

  starts_there : (start : ClockTime) (c d : Clock) (t : ℤ) → Linked start.form start.name start.local c d → StartsOn Named room lines start c t → StartsOn Others room lines start d t
  starts_there start c d t l (first m) = first (l.means t m)
  starts_there start c d t l (by_rule line text rule there spelled gives h) =
      let r = l.rule line text rule there spelled gives in
      by_rule line text rule there spelled r.0 (r.1 t h)
  starts_there start c d t l (added x) = added (lists_there Named Others lines move room (codes "RDATE") of_dates t x)

  later_there : (start : ClockTime) (c d : Clock) (counted t later : ℤ) (length : Length) → Linked start.form start.name start.local c d → StartsOn Named room lines start c t
      → LastsOn Named lines start.form counted length → IsLaterOn start.form c room length.days t later → IsLaterOn start.form d room length.days t later
  later_there start c d counted t later length l starts (until line end clock there says e shown means counts) h =
      exact_later room start.form c d length.days t later (exact_counted start.form length counts) h
  later_there start c d counted t later length l starts (lasting line there lasts suits) h = l.later line length t later there lasts starts h
  later_there start c d counted t later length l starts (neither no_end no_duration is) h =
      exact_later room start.form c d length.days t later (exact_alone start.form length is) h

  ends_there : (start : ClockTime) (c d : Clock) (counted t end : ℤ) → Linked start.form start.name start.local c d → StartsOn Named room lines start c t
      → EndsOn Named room lines start.form c counted t end → EndsOn Others room lines start.form d counted t end
  ends_there start c d counted t end l starts h = record {
    length = h.length;
    lasts = lasts_there Named Others lines move start.form counted h.length h.lasts;
    later = h.later;
    days = later_there start c d counted t h.later h.length l starts h.lasts h.days;
    seconds = h.seconds;
  }

  pub override_there : (i : Instance) → IsOfOverrideOn Named room lines i → IsOfOverrideOn Others room lines i
  override_there i h =
      let s = start_there h.start h.clock h.counted h.says in
      record {
        slot = replaces_there Named Others lines move room i.key.slot h.slot;
        start = h.start;
        clock = s.0;
        counted = h.counted;
        says = s.1;
        starts = s.2.means i.start h.starts;
        ends = ends_there h.start h.clock s.0 h.counted i.start i.end s.2 (first h.starts) h.ends;
      }

  pub master_there : (events : List (List (List ℕ))) → AllMove Others Named lines → ((other : List (List ℕ)) → Contains events other → AllMove Others Named other) → (i : Instance)
      → IsOfMasterOn Named room events lines i → IsOfMasterOn Others room events lines i
  master_there events back all_back i h =
      let s = start_there h.start h.clock h.counted h.says in
      record {
        whole = h.whole;
        start = h.start;
        clock = s.0;
        counted = h.counted;
        says = s.1;
        starts = starts_there h.start h.clock s.0 i.start s.2 h.starts;
        in_dates = h.in_dates;
        not_excepted = λ x. h.not_excepted (lists_there Others Named lines back room (codes "EXDATE") of_exception i.start x);
        not_replaced = λ other there x. h.not_replaced other there (replaces_there Others Named other (all_back other there) room i.start x);
        slot = h.slot;
        ends = ends_there h.start h.clock s.0 h.counted i.start i.end s.2 h.starts h.ends;
      }

-- ---- a meeting

module _ (Named Others : List ℕ → Clock → Type 0) (room : Option Zone) (near_room : AreNear (Means (clock_of room))) (events : List (List (List ℕ)))
    (near : (lines : List (List ℕ)) → Contains events lines → AllNear Named lines) (move : (lines : List (List ℕ)) → Contains events lines → AllMove Named Others lines)
    (back : (lines : List (List ℕ)) → Contains events lines → AllMove Others Named lines) where
  pub instance_there : (i : Instance) → IsInstanceOn Named room events i → IsInstanceOn Others room events i
  instance_there i h = record {
    lines = h.lines;
    among = h.among;
    key = h.key;
    is = elim h.is [
      | inl m ↦ inl (master_there Named Others room near_room h.lines (near h.lines h.among) (move h.lines h.among) events (back h.lines h.among) back i m)
      | inr o ↦ inr (override_there Named Others room near_room h.lines (near h.lines h.among) (move h.lines h.among) i o)
    ];
  }
