-- What the readers of a part of a VTIMEZONE in general say, put together.
use Rattle.std.proofs.Common.{not, map, Bool, ◌≡◌, ◌∙◌, ap, sym, refl, subst, inl, inr, ℕ, true, false, cond, ◌==◌, List, [], ◌∷◌, ◌++◌, codes, arith, append_assoc, append-nil, ℤ, Some, None}
use Rattle.std.specs.Prelude.{Contains, nat_le}
use Rattle.std.specs.List.{AllZip, flat_map, slice_split, list_all}
use Rattle.std.proofs.lemmas.Bool.{false≢true}
use Rattle.std.proofs.lemmas.List.{map-append}
use Rattle.std.proofs.lemmas.List.Elements.{Contains-append_right}
use Rattle.profile.specs.text.Lines.{line_value}
use Rattle.profile.specs.text.Values.{SpellsLocal, IsClockSeconds}
use Rattle.profile.specs.events.Properties.{is_of, lines_named, OccursAtMostOnce, IsMissing, Says}
use Rattle.profile.specs.series.Rules.{is_missing, on_day_of_start}
use Rattle.profile.specs.series.Zones.{Observance, local_time}
use Rattle.profile.specs.series.ZoneTexts.{IsLocalLine, IsOffsetLine, time_names}
use Rattle.profile.specs.series.GeneralZones.{End, Never, Run}
use Rattle.profile.specs.series.GeneralZoneTexts.{without_end, IsRunAt, IsDatesLine, SaysStartAndOffsets, SpellsEnding, SpellsOnsetDays, IsEndingLine, IsDaysLine, SaysRuns, PartsSayRuns, RunsFault, once, yearly, listed, missing, twice, fixed, bad_start, bad_from, bad_to, bad_rule}
use Rattle.cal_zones.specs.Read.{StartFault, IsNotOnce, OffsetFault}
use Rattle.cal_zones.specs.Shapes.{occurs_yearly}
use Rattle.cal_zones.proofs.Named.{one_day_parts}
use Rattle.cal_zones.proofs.Reading.{said}
use Rattle.ical_tree.proofs.OneLine.{the_line}
use Rattle.cal_doors.specs.Ends.{end_of}
use Rattle.cal_doors.specs.Listed.{HasStart}
use Rattle.cal_doors.specs.Runs.{run_of, runs_in}
use Rattle.cal_doors.specs.Reading.{ending_of, SpellsNoRuleOf, AreTimes, HasTimes, AddsFirst, AddsYearly, AddsDays, AddsRuns, AddsDatesOf, AddsDates, AddsPart, DateFault, LineFault, DatesFault}
use Rattle.cal_doors.specs.declared.run.Run as kept
use Rattle.cal_doors.specs.declared.rule.EndingRule.{EndingRule}
use Rattle.cal_doors.proofs.RuleDays.{starting, some_start, said_bound}

abbrev Lines : Type 0
Lines = List (List ℕ)

-- ---- faults of times

pub not_one : (name : List ℕ) (lines : Lines) → Contains time_names name → IsNotOnce name lines → RunsFault lines 40
not_one name lines c (inl h) = missing name c h
not_one name lines c (inr h) = twice name c h

pub start_fault : (lines : Lines) (line : List ℕ) (n : ℕ) → Contains (lines_named (codes "DTSTART") lines) line → StartFault line n → RunsFault lines n
start_fault lines line n c (inl (e, h)) = subst (RunsFault lines) (sym e) (fixed (line, c, h))
start_fault lines line n c (inr (e, h)) = subst (RunsFault lines) (sym e) (bad_start (line, c, h))

pub from_fault : (lines : Lines) (n : ℕ) → OffsetFault (codes "TZOFFSETFROM") lines n → RunsFault lines n
from_fault lines n (inl (e, h)) = subst (RunsFault lines) (sym e) (not_one (codes "TZOFFSETFROM") lines (1, omega arith, refl) h)
from_fault lines n (inr (e, h)) = subst (RunsFault lines) (sym e) (bad_from h)

pub to_fault : (lines : Lines) (n : ℕ) → OffsetFault (codes "TZOFFSETTO") lines n → RunsFault lines n
to_fault lines n (inl (e, h)) = subst (RunsFault lines) (sym e) (not_one (codes "TZOFFSETTO") lines (2, omega arith, refl) h)
to_fault lines n (inr (e, h)) = subst (RunsFault lines) (sym e) (bad_to h)

-- ---- the first runs

abbrev pub with_offsets : ℤ → ℤ → Observance
with_offsets from to = record { day = 0; second = 0; rule = None; offset_from = from; offset_to = to }

module _ (lines : Lines) (start from to : ℤ) where
  -- an observance that has the times of a part
  pub says_times : (o : Observance) → AreTimes lines start from to → HasTimes start from to o → SaysStartAndOffsets lines o
  says_times o times has = record {
    start = subst (λ (t : ℤ). Says (codes "DTSTART") true IsLocalLine lines (Some t)) (sym has.begins.start_there) times.says_start;
    second = has.begins.second;
    from = subst (λ (t : ℤ). Says (codes "TZOFFSETFROM") true IsOffsetLine lines (Some t)) (sym has.begins.before) times.says_from;
    to = subst (λ (t : ℤ). Says (codes "TZOFFSETTO") true IsOffsetLine lines (Some t)) (sym has.after) times.says_to;
  }

  pub some_times : IsClockSeconds start → HasTimes start from to (starting start from to)
  some_times range = record { begins = some_start start from to range; after = refl }

  pub once_first : (old new : List kept.Run) (run : kept.Run) → IsRunAt (with_offsets from to) start (run_of run) → IsMissing (codes "RRULE") lines → new ≡ old ++ run ∷ []
      → AddsFirst lines start from to (runs_in old) (runs_in new)
  once_first old new run at none push =
      let o : Observance = record { day = at.day; second = at.second; rule = None; offset_from = from; offset_to = to } in
      record {
        o = o;
        times = record { begins = record { start_there = at.at; second = at.in_day; before = refl }; after = refl };
        firsts = record { observance = o; end = Never } ∷ [];
        are_first = once none refl;
        behind = ap runs_in push ∙ map-append run_of old (run ∷ []) ∙ ap (λ (r : Run). runs_in old ++ r ∷ []) at.is;
      }

  pub yearly_first : (line : List ℕ) (rule : EndingRule) (old new : List Run) → OccursAtMostOnce (codes "RRULE") lines (Some line)
      → ((o : Observance) → HasStart start from o → SpellsEnding o (line_value line) (ending_of rule)) → AddsYearly rule start from to old new → AddsFirst lines start from to old new
  yearly_first line rule old new there spelled (run, is, behind) =
      let o = run.observance in
      let begins : HasStart start from o = record { start_there = is.start_there; second = is.second; before = is.before } in
      record {
        o = o;
        times = record { begins = begins; after = is.after };
        firsts = record { observance = o; end = end_of rule.end } ∷ [];
        are_first = yearly (ending_of rule) (said (IsEndingLine o) (codes "RRULE") lines line (ending_of rule) there (spelled o begins)) is.rule;
        behind = behind ∙ ap (λ (e : End). old ++ record { observance = o; end = e } ∷ []) is.end_there;
      }

  pub listed_first : (line : List ℕ) (days : List ℕ) (old new : List Run) → IsClockSeconds start → OccursAtMostOnce (codes "RRULE") lines (Some line)
      → ((o : Observance) → HasStart start from o → SpellsOnsetDays o (line_value line) days) → AddsDays start from to days old new → AddsFirst lines start from to old new
  listed_first line days old new range there spelled adds =
      let o = starting start from to in
      let times = some_times range in
      let added = adds o times.begins in
      record {
        o = o;
        times = times;
        firsts = added.more;
        are_first = listed days added.more (said (IsDaysLine o) (codes "RRULE") lines line days there (spelled o times.begins)) (added.at_dates o refl refl);
        behind = added.behind;
      }

  -- the day of its rule is one of every year
  pub each_year : (line : List ℕ) (rule : EndingRule) → IsClockSeconds start → ((o : Observance) → HasStart start from o → SpellsEnding o line (ending_of rule)) → occurs_yearly rule.day.month rule.day.days ≡ true
  each_year line rule range spelled =
      let o = starting start from to in
      let says = spelled o (some_start start from to range) in
      (one_day_parts (without_end (on_day_of_start o.day says.rule)) (ending_of rule).each says.one_day).each

  -- none of its days is after year 9999
  pub days_bound : (line days : List ℕ) → IsClockSeconds start → ((o : Observance) → HasStart start from o → SpellsOnsetDays o line days) → list_all (λ day. nat_le day 3_652_424) days ≡ true
  days_bound line days range spelled = said_bound (starting start from to) line days (spelled (starting start from to) (some_start start from to range))

  -- its rule is none
  pub rule_fault : (line : List ℕ) → IsClockSeconds start → AreTimes lines start from to → OccursAtMostOnce (codes "RRULE") lines (Some line) → SpellsNoRuleOf start from (line_value line) → RunsFault lines 40
  rule_fault line range times there none =
      let has = some_times range in
      bad_rule (starting start from to) (says_times (starting start from to) times has) (line, the_line (codes "RRULE") lines line there, none (starting start from to) has.begins)

  -- the first runs went behind the others, and those of the RDATEs behind them
  pub part_added : (old mid new : List Run) → AreTimes lines start from to → AddsFirst lines start from to old mid → AddsDates from to lines mid new → AddsPart lines old new
  part_added old mid new times is (dates, says_dates, adds) = (
    is.firsts ++ adds.more,
    record {
      o = is.o;
      times = says_times is.o times is.times;
      firsts = is.firsts;
      are_first = is.are_first;
      dates = dates;
      says_dates = says_dates;
      others = adds.more;
      at_dates = adds.at_dates is.o is.times.begins.before is.times.after;
      all = refl;
    },
    adds.behind ∙ ap (λ l. l ++ adds.more) is.behind ∙ append_assoc old is.firsts adds.more,
  )

-- ---- two lists, place by place

pub zip_append : {A B : Type 0} (R : A → B → Type 0) (xs ys : List A) (us vs : List B) → AllZip R xs us → AllZip R ys vs → AllZip R (xs ++ ys) (us ++ vs)
zip_append R [] ys [] vs h k = k
zip_append R [] ys (u ∷ us) vs h k = absurd h
zip_append R (x ∷ xs) ys [] vs h k = absurd h
zip_append R (x ∷ xs) ys (u ∷ us) vs h k = (h.0, zip_append R xs ys us vs h.1 k)

pub zip_at : {A B : Type 0} (R : A → B → Type 0) (seen : List A) (x : A) (rest : List A) (us : List B) → AllZip R (seen ++ x ∷ rest) us → (u : B) × R x u
zip_at R [] x rest [] h = absurd h
zip_at R [] x rest (u ∷ us) h = (u, h.0)
zip_at R (y ∷ seen) x rest [] h = absurd h
zip_at R (y ∷ seen) x rest (u ∷ us) h = zip_at R seen x rest us h.1

-- a list behind all others
behind_all : {A : Type 0} (xss : List (List A)) (ys : List A) → flat_map (λ xs. xs) (xss ++ ys ∷ []) ≡ flat_map (λ xs. xs) xss ++ ys
behind_all [] ys = append-nil ys
behind_all (xs ∷ xss) ys = ap (λ l. xs ++ l) (behind_all xss ys) ∙ sym (append_assoc xs (flat_map (λ zs. zs) xss) ys)

-- ---- runs that are added

module _ (from to : ℤ) where
  pub no_runs : (old : List Run) → AddsRuns from to [] old old
  no_runs old = record { more = []; behind = sym (append-nil old); at_dates = λ o e f. tt }

  pub one_run : (local : ℤ) (old new : List kept.Run) (run : kept.Run) → ((o : Observance) → o.offset_from ≡ from → o.offset_to ≡ to → IsRunAt o local (run_of run)) → new ≡ old ++ run ∷ []
      → AddsRuns from to (local ∷ []) (runs_in old) (runs_in new)
  one_run local old new run at push = record {
    more = run_of run ∷ [];
    behind = ap runs_in push ∙ map-append run_of old (run ∷ []);
    at_dates = λ o e f. (at o e f, tt);
  }

  pub then_more : (xs ys : List ℤ) (old mid new : List Run) → AddsRuns from to xs old mid → AddsRuns from to ys mid new → AddsRuns from to (xs ++ ys) old new
  then_more xs ys old mid new a b = record {
    more = a.more ++ b.more;
    behind = b.behind ∙ ap (λ l. l ++ b.more) a.behind ∙ append_assoc old a.more b.more;
    at_dates = λ o e f. zip_append (IsRunAt o) xs ys a.more b.more (a.at_dates o e f) (b.at_dates o e f);
  }

-- ---- the texts of a line of RDATE

abbrev pub texts_of : List ℕ → Lines
texts_of line = slice_split (λ c. c == 44) (line_value line)

-- the runs of the texts so far were added, and the others are left
pub record TextsAdded (from to : ℤ) (line : List ℕ) (left : Lines) (old new : List Run) : Type 0 where
  pub seen : Lines
  pub parted : texts_of line ≡ seen ++ left
  pub dates : List ℤ
  pub spelled : AllZip SpellsLocal seen dates
  pub adds : AddsRuns from to dates old new

module _ (from to : ℤ) (line : List ℕ) where
  pub none_added : (left : Lines) (old : List Run) → texts_of line ≡ left → TextsAdded from to line left old old
  none_added left old e = record { seen = []; parted = e; dates = []; spelled = tt; adds = no_runs from to old }

  pub text_added : (left rest : Lines) (text : List ℕ) (old mid new : List Run) → TextsAdded from to line left old mid → left ≡ text ∷ rest
      → (local : ℤ) → SpellsLocal text local → AddsRuns from to (local ∷ []) mid new → TextsAdded from to line rest old new
  text_added left rest text old mid new t e local s a = record {
    seen = t.seen ++ text ∷ [];
    parted = t.parted ∙ ap (λ l. t.seen ++ l) e ∙ sym (append_assoc t.seen (text ∷ []) rest);
    dates = t.dates ++ local ∷ [];
    spelled = zip_append SpellsLocal t.seen (text ∷ []) t.dates (local ∷ []) t.spelled (s, tt);
    adds = then_more from to t.dates (local ∷ []) old mid new t.adds a;
  }

  -- none is left
  pub texts_added : (left : Lines) (old new : List Run) → TextsAdded from to line left old new → left ≡ [] → (dates : List ℤ) × AllZip SpellsLocal (texts_of line) dates × AddsRuns from to dates old new
  texts_added left old new t e =
      let all : texts_of line ≡ t.seen = t.parted ∙ ap (λ l. t.seen ++ l) e ∙ append-nil t.seen in
      (t.dates, subst (λ (l : Lines). AllZip SpellsLocal l t.dates) (sym all) t.spelled, t.adds)

  -- one of them is no local time
  pub text_fault : (left rest : Lines) (text : List ℕ) (old mid : List Run) (n : ℕ) → TextsAdded from to line left old mid → left ≡ text ∷ rest → DateFault text n → LineFault line n
  text_fault left rest text old mid n t e f = (
    f.0,
    λ dates is.
        let all : texts_of line ≡ t.seen ++ text ∷ rest = t.parted ∙ ap (λ l. t.seen ++ l) e in
        let there = zip_at SpellsLocal t.seen text rest dates (subst (λ (l : Lines). AllZip SpellsLocal l dates) all is.2) in
        f.1 there.0 there.1,
  )

-- ---- the lines of RDATE

-- the runs of the RDATEs so far were added, and the lines that are left follow
pub record LinesAdded (from to : ℤ) (lines left : Lines) (old new : List Run) : Type 0 where
  pub done : Lines
  pub parted : lines_named (codes "RDATE") lines ≡ done ++ lines_named (codes "RDATE") left
  pub each : List (List ℤ)
  pub spelled : AllZip IsDatesLine done each
  pub adds : AddsRuns from to (flat_map (λ xs. xs) each) old new

module _ (from to : ℤ) (lines : Lines) where
  pub none_passed : (left : Lines) (old : List Run) → left ≡ lines → LinesAdded from to lines left old old
  none_passed left old e = record { done = []; parted = sym (ap (lines_named (codes "RDATE")) e); each = []; spelled = tt; adds = no_runs from to old }

  named_next : (left rest done : Lines) (line : List ℕ) → lines_named (codes "RDATE") lines ≡ done ++ lines_named (codes "RDATE") left → left ≡ line ∷ rest → is_of (codes "RDATE") line ≡ true
      → lines_named (codes "RDATE") lines ≡ done ++ line ∷ lines_named (codes "RDATE") rest
  named_next left rest done line e s h =
      e ∙ ap (λ l. done ++ lines_named (codes "RDATE") l) s
      ∙ ap (λ b. done ++ cond b (line ∷ lines_named (codes "RDATE") rest) (lines_named (codes "RDATE") rest)) h

  pub line_added : (left rest : Lines) (line : List ℕ) (old mid new : List Run) → LinesAdded from to lines left old mid → left ≡ line ∷ rest → is_of (codes "RDATE") line ≡ true
      → AddsDatesOf from to line mid new → LinesAdded from to lines rest old new
  line_added left rest line old mid new t s h (dates, is, adds) = record {
    done = t.done ++ line ∷ [];
    parted = named_next left rest t.done line t.parted s h ∙ sym (append_assoc t.done (line ∷ []) (lines_named (codes "RDATE") rest));
    each = t.each ++ dates ∷ [];
    spelled = zip_append IsDatesLine t.done (line ∷ []) t.each (dates ∷ []) t.spelled (is, tt);
    adds = subst (λ ds. AddsRuns from to ds old new) (sym (behind_all t.each dates)) (then_more from to (flat_map (λ xs. xs) t.each) dates old mid new t.adds adds);
  }

  pub other_passed : (left rest : Lines) (line : List ℕ) (old new : List Run) → LinesAdded from to lines left old new → left ≡ line ∷ rest → is_of (codes "RDATE") line ≡ false
      → LinesAdded from to lines rest old new
  other_passed left rest line old new t s h = record {
    done = t.done;
    parted = t.parted ∙ ap (λ l. t.done ++ lines_named (codes "RDATE") l) s
        ∙ ap (λ b. t.done ++ cond b (line ∷ lines_named (codes "RDATE") rest) (lines_named (codes "RDATE") rest)) h;
    each = t.each;
    spelled = t.spelled;
    adds = t.adds;
  }

  -- no line is left
  pub lines_added : (left : Lines) (old new : List Run) → LinesAdded from to lines left old new → left ≡ [] → AddsDates from to lines old new
  lines_added left old new t e =
      let all : lines_named (codes "RDATE") lines ≡ t.done = t.parted ∙ ap (λ l. t.done ++ lines_named (codes "RDATE") l) e ∙ append-nil t.done in
      (flat_map (λ xs. xs) t.each, (t.each, subst (λ (l : Lines). AllZip IsDatesLine l t.each) (sym all) t.spelled, refl), t.adds)

  -- one of them isn't of local times
  pub line_fault : (left rest : Lines) (line : List ℕ) (old mid : List Run) (n : ℕ) → LinesAdded from to lines left old mid → left ≡ line ∷ rest → is_of (codes "RDATE") line ≡ true
      → LineFault line n → DatesFault lines n
  line_fault left rest line old mid n t s h f =
      let all = named_next left rest t.done line t.parted s h in (
        f.0,
        (line, subst (λ (l : Lines). Contains l line) (sym all) (Contains-append_right t.done (line ∷ lines_named (codes "RDATE") rest) line (0, omega arith, refl)), f.1),
      )

-- ---- runs on days

-- the runs of the days so far were added, and these are left
pub record DaysAdded (from to : ℤ) (second : ℕ) (days left : List ℕ) (old new : List Run) : Type 0 where
  pub done : List ℕ
  pub parted : days ≡ done ++ left
  pub adds : AddsRuns from to (map (λ day. local_time day second) done) old new

module _ (from to : ℤ) (second : ℕ) (days : List ℕ) where
  pub no_days_added : (left : List ℕ) (old : List Run) → left ≡ days → DaysAdded from to second days left old old
  no_days_added left old e = record { done = []; parted = sym e; adds = no_runs from to old }

  pub day_added : (left rest : List ℕ) (day : ℕ) (old mid new : List Run) → DaysAdded from to second days left old mid → left ≡ day ∷ rest
      → AddsRuns from to (local_time day second ∷ []) mid new → DaysAdded from to second days rest old new
  day_added left rest day old mid new t e a = record {
    done = t.done ++ day ∷ [];
    parted = t.parted ∙ ap (λ l. t.done ++ l) e ∙ sym (append_assoc t.done (day ∷ []) rest);
    adds = subst (λ (ds : List ℤ). AddsRuns from to ds old new) (sym (map-append (λ (d : ℕ). local_time d second) t.done (day ∷ [])))
        (then_more from to (map (λ (d : ℕ). local_time d second) t.done) (local_time day second ∷ []) old mid new t.adds a);
  }

  pub days_added : (left : List ℕ) (old new : List Run) → DaysAdded from to second days left old new → left ≡ [] → AddsRuns from to (map (λ day. local_time day second) days) old new
  days_added left old new t e =
      let all : days ≡ t.done = t.parted ∙ ap (λ l. t.done ++ l) e ∙ append-nil t.done in
      subst (λ (ds : List ℕ). AddsRuns from to (map (λ day. local_time day second) ds) old new) (sym all) t.adds

-- ---- the parts

-- the runs of the parts so far were added, and these parts are left; the flag says whether there was one
pub record PartsAdded (parts left : List Lines) (some : Bool) (runs : List Run) : Type 0 where
  pub done : List Lines
  pub parted : parts ≡ done ++ left
  pub seen : some ≡ not (is_missing done)
  pub each : List (List Run)
  pub say : AllZip SaysRuns done each
  pub all : runs ≡ flat_map (λ xs. xs) each

one_there : {A : Type 0} (xs : List A) (x : A) → true ≡ not (is_missing (xs ++ x ∷ []))
one_there [] x = refl
one_there (y ∷ xs) x = refl

none_there : {A : Type 0} (xs : List A) → false ≡ not (is_missing xs) → xs ≡ []
none_there [] h = refl
none_there (x ∷ xs) h = absurd (false≢true h)

module _ (parts : List Lines) where
  pub no_parts : (left : List Lines) → left ≡ parts → PartsAdded parts left false []
  no_parts left e = record { done = []; parted = sym e; seen = refl; each = []; say = tt; all = refl }

  pub next_part : (left rest : List Lines) (some : Bool) (part : Lines) (old new : List Run) → PartsAdded parts left some old → left ≡ part ∷ rest → AddsPart part old new → PartsAdded parts rest true new
  next_part left rest some part old new t s (more, says, behind) = record {
    done = t.done ++ part ∷ [];
    parted = t.parted ∙ ap (λ l. t.done ++ l) s ∙ sym (append_assoc t.done (part ∷ []) rest);
    seen = one_there t.done part;
    each = t.each ++ more ∷ [];
    say = zip_append SaysRuns t.done (part ∷ []) t.each (more ∷ []) t.say (says, tt);
    all = behind ∙ ap (λ l. l ++ more) t.all ∙ sym (behind_all t.each more);
  }

  done_all : (left : List Lines) (some : Bool) (runs : List Run) → (t : PartsAdded parts left some runs) → left ≡ [] → parts ≡ t.done
  done_all left some runs t e = t.parted ∙ ap (λ l. t.done ++ l) e ∙ append-nil t.done

  -- none is left, and there was one
  pub parts_say : (left : List Lines) (runs : List Run) → PartsAdded parts left true runs → left ≡ [] → PartsSayRuns parts runs
  parts_say left runs t e =
      let all = done_all left true runs t e in
      record {
        some = λ none. false≢true (sym (t.seen ∙ ap (λ (l : List Lines). not (is_missing l)) (sym all ∙ none)));
        each = t.each;
        say = subst (λ (l : List Lines). AllZip SaysRuns l t.each) (sym all) t.say;
        all = t.all;
      }

  -- and there was none
  pub none_say : (left : List Lines) (runs : List Run) → PartsAdded parts left false runs → left ≡ [] → parts ≡ []
  none_say left runs t e = done_all left false runs t e ∙ none_there t.done t.seen
