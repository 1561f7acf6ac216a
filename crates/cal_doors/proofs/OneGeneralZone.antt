-- A VTIMEZONE says at most one zone in general, and none where it has a fault. For `one_general_zone`.
use Rattle.std.proofs.Common.{◌≡◌, ◌∙◌, ap, sym, refl, subst, inl, inr, ℕ, zero, suc, ◌+◌, ◌≤◌, ◌==◌, List, [], ◌∷◌, ◌++◌, length, map, codes, arith, ℤ, ◌+ℤ◌, ◌≤ℤ◌, true}
use Rattle.std.specs.Prelude.{◌↔◌, Option, Some, None, Contains}
use Rattle.std.specs.List.{AllZip, flat_map, slice_split}
use Rattle.std.proofs.lemmas.Bool.{true≢false}
use Rattle.profile.specs.text.Lines.{line_value}
use Rattle.profile.specs.text.Trees.{Tree}
use Rattle.profile.specs.text.Values.{SpellsLocal}
use Rattle.profile.specs.events.Properties.{lines_named, OccursMoreThanOnce, IsMissing, BothOrNeither, Says}
use Rattle.profile.specs.series.Rules.{RuleText, Until, UntilDay, UntilLocal, UntilInstant, on_day_of_start, rule_of, rule_days_from}
use Rattle.profile.specs.series.Zones.{Observance, local_time}
use Rattle.profile.specs.series.ZoneTexts.{parts_by, is_part, IsLocalLine, IsOffsetLine, YearRule, year_pattern, is_one_day}
use Rattle.profile.specs.series.GeneralZones.{End, Never, AfterCount, AtInstant, Run}
use Rattle.profile.specs.series.GeneralZoneTexts.{SaysStartAndOffsets, IsDatesLine, SaysDates, IsRunAt, without_end, IsEndOf, EndingRule, SpellsEnding, IsEndingLine, IsLastOnsetDay, SpellsOnsetDays, IsDaysLine, AreFirstRuns, once, yearly, listed, SaysRuns, PartsSayRuns, SaysGeneralZone, SpellsNoOnsets, RunsFault, missing, twice, fixed, bad_start, bad_from, bad_to, bad_date, two_rules, bad_rule, GeneralPartsFault, no_part, in_part, GeneralZoneFault}
use Rattle.ical_tree.proofs.OneLine.{same_option}
use Rattle.cal_zones.proofs.Named.{one_named, one_day_parts}
use Rattle.cal_zones.proofs.OneZone.{OneLocal, OneOffset, OneRule, SameTimes, said_same, said_by, present, occurs_once, no_z, same_day, same_second, observance_same, year_rule_same, each_name}

-- ---- lists, one by one

pub zip_one : {A B : Type 0} (R : A → B → Type 0) → ((x : A) (y z : B) → R x y → R x z → y ≡ z) → (xs : List A) (ys zs : List B) → AllZip R xs ys → AllZip R xs zs → ys ≡ zs
zip_one R f [] [] [] h k = refl
zip_one R f [] [] (z ∷ zs) h k = absurd k
zip_one R f [] (y ∷ ys) zs h k = absurd h
zip_one R f (x ∷ xs) [] zs h k = absurd h
zip_one R f (x ∷ xs) (y ∷ ys) [] h k = absurd k
zip_one R f (x ∷ xs) (y ∷ ys) (z ∷ zs) (h, hs) (k, ks) = ap (λ l. l ∷ ys) (f x y z h k) ∙ ap (λ l. z ∷ l) (zip_one R f xs ys zs hs ks)

zip_there : {A B : Type 0} (R : A → B → Type 0) (xs : List A) (ys : List B) (x : A) → AllZip R xs ys → Contains xs x → (y : B) × R x y
zip_there R [] ys x h (k, w, e) = absurd (omega (arith, w))
zip_there R (z ∷ xs) [] x h c = absurd h
zip_there R (z ∷ xs) (y ∷ ys) x (h, hs) (zero, w, e) = (y, subst (λ a. R a y) e h)
zip_there R (z ∷ xs) (y ∷ ys) x (h, hs) (suc k, w, e) = zip_there R xs ys x hs (k, omega (arith, w), e)

-- ---- runs of one onset

abbrev run_at : ℕ → ℕ → ℤ → ℤ → Run
run_at day second from to = record { observance = record { day = day; second = second; rule = None; offset_from = from; offset_to = to }; end = Never }

abbrev run_to : Observance → End → List Run
run_to o end = record { observance = o; end = end } ∷ []

run_one : (o p : Observance) (local : ℤ) (a b : Run) → o.offset_from ≡ p.offset_from → o.offset_to ≡ p.offset_to → IsRunAt o local a → IsRunAt p local b → a ≡ b
run_one o p local a b from to h k =
    let day = same_day h.day h.second k.day k.second (h.at ∙ sym k.at) h.in_day k.in_day in
    let second = same_second h.day h.second k.day k.second (h.at ∙ sym k.at) h.in_day k.in_day in
    h.is ∙ ap (λ d. run_at d h.second o.offset_from o.offset_to) day ∙ ap (λ s. run_at k.day s o.offset_from o.offset_to) second
    ∙ ap (λ f. run_at k.day k.second f o.offset_to) from ∙ ap (λ t. run_at k.day k.second p.offset_from t) to ∙ sym k.is

runs_at_one : (o p : Observance) (locals : List ℤ) (xs ys : List Run) → o.offset_from ≡ p.offset_from → o.offset_to ≡ p.offset_to → AllZip (IsRunAt o) locals xs
    → AllZip (IsRunAt p) locals ys → xs ≡ ys
runs_at_one o p [] [] [] from to h k = refl
runs_at_one o p [] [] (b ∷ ys) from to h k = absurd k
runs_at_one o p [] (a ∷ xs) ys from to h k = absurd h
runs_at_one o p (l ∷ ls) [] ys from to h k = absurd h
runs_at_one o p (l ∷ ls) (a ∷ xs) [] from to h k = absurd k
runs_at_one o p (l ∷ ls) (a ∷ xs) (b ∷ ys) from to (h, hs) (k, ks) =
    ap (λ r. r ∷ xs) (run_one o p l a b from to h k) ∙ ap (λ rs. b ∷ rs) (runs_at_one o p ls xs ys from to hs ks)

-- ---- the end of a rule

one_end : (from : ℤ) (count : Option ℕ) (until : Option Until) (a b : End) → IsEndOf from count until a → IsEndOf from count until b → a ≡ b
one_end from None None a b h k = h ∙ sym k
one_end from None (Some (UntilDay day)) a b h k = absurd h
one_end from None (Some (UntilLocal local)) a b h k = h ∙ sym k
one_end from None (Some (UntilInstant until)) a b h k = h ∙ sym k
one_end from (Some count) None a b h k = h ∙ sym k
one_end from (Some count) (Some until) a b h k = absurd h

last_one : (o : Observance) (end : End) (a b : ℕ) → IsLastOnsetDay o end a → IsLastOnsetDay o end b → a ≡ b
last_one o Never a b h k = absurd h
last_one o (AfterCount count) a b h k = absurd h
last_one o (AtInstant until) a b h k =
    let x = (k a).0 ((h a).1 (omega arith)) in
    let y = (h b).0 ((k b).1 (omega arith)) in
    omega (arith, x, y)

-- ---- the same in another observance with those times

abbrev Same : Observance → Observance → Type 0
Same a b = SameTimes a b

last_moved : (a b : Observance) (end : End) (last : ℕ) → Same a b → IsLastOnsetDay a end last → IsLastOnsetDay b end last
last_moved a b Never last e h = absurd h
last_moved a b (AfterCount count) last e h = absurd h
last_moved a b (AtInstant until) last e h = λ day.
    subst (λ from. (local_time day b.second ≤ℤ (until +ℤ from)) ↔ (day ≤ last)) e.from (subst (λ second. (local_time day second ≤ℤ (until +ℤ a.offset_from)) ↔ (day ≤ last)) e.second (h day))

ending_moved : (a b : Observance) (text : List ℕ) (r : EndingRule) → Same a b → SpellsEnding a text r → SpellsEnding b text r
ending_moved a b text r e s = record {
  rule = s.rule;
  spelled = s.spelled;
  one_day = subst (λ day. is_one_day (without_end (on_day_of_start day s.rule)) r.each ≡ true) e.day s.one_day;
  ends = subst (λ from. IsEndOf from s.rule.count s.rule.until r.end) e.from s.ends;
}

days_moved : (a b : Observance) (text : List ℕ) (days : List ℕ) → Same a b → SpellsOnsetDays a text days → SpellsOnsetDays b text days
days_moved a b text days e s = record {
  rule = s.rule;
  spelled = s.spelled;
  not_one_day = subst (λ day. (each : YearRule) → is_one_day (without_end (on_day_of_start day s.rule)) each ≡ true → ⊥) e.day s.not_one_day;
  end = s.end;
  ends = subst (λ from. IsEndOf from s.rule.count s.rule.until s.end) e.from s.ends;
  last = s.last;
  allowed = last_moved a b s.end s.last e s.allowed;
  near = subst (λ day. s.last ≤ day + 14_610) e.day s.near;
  listed = subst (λ day. days ≡ rule_days_from (rule_of (on_day_of_start day s.rule) day s.last) day) e.day s.listed;
  few = s.few;
}

-- ---- what a property says

says_moved : {V : Type 0} (R S : List ℕ → V → Type 0) (name : List ℕ) (lines : List (List ℕ)) (v : V) → ((line : List ℕ) → R line v → S line v) → Says name true R lines (Some v)
    → Says name true S lines (Some v)
says_moved {V} R S name lines v f s = record { line = s.line; once = s.once; present = s.present; is = go s.line s.is }
  where
    go : (l : Option (List ℕ)) → BothOrNeither R l (Some v) → BothOrNeither S l (Some v)
    go None h = absurd h
    go (Some x) h = f x h

both_said : {V W : Type 0} (R : List ℕ → V → Type 0) (S : List ℕ → W → Type 0) (name : List ℕ) (lines : List (List ℕ)) (v : V) (w : W) → Says name true R lines (Some v)
    → Says name true S lines (Some w) → (line : List ℕ) × R line v × S line w
both_said {V} {W} R S name lines v w s t =
    go s.line s.is (subst (λ (l : Option (List ℕ)). BothOrNeither S l (Some w)) (same_option t.line s.line (sym t.once ∙ s.once)) t.is)
  where
    go : (l : Option (List ℕ)) → BothOrNeither R l (Some v) → BothOrNeither S l (Some w) → (line : List ℕ) × R line v × S line w
    go None h k = absurd h
    go (Some x) h k = (x, h, k)

module _ (local : OneLocal) (offset : OneOffset) (rules : OneRule) where
  local_one : (line : List ℕ) (a b : ℤ) → IsLocalLine line a → IsLocalLine line b → a ≡ b
  local_one line a b h k = local (line_value line) a b h.2 k.2

  offset_one : (line : List ℕ) (a b : ℤ) → IsOffsetLine line a → IsOffsetLine line b → a ≡ b
  offset_one line a b h k = offset (line_value line) a b h k

  times_same : (lines : List (List ℕ)) (a b : Observance) → SaysStartAndOffsets lines a → SaysStartAndOffsets lines b → SameTimes a b
  times_same lines a b s t =
      let start = said_same IsLocalLine (codes "DTSTART") lines (local_time a.day a.second) (local_time b.day b.second) local_one s.start t.start in
      record {
        day = same_day a.day a.second b.day b.second start s.second t.second;
        second = same_second a.day a.second b.day b.second start s.second t.second;
        from = said_same IsOffsetLine (codes "TZOFFSETFROM") lines a.offset_from b.offset_from offset_one s.from t.from;
        to = said_same IsOffsetLine (codes "TZOFFSETTO") lines a.offset_to b.offset_to offset_one s.to t.to;
      }

  -- ---- rules

  ending_one : (o : Observance) (line : List ℕ) (a b : EndingRule) → IsEndingLine o line a → IsEndingLine o line b → a ≡ b
  ending_one o line a b s t =
      let same = rules (line_value line) s.rule t.rule s.spelled t.spelled in
      let there = subst (λ (r : RuleText). is_one_day (without_end (on_day_of_start o.day r)) b.each ≡ true) (sym same) t.one_day in
      let ends = subst (λ (r : RuleText). IsEndOf o.offset_from r.count r.until b.end) (sym same) t.ends in
      let p = one_day_parts (without_end (on_day_of_start o.day s.rule)) a.each s.one_day in
      let q = one_named (without_end (on_day_of_start o.day s.rule)) a.each.month a.each.days b.each p.month p.days there in
      ending_same a b (year_rule_same a.each b.each q.0 q.1) (one_end o.offset_from s.rule.count s.rule.until a.end b.end s.ends ends)
    where
      ending_same : (a b : EndingRule) → a.each ≡ b.each → a.end ≡ b.end → a ≡ b
      ending_same a b p q = λ i. record { each = p i; end = q i }

  days_one : (o : Observance) (line : List ℕ) (a b : List ℕ) → IsDaysLine o line a → IsDaysLine o line b → a ≡ b
  days_one o line a b s t =
      let same = rules (line_value line) s.rule t.rule s.spelled t.spelled in
      let ends = one_end o.offset_from s.rule.count s.rule.until s.end t.end s.ends (subst (λ (r : RuleText). IsEndOf o.offset_from r.count r.until t.end) (sym same) t.ends) in
      let last = last_one o t.end s.last t.last (subst (λ (e : End). IsLastOnsetDay o e s.last) ends s.allowed) t.allowed in
      s.listed ∙ ap (λ (r : RuleText). rule_days_from (rule_of (on_day_of_start o.day r) o.day s.last) o.day) same
      ∙ ap (λ (l : ℕ). rule_days_from (rule_of (on_day_of_start o.day t.rule) o.day l) o.day) last ∙ sym t.listed

  not_both : (o : Observance) (line : List ℕ) (r : EndingRule) (days : List ℕ) → IsEndingLine o line r → IsDaysLine o line days → ⊥
  not_both o line r days s t =
      let same = rules (line_value line) s.rule t.rule s.spelled t.spelled in
      t.not_one_day r.each (subst (λ (rule : RuleText). is_one_day (without_end (on_day_of_start o.day rule)) r.each ≡ true) same s.one_day)

  -- ---- a part

  firsts_one : (lines : List (List ℕ)) (a b : Observance) (x y : List Run) → Same a b → AreFirstRuns lines a x → AreFirstRuns lines b y → x ≡ y
  firsts_one lines a b x y e (once none r) (once none_too q) =
      ap (λ (o : Observance). run_to o Never) (observance_same a b e.day e.second (r ∙ sym q) e.from e.to)
  firsts_one lines a b x y e (once none r) (yearly q says is) = absurd (present (IsEndingLine b) (codes "RRULE") lines q says none)
  firsts_one lines a b x y e (once none r) (listed days runs says at) = absurd (present (IsDaysLine b) (codes "RRULE") lines days says none)
  firsts_one lines a b x y e (yearly r says is) (once none q) = absurd (present (IsEndingLine a) (codes "RRULE") lines r says none)
  firsts_one lines a b x y e (yearly r says is) (yearly q said is_too) =
      let same = said_same (IsEndingLine b) (codes "RRULE") lines r q (ending_one b) (says_moved (IsEndingLine a) (IsEndingLine b) (codes "RRULE") lines r (λ line. ending_moved a b (line_value line) r e) says) said in
      let rule : a.rule ≡ b.rule = is ∙ ap (λ n. Some (year_pattern r.each n)) e.day ∙ ap (λ (t : EndingRule). Some (year_pattern t.each b.day)) same ∙ sym is_too in
      ap (λ (o : Observance). run_to o r.end) (observance_same a b e.day e.second rule e.from e.to)
      ∙ ap (λ (t : EndingRule). run_to b t.end) same
  firsts_one lines a b x y e (yearly r says is) (listed days runs said at) =
      let h = both_said (IsEndingLine b) (IsDaysLine b) (codes "RRULE") lines r days (says_moved (IsEndingLine a) (IsEndingLine b) (codes "RRULE") lines r (λ line. ending_moved a b (line_value line) r e) says) said in
      absurd (not_both b h.0 r days h.1 h.2)
  firsts_one lines a b x y e (listed days runs says at) (once none q) = absurd (present (IsDaysLine a) (codes "RRULE") lines days says none)
  firsts_one lines a b x y e (listed days runs says at) (yearly q said is) =
      let h = both_said (IsEndingLine b) (IsDaysLine b) (codes "RRULE") lines q days said (says_moved (IsDaysLine a) (IsDaysLine b) (codes "RRULE") lines days (λ line. days_moved a b (line_value line) days e) says) in
      absurd (not_both b h.0 q days h.1 h.2)
  firsts_one lines a b x y e (listed days runs says at) (listed days_too runs_too said at_too) =
      let same = said_same (IsDaysLine b) (codes "RRULE") lines days days_too (days_one b) (says_moved (IsDaysLine a) (IsDaysLine b) (codes "RRULE") lines days (λ line. days_moved a b (line_value line) days e) says) said in
      let locals = ap (λ second. map (λ day. local_time day second) days) e.second ∙ ap (λ (ds : List ℕ). map (λ day. local_time day b.second) ds) same in
      runs_at_one a b (map (λ day. local_time day b.second) days_too) runs runs_too e.from e.to (subst (λ (ls : List ℤ). AllZip (IsRunAt a) ls runs) locals at) at_too

  dates_one : (lines : List (List ℕ)) (a b : List ℤ) → SaysDates lines a → SaysDates lines b → a ≡ b
  dates_one lines a b (x, h, e) (y, k, f) =
      e ∙ ap (λ (ls : List (List ℤ)). flat_map (λ xs. xs) ls) (zip_one IsDatesLine line_one (lines_named (codes "RDATE") lines) x y h k) ∙ sym f
    where
      line_one : (line : List ℕ) (v w : List ℤ) → IsDatesLine line v → IsDatesLine line w → v ≡ w
      line_one line v w s t = zip_one SpellsLocal local (slice_split (λ c. c == 44) (line_value line)) v w s.2 t.2

  runs_one : (lines : List (List ℕ)) (x y : List Run) → SaysRuns lines x → SaysRuns lines y → x ≡ y
  runs_one lines x y s t =
      let e = times_same lines s.o t.o s.times t.times in
      let dates = dates_one lines s.dates t.dates s.says_dates t.says_dates in
      let firsts = firsts_one lines s.o t.o s.firsts t.firsts e s.are_first t.are_first in
      let others = runs_at_one s.o t.o t.dates s.others t.others e.from e.to (subst (λ (ls : List ℤ). AllZip (IsRunAt s.o) ls s.others) dates s.at_dates) t.at_dates in
      s.all ∙ ap (λ (l : List Run). l ++ s.others) firsts ∙ ap (λ (l : List Run). t.firsts ++ l) others ∙ sym t.all

  -- ---- faults

  no_rule_fault : (lines : List (List ℕ)) (o p : Observance) (runs : List Run) (line : List ℕ) → Same o p → AreFirstRuns lines o runs → Contains (lines_named (codes "RRULE") lines) line
      → SpellsNoOnsets p (line_value line) → ⊥
  no_rule_fault lines o p runs line e (once none r) c f = let h = subst (λ (ls : List (List ℕ)). Contains ls line) none c in omega (arith, h.1)
  no_rule_fault lines o p runs line e (yearly r says is) c f = f.0 r (ending_moved o p (line_value line) r e (said_by (IsEndingLine o) (codes "RRULE") lines r line says c))
  no_rule_fault lines o p runs line e (listed days rs says at) c f = f.1 days (days_moved o p (line_value line) days e (said_by (IsDaysLine o) (codes "RRULE") lines days line says c))

  one_rule_there : (lines : List (List ℕ)) (o : Observance) (runs : List Run) → AreFirstRuns lines o runs → OccursMoreThanOnce (codes "RRULE") lines → ⊥
  one_rule_there lines o runs (once none r) h = let l : length (lines_named (codes "RRULE") lines) ≡ 0 = ap length none in omega (arith, h, l)
  one_rule_there lines o runs (yearly r says is) h = occurs_once (IsEndingLine o) (codes "RRULE") lines r says h
  one_rule_there lines o runs (listed days rs says at) h = occurs_once (IsDaysLine o) (codes "RRULE") lines days says h

  runs_sound : (lines : List (List ℕ)) (runs : List Run) (n : ℕ) → SaysRuns lines runs → RunsFault lines n → ⊥
  runs_sound lines runs n s (missing name c h) =
      let o = s.o in
      let t = s.times in
      each_name (λ x. IsMissing x lines → ⊥) name c (present IsLocalLine (codes "DTSTART") lines (local_time o.day o.second) t.start)
      (present IsOffsetLine (codes "TZOFFSETFROM") lines o.offset_from t.from) (present IsOffsetLine (codes "TZOFFSETTO") lines o.offset_to t.to) h
  runs_sound lines runs n s (twice name c h) =
      let o = s.o in
      let t = s.times in
      each_name (λ x. OccursMoreThanOnce x lines → ⊥) name c (occurs_once IsLocalLine (codes "DTSTART") lines (local_time o.day o.second) t.start)
      (occurs_once IsOffsetLine (codes "TZOFFSETFROM") lines o.offset_from t.from) (occurs_once IsOffsetLine (codes "TZOFFSETTO") lines o.offset_to t.to) h
  runs_sound lines runs n s (fixed (line, c, inl z)) =
      let o = s.o in
      let t = s.times in
      let said = said_by IsLocalLine (codes "DTSTART") lines (local_time o.day o.second) line t.start c in no_z (line_value line) (local_time o.day o.second) said.2 z
  runs_sound lines runs n s (fixed (line, c, inr zone)) =
      let o = s.o in
      let t = s.times in
      let said = said_by IsLocalLine (codes "DTSTART") lines (local_time o.day o.second) line t.start c in zone said.1
  runs_sound lines runs n s (bad_start (line, c, inl other)) =
      let o = s.o in
      let t = s.times in
      let said = said_by IsLocalLine (codes "DTSTART") lines (local_time o.day o.second) line t.start c in true≢false (sym said.0 ∙ other)
  runs_sound lines runs n s (bad_start (line, c, inr none)) =
      let o = s.o in
      let t = s.times in
      let said = said_by IsLocalLine (codes "DTSTART") lines (local_time o.day o.second) line t.start c in none (local_time o.day o.second) said.2
  runs_sound lines runs n s (bad_from (line, c, none)) = let o = s.o in let t = s.times in none o.offset_from (said_by IsOffsetLine (codes "TZOFFSETFROM") lines o.offset_from line t.from c)
  runs_sound lines runs n s (bad_to (line, c, none)) = let o = s.o in let t = s.times in none o.offset_to (said_by IsOffsetLine (codes "TZOFFSETTO") lines o.offset_to line t.to c)
  runs_sound lines runs n s (bad_date (line, c, none)) =
      let d = s.says_dates in
      let there = zip_there IsDatesLine (lines_named (codes "RDATE") lines) d.0 line d.1 c in
      none there.0 there.1
  runs_sound lines runs n s (two_rules h) = one_rule_there lines s.o s.firsts s.are_first h
  runs_sound lines runs n s (bad_rule o times (line, c, f)) = no_rule_fault lines s.o o s.firsts line (times_same lines s.o o s.times times) s.are_first c f

  parts_sound : (parts : List (List (List ℕ))) (runs : List Run) (n : ℕ) → PartsSayRuns parts runs → GeneralPartsFault parts n → ⊥
  parts_sound parts runs n s (no_part e) = s.some e
  parts_sound parts runs n s (in_part part c f) = let there = zip_there SaysRuns parts s.each part s.say c in runs_sound part there.0 n there.1 f

  -- ---- a VTIMEZONE

  pub one_zone : (t : Tree) (a b : List Run) → SaysGeneralZone t a → SaysGeneralZone t b → a ≡ b
  one_zone t a b s u = s.all ∙ ap (λ (ls : List (List Run)). flat_map (λ xs. xs) ls) (zip_one SaysRuns runs_one (parts_by is_part t) s.each u.each s.say u.say) ∙ sym u.all

  pub or_a_fault : (t : Tree) (a : List Run) (n : ℕ) → SaysGeneralZone t a → GeneralZoneFault t n → ⊥
  or_a_fault t a n s f = parts_sound (parts_by is_part t) a n s f
