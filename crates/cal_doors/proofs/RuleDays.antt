-- The rule of a part of a VTIMEZONE: its end, and the days that it lists.
use Rattle.std.proofs.Common.{get_or, zero, suc, append_assoc, append-nil, ◌≡◌, ◌∙◌, ap, sym, refl, subst, arith, ℕ, ◌+◌, ◌-◌, ◌/◌, ◌%◌, ◌<◌, ◌≤◌, Bool, true, false, cond, ◌&&◌, List, [], ◌∷◌, ◌++◌, length, map, filter, ℤ, pos, negsuc, ◌+ℤ◌, ◌-ℤ◌, ◌*ℤ◌, ◌≤ℤ◌, unsigned_abs, to_z, of_z, w32, w64}
use Rattle.std.specs.Prelude.{Option, Some, None, nat_le}
use Rattle.std.specs.Int.Signed.{◌<ℤ◌}
use Rattle.std.specs.List.{list_all}
use Rattle.std.proofs.lemmas.Bool.{and_parts}
use Rattle.std.proofs.lemmas.List.{map-append, length-append, length-map}
use Rattle.std.proofs.lemmas.Bool.Decides.{nat_tests}
use Rattle.jiff_core.proofs.SignedLemmas.{signed_arith, one_part}
use Rattle.profile.specs.series.Days.{day_index}
use Rattle.profile.specs.series.Rules.{Rule, RuleText, Until, UntilDay, UntilLocal, UntilInstant, leaves_day_to_start, on_day_of_start, rule_of, is_rule_day, is_counted, is_within_count, rule_days_from}
use Rattle.profile.specs.series.RuleTexts.{SpellsRule}
use Rattle.profile.specs.series.Zones.{Observance, local_time}
use Rattle.profile.specs.series.ZoneTexts.{YearRule, is_one_day}
use Rattle.profile.specs.series.GeneralZones.{End, AfterCount, AtInstant}
use Rattle.profile.specs.series.GeneralZones as general
use Rattle.profile.specs.series.GeneralZoneTexts.{without_end, IsEndOf, IsLastOnsetDay, EndingRule, SpellsEnding, SpellsOnsetDays}
use Rattle.profile.specs.text.Values.{IsClockSeconds, IsOffset}
use Rattle.cal_zones.proofs.Casts.{narrow, wide_offset}
use Rattle.cal_doors.specs.Ends.{IsNearInstant}
use Rattle.cal_doors.specs.Reading.{IsLastFrom, AreDaysTo, AreNoDaysTo}
use Rattle.cal_doors.specs.declared.rule.Last.{Last}
use Rattle.cal_doors.specs.declared.rule.Last.TheVariants.{Never, Before, Far, On}
use Rattle.cal_doors.specs.Listed.{HasStart, days_to, AreListedDays, AreMany}

-- ---- DTSTART

-- an observance of this DTSTART and these offsets
abbrev pub starting : ℤ → ℤ → ℤ → Observance
starting start from to =
    let seconds = unsigned_abs (start +ℤ pos 62_167_219_200) in
    record { day = seconds / 86_400; second = seconds % 86_400; rule = None; offset_from = from; offset_to = to }

pub some_start : (start from to : ℤ) → IsClockSeconds start → HasStart start from (starting start from to)
some_start start from to range = record { start_there = omega (arith, signed_arith, range, one_part (start +ℤ pos 62_167_219_200)); second = omega arith; before = refl }

-- its day and its second
pub day_is : (start from z : ℤ) (s : ℕ) (o : Observance) → s < 86_400 → start ≡ (z *ℤ pos 86_400) +ℤ pos s → HasStart start from o → day_index z ≡ o.day
day_is start from z s o w sum has = let e = has.start_there in let v = has.second in omega (arith, signed_arith, w, sum, e, v, one_part (z +ℤ pos 719_528))

pub second_is : (start from z : ℤ) (s : ℕ) (o : Observance) → s < 86_400 → start ≡ (z *ℤ pos 86_400) +ℤ pos s → HasStart start from o → s ≡ o.second
second_is start from z s o w sum has = let e = has.start_there in let v = has.second in omega (arith, signed_arith, w, sum, e, v, one_part (z +ℤ pos 719_528))

-- ---- ends

pub one_end : (from : ℤ) (count : Option ℕ) (until : Option Until) (a b : End) → IsEndOf from count until a → IsEndOf from count until b → a ≡ b
one_end from None None a b h k = h ∙ sym k
one_end from None (Some (UntilDay day)) a b h k = absurd h
one_end from None (Some (UntilLocal local)) a b h k = h ∙ sym k
one_end from None (Some (UntilInstant until)) a b h k = h ∙ sym k
one_end from (Some count) None a b h k = h ∙ sym k
one_end from (Some count) (Some until) a b h k = absurd h

pub one_last : (o : Observance) (end : End) (a b : ℕ) → IsLastOnsetDay o end a → IsLastOnsetDay o end b → a ≡ b
one_last o general.Never a b h k = absurd h
one_last o (AfterCount count) a b h k = absurd h
one_last o (AtInstant until) a b h k =
    let low = (k a).0 ((h a).1 (omega arith)) in
    let high = (h b).0 ((k b).1 (omega arith)) in
    omega (arith, low, high)

-- this many seconds after DTSTART
pub last_at : (o : Observance) (until from start : ℤ) (n : ℕ) → HasStart start from o → pos n ≡ (until +ℤ from) -ℤ start → IsLastOnsetDay o (AtInstant until) (o.day + n / 86_400)
last_at o until from start n has e day =
    let at = has.start_there in
    let same = has.before in
    (λ h. omega (arith, signed_arith, at, same, e, h), λ h. omega (arith, signed_arith, at, same, e, h))

-- before DTSTART
pub last_early : (o : Observance) (until from start : ℤ) → HasStart start from o → IsOffset from → negsuc 62_135_683_199 ≤ℤ until → (until +ℤ from) <ℤ start
    → (last : ℕ) × IsLastOnsetDay o (AtInstant until) last × (last < o.day)
last_early o until from start has short near early =
    let at = has.start_there in
    let same = has.before in
    let w = has.second in
    let n = unsigned_abs ((until +ℤ from) +ℤ pos 62_167_219_200) in
    let is : pos n ≡ (until +ℤ from) +ℤ pos 62_167_219_200 = omega (arith, signed_arith, short, near, one_part ((until +ℤ from) +ℤ pos 62_167_219_200)) in
    let big : 86_400 ≤ n = omega (arith, signed_arith, short, near) in (
      (n - o.second) / 86_400,
      λ day. (λ h. omega (arith, signed_arith, same, is, big, w, h), λ h. omega (arith, signed_arith, same, is, big, w, h)),
      omega (arith, signed_arith, at, same, is, big, w, early),
    )

-- an instant on the clock of TZOFFSETFROM, in the widths that hold both
pub shown_at : (until s : ℤ) → IsNearInstant until → IsOffset s → to_z w64 (of_z w64 (to_z w64 (of_z w64 until) +ℤ to_z w64 (of_z w64 (to_z w32 (of_z w32 s))))) ≡ until +ℤ s
shown_at until s near short =
    let same : to_z w64 (of_z w64 until) ≡ until = omega (arith, signed_arith, near) in
    let sum : to_z w64 (of_z w64 (until +ℤ s)) ≡ until +ℤ s = omega (arith, signed_arith, near, short) in
    rw (narrow s short, wide_offset s short, same) sum

-- the days from DTSTART's to the last
pub apart : (shown begin : ℤ) (n : ℕ) → n ≡ unsigned_abs (shown -ℤ begin) → begin ≤ℤ shown → pos n ≡ shown -ℤ begin
apart shown begin n e l = omega (arith, signed_arith, e, l, one_part (shown -ℤ begin))

pub index_to : (until s begin z : ℤ) (second n : ℕ) → IsNearInstant until → IsOffset s → IsClockSeconds begin → second < 86_400 → begin ≡ (z *ℤ pos 86_400) +ℤ pos second
    → pos n ≡ (until +ℤ s) -ℤ begin → (366 ≤ day_index z + n / 86_400) × (day_index z + n / 86_400 ≤ 3_653_155) × (n / 86_400 ≤ 3_653_155)
index_to until s begin z second n near short range w sum is =
    let index : pos (day_index z) ≡ z +ℤ pos 719_528 = omega (arith, signed_arith, range, w, sum, one_part (z +ℤ pos 719_528)) in (
      omega (arith, signed_arith, near, short, range, w, sum, is, index),
      omega (arith, signed_arith, near, short, range, w, sum, is, index),
      omega (arith, signed_arith, near, short, range, w, sum, is, index),
    )

-- ---- COUNT and UNTIL stay where the month day of DTSTART is written out

same_count : (b : Bool) (x y : RuleText) → x.count ≡ y.count → (cond b x y).count ≡ y.count
same_count true x y h = h
same_count false x y h = refl

same_until : (b : Bool) (x y : RuleText) → x.until ≡ y.until → (cond b x y).until ≡ y.until
same_until true x y h = h
same_until false x y h = refl

pub count_stays : (start : ℕ) (rule : RuleText) → (on_day_of_start start rule).count ≡ rule.count
count_stays start rule = same_count (leaves_day_to_start rule) _ rule refl

pub until_stays : (start : ℕ) (rule : RuleText) → (on_day_of_start start rule).until ≡ rule.until
until_stays start rule = same_until (leaves_day_to_start rule) _ rule refl

-- ---- what a text says

abbrev pub IsOneRule : Type 0
IsOneRule = (text : List ℕ) (a b : RuleText) → SpellsRule text a → SpellsRule text b → a ≡ b

-- one rule is spelled, and its month day is that of DTSTART
pub record IsRuleOf (start from : ℤ) (text : List ℕ) (first : ℕ) (rule : RuleText) : Type 0 where
  pub spelled_rule : RuleText
  pub one : IsOneRule
  pub spelled : SpellsRule text spelled_rule
  pub on_day : rule ≡ on_day_of_start first spelled_rule
  pub here : (o : Observance) → HasStart start from o → first ≡ o.day

pub rule_read : (start from : ℤ) (text : List ℕ) (z : ℤ) (second : ℕ) (rule spelled : RuleText) → IsOneRule → SpellsRule text spelled → rule ≡ on_day_of_start (day_index z) spelled
    → second < 86_400 → start ≡ (z *ℤ pos 86_400) +ℤ pos second → IsRuleOf start from text (day_index z) rule
rule_read start from text z second rule spelled one says on_day w sum =
    record { spelled_rule = spelled; one = one; spelled = says; on_day = on_day; here = λ o has. day_is start from z second o w sum has }

module _ (start from : ℤ) (text : List ℕ) (first : ℕ) (rule : RuleText) (is : IsRuleOf start from text first rule) where
  -- what is said of the end of the one is said of the other's
  ends_there : (end : End) → IsEndOf from rule.count rule.until end → IsEndOf from is.spelled_rule.count is.spelled_rule.until end
  ends_there end h =
      let count = ap (λ (r : RuleText). r.count) is.on_day ∙ count_stays first is.spelled_rule in
      let until = ap (λ (r : RuleText). r.until) is.on_day ∙ until_stays first is.spelled_rule in
      subst (λ (c : Option ℕ). IsEndOf from c is.spelled_rule.until end) count (subst (λ (u : Option Until). IsEndOf from rule.count u end) until h)

  ends_here : (end : End) → IsEndOf from is.spelled_rule.count is.spelled_rule.until end → IsEndOf from rule.count rule.until end
  ends_here end h =
      let count = ap (λ (r : RuleText). r.count) is.on_day ∙ count_stays first is.spelled_rule in
      let until = ap (λ (r : RuleText). r.until) is.on_day ∙ until_stays first is.spelled_rule in
      subst (λ (c : Option ℕ). IsEndOf from c rule.until end) (sym count) (subst (λ (u : Option Until). IsEndOf from is.spelled_rule.count u end) (sym until) h)

  rule_at : (o : Observance) → HasStart start from o → on_day_of_start o.day is.spelled_rule ≡ rule
  rule_at o has = ap (λ (d : ℕ). on_day_of_start d is.spelled_rule) (sym (is.here o has)) ∙ sym is.on_day

  ends_as : (o : Observance) (end : End) → HasStart start from o → IsEndOf from is.spelled_rule.count is.spelled_rule.until end → IsEndOf o.offset_from is.spelled_rule.count is.spelled_rule.until end
  ends_as o end has h = subst (λ (z : ℤ). IsEndOf z is.spelled_rule.count is.spelled_rule.until end) (sym has.before) h

  -- the end of the rule that a text is known to spell
  end_here : (o : Observance) (other : RuleText) (end : End) → HasStart start from o → SpellsRule text other → IsEndOf o.offset_from other.count other.until end → IsEndOf from rule.count rule.until end
  end_here o other end has spelled h =
      ends_here end
      (subst (λ (z : ℤ). IsEndOf z is.spelled_rule.count is.spelled_rule.until end) has.before
      (subst (λ (r : RuleText). IsEndOf o.offset_from r.count r.until end) (is.one text other is.spelled_rule spelled is.spelled) h))

  pub ending_said : (o : Observance) (r : EndingRule) → HasStart start from o → is_one_day (without_end rule) r.each ≡ true → IsEndOf from rule.count rule.until r.end → SpellsEnding o text r
  ending_said o r has day ends = record {
    rule = is.spelled_rule;
    spelled = is.spelled;
    one_day = subst (λ (t : RuleText). is_one_day (without_end t) r.each ≡ true) (sym (rule_at o has)) day;
    ends = ends_as o r.end has (ends_there r.end ends);
  }

  pub days_said : (o : Observance) (end : End) (last : ℕ) (days : List ℕ) → HasStart start from o → IsEndOf from rule.count rule.until end → IsLastOnsetDay o end last → last ≤ o.day + 14_610
      → ((each : YearRule) → is_one_day (without_end rule) each ≡ true → ⊥) → AreListedDays rule first last days → SpellsOnsetDays o text days
  days_said o end last days has ends allowed near none (are, few) = record {
    rule = is.spelled_rule;
    spelled = is.spelled;
    not_one_day = λ each one. none each (subst (λ (t : RuleText). is_one_day (without_end t) each ≡ true) (rule_at o has) one);
    end = end;
    ends = ends_as o end has (ends_there end ends);
    last = last;
    allowed = allowed;
    near = near;
    listed = are ∙ sym (same_days o has last);
    few = few;
  }
    where
      same_days : (o : Observance) → HasStart start from o → (last : ℕ) → days_to (on_day_of_start o.day is.spelled_rule) o.day last ≡ days_to rule first last
      same_days o has last = ap (λ (t : RuleText). days_to t o.day last) (rule_at o has) ∙ ap (λ (d : ℕ). days_to rule d last) (sym (is.here o has))

  -- no end, so neither
  pub no_end : (o : Observance) → HasStart start from o → ((end : End) → IsEndOf from rule.count rule.until end → ⊥)
      → ((r : EndingRule) → SpellsEnding o text r → ⊥) × ((days : List ℕ) → SpellsOnsetDays o text days → ⊥)
  no_end o has none = (λ r s. none r.end (end_here o s.rule r.end has s.spelled s.ends), λ days s. none s.end (end_here o s.rule s.end has s.spelled s.ends))

  pub no_day : (o : Observance) → HasStart start from o → ((r : YearRule) → is_one_day (without_end rule) r ≡ true → ⊥) → (r : EndingRule) → SpellsEnding o text r → ⊥
  no_day o has none r s =
      let same = is.one text s.rule is.spelled_rule s.spelled is.spelled in
      none r.each (subst (λ (t : RuleText). is_one_day (without_end t) r.each ≡ true) (ap (λ (t : RuleText). on_day_of_start o.day t) same ∙ rule_at o has) s.one_day)

  -- it comes to no last day
  pub no_last : (o : Observance) (end : End) → HasStart start from o → IsEndOf from rule.count rule.until end → ((last : ℕ) → IsLastOnsetDay o end last → ⊥) → (days : List ℕ) → SpellsOnsetDays o text days → ⊥
  no_last o end has ends none days s =
      let same = one_end from rule.count rule.until s.end end (end_here o s.rule s.end has s.spelled s.ends) ends in
      none s.last (subst (λ (e : End). IsLastOnsetDay o e s.last) same s.allowed)

  -- the last day is too far
  pub no_far_day : (o : Observance) (end : End) (last : ℕ) → HasStart start from o → IsEndOf from rule.count rule.until end → IsLastOnsetDay o end last → o.day + 14_610 < last → (days : List ℕ)
      → SpellsOnsetDays o text days → ⊥
  no_far_day o end last has ends allowed far days s =
      let same = one_end from rule.count rule.until s.end end (end_here o s.rule s.end has s.spelled s.ends) ends in
      let at : s.last ≡ last = one_last o end s.last last (subst (λ (e : End). IsLastOnsetDay o e s.last) same s.allowed) allowed in
      let near = s.near in
      omega (arith, far, near, at)

  -- too many days
  pub no_days : (o : Observance) (end : End) (last : ℕ) → HasStart start from o → IsEndOf from rule.count rule.until end → IsLastOnsetDay o end last → AreMany rule first last → (days : List ℕ) → SpellsOnsetDays o text days → ⊥
  no_days o end last has ends allowed many days s =
      let same = one_end from rule.count rule.until s.end end (end_here o s.rule s.end has s.spelled s.ends) ends in
      let at : s.last ≡ last = one_last o end s.last last (subst (λ (e : End). IsLastOnsetDay o e s.last) same s.allowed) allowed in
      let other = is.one text s.rule is.spelled_rule s.spelled is.spelled in
      let listed : days ≡ days_to rule first last =
      s.listed
      ∙ ap (λ (t : RuleText). days_to (on_day_of_start o.day t) o.day s.last) other
      ∙ ap (λ (t : RuleText). days_to t o.day s.last) (rule_at o has)
      ∙ ap (λ (d : ℕ). days_to rule d s.last) (sym (is.here o has))
      ∙ ap (λ (l : ℕ). days_to rule first l) at in
      let few : length (days_to rule first last) ≤ 200 = subst (λ (l : List ℕ). length l ≤ 200) listed s.few in
      omega (arith, many, few)

-- ---- the days

-- the days so far, and those that are left
pub next_day : (all : List ℕ) (done : List ℤ) (day : ℤ) (left rest : List ℕ) → all ≡ map day_index done ++ left → left ≡ day_index day ∷ rest → all ≡ map day_index (done ++ day ∷ []) ++ rest
next_day all done day left rest e s =
    e ∙ ap (λ (l : List ℕ). map day_index done ++ l) s ∙ sym (append_assoc (map day_index done) (day_index day ∷ []) rest)
    ∙ ap (λ (l : List ℕ). l ++ rest) (sym (map-append day_index done (day ∷ [])))

pub many_days : (all : List ℕ) (done : List ℤ) (left rest : List ℕ) (day : ℕ) → all ≡ map day_index done ++ left → left ≡ day ∷ rest → length done ≡ 200 → 200 < length all
many_days all done left rest day e s long =
    let there : length all ≡ length (map day_index done ++ day ∷ rest) = ap length (e ∙ ap (λ (l : List ℕ). map day_index done ++ l) s) in
    omega (arith, there, long, length-append (map day_index done) (day ∷ rest), length-map done day_index)

pub all_days : (all : List ℕ) (done : List ℤ) (left : List ℕ) → all ≡ map day_index done ++ left → left ≡ [] → length done ≤ 200 → (map day_index done ≡ all) × (length (map day_index done) ≤ 200)
all_days all done left e none few =
    let same : all ≡ map day_index done = e ∙ ap (λ (l : List ℕ). map day_index done ++ l) none ∙ append-nil (map day_index done) in
    (sym same, omega (arith, few, length-map done day_index))

none_pass : (test : ℕ → Bool) (days : List ℕ) → ((day : ℕ) → test day ≡ false) → filter test days ≡ []
none_pass test [] none = refl
none_pass test (day ∷ days) none = ap (λ (b : Bool). cond b (day ∷ filter test days) (filter test days)) (none day) ∙ none_pass test days none

all_pass : (test within : ℕ → Bool) (days : List ℕ) → ((day : ℕ) → test day ≡ true → within day ≡ true) → list_all within (filter test days) ≡ true
all_pass test within [] each = refl
all_pass test within (day ∷ days) each = by (test day) refl (all_pass test within days each)
  where
    by : (b : Bool) → test day ≡ b → list_all within (filter test days) ≡ true → list_all within (cond b (day ∷ filter test days) (filter test days)) ≡ true
    by true h rest = ap (λ (b : Bool). b && list_all within (filter test days)) (each day h) ∙ rest
    by false h rest = rest

not_both : (r : Rule) (day : ℕ) → r.last < r.pattern.start → is_counted r day ≡ false
unfolding is_counted
not_both r day h = grind (arith, nat_tests)

early_day : (r : Rule) (day : ℕ) → r.last < r.pattern.start → is_rule_day r day ≡ false
unfolding is_rule_day
early_day r day h = ap (λ (b : Bool). b && is_within_count r day) (not_both r day h)

-- none where the last day is before the first
pub days_early : (rule : RuleText) (first last : ℕ) → last < first → AreListedDays rule first last []
unfolding rule_days_from
days_early rule first last h = (sym (none_pass _ _ (λ day. early_day (rule_of rule first last) day h)), omega arith)

counted_bound : (r : Rule) (day : ℕ) → is_counted r day ≡ true → nat_le day 3_652_424 ≡ true
unfolding is_counted
counted_bound r day h = grind (arith, nat_tests)

day_bound : (r : Rule) (day : ℕ) → is_rule_day r day ≡ true → nat_le day 3_652_424 ≡ true
unfolding is_rule_day
day_bound r day h = counted_bound r day (and_parts (is_counted r day) (is_within_count r day) h).0

-- none is after year 9999
days_bound : (r : Rule) (from : ℕ) → list_all (λ day. nat_le day 3_652_424) (rule_days_from r from) ≡ true
unfolding rule_days_from
days_bound r from = all_pass (is_rule_day r) (λ day. nat_le day 3_652_424) _ (day_bound r)

pub said_bound : (o : Observance) (text days : List ℕ) → SpellsOnsetDays o text days → list_all (λ day. nat_le day 3_652_424) days ≡ true
said_bound o text days s = subst (λ (l : List ℕ). list_all (λ day. nat_le day 3_652_424) l ≡ true) (sym s.listed) (days_bound _ o.day)

-- one of some days isn't either
pub bound_at : (days : List ℤ) (i : ℕ) (day : ℤ) → i < length days → day ≡ get_or days i day → list_all (λ n. nat_le n 3_652_424) (map day_index days) ≡ true → day_index day ≤ 3_652_424
bound_at [] i day w e h = absurd (omega (arith, w))
bound_at (x ∷ xs) zero day w e h =
    let here : nat_le (day_index x) 3_652_424 ≡ true = (and_parts (nat_le (day_index x) 3_652_424) (list_all (λ n. nat_le n 3_652_424) (map day_index xs)) h).0 in
    let low : day_index x ≤ 3_652_424 = grind (arith, nat_tests) in
    rw e low
bound_at (x ∷ xs) (suc i) day w e h =
    bound_at xs i day (omega (arith, w)) e (and_parts (nat_le (day_index x) 3_652_424) (list_all (λ n. nat_le n 3_652_424) (map day_index xs)) h).1

-- the seconds of a second of one
pub in_years : (day second : ℕ) → 366 ≤ day → day ≤ 3_652_424 → second < 86_400 → IsClockSeconds (local_time day second)
in_years day second low high w = (omega (arith, signed_arith, low, high, w), omega (arith, signed_arith, low, high, w))

-- ---- what a text says, by the last day

module _ (start from : ℤ) (text : List ℕ) (first : ℕ) (rule : RuleText) (is : IsRuleOf start from text first rule) where
  pub days_to_last : (o : Observance) (end : End) (last : Last) (days : List ℕ) → HasStart start from o → IsEndOf from rule.count rule.until end → IsLastFrom start from end last
      → ((each : YearRule) → is_one_day (without_end rule) each ≡ true → ⊥) → AreDaysTo rule first last days → SpellsOnsetDays o text days
  days_to_last o end Never days has ends until none h = absurd h
  days_to_last o end Before days has ends until none h =
      let early = until o has in
      let before : early.0 < first = omega (arith, early.2, is.here o has) in
      days_said start from text first rule is o end early.0 days has ends early.1 (omega (arith, early.2)) none (subst (AreListedDays rule first early.0) (sym h) (days_early rule first early.0 before))
  days_to_last o end Far days has ends until none h = absurd h
  days_to_last o end (On last) days has ends until none h = let there = until o has in days_said start from text first rule is o end (day_index last) days has ends there.0 there.1 none h

  pub no_days_to_last : (o : Observance) (end : End) (last : Last) → HasStart start from o → IsEndOf from rule.count rule.until end → IsLastFrom start from end last → AreNoDaysTo rule first last
      → (days : List ℕ) → SpellsOnsetDays o text days → ⊥
  no_days_to_last o end Never has ends until h = no_last start from text first rule is o end has ends (until o)
  no_days_to_last o end Before has ends until h = absurd h
  no_days_to_last o end Far has ends until h = let far = until o has in no_far_day start from text first rule is o end far.0 has ends far.1 far.2
  no_days_to_last o end (On last) has ends until h = no_days start from text first rule is o end (day_index last) has ends (until o has).0 h
