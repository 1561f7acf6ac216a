-- Rules, zones and series have their members a period later.
use Rattle.std.proofs.Common.{◌≡◌, ◌∙◌, refl, sym, subst, ap, inl, inr, ◌⊎◌, arith, ℕ, ◌+◌, ◌-◌, ◌*◌, ◌<◌, ◌≤◌, ◌||◌, ◌&&◌, nat_le, nat_lt, true, false, ℤ, pos, ◌+ℤ◌, ◌≤ℤ◌, true≢false}
use Rattle.std.proofs.lemmas.Int.{ints}
use Rattle.std.proofs.lemmas.Bool.{cases_Bool, cases_lt, and_parts, leb-true, ltb-true}
use Rattle.std.proofs.lemmas.Option.{none-some}
use Rattle.std.proofs.Math.Logic.{∥∥₁_map₂}
use Rattle.std.specs.Prelude.{◌≢◌, Option, Some, None, is_some, MatchOption, IfSome}
use Rattle.std.specs.List.{list_all}
use Rattle.profile.specs.faults.Faults.{is_between}
use Rattle.profile.specs.series.Rules.{Rule, RuleText, IsAllowed, is_in_range, is_count, is_place, is_entry, has_few_entries, is_long, is_plain, is_base, is_placed, is_counted, is_within_count, is_rule_day, last_rule_day}
use Rattle.profile.specs.series.Periods.{IsPeriod, HasNoPeriod, IsLeastMultiple, HasNoMultiple, most_period}
use Rattle.profile.specs.series.Repeating.{RepeatsFrom}
use Rattle.profile.specs.series.Zones.{Zone, Onset, IsZoneOnset, local_time}
use Rattle.profile.specs.events.Events.{Event}
use Rattle.profile.specs.events.Spans.{has_end, IsRulePeriod, IsZonePeriod, IsPastOnsets, IsSaidSeries, IsPastAll, IsPeriodOf, IsLeastPeriodOf, HasNoPeriodOf}
use Rattle.cal_zones.specs.Repeats.{ZoneRepeats, later_by}
use Rattle.cal_period.specs.Recurring.{AreAllPastMost, AreMultiples, DoesRecur, HasNoCommon, IsLeastCommon}
use Rattle.cal_period.specs.Members.{IsDayOfRule, IsListedDay, IsRuleRegular, IsRuleFrom, IsOnsetOf, Lasts, IsStartOf, IsListedStart, ComesAgainFrom}
use Rattle.cal_period.proofs.Multiples.{series_are, ended_are, endless_are, endless_none}
use Rattle.cal_rules.specs.LastDays.{NoDayTo, IsLastDayTo}
use Rattle.cal_period.proofs.SaidSeries.{plain_of}
use Rattle.cal_period.proofs.SeriesLaw.{RulesDown, RulesUp}

int_same : {a b : ℤ} → a ≤ℤ b → b ≤ℤ a → a ≡ b
int_same {a} {b} l m = omega (arith, ints, l, m)

-- ---- rules

module _ (r : Rule) (down : RulesDown) (up : RulesUp) (week : r.pattern.week_start < 7)
    (plain : is_long r.pattern.frequency ≡ false → list_all (λ entry. is_plain entry.number) r.pattern.weekdays ≡ true) (count : has_end r ≡ false → r.count ≡ None) where
  rule_earlier : (from x : ℤ) (days : ℕ) → IsRuleRegular r from → IsRulePeriod r days → from ≤ℤ x → IsDayOfRule r (x +ℤ pos (86_400 * days)) → IsDayOfRule r x
  rule_earlier from x days regular period l (day, is, e) =
      elim (cases_Bool (has_end r)) [
        | inl ended ↦ let p = regular.last ended day is in absurd (omega (arith, ints, p, l, e))
        | inr endless ↦
            let s = regular.start in
            let y = regular.year endless in
            let late : r.pattern.start + days ≤ day = omega (arith, ints, s, l, e) in
            let n : (day - days) + days ≡ day = omega (arith, late) in
            let own = down r days (day - days) (period endless) week plain (count endless) (omega (arith, ints, y, l, e)) (omega (arith, late)) (subst (λ k. is_rule_day r k ≡ true) (sym n) is) in
            (day - days, own, int_same (omega (arith, ints, e, n)) (omega (arith, ints, e, n)))
      ]

  rule_later : (from x : ℤ) (days : ℕ) → IsRuleRegular r from → IsRulePeriod r days → from ≤ℤ x → IsDayOfRule r x → IsListedDay r (x +ℤ pos (86_400 * days)) → IsDayOfRule r (x +ℤ pos (86_400 * days))
  rule_later from x days regular period l (day, is, e) (last, until) =
      elim (cases_Bool (has_end r)) [
        | inl ended ↦ let p = regular.last ended day is in absurd (omega (arith, ints, p, l, e))
        | inr endless ↦
            let y = regular.year endless in (
              day + days,
              up r days day (period endless) week plain (count endless) (omega (arith, ints, y, l, e)) (omega (arith, ints, e, until)) (omega (arith, ints, e, last)) is,
              int_same (omega (arith, ints, e)) (omega (arith, ints, e)),
            )
      ]

  pub rule_recurs : DoesRecur (IsDayOfRule r) (IsRulePeriod r) (IsRuleRegular r) (IsListedDay r)
  rule_recurs = record { earlier = rule_earlier; later = rule_later }

ends : (r : Rule) → has_end r ≡ true → (r.count ≢ None) ⊎ (r.until ≢ None)
ends r e = by r.count r.until e
  where
    by : {X Y : Type 0} (x : Option X) (y : Option Y) → (is_some x || is_some y) ≡ true → (x ≢ None) ⊎ (y ≢ None)
    by (Some x) y e = inl (λ none. none-some x (sym none))
    by None (Some y) e = inr (λ none. none-some y (sym none))
    by None None e = absurd (true≢false (sym e))

no_ends : (r : Rule) → has_end r ≡ false → (r.count ≡ None) × (r.until ≡ None)
no_ends r e = by r.count r.until e
  where
    by : {X Y : Type 0} (x : Option X) (y : Option Y) → (is_some x || is_some y) ≡ false → (x ≡ None) × (y ≡ None)
    by None None e = (refl, refl)
    by (Some x) y e = absurd (true≢false e)
    by None (Some y) e = absurd (true≢false e)

pub rule_count : (r : Rule) → has_end r ≡ false → r.count ≡ None
rule_count r e = (no_ends r e).0

pub rule_periods : (r : Rule) (found : Option ℕ) → ((r.count ≢ None) ⊎ (r.until ≢ None) → found ≡ Some 1)
    → (r.count ≡ None → r.until ≡ None → MatchOption found (HasNoPeriod r.pattern) (IsPeriod r.pattern)) → IfSome found (λ days. (0 < days) × (days ≤ most_period))
    → MatchOption found (AreAllPastMost (IsRulePeriod r)) (AreMultiples (IsRulePeriod r))
rule_periods r found ended endless few =
    elim (cases_Bool (has_end r)) [
      | inl e ↦ subst (λ o. MatchOption o (AreAllPastMost (IsRulePeriod r)) (AreMultiples (IsRulePeriod r))) (sym (ended (ends r e))) (ended_are r e)
      | inr e ↦ by e found (endless (no_ends r e).0 (no_ends r e).1) few
    ]
  where
    by : has_end r ≡ false → (o : Option ℕ) → MatchOption o (HasNoPeriod r.pattern) (IsPeriod r.pattern) → IfSome o (λ days. (0 < days) × (days ≤ most_period))
        → MatchOption o (AreAllPastMost (IsRulePeriod r)) (AreMultiples (IsRulePeriod r))
    by e None none few = endless_none r e none
    by e (Some days) is few = endless_are r days e few.1 is

-- ---- zones

pub zone_recurs : (z : Zone) → ((from : ℤ) (days : ℕ) → IsPastOnsets z from → IsZonePeriod z days → ZoneRepeats z from days) → DoesRecur (IsOnsetOf z) (IsZonePeriod z) (IsPastOnsets z) (λ instant. Unit {0})
zone_recurs z repeat = record {
  earlier = λ from x days past period l (o, on, e).
      let own : Onset = record { instant = x; before = o.before; after = o.after } in
      let same : o ≡ later_by (pos (86_400 * days)) own = ap (λ i. record { instant = i; before = o.before; after = o.after }) e in
      (own, (repeat from days past period).onset_earlier own (omega (arith, ints, l)) (subst (IsZoneOnset z) same on), refl);
  later = λ from x days past period l (o, on, e) _.
      (later_by (pos (86_400 * days)) o, (repeat from days past period).onset_later o (omega (arith, ints, l, e)) on, ap (λ i. i +ℤ pos (86_400 * days)) e);
}

-- ---- series

pub series_recurs : (a : Event) → ∥ IsSaidSeries a ∥₁ → ((from : ℤ) (days : ℕ) → IsSaidSeries a → IsPastAll a from → IsPeriodOf a days → RepeatsFrom (Lasts a) from (pos (86_400 * days)))
    → ((from : ℤ) (days : ℕ) → IsSaidSeries a → IsPastAll a from → IsPeriodOf a days → ComesAgainFrom a from (pos (86_400 * days)))
    → DoesRecur (IsStartOf a) (IsPeriodOf a) (IsPastAll a) (IsListedStart a)
series_recurs a said earlier later = record {
  earlier = λ from x days past period l is.
      ∥∥₁_map₂ said is (λ s (b, h, e).
      let before = earlier from days s past period (x +ℤ pos (86_400 * days)) b.end (omega (arith, ints, l)) (b, h, e, refl) in
      (before.0, before.1, before.2 ∙ int_same (omega (arith, ints)) (omega (arith, ints))));
  later = λ from x days past period l is listed.
      ∥∥₁_map₂ said is (λ s (b, h, e).
      let after = later from days s past period x b.end l (b, h, e, refl) listed in
      (after.0, after.1, after.2));
}

pub series_periods : (a : Event) (found : Option ℕ) → MatchOption found (HasNoPeriodOf a) (IsLeastPeriodOf a) → MatchOption found (AreAllPastMost (IsPeriodOf a)) (AreMultiples (IsPeriodOf a))
series_periods a None none = none
series_periods a (Some days) is = series_are a days is

-- ---- the parts of a rule that is taken

pub allowed_week : (t : RuleText) → IsAllowed t → t.week_start < 7
unfolding is_in_range
allowed_week t (range, together, one) =
    let a = and_parts _ (list_all (is_place 366) t.positions && has_few_entries t.positions) range in
    let b = and_parts _ (list_all is_entry t.weekdays && has_few_entries t.weekdays) a.0 in
    let c = and_parts _ (list_all (is_place 31) t.month_days && has_few_entries t.month_days) b.0 in
    let d = and_parts _ (list_all (is_between 1 12) t.months && has_few_entries t.months) c.0 in
    let e = and_parts (is_between 1 9999 t.interval && is_count t.count) (nat_lt t.week_start 7) d.0 in
    ltb-true t.week_start 7 e.1

pub allowed_plain : (t : RuleText) → IsAllowed t → is_long t.frequency ≡ false → list_all (λ entry. is_plain entry.number) t.weekdays ≡ true
allowed_plain t (range, together, one) = plain_of t together

-- ---- from which instant on a rule is regular

starts_first : (r : Rule) (n : ℕ) → is_rule_day r n ≡ true → r.pattern.start ≤ n
unfolding is_rule_day is_counted
starts_first r n e =
    let a = and_parts (is_counted r n) (is_within_count r n) e in
    let b = and_parts (nat_le r.pattern.start n && nat_le n r.last && nat_le n last_rule_day && is_base r.pattern n) (is_placed r.pattern n) a.0 in
    let c = and_parts (nat_le r.pattern.start n && nat_le n r.last && nat_le n last_rule_day) (is_base r.pattern n) b.0 in
    let d = and_parts (nat_le r.pattern.start n && nat_le n r.last) (nat_le n last_rule_day) c.0 in
    let f = and_parts (nat_le r.pattern.start n) (nat_le n r.last) d.0 in
    leb-true r.pattern.start n f.0

to_last : (r : Rule) (n : ℕ) → is_rule_day r n ≡ true → n ≤ last_rule_day
unfolding is_rule_day is_counted
to_last r n e =
    let a = and_parts (is_counted r n) (is_within_count r n) e in
    let b = and_parts (nat_le r.pattern.start n && nat_le n r.last && nat_le n last_rule_day && is_base r.pattern n) (is_placed r.pattern n) a.0 in
    let c = and_parts (nat_le r.pattern.start n && nat_le n r.last && nat_le n last_rule_day) (is_base r.pattern n) b.0 in
    let d = and_parts (nat_le r.pattern.start n && nat_le n r.last) (nat_le n last_rule_day) c.0 in
    leb-true n last_rule_day d.1

pub ended_from : (r : Rule) (t : ℤ) (day : ℕ) → has_end r ≡ true → IsLastDayTo r last_rule_day day → t ≡ local_time (day + 1) 0 → IsRuleRegular r t × IsRuleFrom r t
ended_from r t day e last is = (
  record {
    start = let f = starts_first r day last.holds in omega (arith, ints, is, f);
    year = λ endless. absurd (true≢false (sym e ∙ endless));
    last = λ _ n h. elim (cases_lt day n) [
      | inl more ↦ absurd (true≢false (sym h ∙ last.last n more (to_last r n h)))
      | inr most ↦ omega (arith, ints, is, most)
    ];
  },
  record {
    endless = λ endless. absurd (true≢false (sym e ∙ endless));
    ended = λ _ other also. let same : other ≡ day = one_last other day also last in is ∙ ap (λ n. local_time (n + 1) 0) (sym same);
  },
)
  where
    one_last : (n m : ℕ) → IsLastDayTo r last_rule_day n → IsLastDayTo r last_rule_day m → n ≡ m
    one_last n m x y =
        elim (cases_lt n m) [
          | inl less ↦ absurd (true≢false (sym y.holds ∙ x.last m less y.not_after))
          | inr least ↦ elim (cases_lt m n) [
            | inl more ↦ absurd (true≢false (sym x.holds ∙ y.last n more x.not_after))
            | inr most ↦ omega (arith, least, most)
          ]
        ]

pub never_from : (r : Rule) (t : ℤ) → has_end r ≡ true → NoDayTo r last_rule_day → t ≡ local_time r.pattern.start 0 → IsRuleRegular r t × IsRuleFrom r t
never_from r t e none is = (
  record {
    start = omega (arith, ints, is);
    year = λ endless. absurd (true≢false (sym e ∙ endless));
    last = λ _ n h. absurd (true≢false (sym h ∙ none n (to_last r n h)));
  },
  record {
    endless = λ endless. absurd (true≢false (sym e ∙ endless));
    ended = λ _ other also. absurd (true≢false (sym also.holds ∙ none other also.not_after));
  },
)

-- ---- of two

pub common : (These Those : ℕ → Type 0) (d e : ℕ) (found : Option ℕ) → AreMultiples These d → AreMultiples Those e → MatchOption found (HasNoMultiple d e) (IsLeastMultiple d e)
    → IfSome found (λ days. days ≤ most_period) → MatchOption found (HasNoCommon These Those) (IsLeastCommon These Those)
common These Those d e None x y none few = λ n some p q. none n some ((x.multiples n).0 p) ((y.multiples n).0 q)
common These Those d e (Some days) x y is few = record {
  some = is.some;
  most = few;
  first = (x.multiples days).1 is.of_first;
  second = (y.multiples days).1 is.of_second;
  least = λ n some p q. is.least n some ((x.multiples n).0 p) ((y.multiples n).0 q);
}

pub none_first : (These Those : ℕ → Type 0) → AreAllPastMost These → HasNoCommon These Those
none_first These Those none n some p q = none n some p
