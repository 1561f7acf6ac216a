-- A series that is said does the same again after each of its periods.
use Rattle.std.proofs.Common.{◌≡◌, ◌∙◌, refl, sym, subst, ap, inl, inr, ◌⊎◌, arith, ℕ, ◌+◌, ◌*◌, ◌<◌, ◌≤◌, true, false, List, [], ℤ, pos, ◌+ℤ◌, ◌-ℤ◌, ◌≤ℤ◌, ◌<ℤ◌}
use Rattle.std.proofs.lemmas.Int.{ints, by_lt_z}
use Rattle.std.proofs.lemmas.Bool.{cases_Bool}
use Rattle.std.proofs.lemmas.Option.{same_Some}
use Rattle.std.specs.Prelude.{None, Contains}
use Rattle.std.specs.List.{list_all}
use Rattle.profile.specs.text.Trees.{Tree}
use Rattle.profile.specs.checker.Instances.{Instance, horizon}
use Rattle.profile.specs.series.Periods.{IsShift}
use Rattle.profile.specs.series.Repeating.{RepeatsFrom}
use Rattle.profile.specs.series.Rules.{Rule, is_long, is_plain, is_rule_day, last_rule_day}
use Rattle.profile.specs.series.Zones.{Zone, Means, local_time}
use Rattle.profile.specs.series.ZoneTexts.{SaysZone}
use Rattle.profile.specs.events.Properties.{first_second}
use Rattle.profile.specs.events.ZonedTimes.{EventTimes, clock_of}
use Rattle.profile.specs.events.EventComponents.{EventComponent}
use Rattle.profile.specs.events.Events.{Event}
use Rattle.profile.specs.events.Spans.{has_end, IsSaidSeries, IsPastAll, IsPastOnsets, IsPeriodOf, IsZonePeriod}
use Rattle.profile.specs.events.Starts.{IsInstance, IsGiven, IsRuleStart, IsStart, EndsAt, key_at}
use Rattle.profile.proofs.SeriesRepeats as series
use Rattle.cal_zones.specs.Repeats.{IsRegular, ZoneRepeats, AreOffsetsOf}
use Rattle.cal_period.specs.Members.{Lasts, IsListedStart, IsOnListedDay, ComesAgainFrom}
use Rattle.cal_period.proofs.SaidSeries.{IsSaid, HasSaid, has_said, IsPastFor, past_for, IsPeriodFor, period_for}

int_same : {a b : ℤ} → a ≤ℤ b → b ≤ℤ a → a ≡ b
int_same {a} {b} l m = omega (arith, ints, l, m)

-- what the crates below say of rules and of zones
abbrev pub RulesDown : Type 0
RulesDown = (r : Rule) (days n : ℕ) → IsShift r.pattern days → r.pattern.week_start < 7
    → (is_long r.pattern.frequency ≡ false → list_all (λ entry. is_plain entry.number) r.pattern.weekdays ≡ true)
    → r.count ≡ None → 731 ≤ n → r.pattern.start ≤ n → is_rule_day r (n + days) ≡ true → is_rule_day r n ≡ true

abbrev pub RulesUp : Type 0
RulesUp = (r : Rule) (days n : ℕ) → IsShift r.pattern days → r.pattern.week_start < 7
    → (is_long r.pattern.frequency ≡ false → list_all (λ entry. is_plain entry.number) r.pattern.weekdays ≡ true)
    → r.count ≡ None → 731 ≤ n → n + days ≤ r.last → n + days ≤ last_rule_day → is_rule_day r n ≡ true → is_rule_day r (n + days) ≡ true

pub record ZonesLaw : Type 0 where
  pub said : (tree : Tree) (z : Zone) → SaysZone tree z → IsRegular z
  pub repeat : (z : Zone) (from : ℤ) (days : ℕ) → IsRegular z → IsPastOnsets z from → IsZonePeriod z days → ZoneRepeats z from days
  pub bounds : (z : Zone) → IsRegular z → (least : ℤ) × (greatest : ℤ) × AreOffsetsOf z least greatest

-- ---- instances by the rule

-- one that the rule gives, but for what is excepted
record IsByRule (times : EventTimes) (rule : Rule) (exceptions : List ℤ) (start end : ℤ) : Type 0 where
  given : IsRuleStart times rule start
  dated : (first_second ≤ℤ start) × (start <ℤ horizon)
  shown : Contains exceptions start → ⊥
  lasts : EndsAt times start end

none_listed : {X : Type 0} (x : X) → Contains [] x → ⊥
none_listed x c = let none = c.1 in omega (arith, none)

module _ (a : Event) (h : HasSaid a) where
  abbrev m : EventComponent
  m = h.master

  abbrev r : Rule
  r = h.rule

  abbrev ByRule : ℤ → ℤ → Type 0
  ByRule start end = IsByRule m.times r m.exceptions start end

  to_rule : (b : Instance) → IsInstance a b → ByRule b.start b.end
  to_rule b is = elim (subst (λ (x : Event). IsInstance x b) h.is is) [
    | inl own ↦
        let same : own.master ≡ m = sym (same_Some m own.master own.is) in
        let s = subst (λ (x : EventComponent). IsStart x [] b.start) same own.starts in
        record {
          given = elim s.given [
            | inl g ↦ subst (λ o. IsGiven m.times o b.start) h.ruled g
            | inr c ↦ absurd (none_listed b.start (subst (λ l. Contains l b.start) h.none_added c))
          ];
          dated = s.in_dates;
          shown = s.not_excepted;
          lasts = subst (λ (x : EventComponent). EndsAt x.times b.start b.end) same own.ends;
        }
    | inr other ↦ absurd (none_listed other.override other.is)
  ]

  from_rule : (start end : ℤ) → ByRule start end → Lasts a start end
  from_rule start end is = (
    record { key = key_at m start; start = start; end = end },
    subst (λ (x : Event). IsInstance x (record { key = key_at m start; start = start; end = end })) (sym h.is)
        (inl (record {
          master = m;
          is = refl;
          starts = record {
            given = inl (subst (λ o. IsGiven m.times o start) (sym h.ruled) is.given);
            in_dates = is.dated;
            not_excepted = is.shown;
            not_replaced = λ replaced. none_listed replaced.override replaced.among;
          };
          key = refl;
          ends = is.lasts;
        })),
    refl,
    refl,
  )

  lasts_by_rule : (start end : ℤ) → Lasts a start end → ByRule start end
  lasts_by_rule start end (b, is, e, f) = subst (ByRule start) f (subst (λ x. ByRule x b.end) e (to_rule b is))

  module _ (from : ℤ) (days : ℕ) (past : IsPastFor h.master h.rule from) (rules_down : RulesDown) (rules_up : RulesUp) (zones : ZonesLaw) (period : IsPeriodFor h.master h.rule days) where
    abbrev d : ℤ
    d = pos (86_400 * days)

    abbrev z : Zone
    z = clock_of m.times.zone

    said : IsSaid m.times r
    said = h.said

    offsets : (least : ℤ) × (greatest : ℤ) × AreOffsetsOf z least greatest
    offsets = zones.bounds z said.regular

    repeats : ZoneRepeats z from days
    repeats = zones.repeat z from days said.regular past.onsets period.zone

    meant : (local t : ℤ) → Means z local t → ((t +ℤ offsets.0) ≤ℤ local) × (local ≤ℤ (t +ℤ offsets.1))
    meant = series.meant z offsets.0 offsets.1 offsets.2.offsets offsets.2.befores

    in_dates : first_second ≤ℤ from
    in_dates = let s = past.start in let n = said.not_before in omega (arith, ints, s, n)

    before : (e : ℤ) → Contains m.exceptions e → (e <ℤ from) ⊎ (horizon ≤ℤ e)
    before e gone =
        by_lt_z e first_second
        (λ less. inl (omega (arith, ints, less, in_dates)))
        (λ least. by_lt_z e horizon (λ less. inl (past.exceptions e gone least less)) (λ most. inr most))

    -- a rule that ends has no start from the instant on
    none_later : has_end r ≡ true → (start end : ℤ) → ByRule start end → from ≤ℤ start → ⊥
    none_later ended start end is l = let p = past.last ended start is.given is.dated.1 in omega (arith, ints, p, l)

    module _ (endless : has_end r ≡ false) where
      days_earlier : (n : ℕ) → r.pattern.start ≤ n → is_rule_day r (n + days) ≡ true → is_rule_day r n ≡ true
      days_earlier n l = rules_down r days n (period.rule endless) said.week said.plain (said.count endless) (let e = said.early in omega (arith, e, l)) l

      earlier : RepeatsFrom ByRule from d
      earlier start end l is =
          let low = offsets.2.low in
          let was = series.repeats m.times r days offsets.0 offsets.1 (from -ℤ pos 43_201) from said.second said.on said.means meant offsets.2.close (omega (arith, ints, low)) offsets.2.offsets
          (λ local t l. repeats.earlier local t (omega (arith, ints, l))) (λ local t l. repeats.later local t (omega (arith, ints, l))) (λ t q l. repeats.offset_earlier t q l) days_earlier (omega (arith, ints)) past.start in_dates (Contains m.exceptions) before
          start end l (record { given = is.given; dated = is.dated; shown = is.shown; lasts = is.lasts }) in
          record { given = was.given; dated = was.dated; shown = was.shown; lasts = was.lasts }

      -- ---- a period later

      rule_start_later : (x : ℤ) → from ≤ℤ x → IsOnListedDay m.times (x +ℤ d) → IsRuleStart m.times r x → IsRuleStart m.times r (x +ℤ d)
      rule_start_later x l on is =
          let local : local_time (is.day + days) is.second ≡ local_time is.day is.second +ℤ d = int_same (omega (arith, ints)) (omega (arith, ints)) in
          let means : Means z (local_time (is.day + days) is.second) (x +ℤ d) = subst (λ t. Means z t (x +ℤ d)) (sym local) (repeats.later (local_time is.day is.second) x l is.means) in
          let close = offsets.2.close in
          let p = meant (local_time (is.day + days) is.second) (x +ℤ d) means in
          let p0 = p.0 in
          let p1 = p.1 in
          let q = meant (local_time on.day on.second) (x +ℤ d) on.means in
          let q0 = q.0 in
          let q1 = q.1 in
          let few = is.on.0 in
          let some = on.on.0 in
          let both : local_time is.first is.second ≡ local_time on.first on.second = sym is.on.1 ∙ on.on.1 in
          let most = on.to_9999 in
          let to_last : is.day + days ≤ last_rule_day = omega (arith, ints, close, p0, p1, q0, q1, few, some, both, most) in
          let start_local = said.on.1 in
          let s = meant m.times.local m.times.start said.means in
          let s0 = s.0 in
          let s1 = s.1 in
          let u = meant (local_time is.day is.second) x is.means in
          let u0 = u.0 in
          let u1 = u.1 in
          let early = said.early in
          let after = past.start in
          let own = said.on.0 in
          record {
            first = is.first;
            second = is.second;
            on = is.on;
            day = is.day + days;
            listed = rules_up r days is.day (period.rule endless) said.week said.plain (said.count endless) (omega (arith, ints, close, s0, s1, u0, u1, start_local, early, after, own, few, l))
                (subst (λ last. is.day + days ≤ last) (sym (said.last endless)) to_last) to_last is.listed;
            means = means;
          }

      ends_later : (x end : ℤ) → from ≤ℤ x → EndsAt m.times x end → EndsAt m.times (x +ℤ d) (end +ℤ d)
      ends_later x end l (later, inl (none, same), e) =
          (later +ℤ d, inl (none, int_same (omega (arith, ints, same)) (omega (arith, ints, same))), int_same (omega (arith, ints, e)) (omega (arith, ints, e)))
      ends_later x end l (later, inr (many, (local, from_there, means)), e) =
          let n = m.times.length.days in
          let own = series.counted_later z days x (λ q at. repeats.offset_later x q (omega (arith, ints, l)) at) (λ t is. repeats.later t x l is) (λ t is. repeats.earlier t x l is) m.times.form local from_there in
          let b = series.counted_within z offsets.0 offsets.1 offsets.2.offsets meant m.times.form x local from_there in
          let b0 = b.0 in
          let b1 = b.1 in
          let close = offsets.2.close in
          let p = meant (local +ℤ pos (86_400 * n)) later means in
          let p0 = p.0 in
          let p1 = p.1 in
          let same : (local +ℤ pos (86_400 * n)) +ℤ d ≡ (local +ℤ d) +ℤ pos (86_400 * n) = int_same (omega (arith, ints)) (omega (arith, ints)) in
          let there : Means z ((local +ℤ pos (86_400 * n)) +ℤ d) (later +ℤ d) = repeats.later (local +ℤ pos (86_400 * n)) later (omega (arith, ints, l, b0, b1, close, p0, p1, many)) means in
          (later +ℤ d, inr (many, (local +ℤ d, own, subst (λ t. Means z t (later +ℤ d)) same there)), int_same (omega (arith, ints, e)) (omega (arith, ints, e)))

      later : (start end : ℤ) → from ≤ℤ start → IsListedStart a (start +ℤ d) → ByRule start end → ByRule (start +ℤ d) (end +ℤ d)
      later start end l listed is =
          let dated = is.dated.0 in
          record {
            given = rule_start_later start l (listed.on m (ap (λ (x : Event). x.master) h.is)) is.given;
            dated = (omega (arith, ints, dated), listed.before);
            shown = λ gone. elim (before (start +ℤ d) gone) [
              | inl less ↦ omega (arith, ints, less, l)
              | inr most ↦ let b = listed.before in omega (arith, ints, most, b)
            ];
            lasts = ends_later start end l is.lasts;
          }

    series_earlier : RepeatsFrom (Lasts a) from d
    series_earlier start end l is =
        elim (cases_Bool (has_end r)) [
          | inl ended ↦ absurd (none_later ended start end (lasts_by_rule start end is) (omega (arith, ints, l)))
          | inr endless ↦ from_rule (start -ℤ d) (end -ℤ d) (earlier endless start end l (lasts_by_rule start end is))
        ]

    series_later : ComesAgainFrom a from d
    series_later start end l is listed =
        elim (cases_Bool (has_end r)) [
          | inl ended ↦ absurd (none_later ended start end (lasts_by_rule start end is) l)
          | inr endless ↦ from_rule (start +ℤ d) (end +ℤ d) (later endless start end l listed (lasts_by_rule start end is))
        ]

pub said_starts : (a : Event) (h : HasSaid a) (b : Instance) → IsInstance a b → IsRuleStart h.master.times h.rule b.start
said_starts a h b is = (to_rule a h b is).given

pub repeats_earlier : RulesDown → RulesUp → ZonesLaw → (a : Event) (from : ℤ) (days : ℕ) → IsSaidSeries a → IsPastAll a from → IsPeriodOf a days → RepeatsFrom (Lasts a) from (pos (86_400 * days))
repeats_earlier rules_down rules_up zones a from days s past period =
    let h = has_said zones.said a s in
    series_earlier a h from days (past_for a h from past) rules_down rules_up zones (period_for a h days period)

pub repeats_later : RulesDown → RulesUp → ZonesLaw → (a : Event) (from : ℤ) (days : ℕ) → IsSaidSeries a → IsPastAll a from → IsPeriodOf a days → ComesAgainFrom a from (pos (86_400 * days))
repeats_later rules_down rules_up zones a from days s past period =
    let h = has_said zones.said a s in
    series_later a h from days (past_for a h from past) rules_down rules_up zones (period_for a h days period)
