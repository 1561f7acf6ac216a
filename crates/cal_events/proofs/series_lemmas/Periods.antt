-- The period of a series is the least common multiple of those of its rule and its zone.
-- Cited by Series::period_days of series.
use Rattle.std.proofs.Common.{◌≡◌, ◌≢◌, ◌∙◌, ℕ, zero, suc, ◌<◌, ◌≤◌, true, false, ◌||◌, refl, sym, ap, subst, inl, inr, ◌⊎◌, arith}
use Rattle.std.specs.Prelude.{◌↔◌, Option, Some, None, is_some, MatchOption, IfSome}
use Rattle.std.proofs.lemmas.Bool.{false≢true, or_parts}
use Rattle.std.proofs.lemmas.Option.{same_Some}
use Rattle.profile.specs.series.Rules.{Rule, Pattern}
use Rattle.profile.specs.series.Zones.{Zone, Constant, Single, Pair}
use Rattle.profile.specs.series.Periods.{IsMultiple, IsShift, IsPeriod, HasNoPeriod, IsLeastMultiple, HasNoMultiple, most_period}
use Rattle.profile.specs.events.ZonedTimes.{clock_of}
use Rattle.profile.specs.events.EventComponents.{EventComponent}
use Rattle.profile.specs.events.Events.{Event}
use Rattle.profile.specs.events.Spans.{has_end, IsRulePeriod, IsZonePeriod, IsPeriodOf, IsLeastPeriodOf, HasNoPeriodOf}
use Rattle.cal_zones.specs.Repeats.{IsLeastZonePeriod}
use Rattle.cal_events.proofs.shared_lemmas.DraftKeys.{none_there}

-- the periods are the multiples of one
abbrev AreMultiples : (ℕ → Type 0) → ℕ → Type 0
AreMultiples P days = (n : ℕ) → P n ↔ IsMultiple n days

every : (n : ℕ) → IsMultiple n 1
every n = (n, omega arith)

-- ---- of a zone

some_of : (days : ℕ) → 0 < days → IsMultiple days 146_097 → days ≤ 146_097 → days ≡ 146_097
some_of days some (zero, e) most = absurd (omega (arith, some, e))
some_of days some (suc k, e) most = omega (arith, e, most)

pub of_zone : (z : Zone) (days : ℕ) → IsLeastZonePeriod z days → AreMultiples (IsZonePeriod z) days
of_zone (Constant k) days h = let some = h.some in let l = h.least 1 (omega arith) tt in let e : days ≡ 1 = omega (arith, some, l) in λ n. (λ _. subst (IsMultiple n) (sym e) (every n), λ _. tt)
of_zone (Single o) days h = let some = h.some in let l = h.least 1 (omega arith) tt in let e : days ≡ 1 = omega (arith, some, l) in λ n. (λ _. subst (IsMultiple n) (sym e) (every n), λ _. tt)
of_zone (Pair o s) days h =
    let l = h.least 146_097 (omega arith) (1, refl) in
    let e : days ≡ 146_097 = some_of days h.some h.is l in
    λ n. (λ m. subst (IsMultiple n) (sym e) m, λ m. subst (IsMultiple n) e m)

-- ---- of a rule

some_here : {A : Type 0} (o : Option A) → is_some o ≡ true → o ≢ None
some_here o h e = false≢true (ap is_some (sym e) ∙ h)

module _ (rule : Rule) (found : Option ℕ)
    (ended : (rule.count ≢ None) ⊎ (rule.until ≢ None) → found ≡ Some 1)
    (endless : rule.count ≡ None → rule.until ≡ None → MatchOption found (HasNoPeriod rule.pattern) (IsPeriod rule.pattern))
    (multiples : (p : Pattern) (days n : ℕ) → IsPeriod p days → IsShift p n ↔ IsMultiple n days) where
  -- where it is endless
  found_endless : has_end rule ≡ false → MatchOption found (HasNoPeriod rule.pattern) (IsPeriod rule.pattern)
  found_endless none =
      let parts = or_parts (is_some rule.count) (is_some rule.until) none in
      endless (none_there rule.count parts.0) (none_there rule.until parts.1)

  found_ended : has_end rule ≡ true → found ≡ Some 1
  found_ended ends = elim (is_some rule.count) as (λ b. is_some rule.count ≡ b → found ≡ Some 1) [
    | true ↦ λ e. ended (inl (some_here rule.count e))
    | false ↦ λ e. ended (inr (some_here rule.until (ap (λ b. b || is_some rule.until) (sym e) ∙ ends)))
  ] refl

  pub of_rule : (days : ℕ) → found ≡ Some days → AreMultiples (IsRulePeriod rule) days
  of_rule days is n = elim (has_end rule) as (λ b. has_end rule ≡ b → IsRulePeriod rule n ↔ IsMultiple n days) [
    | true ↦ λ e.
        let one : 1 ≡ days = same_Some 1 days (sym (found_ended e) ∙ is) in
        (λ _. subst (IsMultiple n) one (every n), λ _ endless. absurd (false≢true (sym endless ∙ e)))
    | false ↦ λ e.
        let period : IsPeriod rule.pattern days = subst (λ o. MatchOption o (HasNoPeriod rule.pattern) (IsPeriod rule.pattern)) is (found_endless e) in
        let m = multiples rule.pattern days n period in
        (λ p. m.0 (p e), λ k _. m.1 k)
  ] refl

  pub none_of_rule : found ≡ None → (n : ℕ) → 0 < n → IsRulePeriod rule n → most_period < n
  none_of_rule is n some p = elim (has_end rule) as (λ b. has_end rule ≡ b → most_period < n) [
    | true ↦ λ e. absurd (false≢true (ap is_some (sym is ∙ found_ended e)))
    | false ↦ λ e. (subst (λ o. MatchOption o (HasNoPeriod rule.pattern) (IsPeriod rule.pattern)) is (found_endless e)) n some (p e)
  ] refl

-- ---- of a series

module _ (series : Event) (own : EventComponent) (is : series.master ≡ Some own) (rule : Rule) (has : own.rule ≡ Some rule) where
  abbrev zone : Zone
  zone = clock_of own.times.zone

  makes : (n : ℕ) → IsRulePeriod rule n → IsZonePeriod zone n → IsPeriodOf series n
  makes n r z = record { master = own; is = is; rule = λ other e. subst (λ (x : Rule). IsRulePeriod x n) (same_Some rule other (sym has ∙ e)) r; zone = z }

  rule_part : (n : ℕ) → IsPeriodOf series n → IsRulePeriod rule n
  rule_part n p = p.rule rule (ap (λ (e : EventComponent). e.rule) (same_Some p.master own (sym p.is ∙ is)) ∙ has)

  zone_part : (n : ℕ) → IsPeriodOf series n → IsZonePeriod zone n
  zone_part n p = subst (λ (e : EventComponent). IsZonePeriod (clock_of e.times.zone) n) (same_Some p.master own (sym p.is ∙ is)) p.zone

  pub no_rule_period : ((n : ℕ) → 0 < n → IsRulePeriod rule n → most_period < n) → HasNoPeriodOf series
  no_rule_period none n some p = none n some (rule_part n p)

  module _ (a b : ℕ) (of_a : AreMultiples (IsRulePeriod rule) a) (of_b : AreMultiples (IsZonePeriod zone) b) where
    pub no_common : HasNoMultiple a b → HasNoPeriodOf series
    no_common none n some p = none n some ((of_a n).0 (rule_part n p)) ((of_b n).0 (zone_part n p))

    pub common : (days : ℕ) → IsLeastMultiple a b days → days ≤ most_period → IsLeastPeriodOf series days
    common days m few = record {
      some = m.some;
      most = few;
      is = makes days ((of_a days).1 m.of_first) ((of_b days).1 m.of_second);
      least = λ n some p. m.least n some ((of_a n).0 (rule_part n p)) ((of_b n).0 (zone_part n p));
    }

    pub common_found : (found : Option ℕ) → MatchOption found (HasNoMultiple a b) (IsLeastMultiple a b) → IfSome found (λ days. days ≤ most_period)
        → MatchOption found (HasNoPeriodOf series) (IsLeastPeriodOf series)
    common_found None m few = no_common m
    common_found (Some days) m few = common days m few
