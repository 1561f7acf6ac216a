-- How the days of a rule are looked at, one after another.
-- Cited by days_of of instances, first_on_rule of instances, pass_given of instances, is_on_rule of single_starts.
use Rattle.std.proofs.Common.{◌≡◌, ◌∙◌, ℕ, ◌+◌, List, inl, inr, sym, ap, subst, arith, ℤ}
use Rattle.std.specs.Prelude.{Some, None}
use Rattle.std.proofs.lemmas.Option.{same_Some}
use Rattle.std.proofs.lemmas.Bool.{cases_order}
use Rattle.profile.specs.series.Days.{day_index}
use Rattle.profile.specs.series.Rules.{Rule}
use Rattle.profile.specs.series.Zones.{Means, IsOneMeaning, local_time}
use Rattle.profile.specs.events.ZonedTimes.{clock_of}
use Rattle.profile.specs.events.EventRules.{IsOnDay}
use Rattle.profile.specs.events.EventComponents.{EventComponent}
use Rattle.cal_events.specs.declared.instances.Bound.{Bound}
use Rattle.cal_events.specs.declared.rule_days.RuleDays.{RuleDays}
use Rattle.cal_events.specs.RuleDays.{AreDaysOf, AreStepped}
use Rattle.cal_events.specs.Instances.{IsAfter, IsWanted, NoneBefore, AreWalked}
use Rattle.cal_events.proofs.shared_lemmas.InstanceLemmas.{none_through, none_up_to, one_second}

none_is_some : (day : ℤ) → None ≡ Some day → ⊥
none_is_some day e = cc

module _ (master : EventComponent) (overrides : List EventComponent) (bound : Bound) where
  -- without a rule
  pub walked_without : (days : RuleDays) → master.rule ≡ None → days.first ≡ None → AreWalked master overrides bound days
  walked_without days none first = record {
    listed = λ r e. absurd (no_rule r (sym none ∙ e));
    none = λ r e a s n on lt holds t m w. no_rule r (sym none ∙ e);
    kept = λ d e. absurd (none_is_some d (sym first ∙ e));
  }
    where
      no_rule : (r : Rule) → None ≡ Some r → ⊥
      no_rule r e = cc

  -- from a day on
  pub walked_from : (rule : Rule) (days : RuleDays) (day : ℕ) → master.rule ≡ Some rule → AreDaysOf rule days → days.from ≡ day → days.first ≡ None → NoneBefore master overrides bound day → AreWalked master overrides bound days
  walked_from rule days day is are from first none = record {
    listed = λ r e. subst (λ (x : Rule). AreDaysOf x days) (same_Some rule r (sym is ∙ e)) are;
    none = subst (NoneBefore master overrides bound) (sym from) none;
    kept = λ d e. absurd (none_is_some d (sym first ∙ e));
  }

  module _ (rule : Rule) (is : master.rule ≡ Some rule) (one : IsOneMeaning (clock_of master.times.zone))
      (first second : ℕ) (on : IsOnDay master.times.local first second) (old new : RuleDays) (walked : AreWalked master overrides bound old) where
    -- the day that was taken doesn't start then
    pub walked_on : (day start : ℤ) → AreStepped rule old (Some day) new → Means (clock_of master.times.zone) (local_time (day_index day) second) start → (IsWanted master overrides bound start → ⊥)
        → AreWalked master overrides bound new
    walked_on day start step means not =
        walked_from rule new (day_index day + 1) is step.0 step.2.1 step.1
        (none_through master overrides bound rule is one first second on old.from walked.none (day_index day) step.2.0 start means not)

    -- none was left
    pub walked_out : AreStepped rule old None new → AreWalked master overrides bound new
    walked_out step = walked_from rule new old.from is step.0 step.2.1 step.1 walked.none

    -- it does, and was put back
    pub walked_back : (day start : ℤ) (back : RuleDays) → AreStepped rule old (Some day) new → Means (clock_of master.times.zone) (local_time (day_index day) second) start
        → AreDaysOf rule back → back.from ≡ day_index day → back.first ≡ Some day → back.start ≡ start → AreWalked master overrides bound back
    walked_back day start back step means are from is_first is_start = record {
      listed = λ r e. subst (λ (x : Rule). AreDaysOf x back) (same_Some rule r (sym is ∙ e)) are;
      none = subst (NoneBefore master overrides bound) (sym from) (none_up_to master overrides bound rule is one first second on old.from walked.none (day_index day) step.2.0);
      kept = λ d e.
          let same : day ≡ d = same_Some day d (sym is_first ∙ e) in (
            from ∙ ap day_index same,
            λ f s t o m.
                let m' = subst (λ (x : ℤ). Means (clock_of master.times.zone) (local_time (day_index x) second) t) (sym same)
                (subst (λ (x : ℕ). Means (clock_of master.times.zone) (local_time (day_index d) x) t) (one_second master.times.local f first s second o on) m) in
                one (local_time (day_index day) second) t start m' means ∙ sym is_start,
          );
    }

-- the day that was put back is passed, where its start isn't to come
pub walked_past : (bound : Bound) (old new : RuleDays) (day : ℤ) → old.first ≡ Some day → (IsAfter bound old.start old.start → ⊥) → ((rule : Rule) → AreDaysOf rule old → old.from ≡ day_index day → AreDaysOf rule new)
    → new.from ≡ day_index day + 1 → new.first ≡ None → (master : EventComponent) (overrides : List EventComponent) → AreWalked master overrides bound old → AreWalked master overrides bound new
walked_past bound old new day is past are from first master overrides walked =
    let kept = walked.kept day is in
    record {
      listed = λ r e. are r (walked.listed r e) kept.0;
      none = subst (NoneBefore master overrides bound) (sym from) (λ r e a s n on lt holds t m w. elim (cases_order n (day_index day)) [
        | inl same ↦ past (subst (λ (x : ℤ). IsAfter bound x x) (kept.1 a s t on (subst (λ (x : ℕ). Means (clock_of master.times.zone) (local_time x s) t) same m)) w.after)
        | inr o ↦ elim o [ inl less ↦ walked.none r e a s n on (omega (arith, less, kept.0)) holds t m w | inr more ↦ absurd (omega (arith, lt, more)) ]
      ]);
      kept = λ d e. absurd (none_is_some d (sym first ∙ e));
    }
