-- The last start of a rule before year 10000 is on its last day, or on the last one before 9999-12-31.
-- Cited by last_start of regular.
use Rattle.std.proofs.Common.{◌≡◌, ◌∙◌, ℕ, ◌≤◌, sym, subst, inl, inr, arith, ℤ, ◌≤ℤ◌, ◌<ℤ◌}
use Rattle.std.specs.Prelude.{Option, Some, None, MatchOption}
use Rattle.std.proofs.lemmas.Bool.{cases_lt, cases_order, true≢false}
use Rattle.std.proofs.lemmas.Int.{ints}
use Rattle.profile.specs.checker.Instances.{horizon}
use Rattle.profile.specs.series.Rules.{Rule}
use Rattle.profile.specs.series.Zones.{Zone, IsOneMeaning, Means, local_time}
use Rattle.profile.specs.events.ZonedTimes.{EventTimes, clock_of}
use Rattle.profile.specs.events.Starts.{IsRuleStart}
use Rattle.cal_rules.specs.LastDays.{NoDayTo}
use Rattle.cal_events.specs.Clocks.{IsAscending}
use Rattle.cal_events.specs.LastStarts.{HasNoStart, IsLastStart, IsLastStartTo}
use Rattle.cal_events.proofs.shared_lemmas.InstanceLemmas.{last_of_rule, one_second}

module _ (times : EventTimes) (rule : Rule) (one : IsOneMeaning (clock_of times.zone)) (ascends : IsAscending (clock_of times.zone)) where
  abbrev zone : Zone
  zone = clock_of times.zone

  -- what starts on its days
  starts : (to : ℕ) (t : ℤ) → IsLastStartTo times rule to t → IsRuleStart times rule t
  starts to t h = record { first = h.first; second = h.second; on = h.on; day = h.day; listed = h.is.holds; means = h.means }

  -- a start on a day of the rule up to one isn't after that on the last of them
  not_later : (to : ℕ) (last t : ℤ) → IsLastStartTo times rule to last → (s : IsRuleStart times rule t) → s.day ≤ to → t ≤ℤ last
  not_later to last t h s w =
      let second : s.second ≡ h.second = one_second times.local s.first h.first s.second h.second s.on h.on in
      let means : Means zone (local_time s.day h.second) t = subst (λ x. Means zone (local_time s.day x) t) second s.means in
      elim (cases_order s.day h.day) [
        | inl same ↦ let e : t ≡ last = one (local_time h.day h.second) t last (subst (λ d. Means zone (local_time d h.second) t) same means) h.means in omega (arith, ints, e)
        | inr o ↦ elim o [
          | inl less ↦ let l = ascends (local_time s.day h.second) (local_time h.day h.second) t last means h.means (omega (arith, ints, less)) in omega (arith, ints, l)
          | inr more ↦ absurd (true≢false (sym s.listed ∙ h.is.last s.day more w))
        ]
      ]

  -- each of its days is one up to 9999-12-31
  day_there : (t : ℤ) (s : IsRuleStart times rule t) → s.day ≤ 3_652_424
  day_there t s = last_of_rule rule s.day s.listed

  -- a start before the horizon is on an earlier day, where the last one starts past it
  day_earlier : (last t : ℤ) → IsLastStartTo times rule 3_652_424 last → horizon ≤ℤ last → (s : IsRuleStart times rule t) → t <ℤ horizon → s.day ≤ 3_652_423
  day_earlier last t h past s before = elim (cases_lt s.day 3_652_424) [
    | inl less ↦ omega (arith, less)
    | inr there ↦
        let at : s.day ≡ 3_652_424 = let d = day_there t s in omega (arith, there, d) in
        let second : s.second ≡ h.second = one_second times.local s.first h.first s.second h.second s.on h.on in
        let same : s.day ≡ h.day = elim (cases_lt h.day s.day) [
          | inl less ↦ absurd (true≢false (sym s.listed ∙ h.is.last s.day less (day_there t s)))
          | inr more ↦ let n = h.is.not_after in omega (arith, more, n, at)
        ] in
        let e : t ≡ last = one (local_time h.day h.second) t last (subst (λ d. Means zone (local_time d h.second) t) same (subst (λ x. Means zone (local_time s.day x) t) second s.means)) h.means in
        absurd (omega (arith, ints, e, past, before))
  ]

  pub none_at_all : NoDayTo rule 3_652_424 → HasNoStart times rule
  none_at_all none t s before = true≢false (sym s.listed ∙ none s.day (day_there t s))

  pub is_last : (last : ℤ) → IsLastStartTo times rule 3_652_424 last → last <ℤ horizon → IsLastStart times rule last
  is_last last h before = record { starts = starts 3_652_424 last h; before = before; last = λ t s b. not_later 3_652_424 last t h s (day_there t s) }

  none_earlier : (last : ℤ) → IsLastStartTo times rule 3_652_424 last → horizon ≤ℤ last → NoDayTo rule 3_652_423 → HasNoStart times rule
  none_earlier last h past none t s before = true≢false (sym s.listed ∙ none s.day (day_earlier last t h past s before))

  is_earlier : (last earlier : ℤ) → IsLastStartTo times rule 3_652_424 last → horizon ≤ℤ last → IsLastStartTo times rule 3_652_423 earlier → IsLastStart times rule earlier
  is_earlier last earlier h past k =
      let near = k.near in
      let day = k.is.not_after in
      let second = k.on.0 in
      record {
        starts = starts 3_652_423 earlier k;
        before = omega (arith, ints, near, day, second);
        last = λ t s b. not_later 3_652_423 earlier t k s (day_earlier last t h past s b);
      }

  pub last_found : (last : ℤ) → IsLastStartTo times rule 3_652_424 last → horizon ≤ℤ last → (found : Option ℤ) → MatchOption found (NoDayTo rule 3_652_423) (IsLastStartTo times rule 3_652_423)
      → MatchOption found (HasNoStart times rule) (IsLastStart times rule)
  last_found last h past None none = none_earlier last h past none
  last_found last h past (Some earlier) k = is_earlier last earlier h past k
