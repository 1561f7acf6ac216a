-- The instances that a rule gives are there a period before, once its zone has begun and no exception is left.
use Rattle.std.proofs.Common.{◌≡◌, sym, subst, ap, ◌∙◌, arith, ◌⊎◌, inl, inr, ℕ, ◌+◌, ◌-◌, ◌*◌, ◌≤◌, true, ℤ, pos, negsuc, ◌+ℤ◌, ◌-ℤ◌, ◌≤ℤ◌, ◌<ℤ◌}
use Rattle.std.proofs.lemmas.Int.{ints}
use Rattle.profile.specs.checker.Instances.{horizon}
use Rattle.profile.specs.series.Rules.{Rule, is_rule_day}
use Rattle.profile.specs.series.Zones.{Zone, IsOffsetAt, IsZoneOnset, Onset, Shows, Means, local_time}
use Rattle.profile.specs.series.Repeating.{RepeatsFrom}
use Rattle.profile.specs.events.Properties.{Form, Fixed, Floating, WholeDay, first_second}
use Rattle.profile.specs.events.ZonedTimes.{EventTimes, clock_of}
use Rattle.profile.specs.events.EventRules.{IsOnDay}
use Rattle.profile.specs.events.Starts.{EndsAt, IsMidnightOf, IsCountedFrom, IsRuleStart}

int_same : {a b : ℤ} → a ≤ℤ b → b ≤ℤ a → a ≡ b
int_same {a} {b} l m = omega (arith, ints, l, m)

-- what a local time means lies within the bounds of the offsets
module _ (z : Zone) (least greatest : ℤ)
    (offsets : (t p : ℤ) → IsOffsetAt z t p → (least ≤ℤ p) × (p ≤ℤ greatest))
    (befores : (x : Onset) → IsZoneOnset z x → (least ≤ℤ x.before) × (x.before ≤ℤ greatest)) where
  pub meant : (local t : ℤ) → Means z local t → ((t +ℤ least) ≤ℤ local) × (local ≤ℤ (t +ℤ greatest))
  meant local t (inl shown) =
      let at = shown.shown in
      let b = offsets t at.0 at.1 in
      let l = b.0 in
      let g = b.1 in
      let e = at.2 in
      (omega (arith, ints, l, e), omega (arith, ints, g, e))
  meant local t (inr skipped) =
      let b = befores skipped.onset skipped.listed in
      let l = b.0 in
      let g = b.1 in
      let e = skipped.read in
      (omega (arith, ints, l, e), omega (arith, ints, g, e))

-- the local time from which the days of an instance are counted that starts then lies within them too
module _ (z : Zone) (least greatest : ℤ)
    (offsets : (t p : ℤ) → IsOffsetAt z t p → (least ≤ℤ p) × (p ≤ℤ greatest))
    (means_in : (local t : ℤ) → Means z local t → ((t +ℤ least) ≤ℤ local) × (local ≤ℤ (t +ℤ greatest))) where
  shown_within : (t local : ℤ) → Shows z t local → ((t +ℤ least) ≤ℤ local) × (local ≤ℤ (t +ℤ greatest))
  shown_within t local (offset, at, e) =
      let b = offsets t offset at in
      let l = b.0 in
      let g = b.1 in
      (omega (arith, ints, l, e), omega (arith, ints, g, e))

  pub counted_within : (form : Form) (t local : ℤ) → IsCountedFrom form z t local → ((t +ℤ least) ≤ℤ local) × (local ≤ℤ (t +ℤ greatest))
  counted_within Fixed t local shown = shown_within t local shown
  counted_within Floating t local shown = shown_within t local shown
  counted_within WholeDay t local (shown, midnight, shows, of, inl (means, same)) =
      subst (λ l. ((t +ℤ least) ≤ℤ l) × (l ≤ℤ (t +ℤ greatest))) (sym same) (means_in midnight t means)
  counted_within WholeDay t local (shown, midnight, shows, of, inr (other, same)) =
      subst (λ l. ((t +ℤ least) ≤ℤ l) × (l ≤ℤ (t +ℤ greatest))) (sym same) (shown_within t shown shows)

-- the midnights of local times are whole days apart as these are
midnight_later : (midnight local : ℤ) (days : ℕ) → IsMidnightOf midnight local → IsMidnightOf (midnight +ℤ pos (86_400 * days)) (local +ℤ pos (86_400 * days))
midnight_later midnight local days (day, second, (few, on), e) = (
  day + days,
  second,
  (few, int_same (omega (arith, ints, on)) (omega (arith, ints, on))),
  int_same (omega (arith, ints, e)) (omega (arith, ints, e)),
)

midnight_earlier : (midnight local : ℤ) (days : ℕ) → (pos (86_400 * days) -ℤ pos 62_167_219_200) ≤ℤ local → IsMidnightOf midnight local
    → IsMidnightOf (midnight -ℤ pos (86_400 * days)) (local -ℤ pos (86_400 * days))
midnight_earlier midnight local days least (day, second, (few, on), e) =
    let late : days ≤ day = omega (arith, ints, least, few, on) in
    let there : (day - days) + days ≡ day = omega (arith, late) in (
      day - days,
      second,
      (few, int_same (omega (arith, ints, on, there)) (omega (arith, ints, on, there))),
      int_same (omega (arith, ints, e, there)) (omega (arith, ints, e, there)),
    )

-- ---- where the clocks show and mean the same at an instant and whole days later, days are counted from the same local time

module _ (z : Zone) (days : ℕ) (x : ℤ) where
  abbrev apart : ℤ
  apart = pos (86_400 * days)

  module _ (offset_later : (q : ℤ) → IsOffsetAt z x q → IsOffsetAt z (x +ℤ pos (86_400 * days)) q)
      (means_later : (local : ℤ) → Means z local x → Means z (local +ℤ pos (86_400 * days)) (x +ℤ pos (86_400 * days)))
      (means_earlier : (local : ℤ) → Means z (local +ℤ pos (86_400 * days)) (x +ℤ pos (86_400 * days)) → Means z local x) where
    shown_later : (local : ℤ) → Shows z x local → Shows z (x +ℤ apart) (local +ℤ apart)
    shown_later local (offset, at, e) = (offset, offset_later offset at, int_same (omega (arith, ints, e)) (omega (arith, ints, e)))

    pub counted_later : (form : Form) (local : ℤ) → IsCountedFrom form z x local → IsCountedFrom form z (x +ℤ pos (86_400 * days)) (local +ℤ pos (86_400 * days))
    counted_later Fixed local shown = shown_later local shown
    counted_later Floating local shown = shown_later local shown
    counted_later WholeDay local (shown, midnight, shows, of, inl (means, same)) =
        (shown +ℤ apart, midnight +ℤ apart, shown_later shown shows, midnight_later midnight shown days of, inl (means_later midnight means, ap (λ t. t +ℤ apart) same))
    counted_later WholeDay local (shown, midnight, shows, of, inr (other, same)) =
        (shown +ℤ apart, midnight +ℤ apart, shown_later shown shows, midnight_later midnight shown days of, inr (λ means. other (means_earlier midnight means), ap (λ t. t +ℤ apart) same))

  module _ (offset_earlier : (q : ℤ) → IsOffsetAt z (x +ℤ pos (86_400 * days)) q → IsOffsetAt z x q)
      (means_later : (local : ℤ) → Means z local x → Means z (local +ℤ pos (86_400 * days)) (x +ℤ pos (86_400 * days)))
      (means_earlier : (local : ℤ) → Means z (local +ℤ pos (86_400 * days)) (x +ℤ pos (86_400 * days)) → Means z local x)
      (in_dates : (local : ℤ) → Shows z x local → negsuc 62_167_219_199 ≤ℤ local) where
    again : (local : ℤ) → (local -ℤ apart) +ℤ apart ≡ local
    again local = int_same (omega (arith, ints)) (omega (arith, ints))

    shown_earlier : (local : ℤ) → Shows z (x +ℤ apart) local → Shows z x (local -ℤ apart)
    shown_earlier local (offset, at, e) = (offset, offset_earlier offset at, int_same (omega (arith, ints, e)) (omega (arith, ints, e)))

    midnight_was : (midnight shown : ℤ) → Shows z (x +ℤ apart) shown → IsMidnightOf midnight shown → IsMidnightOf (midnight -ℤ apart) (shown -ℤ apart)
    midnight_was midnight shown shows of =
        let least = in_dates (shown -ℤ apart) (shown_earlier shown shows) in
        midnight_earlier midnight shown days (omega (arith, ints, least)) of

    pub counted_earlier : (form : Form) (local : ℤ) → IsCountedFrom form z (x +ℤ pos (86_400 * days)) local → IsCountedFrom form z x (local -ℤ pos (86_400 * days))
    counted_earlier Fixed local shown = shown_earlier local shown
    counted_earlier Floating local shown = shown_earlier local shown
    counted_earlier WholeDay local (shown, midnight, shows, of, inl (means, same)) = (
      shown -ℤ apart,
      midnight -ℤ apart,
      shown_earlier shown shows,
      midnight_was midnight shown shows of,
      inl (means_earlier (midnight -ℤ apart) (subst (λ t. Means z t (x +ℤ apart)) (sym (again midnight)) means), ap (λ t. t -ℤ apart) same),
    )
    counted_earlier WholeDay local (shown, midnight, shows, of, inr (other, same)) = (
      shown -ℤ apart,
      midnight -ℤ apart,
      shown_earlier shown shows,
      midnight_was midnight shown shows of,
      inr (λ means. other (subst (λ t. Means z t (x +ℤ apart)) (again midnight) (means_later (midnight -ℤ apart) means)), ap (λ t. t -ℤ apart) same),
    )

module _ (times : EventTimes) (rule : Rule) (days : ℕ) (least greatest from p : ℤ) (second : ℕ)
    (starts : IsOnDay times.local rule.pattern.start second)
    (start_means : Means (clock_of times.zone) times.local times.start)
    (means_in : (local t : ℤ) → Means (clock_of times.zone) local t → ((t +ℤ least) ≤ℤ local) × (local ≤ℤ (t +ℤ greatest)))
    (close : greatest ≤ℤ (least +ℤ pos 43_200)) (low : negsuc 86_399 ≤ℤ least)
    (offsets : (t q : ℤ) → IsOffsetAt (clock_of times.zone) t q → (least ≤ℤ q) × (q ≤ℤ greatest))
    (means_earlier : (local t : ℤ) → (from +ℤ pos 43_200) <ℤ t → Means (clock_of times.zone) (local +ℤ pos (86_400 * days)) (t +ℤ pos (86_400 * days)) → Means (clock_of times.zone) local t)
    (means_later : (local t : ℤ) → (from +ℤ pos 43_200) <ℤ t → Means (clock_of times.zone) local t → Means (clock_of times.zone) (local +ℤ pos (86_400 * days)) (t +ℤ pos (86_400 * days)))
    (offset_earlier : (t q : ℤ) → from ≤ℤ t → IsOffsetAt (clock_of times.zone) (t +ℤ pos (86_400 * days)) q → IsOffsetAt (clock_of times.zone) t q)
    (days_earlier : (n : ℕ) → rule.pattern.start ≤ n → is_rule_day rule (n + days) ≡ true → is_rule_day rule n ≡ true)
    (after_onsets : (from +ℤ pos 43_200) <ℤ p) (after_start : times.start <ℤ p) (in_dates : first_second ≤ℤ p) where
  abbrev d : ℤ
  d = pos (86_400 * days)

  rule_start : (x : ℤ) → p ≤ℤ x → IsRuleStart times rule (x +ℤ d) → IsRuleStart times rule x
  rule_start x l is =
      let m = means_in (local_time is.day is.second) (x +ℤ d) is.means in
      let m0 = m.0 in
      let m1 = m.1 in
      let s = means_in times.local times.start start_means in
      let s0 = s.0 in
      let s1 = s.1 in
      let on = starts.1 in
      let few = starts.0 in
      let on' = is.on.1 in
      let few' = is.on.0 in
      let both : local_time is.first is.second ≡ local_time rule.pattern.start second = sym on' ∙ on in
      let late : rule.pattern.start + days ≤ is.day = omega (arith, ints, m0, m1, s0, s1, on, few, on', few', close, low, l, after_start, in_dates) in
      let e : (is.day - days) + days ≡ is.day = omega (arith, late) in
      let local : local_time is.day is.second ≡ local_time (is.day - days) is.second +ℤ d = int_same (omega (arith, ints, e)) (omega (arith, ints, e)) in
      record {
        first = is.first;
        second = is.second;
        on = is.on;
        day = is.day - days;
        listed = days_earlier (is.day - days) (omega (arith, late)) (subst (λ n. is_rule_day rule n ≡ true) (sym e) is.listed);
        means = means_earlier (local_time (is.day - days) is.second) x (omega (arith, ints, after_onsets, l)) (subst (λ t. Means (clock_of times.zone) t (x +ℤ d)) local is.means);
      }

  -- an instance that starts a period later lasts as long
  ends : (x end : ℤ) → p ≤ℤ x → EndsAt times (x +ℤ d) end → EndsAt times x (end -ℤ d)
  ends x end l (later, inl (none, same), e) =
      (later -ℤ d, inl (none, int_same (omega (arith, ints, same)) (omega (arith, ints, same))), int_same (omega (arith, ints, e)) (omega (arith, ints, e)))
  ends x end l (later, inr (many, (local, from_there, means)), e) =
      let n = times.length.days in
      let late : (from +ℤ pos 43_200) <ℤ x = omega (arith, ints, after_onsets, l) in
      let own = counted_earlier (clock_of times.zone) days x (λ q at. offset_earlier x q (omega (arith, ints, late)) at) (λ t is. means_later t x late is) (λ t is. means_earlier t x late is)
      (λ t shows. let b = (shown_within (clock_of times.zone) least greatest offsets means_in x t shows).0 in omega (arith, ints, b, low, l, in_dates)) times.form local from_there in
      let b = counted_within (clock_of times.zone) least greatest offsets means_in times.form x (local -ℤ d) own in
      let b0 = b.0 in
      let b1 = b.1 in
      let m = means_in (local +ℤ pos (86_400 * n)) later means in
      let m0 = m.0 in
      let m1 = m.1 in
      let there : (later -ℤ d) +ℤ d ≡ later = int_same (omega (arith, ints)) (omega (arith, ints)) in
      let same : local +ℤ pos (86_400 * n) ≡ ((local -ℤ d) +ℤ pos (86_400 * n)) +ℤ d = int_same (omega (arith, ints)) (omega (arith, ints)) in
      let meant : Means (clock_of times.zone) ((local -ℤ d) +ℤ pos (86_400 * n)) (later -ℤ d) =
      means_earlier ((local -ℤ d) +ℤ pos (86_400 * n)) (later -ℤ d) (omega (arith, ints, late, b0, b1, m0, m1, close, many))
      (subst (λ t. Means (clock_of times.zone) (((local -ℤ d) +ℤ pos (86_400 * n)) +ℤ d) t) (sym there) (subst (λ t. Means (clock_of times.zone) t later) same means)) in
      (later -ℤ d, inr (many, (local -ℤ d, own, meant)), int_same (omega (arith, ints, e)) (omega (arith, ints, e)))

  -- ---- the instances that the rule gives, but for what is excepted and what is replaced

  module _ (Gone : ℤ → Type 0) (before : (e : ℤ) → Gone e → (e <ℤ p) ⊎ (horizon ≤ℤ e)) where
    pub record IsRuleInstance (start end : ℤ) : Type 0 where
      pub given : IsRuleStart times rule start
      pub dated : (first_second ≤ℤ start) × (start <ℤ horizon)
      pub shown : Gone start → ⊥
      pub lasts : EndsAt times start end

    pub repeats : RepeatsFrom IsRuleInstance p d
    repeats start end l is =
        let there : (start -ℤ d) +ℤ d ≡ start = int_same (omega (arith, ints)) (omega (arith, ints)) in
        let late : p ≤ℤ (start -ℤ d) = omega (arith, ints, l) in
        let last = is.dated.1 in
        record {
          given = rule_start (start -ℤ d) late (subst (IsRuleStart times rule) (sym there) is.given);
          dated = (omega (arith, ints, late, in_dates), omega (arith, ints, last));
          shown = λ gone. elim (before (start -ℤ d) gone) [
            | inl less ↦ omega (arith, ints, less, late)
            | inr most ↦ omega (arith, ints, most, last)
          ];
          lasts = ends (start -ℤ d) end late (subst (λ x. EndsAt times x end) (sym there) is.lasts);
        }
