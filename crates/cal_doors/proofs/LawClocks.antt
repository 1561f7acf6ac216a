-- Two clocks by which local times mean the same, from a first one on and up to a last one, if there is one: then the rules of a VEVENT are the same
-- by both. For `adapted_says_the_same`.
use Rattle.std.proofs.Common.{◌≡◌, ◌∙◌, sym, refl, ap, subst, arith, ℕ, ◌+◌, ◌≤◌, ◌<◌, true, List, Option, Some, None, ℤ, pos, ◌+ℤ◌, ◌*ℤ◌, ◌≤ℤ◌}
use Rattle.std.specs.Prelude.{◌↔◌}
use Rattle.std.specs.Int.Signed.{◌<ℤ◌}
use Rattle.std.proofs.lemmas.Int.{ints, by_lt_z}
use Rattle.std.proofs.lemmas.Bool.Decides.{nat_tests}
use Rattle.profile.specs.text.Values.{SpellsDate}
use Rattle.profile.specs.events.EventRules.{IsOnDay, as_end}
use Rattle.profile.specs.series.Days.{day_index}
use Rattle.profile.specs.series.Rules.{Rule, RuleText, Until, UntilDay, UntilLocal, UntilInstant, rule_of, is_rule_day, is_counted}
use Rattle.profile.specs.series.Zones.{local_time}
use Rattle.profile.specs.doors.Uses.{RuleEndsBy, by_day, by_local, by_instant}
use Rattle.profile.specs.doors.OnClocks.{IsLastDayOn, IsLastAllowedOn, GivesRuleOn}

-- ---- the days of a rule

pub from_start : (rule : Rule) (day : ℕ) → is_rule_day rule day ≡ true → rule.pattern.start ≤ day
unfolding is_rule_day is_counted
from_start rule day h = grind (arith, nat_tests)

pub up_to_last : (rule : Rule) (day : ℕ) → is_rule_day rule day ≡ true → day ≤ rule.last
unfolding is_rule_day is_counted
up_to_last rule day h = grind (arith, nat_tests)

-- ---- UNTIL

end_not_later : (instant end : ℤ) → pos 0 ≤ℤ end → (instant +ℤ pos 86_399) ≤ℤ end → (as_end instant +ℤ pos 86_399) ≤ℤ end
end_not_later instant end from h = grind (arith, ints)

-- how late a start is shown at the most that UNTIL allows
abbrev until_bound : Until → ℤ
until_bound (UntilDay day) = (day *ℤ pos 86_400) +ℤ pos 86_400
until_bound (UntilLocal local) = local +ℤ pos 172_800
until_bound (UntilInstant instant) = instant +ℤ pos 86_400

none_end : (u : ℤ) → None ≡ Some u → ⊥
none_end u e = subst (λ (o : Option ℤ). elim o as (λ _. Type 0) [ None ↦ Unit {0} | Some _ ↦ ⊥ ]) e tt

some_end : (u v : ℤ) → Some u ≡ Some v → u ≡ v
some_end u v e = ap (λ (o : Option ℤ). elim o [ None ↦ u | Some x ↦ x ]) e

same_some : (u v : Until) → Some u ≡ Some v → u ≡ v
same_some u v e = ap (λ (o : Option Until). elim o [ None ↦ u | Some x ↦ x ]) e

none_some : (u : Until) → None ≡ Some u → ⊥
none_some u e = subst (λ (o : Option Until). elim o as (λ _. Type 0) [ None ↦ Unit {0} | Some _ ↦ ⊥ ]) e tt

bounded : (rule : RuleText) (end : ℤ) (until : Until) → RuleEndsBy rule end → rule.until ≡ Some until → until_bound until ≤ℤ end
bounded rule end until (by_day day is l) e = subst (λ u. until_bound u ≤ℤ end) (same_some _ _ (sym is ∙ e)) l
bounded rule end until (by_local local is l) e = subst (λ u. until_bound u ≤ℤ end) (same_some _ _ (sym is ∙ e)) l
bounded rule end until (by_instant instant is l) e = subst (λ u. until_bound u ≤ℤ end) (same_some _ _ (sym is ∙ e)) l

-- ---- one clock

-- no offset of the clock is a day or more
pub record AreNear (Means : ℤ → ℤ → Type 0) : Type 0 where
  pub later : (local t : ℤ) → Means local t → t ≤ℤ (local +ℤ pos 86_399)
  pub earlier : (local t : ℤ) → Means local t → local ≤ℤ (t +ℤ pos 86_399)

-- the local time is among those from a first one on, and up to a last one, if there is one
abbrev pub IsCovered : ℤ → Option ℤ → ℤ → Type 0
IsCovered first last local = (first ≤ℤ local) × ((end : ℤ) → last ≡ Some end → local ≤ℤ end)

-- a date of UNTIL is at 0000-01-01 at the earliest
abbrev pub IsDayKnown : RuleText → Type 0
IsDayKnown text = (number : ℤ) → text.until ≡ Some (UntilDay number) → (text : List ℕ) × SpellsDate text number

-- a rule ends by then, if there is an end, which is no earlier than its start
abbrev pub EndsSo : RuleText → Option ℤ → Type 0
EndsSo text last = (end : ℤ) → last ≡ Some end → RuleEndsBy text end × (pos 0 ≤ℤ end)

day_known : (text : List ℕ) (number : ℤ) → SpellsDate text number → pos (day_index number) ≡ number +ℤ pos 719_528
day_known text number s = let c = s.counted in rw c (grind (arith, ints))

-- ---- when the starts of a rule end on one clock

module _ (M : ℤ → ℤ → Type 0) (near : AreNear M) (last : Option ℤ) where
  -- a start that isn't past an instant is shown less than a day after it
  last_shown : (second : ℕ) (until : ℤ) (day : ℕ) (end : ℤ) → (until +ℤ pos 86_399) ≤ℤ end → IsLastDayOn M second until day → local_time day second ≤ℤ end
  last_shown second until day end l h =
      let e = near.earlier (local_time day second) h.start h.means in
      let n = h.not_past in
      omega (arith, ints, e, n, l)

  -- UNTIL as an instant
  pub instant_ends : (text : RuleText) (instant end : ℤ) → RuleEndsBy text end × (pos 0 ≤ℤ end) → text.until ≡ Some (UntilInstant instant) → (as_end instant +ℤ pos 86_399) ≤ℤ end
  instant_ends text instant end (ends, from) e =
      let b = bounded text end (UntilInstant instant) ends e in
      end_not_later instant end from (omega (arith, ints, b))

  -- UNTIL as a local time
  pub local_ends : (text : RuleText) (local instant end : ℤ) → RuleEndsBy text end × (pos 0 ≤ℤ end) → text.until ≡ Some (UntilLocal local) → M local instant → (as_end instant +ℤ pos 86_399) ≤ℤ end
  local_ends text local instant end (ends, from) e m =
      let b = bounded text end (UntilLocal local) ends e in
      let n = near.later local instant m in
      end_not_later instant end from (omega (arith, ints, b, n))

  last_allowed : (text : RuleText) (until : Option Until) (second day : ℕ) (end : ℤ) → IsDayKnown text → text.until ≡ until → RuleEndsBy text end × (pos 0 ≤ℤ end)
      → second < 86_400 → IsLastAllowedOn M second until day → local_time day second ≤ℤ end
  last_allowed text None second day end known e (by_day number is l, from) s h = absurd (none_some _ (sym e ∙ is))
  last_allowed text None second day end known e (by_local local is l, from) s h = absurd (none_some _ (sym e ∙ is))
  last_allowed text None second day end known e (by_instant instant is l, from) s h = absurd (none_some _ (sym e ∙ is))
  last_allowed text (Some (UntilDay number)) second day end known e ends s h =
      let b = bounded text end (UntilDay number) ends.0 e in
      let k = day_known (known number e).0 number (known number e).1 in
      let d : pos day ≡ number +ℤ pos 719_528 = ap pos h ∙ k in
      omega (arith, ints, b, d, s)
  last_allowed text (Some (UntilLocal local)) second day end known e ends s (instant, m, h) =
      last_shown second (as_end instant) day end (local_ends text local instant end ends e m) h
  last_allowed text (Some (UntilInstant instant)) second day end known e ends s h =
      last_shown second (as_end instant) day end (instant_ends text instant end ends e) h

  -- each start of a rule is among the covered local times
  pub start_covered : (first local : ℤ) (text : RuleText) (rule : Rule) (start second day : ℕ) → first ≤ℤ local → IsDayKnown text → EndsSo text last
      → GivesRuleOn M local text rule → IsOnDay local start second → is_rule_day rule day ≡ true → IsCovered first last (local_time day second)
  start_covered first local text rule start second day from known ends g on listed =
      let given : is_rule_day (rule_of text g.day g.last) day ≡ true = subst (λ r. is_rule_day r day ≡ true) g.is listed in
      let a : g.day ≤ day = from_start (rule_of text g.day g.last) day given in
      let b : day ≤ g.last = up_to_last (rule_of text g.day g.last) day given in
      let s = on.0 in
      let at = on.1 in
      let gs = g.on.0 in
      let gat = g.on.1 in (
        omega (arith, ints, from, a, s, at, gs, gat),
        λ end e.
            let l = last_allowed text text.until g.second g.last end known refl (ends end e) gs g.allowed in
            omega (arith, ints, l, b, s, at, gs, gat),
      )

-- ---- from one clock to the other

module _ (M N : ℤ → ℤ → Type 0) (near : AreNear M) (near_other : AreNear N) (first : ℤ) (last : Option ℤ)
    (same : (local t : ℤ) → IsCovered first last local → M local t ↔ N local t) where
  last_day : (second : ℕ) (until : ℤ) (day : ℕ) → first ≤ℤ local_time day second → ((end : ℤ) → last ≡ Some end → (until +ℤ pos 86_399) ≤ℤ end)
      → IsLastDayOn M second until day → IsLastDayOn N second until day
  last_day second until day from ends h = record {
    to_9999 = h.to_9999;
    start = h.start;
    means = (same (local_time day second) h.start (from, λ end e. last_shown M near last second until day end (ends end e) h)).0 h.means;
    not_past = h.not_past;
    last = λ other past upto start m. later other past upto start m last refl;
  }
    where
      later : (other : ℕ) → day + 1 ≤ other → other ≤ 3_652_424 → (start : ℤ) → N (local_time other second) start → (l : Option ℤ) → last ≡ l → until <ℤ start
      later other past upto start m None e =
          let f : first ≤ℤ local_time other second = omega (arith, ints, from, past) in
          h.last other past upto start ((same (local_time other second) start (f, λ end g. absurd (none_end end (sym e ∙ g)))).1 m)
      later other past upto start m (Some end) e =
          by_lt_z end (local_time other second)
          (λ lt.
          let bound = ends end e in
          let n = near_other.earlier (local_time other second) start m in
          omega (arith, ints, bound, n, lt))
          (λ ge.
          let f : first ≤ℤ local_time other second = omega (arith, ints, from, past) in
          h.last other past upto start ((same (local_time other second) start (f, λ u g. subst (λ b. local_time other second ≤ℤ b) (some_end end u (sym e ∙ g)) ge)).1 m))

  -- it allows the same last day
  allowed_there : (text : RuleText) (until : Option Until) (second day : ℕ) → text.until ≡ until → first ≤ℤ local_time day second
      → ((local : ℤ) → text.until ≡ Some (UntilLocal local) → first ≤ℤ local) → EndsSo text last
      → IsLastAllowedOn M second until day → IsLastAllowedOn N second until day
  allowed_there text None second day e from until_from ends h = h
  allowed_there text (Some (UntilDay number)) second day e from until_from ends h = h
  allowed_there text (Some (UntilLocal local)) second day e from until_from ends (instant, m, h) =
      let covered : IsCovered first last local =
      (until_from local e, λ end l. let b = bounded text end (UntilLocal local) (ends end l).0 e in omega (arith, ints, b)) in (
        instant,
        (same local instant covered).0 m,
        last_day second (as_end instant) day from (λ end l. local_ends M near last text local instant end (ends end l) e m) h,
      )
  allowed_there text (Some (UntilInstant instant)) second day e from until_from ends h =
      last_day second (as_end instant) day from (λ end l. instant_ends M near last text instant end (ends end l) e) h

  -- it gives the same rule
  pub gives_there : (local : ℤ) (text : RuleText) (rule : Rule) → first ≤ℤ local → ((until : ℤ) → text.until ≡ Some (UntilLocal until) → first ≤ℤ until)
      → EndsSo text last → GivesRuleOn M local text rule → GivesRuleOn N local text rule
  gives_there local text rule from until_from ends g =
      let l : g.day ≤ g.last = up_to_last (rule_of text g.day g.last) g.day (subst (λ r. is_rule_day r g.day ≡ true) g.is g.starts) in
      let at = g.on.1 in
      let f : first ≤ℤ local_time g.last g.second = omega (arith, ints, from, at, l) in
      record {
        day = g.day;
        second = g.second;
        on = g.on;
        last = g.last;
        allowed = allowed_there text text.until g.second g.last refl f until_from ends g.allowed;
        is = g.is;
        starts = g.starts;
      }
