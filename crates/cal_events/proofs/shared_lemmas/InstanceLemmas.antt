-- The instances of an event: how the first that is left is found.
-- Cited by InstancesIterator::next of instances, first_day of instances, first_on_rule of instances, first_place of instances, first_start of instances, instance_at of instances and 1 more.
use Rattle.std.proofs.Common.{◌≡◌, ◌∙◌, ℕ, zero, suc, ◌+◌, ◌<◌, ◌≤◌, Bool, true, false, List, [], ◌∷◌, map, sym, ap, subst, refl, inl, inr, ◌⊎◌, arith, ℤ, ◌+ℤ◌, ◌<ℤ◌, ◌≤ℤ◌}
use Rattle.std.specs.Prelude.{Option, Some, None, Contains, int_lt, ◌↔◌, not, option_map}
use Rattle.std.proofs.lemmas.Bool.{true≢false, cases_order}
use Rattle.std.proofs.lemmas.Option.{same_Some}
use Rattle.std.proofs.lemmas.Int.{ints}
use Rattle.std.proofs.lemmas.List.Elements.{All-contains}
use Rattle.std.proofs.lemmas.Bool.Decides.{nat_tests}
use Rattle.profile.specs.series.Rules.{Rule, is_rule_day, is_counted, IsNextDay, NoDayFrom}
use Rattle.profile.specs.series.Zones.{Zone, Means, IsOneMeaning, IsBounds, local_time}
use Rattle.profile.specs.checker.Instances.{Key, Instance}
use Rattle.profile.specs.events.ZonedTimes.{clock_of}
use Rattle.profile.specs.events.EventRules.{IsOnDay}
use Rattle.profile.specs.events.EventComponents.{EventComponent as SaidComponent, meeting_said}
use Rattle.profile.specs.events.Starts.{IsGiven, IsRuleStart, IsStart, IsInstance, ComesBefore, EndsAt}
use Rattle.cal_events.specs.Clocks.{IsAscending}
use Rattle.cal_events.specs.Component.{component_of, times_of}
use Rattle.cal_events.specs.Calendar.{MeetingName, key_in}
use Rattle.cal_events.specs.Recurrence.{name_of, recurring, master_of}
use Rattle.cal_events.specs.Event.{said_meeting}
use Rattle.cal_events.specs.declared.event.Event as declared
use Rattle.cal_events.specs.declared.component.EventComponent.{EventComponent}
use Rattle.cal_events.specs.declared.recurrence.EventName.{EventName}
use Rattle.cal_events.specs.declared.recurrence.Recurrence.{Recurrence}
use Rattle.cal_events.specs.declared.rule_days.RuleDays.{RuleDays}
use Rattle.cal_events.specs.declared.instances.Bound.{Bound}
use Rattle.cal_events.specs.declared.instances.InstancePlace.{InstancePlace}
use Rattle.cal_events.specs.Instances.{IsAfter, IsBefore, IsWanted, NoneBefore, IsLeast, lesser, IsMovedTo, IsSoonest, IsSooner, IsPastSlot, HasPassed, IsHeldAt, IsHeld, IsAtPlace, own_place}
use Rattle.cal_events.proofs.shared_lemmas.HiddenLemmas.{has_at}
use Rattle.cal_events.proofs.shared_lemmas.InOneOrder.{none_in}

-- ---- the lesser of two

pub least_of_two : (P Q : ℤ → Type 0) (a b : Option ℤ) → IsLeast P a → IsLeast Q b → IsLeast (λ t. P t ⊎ Q t) (lesser a b)
least_of_two P Q None None p q = λ t h. elim h [ inl x ↦ p t x | inr x ↦ q t x ]
least_of_two P Q None (Some y) p q = (inr q.0, λ u h. elim h [ inl x ↦ absurd (p u x) | inr x ↦ q.1 u x ])
least_of_two P Q (Some x) None p q = (inl p.0, λ u h. elim h [ inl z ↦ p.1 u z | inr z ↦ absurd (q u z) ])
least_of_two P Q (Some x) (Some y) p q = go (int_lt y x) refl
  where
    go : (b : Bool) → int_lt y x ≡ b → IsLeast (λ t. P t ⊎ Q t) (lesser (Some x) (Some y))
    go true e = rw e (inr q.0, λ u h. elim h [ inl z ↦ grind (arith, ints, p.1 u z) | inr z ↦ q.1 u z ])
    go false e = rw e (inl p.0, λ u h. elim h [ inl z ↦ p.1 u z | inr z ↦ grind (arith, ints, q.1 u z) ])

-- the same instants, said in another way
pub least_same : (P Q : ℤ → Type 0) (o : Option ℤ) → ((t : ℤ) → P t → Q t) → ((t : ℤ) → Q t → P t) → IsLeast P o → IsLeast Q o
least_same P Q None f g h = λ t q. h t (g t q)
least_same P Q (Some x) f g h = (f x h.0, λ u q. h.1 u (g u q))

-- ---- the days of a rule

pub last_of_rule : (r : Rule) (n : ℕ) → is_rule_day r n ≡ true → n ≤ 3_652_424
unfolding is_rule_day is_counted
last_of_rule r n h = grind (arith, nat_tests)

-- a local time is one second of one day
pub one_second : (local : ℤ) (a b s t : ℕ) → IsOnDay local a s → IsOnDay local b t → s ≡ t
one_second local a b s t (p, e) (q, f) = omega (arith, ints, e, f, p, q)

module _ (master : SaidComponent) (overrides : List SaidComponent) (bound : Bound) (rule : Rule) (is : master.rule ≡ Some rule) (one : IsOneMeaning (clock_of master.times.zone))
    (first second : ℕ) (on : IsOnDay master.times.local first second) (from : ℕ) (none : NoneBefore master overrides bound from) where
  abbrev zone : Zone
  zone = clock_of master.times.zone

  wanted : ℤ → Type 0
  wanted t = IsWanted master overrides bound t

  -- a start that is wanted isn't on an earlier day than the next one
  pub none_earlier : (found : ℕ) → IsNextDay rule from found → (n : ℕ) → n < found → is_rule_day rule n ≡ true → (t : ℤ) → Means zone (local_time n second) t → IsWanted master overrides bound t → ⊥
  none_earlier found next n lt holds t means w =
      elim (cases_order n from) [
        | inl same ↦ true≢false (sym holds ∙ next.least n (omega (arith, same)) lt)
        | inr o ↦ elim o [ inl less ↦ none rule is first second n on less holds t means w | inr more ↦ true≢false (sym holds ∙ next.least n (omega (arith, more)) lt) ]
      ]

  pub none_through : (found : ℕ) → IsNextDay rule from found → (start : ℤ) → Means zone (local_time found second) start → (IsWanted master overrides bound start → ⊥)
      → NoneBefore master overrides bound (found + 1)
  none_through found next start means not other e a s n o lt holds t m w =
      let same : other ≡ rule = same_Some other rule (sym e ∙ is) in
      let holds' : is_rule_day rule n ≡ true = subst (λ (r : Rule). is_rule_day r n ≡ true) same holds in
      let m' : Means zone (local_time n second) t = subst (λ (x : ℕ). Means zone (local_time n x) t) (one_second master.times.local a first s second o on) m in
      elim (cases_order n found) [
        | inl is_it ↦ not (subst (IsWanted master overrides bound) (one (local_time found second) t start (subst (λ (x : ℕ). Means zone (local_time x second) t) is_it m') means) w)
        | inr x ↦ elim x [ inl less ↦ none_earlier found next n less holds' t m' w | inr more ↦ absurd (omega (arith, lt, more)) ]
      ]

  pub none_up_to : (found : ℕ) → IsNextDay rule from found → NoneBefore master overrides bound found
  none_up_to found next other e a s n o lt holds t m w =
      let same : other ≡ rule = same_Some other rule (sym e ∙ is) in
      none_earlier found next n lt (subst (λ (r : Rule). is_rule_day r n ≡ true) same holds) t
      (subst (λ (x : ℕ). Means zone (local_time n x) t) (one_second master.times.local a first s second o on) m) w

  -- what the rule gives, on which day
  given : (t : ℤ) → IsGiven master.times master.rule t → IsRuleStart master.times rule t
  given t g = subst (λ (r : Option Rule). IsGiven master.times r t) is g

  pub first_of_rule : IsAscending zone → (found : ℕ) → IsNextDay rule from found → (start : ℤ) → Means zone (local_time found second) start → IsWanted master overrides bound start
      → IsLeast (λ t. IsGiven master.times master.rule t × IsWanted master overrides bound t) (Some start)
  first_of_rule up found next start means w = (
    (subst (λ (r : Option Rule). IsGiven master.times r start) (sym is) (record { first = first; second = second; on = on; day = found; listed = next.holds; means = means }), w),
    λ u h.
        let g = given u h.0 in
        let m : Means zone (local_time g.day second) u = subst (λ (x : ℕ). Means zone (local_time g.day x) u) (one_second master.times.local g.first first g.second second g.on on) g.means in
        elim (cases_order g.day found) [
          | inl is_it ↦ let e = one (local_time found second) u start (subst (λ (x : ℕ). Means zone (local_time x second) u) is_it m) means in omega (arith, ints, e)
          | inr x ↦ elim x [
            | inl less ↦ absurd (none_earlier found next g.day less g.listed u m h.1)
            | inr more ↦ let l : start <ℤ u = up (local_time found second) (local_time g.day second) start u means m (omega (arith, ints, more)) in omega (arith, ints, l)
          ]
        ],
  )

  pub none_of_rule : NoDayFrom rule from → IsLeast (λ t. IsGiven master.times master.rule t × IsWanted master overrides bound t) None
  none_of_rule rest u h =
      let g = given u h.0 in
      elim (cases_order g.day from) [
        | inl same ↦ true≢false (sym g.listed ∙ rest g.day (omega (arith, same)))
        | inr x ↦ elim x [ inl less ↦ none rule is g.first g.second g.day g.on less g.listed u g.means h.1 | inr more ↦ true≢false (sym g.listed ∙ rest g.day (omega (arith, more))) ]
      ]

-- ---- the place that comes first

before_trans : (a b c : InstancePlace) → IsBefore a b → IsBefore b c → IsBefore a c
before_trans a b c (inl p) (inl q) = inl (omega (arith, ints))
before_trans a b c (inl p) (inr q) = inl (omega (arith, ints, q.0))
before_trans a b c (inr p) (inl q) = inl (omega (arith, ints, p.0))
before_trans a b c (inr p) (inr q) = inr (p.0 ∙ q.0, omega (arith, ints, p.1, q.1))

-- what comes before one of two comes before the other, or that comes before the one
before_either : (a b c : InstancePlace) → IsBefore a b → IsBefore a c ⊎ IsBefore c b
before_either a b c h =
    elim (order_of a.start c.start) [
      | inl less ↦ inl (inl less)
      | inr (inl same) ↦ elim (order_of a.slot c.slot) [
        | inl less ↦ inl (inr (same, less))
        | inr (inl alike) ↦ inr (elim h [ inl p ↦ inl (omega (arith, ints, same)) | inr p ↦ inr (sym same ∙ p.0, omega (arith, ints, alike, p.1)) ])
        | inr (inr more) ↦ inr (elim h [ inl p ↦ inl (omega (arith, ints, same)) | inr p ↦ inr (sym same ∙ p.0, omega (arith, ints, more, p.1)) ])
      ]
      | inr (inr more) ↦ inr (elim h [ inl p ↦ inl (omega (arith, ints, more)) | inr p ↦ inl (omega (arith, ints, more, p.0)) ])
    ]
  where
    order_of : (x y : ℤ) → (x <ℤ y) ⊎ ((x ≡ y) ⊎ (y <ℤ x))
    order_of x y = grind (arith, ints)

soonest_picked : (P Q : InstancePlace → Type 0) (x y : InstancePlace) → P x × ((q : InstancePlace) → P q → IsBefore q x → ⊥) → ((q : InstancePlace) → Q q → IsBefore q y → ⊥) → (IsBefore y x → ⊥)
    → IsSoonest (λ p. P p ⊎ Q p) (Some x)
soonest_picked P Q x y p q not = (
  inl p.0,
  λ r h b. elim h [
    | inl k ↦ p.1 r k b
    | inr k ↦ elim (before_either r x y b) [ inl l ↦ q r k l | inr l ↦ not l ]
  ],
)

pub soonest_of_two : (P Q : InstancePlace → Type 0) (a b r : Option InstancePlace) → IsSoonest P a → IsSoonest Q b → IsSooner a b r → IsSoonest (λ p. P p ⊎ Q p) r
soonest_of_two P Q None None r p q e = subst (IsSoonest (λ p. P p ⊎ Q p)) (sym e) (λ t h. elim h [ inl x ↦ p t x | inr x ↦ q t x ])
soonest_of_two P Q None (Some y) r p q e = subst (IsSoonest (λ p. P p ⊎ Q p)) (sym e) (inr q.0, λ u h b. elim h [ inl x ↦ p u x | inr x ↦ q.1 u x b ])
soonest_of_two P Q (Some x) None r p q e = subst (IsSoonest (λ p. P p ⊎ Q p)) (sym e) (inl p.0, λ u h b. elim h [ inl z ↦ p.1 u z b | inr z ↦ q u z ])
soonest_of_two P Q (Some x) (Some y) r p q (inl e) = subst (IsSoonest (λ p. P p ⊎ Q p)) (sym e.0) (soonest_picked P Q x y p q.1 e.1)
soonest_of_two P Q (Some x) (Some y) r p q (inr e) =
    subst (IsSoonest (λ p. P p ⊎ Q p)) (sym e.0) (inr q.0, λ u h b. elim h [ inl z ↦ p.1 u z (before_trans u y x b e.1) | inr z ↦ q.1 u z b ])

pub soonest_same : (P Q : InstancePlace → Type 0) (o : Option InstancePlace) → ((p : InstancePlace) → P p → Q p) → ((p : InstancePlace) → Q p → P p) → IsSoonest P o → IsSoonest Q o
soonest_same P Q None f g h = λ t q. h t (g t q)
soonest_same P Q (Some x) f g h = (f x h.0, λ u q. h.1 u (g u q))

-- ---- the starts of a master

module _ (master : SaidComponent) (overrides : List SaidComponent) (bound : Bound) where
  abbrev to_come : ℤ → Type 0
  to_come t = IsStart master overrides t × IsAfter bound t t

  start_of : (t : ℤ) → (IsGiven master.times master.rule t ⊎ Contains master.additions t) → IsWanted master overrides bound t → IsStart master overrides t × IsAfter bound t t
  start_of t g w = (record { given = g; in_dates = w.in_dates; not_excepted = w.not_excepted; not_replaced = w.not_replaced }, w.after)

  wanted_of : (t : ℤ) → IsStart master overrides t × IsAfter bound t t → IsWanted master overrides bound t
  wanted_of t (s, a) = record { after = a; in_dates = s.in_dates; not_excepted = s.not_excepted; not_replaced = s.not_replaced }

  pub first_of_both : (a b r : Option ℤ) → IsLeast (λ t. IsGiven master.times master.rule t × IsWanted master overrides bound t) a
      → IsLeast (λ t. Contains master.additions t × IsWanted master overrides bound t) b → r ≡ lesser a b → IsLeast (λ t. IsStart master overrides t × IsAfter bound t t) r
  first_of_both a b r p q e =
      subst (IsLeast (λ t. IsStart master overrides t × IsAfter bound t t)) (sym e)
      (least_same (λ t. (IsGiven master.times master.rule t × IsWanted master overrides bound t) ⊎ (Contains master.additions t × IsWanted master overrides bound t))
      (λ t. IsStart master overrides t × IsAfter bound t t) (lesser a b)
      (λ t h. elim h [ inl x ↦ start_of t (inl x.0) x.1 | inr x ↦ start_of t (inr x.0) x.1 ])
      (λ t h. elim h.0.given [ inl g ↦ inl (g, wanted_of t h) | inr c ↦ inr (c, wanted_of t h) ])
      (least_of_two (λ t. IsGiven master.times master.rule t × IsWanted master overrides bound t) (λ t. Contains master.additions t × IsWanted master overrides bound t) a b p q))

-- ---- the places of an event

module _ (os : List EventComponent) (bound : Bound) where
  abbrev moved : InstancePlace → Type 0
  moved p = (o : EventComponent) × Contains os o × IsMovedTo o bound p

  abbrev own : Recurrence → InstancePlace → Type 0
  own c p = (p ≡ own_place p.start) × IsStart (recurring c) [] p.start × IsAfter bound p.start p.start

  own_soonest : (c : Recurrence) (start : Option ℤ) → IsLeast (λ t. IsStart (recurring c) [] t × IsAfter bound t t) start → IsSoonest (own c) (option_map own_place start)
  own_soonest c None h = λ p k. h p.start (k.1, k.2)
  own_soonest c (Some t) h = (
    (refl, h.0.0, h.0.1),
    λ q k b.
        let least : t ≤ℤ q.start = h.1 q.start (k.1, k.2) in
        let slot : q.slot ≡ q.start = ap (λ (p : InstancePlace). p.slot) k.0 in
        elim b [ inl l ↦ absurd (omega (arith, ints, l, least)) | inr l ↦ absurd (omega (arith, ints, l.0, l.1, slot)) ],
  )

  held_of : (master : Option Recurrence) (c : Recurrence) → master ≡ Some c → (p : InstancePlace) → own c p ⊎ moved p → IsHeld master os bound p
  held_of master c is p (inl (e, s, a)) = (inl (c, is, e, s), subst (λ (x : ℤ). IsAfter bound p.start x) (sym (ap (λ (q : InstancePlace). q.slot) e)) a)
  held_of master c is p (inr (o, k, (at, a))) = (inr (o, k, at), a)

  of_held : (master : Option Recurrence) (c : Recurrence) → master ≡ Some c → (p : InstancePlace) → IsHeld master os bound p → own c p ⊎ moved p
  of_held master c is p (inl (d, other, e, s), a) =
      let same : d ≡ c = same_Some d c (sym other ∙ is) in
      inl (e, subst (λ (x : Recurrence). IsStart (recurring x) [] p.start) same s, subst (λ (x : ℤ). IsAfter bound p.start x) (ap (λ (q : InstancePlace). q.slot) e) a)
  of_held master c is p (inr (o, k, at), a) = inr (o, k, (at, a))

  pub first_with_master : (master : Option Recurrence) (c : Recurrence) → master ≡ Some c → (start : Option ℤ) (n m r : Option InstancePlace)
      → IsLeast (λ t. IsStart (recurring c) [] t × IsAfter bound t t) start → n ≡ option_map own_place start → IsSoonest (λ p. (o : EventComponent) × Contains os o × IsMovedTo o bound p) m
      → IsSooner n m r → IsSoonest (IsHeld master os bound) r
  first_with_master master c is start n m r h e g s =
      soonest_same (λ p. own c p ⊎ moved p) (IsHeld master os bound) r (held_of master c is) (of_held master c is)
      (soonest_of_two (own c) moved n m r (subst (IsSoonest (own c)) (sym e) (own_soonest c start h)) g s)

  pub first_without : (master : Option Recurrence) → master ≡ None → (m : Option InstancePlace) → IsSoonest (λ p. (o : EventComponent) × Contains os o × IsMovedTo o bound p) m
      → IsSoonest (IsHeld master os bound) m
  first_without master none m h =
      soonest_same moved (IsHeld master os bound) m (λ p k. (inr (k.0, k.1, k.2.0), k.2.1))
      (λ p k. elim k.0 [ inl l ↦ absurd (nothing l.0 (sym none ∙ l.1)) | inr l ↦ (l.0, l.1, (l.2, k.1)) ]) h
    where
      nothing : (c : Recurrence) → None ≡ Some c → ⊥
      nothing c e = cc

-- what is to come after a place that was to come was to come
pub admitted : (bound : Bound) (p : InstancePlace) (start slot : ℤ) → IsAfter bound p.start p.slot → IsAfter (record { start = p.start; slot = Some p.slot }) start slot → IsAfter bound start slot
admitted bound p start slot (inl a) (inl b) = inl (omega (arith, ints))
admitted bound p start slot (inl a) (inr b) = inl (omega (arith, ints, b.0))
admitted bound p start slot (inr a) (inl b) = inl (omega (arith, ints, a.0))
admitted bound p start slot (inr a) (inr b) = inr (a.0 ∙ b.0, past bound.slot a.1)
  where
    past : (last : Option ℤ) → IsPastSlot last p.slot → IsPastSlot last slot
    past None h = tt
    past (Some x) h = omega (arith, ints, h, b.1)

none_more : (master : SaidComponent) (overrides : List SaidComponent) (bound : Bound) (p : InstancePlace) (day : ℕ) → IsAfter bound p.start p.slot → NoneBefore master overrides bound day
    → NoneBefore master overrides (record { start = p.start; slot = Some p.slot }) day
none_more master overrides bound p day a h rule e first second n on lt holds t means w =
    h rule e first second n on lt holds t means
    (record { after = admitted bound p t t a w.after; in_dates = w.in_dates; not_excepted = w.not_excepted; not_replaced = w.not_replaced })

pub passed_more : (master : Option Recurrence) (bound : Bound) (p : InstancePlace) (days : RuleDays) → IsAfter bound p.start p.slot → HasPassed master bound days
    → HasPassed master (record { start = p.start; slot = Some p.slot }) days
passed_more master bound p days a h c is =
    let w = h c is in
    record { listed = w.listed; none = none_more (recurring c) [] bound p days.from a w.none; kept = w.kept }

-- ---- instances and their places

pub of_option : {X : Type 0} (f : X → SaidComponent) (o : Option X) (m : SaidComponent) → option_map f o ≡ Some m → (c : X) × (o ≡ Some c) × (f c ≡ m)
of_option f None m e = absurd (nothing e)
  where
    nothing : None ≡ Some m → ⊥
    nothing e = cc
of_option f (Some c) m e = (c, refl, same_Some (f c) m e)

pub of_list : (os : List EventComponent) (m : SaidComponent) → Contains (map component_of os) m → (c : EventComponent) × Contains os c × (component_of c ≡ m)
of_list [] m (k, w, e) = absurd (omega (arith, w))
of_list (o ∷ os) m (zero, w, e) = (o, (0, omega arith, refl), e)
of_list (o ∷ os) m (suc k, w, e) = let r = of_list os m (k, omega (arith, w), e) in (r.0, (suc r.1.0, omega (arith, r.1.1), r.1.2), r.2)

in_list : (os : List EventComponent) (c : EventComponent) → Contains os c → Contains (map component_of os) (component_of c)
in_list [] c (k, w, e) = absurd (omega (arith, w))
in_list (o ∷ os) c (zero, w, e) = (0, omega arith, ap component_of e)
in_list (o ∷ os) c (suc k, w, e) = let r = in_list os c (k, omega (arith, w), e) in (suc r.0, omega (arith, r.1), r.2)

abbrev place_of : Instance → InstancePlace
place_of b = record { start = b.start; slot = b.key.slot }

-- a start of a master that overrides don't touch is one of the recurrence
plain_start : (name : EventName) (r : Recurrence) (overrides : List SaidComponent) (t : ℤ) → IsStart (master_of name r) overrides t → IsStart (recurring r) [] t
plain_start name r overrides t s = record { given = s.given; in_dates = s.in_dates; not_excepted = s.not_excepted; not_replaced = λ x. none_in x.override x.among }

-- what overrides replace is excepted, so a start of the recurrence is one of the master
pub own_start : (event : declared.Event) (r : Recurrence) → event.recurrence ≡ Some r → (t : ℤ) → IsStart (recurring r) [] t → IsStart (master_of event.name r) (map component_of event.overrides.items) t
own_start event r is t s = record {
  given = s.given;
  in_dates = s.in_dates;
  not_excepted = s.not_excepted;
  not_replaced = λ x. s.not_excepted (has_at r.exceptions t (event.replaced r is t x));
}

pub instance_held : (event : declared.Event) (b : Instance) → IsInstance (said_meeting event) b → IsHeldAt event.recurrence event.overrides.items (place_of b)
instance_held event b (inl i) =
    let m = of_option (master_of event.name) event.recurrence i.master i.is in
    let slot : b.key.slot ≡ b.start = ap (λ (k : Key). k.slot) i.key in
    inl (m.0, m.1, (λ j. record { start = b.start; slot = slot j }), plain_start event.name m.0 (map component_of event.overrides.items) b.start (subst (λ (e : SaidComponent). IsStart e (map component_of event.overrides.items) b.start) (sym m.2) i.starts))
instance_held event b (inr i) =
    let m = of_list event.overrides.items i.override i.is in
    inr (m.0, m.1, (ap (λ (e : SaidComponent). e.recurrence) m.2 ∙ i.recurrence, ap (λ (e : SaidComponent). e.times.start) m.2 ∙ sym i.starts))

pub master_instance : (event : declared.Event) (c : Recurrence) → event.recurrence ≡ Some c → (b : Instance) → IsStart (recurring c) [] b.start → b.key ≡ key_in (name_of event.name) b.start
    → EndsAt (times_of c.times) b.start b.end → IsInstance (said_meeting event) b
master_instance event c is b s k e =
    inl (record { master = master_of event.name c; is = ap (option_map (master_of event.name)) is; starts = own_start event c is b.start s; key = k; ends = e })

pub override_instance : (event : declared.Event) (c : EventComponent) → Contains event.overrides.items c → (b : Instance) → c.recurrence ≡ Some b.key.slot → b.start ≡ c.times.instant
    → b.key ≡ key_in (name_of event.name) b.key.slot → EndsAt (component_of c).times b.start b.end → IsInstance (said_meeting event) b
override_instance event c is b r s k e =
    let named = All-contains (λ (o : EventComponent). meeting_said (component_of o) ≡ name_of event.name) event.overrides.items c event.named is in
    inr (record { override = component_of c; is = in_list event.overrides.items c is; recurrence = r; key = k ∙ ap (λ (m : MeetingName). key_in m b.key.slot) (sym named); starts = s; ends = e })

-- ---- where to begin

-- a local time is read with the least offset or a greater one
pub not_less : (z : Zone) (least greatest local t : ℤ) → IsBounds z least greatest → Means z local t → (t +ℤ least) ≤ℤ local
not_less z least greatest local t b (inl h) = elim (b.one t h.shown.0 h.shown.1) [ inl e ↦ omega (arith, ints, e, h.shown.2) | inr e ↦ omega (arith, ints, e, h.shown.2, b.ordered) ]
not_less z least greatest local t b (inr h) = elim (b.sides h.onset h.listed) [ inl e ↦ omega (arith, ints, e.0, h.read) | inr e ↦ omega (arith, ints, e.0, h.read, b.ordered) ]

pub none_before_day : (master : SaidComponent) (overrides : List SaidComponent) (from least greatest : ℤ) (day second : ℕ) → IsBounds (clock_of master.times.zone) least greatest
    → from +ℤ least ≡ local_time day second → NoneBefore master overrides (record { start = from; slot = None }) day
none_before_day master overrides from least greatest day second b e rule is first s n on lt holds t means w =
    let l = not_less (clock_of master.times.zone) least greatest (local_time n s) t b means in
    let a : from ≤ℤ t = elim w.after [ inl x ↦ omega (arith, ints, x) | inr x ↦ omega (arith, ints, x.0) ] in
    let range : s < 86_400 = on.0 in
    absurd (omega (arith, ints, l, a, e, lt, range))

starts_at : (r : Rule) (n : ℕ) → is_rule_day r n ≡ true → r.pattern.start ≤ n
unfolding is_rule_day is_counted
starts_at r n h = grind (arith, nat_tests)

pub none_before_start : (master : SaidComponent) (overrides : List SaidComponent) (bound : Bound) (rule : Rule) (day : ℕ) → master.rule ≡ Some rule → day ≡ rule.pattern.start → NoneBefore master overrides bound day
none_before_start master overrides bound rule day is e other o first s n on lt holds t means w =
    let same : other ≡ rule = same_Some other rule (sym o ∙ is) in
    let after = starts_at rule n (subst (λ (r : Rule). is_rule_day r n ≡ true) same holds) in
    absurd (omega (arith, after, lt, e))

pub from_on : (from start slot : ℤ) → IsAfter (record { start = from; slot = None }) start slot ↔ from ≤ℤ start
from_on from start slot = (
  (λ h. elim h [ inl x ↦ omega (arith, ints, x) | inr x ↦ omega (arith, ints, x.0) ]),
  λ h. elim (order_of from start) [ inl x ↦ inl x | inr x ↦ elim x [ inl e ↦ inr (e, tt) | inr x' ↦ absurd (omega (arith, ints, h, x')) ] ],
)
  where
    order_of : (x y : ℤ) → (x <ℤ y) ⊎ ((x ≡ y) ⊎ (y <ℤ x))
    order_of x y = grind (arith, ints)

-- ---- the instance at a place

pub master_there : (master : Option Recurrence) (os : List EventComponent) (place : InstancePlace) → IsHeldAt master os place → ((o : EventComponent) → Contains os o → IsAtPlace o place → ⊥)
    → (c : Recurrence) → master ≡ Some c → (place.slot ≡ place.start) × IsStart (recurring c) [] place.start
master_there master os place (inl (d, is, e, s)) none c other =
    (ap (λ (p : InstancePlace). p.slot) e, subst (λ (x : Recurrence). IsStart (recurring x) [] place.start) (same_Some d c (sym is ∙ other)) s)
master_there master os place (inr (o, k, at)) none c other = absurd (none o k at)

pub nothing_there : (master : Option Recurrence) (os : List EventComponent) (place : InstancePlace) → IsHeldAt master os place → ((o : EventComponent) → Contains os o → IsAtPlace o place → ⊥) → master ≡ None → ⊥
nothing_there master os place (inl (d, is, e, s)) none other = nothing d (sym other ∙ is)
  where
    nothing : (c : Recurrence) → None ≡ Some c → ⊥
    nothing c e = cc
nothing_there master os place (inr (o, k, at)) none other = none o k at

-- what was made for the master's start, or for an override, is an instance
pub made_of_master : (event : declared.Event) (c : Recurrence) → event.recurrence ≡ Some c → (b : Instance) (start slot : ℤ) → slot ≡ start → IsStart (recurring c) [] start
    → b.start ≡ start → b.key ≡ key_in (name_of event.name) slot → EndsAt (times_of c.times) start b.end → IsInstance (said_meeting event) b
made_of_master event c is b start slot own s e k ends =
    master_instance event c is b (subst (IsStart (recurring c) []) (sym e) s) (k ∙ ap (key_in (name_of event.name)) (own ∙ sym e))
    (subst (λ (t : ℤ). EndsAt (times_of c.times) t b.end) (sym e) ends)

pub made_of_override : (event : declared.Event) (c : EventComponent) → Contains event.overrides.items c → (b : Instance) (start slot : ℤ) → c.recurrence ≡ Some slot → start ≡ c.times.instant
    → b.start ≡ start → b.key ≡ key_in (name_of event.name) slot → EndsAt (component_of c).times start b.end → IsInstance (said_meeting event) b
made_of_override event c is b start slot r t e k ends =
    let same : b.key.slot ≡ slot = ap (λ (x : Key). x.slot) k in
    override_instance event c is b (r ∙ ap Some (sym same)) (e ∙ t) (k ∙ ap (key_in (name_of event.name)) (sym same)) (subst (λ (x : ℤ). EndsAt (component_of c).times x b.end) (sym e) ends)

-- ---- one step

abbrev pub bound_at : ℤ → ℤ → Bound
bound_at start slot = record { start = start; slot = Some slot }

module _ (event : declared.Event) (bound : Bound) (r : Option InstancePlace) (h : IsSoonest (IsHeld event.recurrence event.overrides.items bound) r) where
  pub none_left : r ≡ None → (b : Instance) → IsInstance (said_meeting event) b × IsAfter bound b.start b.key.slot → ⊥
  none_left e b l = (subst (IsSoonest (IsHeld event.recurrence event.overrides.items bound)) e h) (place_of b) (instance_held event b l.0, l.1)

  module _ (p : InstancePlace) (e : r ≡ Some p) where
    soonest : IsHeld event.recurrence event.overrides.items bound p × ((q : InstancePlace) → IsHeld event.recurrence event.overrides.items bound q → IsBefore q p → ⊥)
    soonest = subst (IsSoonest (IsHeld event.recurrence event.overrides.items bound)) e h

    pub held_there : IsHeld event.recurrence event.overrides.items bound p
    held_there = soonest.0

    pub none_before : (i : Instance) → i.start ≡ p.start → i.key.slot ≡ p.slot → (b : Instance) → IsInstance (said_meeting event) b × IsAfter bound b.start b.key.slot → ComesBefore b i → ⊥
    none_before i start slot b l before =
        soonest.1 (place_of b) (instance_held event b l.0, l.1)
        (elim before [ inl x ↦ inl (omega (arith, ints, x, start)) | inr x ↦ inr (x.0 ∙ start, omega (arith, ints, x.1, slot)) ])

pub bound_same : (a b start slot : ℤ) → a ≡ start → b ≡ slot → bound_at a b ≡ bound_at start slot
bound_same a b start slot e f = λ i. record { start = e i; slot = Some (f i) }

pub passed_at : (master : Option Recurrence) (bound : Bound) (p : InstancePlace) (a b : ℤ) (days : RuleDays) → a ≡ p.start → b ≡ p.slot → IsAfter bound p.start p.slot
    → HasPassed master bound days → HasPassed master (bound_at a b) days
passed_at master bound p a b days e f after h =
    subst (λ (x : Bound). HasPassed master x days) (sym (bound_same a b p.start p.slot e f)) (passed_more master bound p days after h)
