-- All instances of a series as a list, in no order: what its rule gives before year 10000.
-- Cited by listed_series.
use Rattle.std.proofs.Common.{◌≡◌, ◌∙◌, ℕ, zero, suc, ◌*◌, ◌/◌, ◌%◌, ◌<◌, Bool, true, false, List, [], ◌∷◌, length, map, refl, sym, ap, subst, inl, inr, ◌⊎◌, arith, ℤ, pos, negsuc, ◌+ℤ◌, ◌≤ℤ◌, unsigned_abs}
use Rattle.std.specs.Prelude.{Option, None, Some, Contains, ◌↔◌}
use Rattle.std.specs.Ordering.{int_eq}
use Rattle.std.specs.List.{list_any}
use Rattle.std.proofs.lemmas.Bool.{cases_order, true≢false}
use Rattle.std.proofs.lemmas.Int.{ints, by_lt_z}
use Rattle.profile.specs.checker.Instances.{Instance, horizon}
use Rattle.profile.specs.series.Rules.{Rule, is_rule_day}
use Rattle.profile.specs.series.Zones.{Zone, Constant, Since, Until, IsOffsetAt, Means, IsOneMeaning, local_time}
use Rattle.profile.specs.events.EventRules.{IsOnDay}
use Rattle.profile.specs.events.Events.{Event as Whole}
use Rattle.profile.specs.events.Properties.{first_second}
use Rattle.profile.specs.events.ZonedTimes.{clock_of}
use Rattle.profile.specs.events.Starts.{key_at, IsGiven, IsRuleStart, IsInstance, IsDaysLater, EndsAt}
use Rattle.cal_zones.specs.Kinds.{zone_of, zone_of_form}
use Rattle.cal_zones.specs.declared.zone.Form as kinds
use Rattle.cal_zones.specs.declared.zone.Form.TheVariants as kind
use Rattle.cal_zones.specs.declared.zone.Zone as declared_zone
use Rattle.cal_zones.proofs.Meant.{meant, in_force}
use Rattle.cal_events.specs.Component.{times_of, form_said, zone_said, local_said}
use Rattle.cal_events.specs.declared.when.When.{When}
use Rattle.cal_events.specs.declared.when.When.TheVariants.{Utc, Zoned, Floating, WholeDay}
use Rattle.cal_events.specs.MeetingComponents.{IsInEventDates}
use Rattle.cal_events.specs.Series.{series_said}
use Rattle.cal_events.specs.Recurrence.{master_of}
use Rattle.cal_events.specs.declared.recurrence.EventName.{EventName}
use Rattle.cal_events.specs.declared.recurrence.Recurrence.{Recurrence}
use Rattle.cal_events.specs.declared.event_times.EventTimes as declared
use Rattle.cal_events.specs.declared.series.Series.{Series}
use Rattle.cal_events.proofs.shared_lemmas.CountedFrom.{counted_there}
use Rattle.cal_events.proofs.shared_lemmas.DraftKeys.{some_there}
use Rattle.cal_events.proofs.shared_lemmas.HiddenLemmas.{has_at, has_from}
use Rattle.cal_events.proofs.shared_lemmas.InOneOrder.{first_or_later, later, none_in}
use Rattle.cal_events.proofs.shared_lemmas.InstanceLemmas.{last_of_rule, one_second}
use Rattle.cal_events.proofs.shared_lemmas.Meanings.{utc_means}
use Rattle.cal_events.proofs.shared_lemmas.OwnSingles.{IsAtStart, of_master, at_start, from_start}
use Rattle.cal_events.proofs.shared_lemmas.SeriesLemmas.{rule_gives, own_master, empty_list, one_start, at_its_start}

-- ---- what clocks say

meant_on : (time : When) (local : ℤ) → (t : ℤ) × Means (clock_of (zone_said time)) local t
meant_on (Utc shown) local = (local, utc_means local)
meant_on (Zoned shown zone) local = meant zone local
meant_on (Floating shown None) local = (local, utc_means local)
meant_on (Floating shown (Some zone)) local = meant zone local
meant_on (WholeDay shown None) local = (local, utc_means local)
meant_on (WholeDay shown (Some zone)) local = meant zone local

-- an offset is less than a day
not_far : (offset : ℤ) → unsigned_abs offset < 86_400 → negsuc 86_398 ≤ℤ offset
not_far (pos n) less = omega (arith, ints)
not_far (negsuc n) less = omega (arith, ints, less)

offset_far : (k : kinds.Form) (t offset : ℤ) → IsOffsetAt (zone_of_form k) t offset → negsuc 86_398 ≤ℤ offset
offset_far (kind.Constant f) t offset e = not_far offset (subst (λ (x : ℤ). unsigned_abs x < 86_400) (sym e) f.range)
offset_far (kind.Single a) t offset (Since x h e) = not_far offset (subst (λ (y : ℤ). unsigned_abs y < 86_400) (sym (e ∙ h.listed.after)) a.observance.to)
offset_far (kind.Single a) t offset (Until x h e) = not_far offset (subst (λ (y : ℤ). unsigned_abs y < 86_400) (sym (e ∙ h.listed.before)) a.observance.from)
offset_far (kind.Pair p) t offset (Since x h e) = not_far offset (elim h.listed [
  | inl i ↦ subst (λ (y : ℤ). unsigned_abs y < 86_400) (sym (e ∙ i.after)) p.standard.to
  | inr i ↦ subst (λ (y : ℤ). unsigned_abs y < 86_400) (sym (e ∙ i.after)) p.daylight.to
])
offset_far (kind.Pair p) t offset (Until x h e) = not_far offset (elim h.listed [
  | inl i ↦ subst (λ (y : ℤ). unsigned_abs y < 86_400) (sym (e ∙ i.before)) p.standard.from
  | inr i ↦ subst (λ (y : ℤ). unsigned_abs y < 86_400) (sym (e ∙ i.before)) p.daylight.from
])

abbrev HasOffset : Zone → ℤ → Type 0
HasOffset zone t = (offset : ℤ) × IsOffsetAt zone t offset × (negsuc 86_398 ≤ℤ offset)

offset_in : (zone : declared_zone.Zone) (t : ℤ) → HasOffset (zone_of zone) t
offset_in zone t = let o = in_force zone.kind t in (o.0, o.1, offset_far zone.kind t o.0 o.1)

offset_in_utc : (t : ℤ) → HasOffset (Constant (pos 0)) t
offset_in_utc t = (pos 0, refl, omega (arith, ints))

offset_on : (time : When) (t : ℤ) → HasOffset (clock_of (zone_said time)) t
offset_on (Utc shown) t = offset_in_utc t
offset_on (Zoned shown zone) t = offset_in zone t
offset_on (Floating shown None) t = offset_in_utc t
offset_on (Floating shown (Some zone)) t = offset_in zone t
offset_on (WholeDay shown None) t = offset_in_utc t
offset_on (WholeDay shown (Some zone)) t = offset_in zone t

-- what starts in the dates of an event ends
end_on : (times : declared.EventTimes) → IsOneMeaning (clock_of (zone_said times.start)) → (start : ℤ) → (end : ℤ) × (IsInEventDates start → EndsAt (times_of times) start end)
end_on times one start = let l = later_on times.length.days in (l.0 +ℤ pos times.length.seconds, λ dates. (l.0, l.1 dates, refl))
  where
    later_on : (days : ℕ) → (later : ℤ) × (IsInEventDates start → IsDaysLater (form_said times.start) (clock_of (zone_said times.start)) days start later)
    later_on zero = (start, λ _. inl (refl, refl))
    later_on (suc n) =
        let o = offset_on times.start start in
        let c = counted_there (form_said times.start) (clock_of (zone_said times.start)) start o.0 one (meant_on times.start) o.1 in
        let m = meant_on times.start (c.0 +ℤ pos (86_400 * suc n)) in
        (m.0, λ dates. inr (omega arith, (c.0, c.1 (omega (arith, ints, dates.0, o.2)), m.1)))

-- ---- the starts that a rule gives

module _ (master : Recurrence) (rule : Rule) (one : IsOneMeaning (clock_of (times_of master.times).zone)) where
  module _ (second : ℕ) where
    -- on a day before that one
    abbrev IsBelow : ℕ → ℤ → Type 0
    IsBelow k t = (day : ℕ) × (day < k) × (is_rule_day rule day ≡ true) × Means (clock_of (times_of master.times).zone) (local_time day second) t

    below : (k : ℕ) → (starts : List ℤ) × ((t : ℤ) → Contains starts t ↔ IsBelow k t)
    below zero = ([], λ t. ((λ c. absurd (none_in t c)), λ h. absurd (omega (arith, h.1))))
    below (suc n) = go (is_rule_day rule n) refl (below n)
      where
        later_day : (t : ℤ) → IsBelow n t → IsBelow (suc n) t
        later_day t h = (h.0, omega (arith, h.1), h.2, h.3)

        go : (b : Bool) → is_rule_day rule n ≡ b → (starts : List ℤ) × ((t : ℤ) → Contains starts t ↔ IsBelow n t) → (starts : List ℤ) × ((t : ℤ) → Contains starts t ↔ IsBelow (suc n) t)
        go true e r =
            let m = meant_on master.times.start (local_time n second) in (
              m.0 ∷ r.0,
              λ t. (
                (λ c. elim (first_or_later m.0 t r.0 c) [
                  | inl same ↦ (n, omega arith, e, subst (Means (clock_of (times_of master.times).zone) (local_time n second)) same m.1)
                  | inr d ↦ later_day t ((r.1 t).0 d)
                ]),
                λ h. elim (cases_order h.0 n) [
                  | inl at ↦
                      let same : m.0 ≡ t = one (local_time n second) m.0 t m.1 (subst (λ (x : ℕ). Means (clock_of (times_of master.times).zone) (local_time x second) t) at h.3) in
                      subst (Contains (m.0 ∷ r.0)) same (zero, omega arith, refl)
                  | inr o ↦ elim o [
                    | inl less ↦ later m.0 t r.0 ((r.1 t).1 (h.0, less, h.2, h.3))
                    | inr more ↦ absurd (omega (arith, more, h.1))
                  ]
                ],
              ),
            )
        go false e r = (
          r.0,
          λ t. (
            (λ c. later_day t ((r.1 t).0 c)),
            λ h. elim (cases_order h.0 n) [
              | inl at ↦ absurd (true≢false (sym h.2 ∙ ap (is_rule_day rule) at ∙ e))
              | inr o ↦ elim o [
                | inl less ↦ (r.1 t).1 (h.0, less, h.2, h.3)
                | inr more ↦ absurd (omega (arith, more, h.1))
              ]
            ],
          ),
        )

  abbrev HasStarts : List ℤ → Type 0
  HasStarts starts = (t : ℤ) → Contains starts t ↔ IsRuleStart (times_of master.times) rule t

  rule_starts : (k : ℕ) → 3_652_424 < k → (starts : List ℤ) × HasStarts starts
  rule_starts k past = go (local_said master.times.start +ℤ pos 62_167_219_200) refl
    where
      go : (d : ℤ) → local_said master.times.start +ℤ pos 62_167_219_200 ≡ d → (starts : List ℤ) × HasStarts starts
      go (pos n) e =
          let second = n % 86_400 in
          let on : IsOnDay (local_said master.times.start) (n / 86_400) second = (omega arith, omega (arith, ints, e)) in
          let b = below second k in (
            b.0,
            λ t. (
              (λ c. let h = (b.1 t).0 c in record { first = n / 86_400; second = second; on = on; day = h.0; listed = h.2; means = h.3 }),
              λ r. (b.1 t).1 (
                r.day,
                omega (arith, past, last_of_rule rule r.day r.listed),
                r.listed,
                subst (λ (x : ℕ). Means (clock_of (times_of master.times).zone) (local_time r.day x) t) (one_second (local_said master.times.start) r.first (n / 86_400) r.second second r.on on) r.means,
              ),
            ),
          )
      go (negsuc n) e = ([], λ t. ((λ c. absurd (none_in t c)), λ r. absurd (omega (arith, ints, e, r.on.1))))

-- ---- the instances

module _ (name : EventName) (master : Recurrence) (clock : IsOneMeaning (clock_of (times_of master.times).zone)) (one : (a b : Instance) → IsInstance (of_master (master_of name master)) a → IsInstance (of_master (master_of name master)) b → a.start ≡ b.start → a ≡ b) where
  abbrev IsOwn : Instance → Type 0
  IsOwn b = IsInstance (of_master (master_of name master)) b

  -- a start is in the dates and isn't excepted, or this doesn't hold
  abbrev IsShown : ℤ → Type 0
  IsShown t = IsInEventDates t × (Contains master.exceptions t → ⊥)

  shown : (t : ℤ) → IsShown t ⊎ (IsShown t → ⊥)
  shown t =
      by_lt_z t first_second
      (λ early. inr (λ s. omega (arith, ints, early, s.0.0)))
      (λ from. by_lt_z t horizon (λ before. listed (list_any (λ own. int_eq own t) master.exceptions) refl (from, before)) (λ late. inr (λ s. omega (arith, ints, late, s.0.1))))
    where
      listed : (b : Bool) → list_any (λ own. int_eq own t) master.exceptions ≡ b → IsInEventDates t → IsShown t ⊎ (IsShown t → ⊥)
      listed true e named = inr (λ s. s.1 (has_at master.exceptions t e))
      listed false e named = inl (named, λ c. true≢false (sym (has_from master.exceptions t c) ∙ e))

  abbrev booked : ℤ → Instance
  booked t = record { key = key_at (master_of name master) t; start = t; end = (end_on master.times clock t).0 }

  own : (t : ℤ) → IsGiven (times_of master.times) (master_of name master).rule t → IsShown t → IsOwn (booked t)
  own t given s = from_start (master_of name master) (booked t) (record {
    starts = record { given = inl given; in_dates = s.0; not_excepted = s.1; not_replaced = λ r. none_in _ r.among };
    key = refl;
    ends = (end_on master.times clock t).1 s.0;
  })

  own_shown : (b : Instance) → IsOwn b → IsShown b.start
  own_shown b h = let x = at_start (master_of name master) b h in (x.starts.in_dates, x.starts.not_excepted)

  abbrev AreAt : List ℤ → List Instance → Type 0
  AreAt starts all = (b : Instance) → Contains all b ↔ (Contains starts b.start × IsOwn b)

  picked : (starts : List ℤ) → ((t : ℤ) → Contains starts t → IsGiven (times_of master.times) (master_of name master).rule t) → (all : List Instance) × AreAt starts all
  picked [] given = ([], λ b. ((λ c. absurd (none_in b c)), λ h. absurd (none_in b.start h.0)))
  picked (x ∷ xs) given = go (shown x) (picked xs (λ t c. given t (later x t xs c)))
    where
      go : IsShown x ⊎ (IsShown x → ⊥) → (all : List Instance) × AreAt xs all → (all : List Instance) × AreAt (x ∷ xs) all
      go (inl s) r =
          let first : IsOwn (booked x) = own x (given x (zero, omega arith, refl)) s in (
            booked x ∷ r.0,
            λ b. (
              (λ c. elim (first_or_later (booked x) b r.0 c) [
                | inl same ↦ subst (λ (y : Instance). Contains (x ∷ xs) y.start × IsOwn y) same ((zero, omega arith, refl), first)
                | inr d ↦ let h = (r.1 b).0 d in (later x b.start xs h.0, h.1)
              ]),
              λ h. elim (first_or_later x b.start xs h.0) [
                | inl same ↦ (zero, omega arith, one (booked x) b first h.1 same)
                | inr d ↦ later (booked x) b r.0 ((r.1 b).1 (d, h.1))
              ],
            ),
          )
      go (inr not) r = (
        r.0,
        λ b. (
          (λ c. let h = (r.1 b).0 c in (later x b.start xs h.0, h.1)),
          λ h. elim (first_or_later x b.start xs h.0) [
            | inl same ↦ absurd (not (subst IsShown (sym same) (own_shown b h.1)))
            | inr d ↦ (r.1 b).1 (d, h.1)
          ],
        ),
      )

pub listed_instances : (series : Series) → (all : List Instance) × ((b : Instance) → Contains all b ↔ IsInstance (series_said series) b)
listed_instances series =
    let event = series.event.value in
    let m = own_master event series.ruled in
    let name = event.name in
    let master = m.0 in
    let ruled = some_there master.rule (series.ruled.1.0 master m.1).0 in
    let rule = ruled.0 in
    let clock = master.steady.meaning in
    let starts = rule_starts master rule clock 3_652_425 (omega arith) in
    let given : (t : ℤ) → Contains starts.0 t → IsGiven (times_of master.times) (master_of name master).rule t = λ t c. rule_gives (times_of master.times) (master_of name master).rule rule t ruled.1 ((starts.1 t).0 c) in
    let one : (a b : Instance) → IsInstance (of_master (master_of name master)) a → IsInstance (of_master (master_of name master)) b → a.start ≡ b.start → a ≡ b =
    λ a b h k start.
    let x = subst (λ (w : Whole). IsInstance w a) (sym m.2) h in
    let y = subst (λ (w : Whole). IsInstance w b) (sym m.2) k in
    one_start event series.ruled a b x y start ((at_its_start event series.ruled a x).0 ∙ start ∙ sym (at_its_start event series.ruled b y).0) in
    let all = picked name master clock one starts.0 given in (
      all.0,
      λ b. (
        (λ c. subst (λ (w : Whole). IsInstance w b) (sym m.2) ((all.1 b).0 c).1),
        λ h.
            let k = subst (λ (w : Whole). IsInstance w b) m.2 h in
            (all.1 b).1 ((starts.1 b.start).1 (starts_by_rule name master rule ruled.1 (series.ruled.1.0 master m.1).1 b (at_start (master_of name master) b k)), k),
      ),
    )
  where
    -- nothing is added to it
    starts_by_rule : (name : EventName) (master : Recurrence) (rule : Rule) → master.rule ≡ Some rule → length master.additions ≡ 0 → (b : Instance) → IsAtStart (master_of name master) b
        → IsRuleStart (times_of master.times) rule b.start
    starts_by_rule name master rule is none b x = elim x.starts.given [
      | inl g ↦ subst (λ (o : Option Rule). IsGiven (times_of master.times) o b.start) is g
      | inr c ↦ absurd (none_in b.start (subst (λ (l : List ℤ). Contains l b.start) (empty_list master.additions none) c))
    ]

-- all instances of a series
abbrev pub instances_of : Series → List Instance
instances_of series = (listed_instances series).0

pub all_instances : (series : Series) (b : Instance) → IsInstance (series_said series) b → Contains (instances_of series) b
all_instances series b h = ((listed_instances series).1 b).1 h

-- ---- the times of what was read

-- ---- each instance of an event is of its series, or apart from it

abbrev starts_of : Series → List ℤ
starts_of series = map (λ (y : Instance). y.start) (instances_of series)
