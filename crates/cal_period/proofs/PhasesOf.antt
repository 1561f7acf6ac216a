-- The phases of a series are its residues.
use Rattle.std.proofs.Common.{◌≡◌, ◌∙◌, ap, sym, refl, subst, inl, inr, ◌⊎◌, ℕ, ◌+◌, ◌*◌, true, Some, ℤ, pos, ◌-ℤ◌, ◌≤ℤ◌, arith}
use Rattle.std.proofs.lemmas.Int.{ints}
use Rattle.std.proofs.lemmas.Option.{same_Some}
use Rattle.profile.specs.series.Rules.{Rule}
use Rattle.profile.specs.series.Zones.{local_time}
use Rattle.profile.specs.series.Repeating.{IsCongruent}
use Rattle.profile.specs.series.Residues.{IsOffsetOf, is_in_form}
use Rattle.profile.specs.events.EventComponents.{EventComponent}
use Rattle.profile.specs.events.EventRules.{IsOnDay}
use Rattle.profile.specs.events.Events.{Event}
use Rattle.profile.specs.events.Residues.{IsResidue}
use Rattle.profile.specs.events.ZonedTimes.{clock_of}
use Rattle.cal_period.specs.LocalResidues.{IsLocalResidue}
use Rattle.cal_period.specs.Phases.{IsPhase}
use Rattle.cal_period.proofs.PhaseLemmas.{congruent_same, congruent_trans}

int_eq_by : {a b : ℤ} → a ≤ℤ b → b ≤ℤ a → a ≡ b
int_eq_by {a} {b} l m = omega (arith, ints, l, m)

less_none : (x : ℤ) → x -ℤ pos 0 ≡ x
less_none x = int_eq_by (omega (arith, ints)) (omega (arith, ints))

one_second : (local : ℤ) (a b s t : ℕ) → IsOnDay local a s → IsOnDay local b t → s ≡ t
one_second local a b s t on other =
    let small = on.0 in
    let low = other.0 in
    let e = on.1 in
    let f = other.1 in
    let g : 86_400 * a + s ≡ 86_400 * b + t = omega (arith, ints, e, f) in
    omega (arith, small, low, g)

module _ (series : Event) (master : EventComponent) (is : series.master ≡ Some master) (rule : Rule) (recurs : master.rule ≡ Some rule)
    (first second : ℕ) (on : IsOnDay master.times.local first second) where
  same_master : (other : EventComponent) → series.master ≡ Some other → other ≡ master
  same_master other e = same_Some other master (sym e ∙ is)

  same_rule : (other : EventComponent) (said : Rule) → series.master ≡ Some other → other.rule ≡ Some said → said ≡ rule
  same_rule other said e f = same_Some said rule (sym f ∙ (ap (λ (m : EventComponent). m.rule) (same_master other e) ∙ recurs))

  same_second : (other : EventComponent) (day time : ℕ) → series.master ≡ Some other → IsOnDay other.times.local day time → time ≡ second
  same_second other day time e there = one_second master.times.local day first time second (subst (λ (m : EventComponent). IsOnDay m.times.local day time) (same_master other e) there) on

  module _ (least greatest : ℤ) (offsets : (offset : ℤ) → (IsOffsetOf (clock_of master.times.zone) offset → (offset ≡ least) ⊎ (offset ≡ greatest)) × ((offset ≡ least) ⊎ (offset ≡ greatest) → IsOffsetOf (clock_of master.times.zone) offset)) (m residue : ℕ) where
    to_phase : IsResidue series m residue → IsPhase rule.pattern second least greatest m residue
    to_phase r = record {
      below = r.below;
      day = r.day;
      in_form = subst (λ (said : Rule). is_in_form said.pattern r.day ≡ true) (same_rule r.master r.rule r.is r.recurs) r.in_form;
      offset = r.offset;
      of_zone = (offsets r.offset).0 (subst (λ (m : EventComponent). IsOffsetOf (clock_of m.times.zone) r.offset) (same_master r.master r.is) r.of_zone);
      same = subst (λ time. IsCongruent m (local_time r.day time -ℤ r.offset) (pos residue)) (same_second r.master r.first r.second r.is r.on) r.same;
    }

    from_phase : IsPhase rule.pattern second least greatest m residue → IsResidue series m residue
    from_phase p = record {
      below = p.below;
      master = master;
      is = is;
      rule = rule;
      recurs = recurs;
      first = first;
      second = second;
      on = on;
      day = p.day;
      in_form = p.in_form;
      offset = p.offset;
      of_zone = (offsets p.offset).1 p.of_zone;
      same = p.same;
    }

    pub are_phases : (IsResidue series m residue → IsPhase rule.pattern second least greatest m residue) × (IsPhase rule.pattern second least greatest m residue → IsResidue series m residue)
    are_phases = (to_phase, from_phase)

  module _ (m residue : ℕ) where
    to_local : IsLocalResidue series m residue → IsPhase rule.pattern second (pos 0) (pos 0) m residue
    to_local r = record {
      below = r.below;
      day = r.day;
      in_form = subst (λ (said : Rule). is_in_form said.pattern r.day ≡ true) (same_rule r.master r.rule r.is r.recurs) r.in_form;
      offset = pos 0;
      of_zone = inl refl;
      same = congruent_trans m (local_time r.day second -ℤ pos 0) (local_time r.day second) (pos residue) (congruent_same m _ _ (less_none (local_time r.day second)))
          (subst (λ time. IsCongruent m (local_time r.day time) (pos residue)) (same_second r.master r.first r.second r.is r.on) r.same);
    }

    none_of : (offset : ℤ) → (offset ≡ pos 0) ⊎ (offset ≡ pos 0) → offset ≡ pos 0
    none_of offset (inl e) = e
    none_of offset (inr e) = e

    from_local : IsPhase rule.pattern second (pos 0) (pos 0) m residue → IsLocalResidue series m residue
    from_local p = record {
      below = p.below;
      master = master;
      is = is;
      rule = rule;
      recurs = recurs;
      first = first;
      second = second;
      on = on;
      day = p.day;
      in_form = p.in_form;
      same = congruent_trans m (local_time p.day second) (local_time p.day second -ℤ pos 0) (pos residue) (congruent_same m _ _ (sym (less_none (local_time p.day second))))
          (subst (λ o. IsCongruent m (local_time p.day second -ℤ o) (pos residue)) (none_of p.offset p.of_zone) p.same);
    }

    pub are_local_phases : (IsLocalResidue series m residue → IsPhase rule.pattern second (pos 0) (pos 0) m residue) × (IsPhase rule.pattern second (pos 0) (pos 0) m residue → IsLocalResidue series m residue)
    are_local_phases = (to_local, from_local)
