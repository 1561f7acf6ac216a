-- The search through one series.
use Rattle.std.proofs.Common.{◌≡◌, ◌∙◌, ap, sym, subst, inl, inr, arith, ℤ, ◌<ℤ◌}
use Rattle.std.specs.Prelude.{Some, ◌≢◌}
use Rattle.std.proofs.lemmas.Int.{ints}
use Rattle.profile.specs.checker.Instances.{Key, Instance as SaidInstance}
use Rattle.profile.specs.events.Events.{Event}
use Rattle.cal_events.specs.Calendar.{instance_of}
use Rattle.cal_events.specs.declared.instance.Instance.{Instance}
use Rattle.cal_events.specs.declared.instances.Instances.{Instances}
use Rattle.cal_period.specs.Clear.{IsClearBelow, AreTwo}
use Rattle.cal_period.specs.Walks.{walk_place, IsNoneBelow, IsBehind, IsWalkOf, BeginsWalk, GoesPast, MeetsInstance, MeetsNone}
use Rattle.cal_period.specs.declared.walk.Walk.{Walk}
use Rattle.cal_period.proofs.Sweeping.{Share, turned, meets_none, met_behind, met_start, next_is, all_behind}

-- those behind are clear of each other
pub record IsAloneAt (series : Event) (left : Instances) (walk : Walk) : Type 0 where
  pub is_walk : IsWalkOf series left walk
  pub clear : (x y : SaidInstance) → IsBehind series (walk_place walk.next) x → IsBehind series (walk_place walk.next) y → x.key ≢ y.key → Share x y → ⊥

pub alone_first : (series : Event) (left : Instances) (walk : Walk) → BeginsWalk series left walk → IsAloneAt series left walk
alone_first series left walk b = record { is_walk = b.is_walk; clear = λ x y h k differ s. b.none x h }

module _ (series : Event) (left : Instances) (walk : Walk) (at : IsAloneAt series left walk) where
  pub alone_end : (bound : ℤ) → IsNoneBelow bound walk.next → IsClearBelow series bound
  alone_end bound none = λ x y h k l m differ s. at.clear x y (all_behind series left walk.next bound at.is_walk.ahead none x h l) (all_behind series left walk.next bound at.is_walk.ahead none y k m) differ s

  module _ (next : Instance) (is : walk.next ≡ Some next) where
    pub alone_found : (last : Instance) → MeetsInstance walk.last next last → AreTwo series (instance_of last) (instance_of next)
    alone_found last m =
        let known = at.is_walk.ahead.known in
        let own = next_is series left walk.next next at.is_walk.ahead is in
        let behind = met_behind series (walk_place walk.next) walk.last last at.is_walk.last m.0 in
        let before : last.start <ℤ next.start = subst (λ (t : ℤ). last.start <ℤ t) (ap walk_place is) behind.1 in
        record {
          first = behind.0;
          second = own;
          differ = λ e. omega (arith, ints, before, known.slots (instance_of last) behind.0, known.slots (instance_of next) own, ap (λ (k : Key). k.slot) e);
          shared = met_start last next (omega (arith, ints, before)) (known.dates (instance_of next) own).1 m.1 m.2;
        }

    pub alone_past : (rest : Instances) (new : Walk) → MeetsNone walk.last next → GoesPast series next walk rest new → IsAloneAt series rest new
    alone_past rest new none g = record {
      is_walk = g.is_walk;
      clear = λ x y h k differ s. elim (g.one x h) [
        | inl was ↦ elim (g.one y k) [
          | inl were ↦ at.clear x y was were differ s
          | inr e ↦ never x was (subst (λ (b : SaidInstance). Share x b) e s)
        ]
        | inr e ↦ elim (g.one y k) [
          | inl were ↦ never y were (subst (λ (b : SaidInstance). Share y b) e (turned x y s))
          | inr f ↦ differ (ap (λ (b : SaidInstance). b.key) (e ∙ sym f))
        ]
      ];
    }
      where
        never : (x : SaidInstance) → IsBehind series (walk_place walk.next) x → Share x (instance_of next) → ⊥
        never = meets_none series (walk_place walk.next) walk.last next at.is_walk.last none
