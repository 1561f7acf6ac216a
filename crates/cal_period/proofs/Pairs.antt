-- The search through two series.
use Rattle.std.proofs.Common.{◌≡◌, ◌∙◌, ap, sym, subst, inl, inr, ◌⊎◌, arith, ℤ, ◌<ℤ◌, ◌≤ℤ◌}
use Rattle.std.proofs.lemmas.Int.{ints}
use Rattle.profile.specs.checker.Instances.{Instance as SaidInstance, horizon}
use Rattle.profile.specs.events.Events.{Event}
use Rattle.profile.specs.events.Starts.{IsInstance}
use Rattle.cal_events.specs.Calendar.{instance_of}
use Rattle.cal_events.specs.declared.instance.Instance.{Instance}
use Rattle.cal_period.specs.Clear.{ArePair}
use Rattle.cal_period.specs.Walks.{IsBehind}
use Rattle.cal_period.proofs.Sweeping.{Share, turned, start_turned, met_start}

-- ---- two places

-- those behind are clear of each other, and none of the one starts after the place of the other
pub record AreAbreast (a b : Event) (p q : ℤ) : Type 0 where
  pub clear : (x y : SaidInstance) → IsBehind a p x → IsBehind b q y → Share x y → ⊥
  pub first : (x : SaidInstance) → IsBehind a p x → x.start ≤ℤ q
  pub second : (y : SaidInstance) → IsBehind b q y → y.start ≤ℤ p

-- what holds of two holds of them the other way round
pub abreast_turned : (a b : Event) (p q : ℤ) → AreAbreast a b p q → AreAbreast b a q p
abreast_turned a b p q at = record { clear = λ y x k h s. at.clear x y h k (turned y x s); first = at.second; second = at.first }

pub found_turned : (a b : Event) (x y : SaidInstance) → ArePair a b x y → ArePair b a y x
found_turned a b x y f = record { first = f.second; second = f.first; shared = start_turned x y f.shared }

module _ (a b : Event) (p q : ℤ) (at : AreAbreast a b p q) (next : Instance) (here : p ≡ next.start) where
  -- one behind that is still going on
  pub abreast_found : IsInstance a (instance_of next) → next.start <ℤ horizon → (last : Instance) → IsBehind b q (instance_of last) → (next.start <ℤ next.end) × (next.start <ℤ last.end)
      → ArePair a b (instance_of next) (instance_of last)
  abreast_found own before last behind m =
      let early : last.start ≤ℤ next.start = subst (λ (t : ℤ). last.start ≤ℤ t) here (at.second (instance_of last) behind) in
      record { first = own; second = behind.0; shared = start_turned (instance_of last) (instance_of next) (met_start last next early before m.0 m.1) }

  -- past one that meets none behind
  pub abreast_past : (p' : ℤ) → p ≤ℤ q → p <ℤ p' → ((x : SaidInstance) → IsBehind a p' x → IsBehind a p x ⊎ (x ≡ instance_of next)) → ((y : SaidInstance) → IsBehind b q y → Share y (instance_of next) → ⊥)
      → AreAbreast a b p' q
  abreast_past p' before further one never = record {
    clear = λ x y h k s. elim (one x h) [
      | inl was ↦ at.clear x y was k s
      | inr e ↦ never y k (subst (λ (z : SaidInstance). Share y z) e (turned x y s))
    ];
    first = λ x h. elim (one x h) [
      | inl was ↦ at.first x was
      | inr e ↦ let same = ap (λ (z : SaidInstance). z.start) e ∙ sym here in omega (arith, ints, same, before)
    ];
    second = λ y k. let l = at.second y k in omega (arith, ints, l, further);
  }
