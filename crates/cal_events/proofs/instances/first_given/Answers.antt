use Rattle.std.proofs.Common.{◌≡◌, ◌∙◌, [], sym, subst, ℤ, to_z, of_z, w64, arith}
use Rattle.std.specs.Prelude.{Option}
use Rattle.std.proofs.lemmas.Int.{ints}
use Rattle.profile.specs.series.Rules.{Rule}
use Rattle.profile.specs.events.Starts.{IsGiven}
use Rattle.cal_events.specs.Recurrence.{recurring}
use Rattle.cal_events.specs.Instances.{IsLeast, IsWanted}
use Rattle.cal_events.proofs.instances.first_given.Goals as goal

pub returns-in-None-clause-first : goal.returns-in-None-clause-first
returns-in-None-clause-first c =
    let master = recurring c.args.recurrence.now in
    let W : ℤ → Type 0 = IsWanted master [] c.args.after in
    let cast : to_z w64 (of_z w64 c.instant-start.result) ≡ c.instant-start.result = omega (arith, ints, c.instant-start.ensures.range) in
    let at = subst (λ (x : ℤ). IsLeast (λ t. (t ≡ x) × W t) c.wanted_at.result) (cast ∙ c.instant-start.ensures.value) c.wanted_at.ensures in
    subst (λ (r : Option Rule). IsLeast (λ t. IsGiven master.times r t × W t) c.wanted_at.result) (sym c.in-None.is) at
