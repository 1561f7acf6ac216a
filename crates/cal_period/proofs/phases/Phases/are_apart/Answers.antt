use Rattle.std.proofs.Common.{◌≡◌, ℕ, to_z, of_z, w64, to_z-of_z, FitsSigned, rules, false, arith}
use Rattle.cal_period.specs.Phases.{MeetsOther}
use Rattle.cal_period.specs.PhaseViews.{IsPhaseOf}
use Rattle.cal_period.proofs.PhaseLemmas.{holds_more, holds_still, holds_of_all}
use Rattle.cal_period.proofs.phases.Phases.are_apart.Goals as goal
use Rattle.cal_period.proofs.phases.Phases.are_apart.Goals.{in-Some+else-meet, in_default}

pub loop-number-preserved : goal.loop-number-preserved
loop-number-preserved c =
    let f = c.args.others.now in
    let wf : FitsSigned w64 c.args.width = search rules in
    let of : FitsSigned w64 c.args.other = search rules in
    let w : to_z w64 (of_z w64 c.args.width) ≡ c.args.width = to_z-of_z wf in
    let o : to_z w64 (of_z w64 c.args.other) ≡ c.args.other = to_z-of_z of in
    let before = rw (w, o) at c.loop-number.invariant in
    rw (w, o) (elim c.match-nth.branch [
      | in-Some+else-meet v ↦
          holds_more f.rule.now.pattern f.second f.least f.greatest c.args.m c.loop-number.number v.in-Some.residue
          (λ s. (r : ℕ) → IsPhaseOf c.args.self.now c.args.m r → MeetsOther false c.args.m r c.args.width s c.args.other → ⊥) before v.in-Some.ensures (rw (w, o) at (v.meet.ensures v.if-meet.false))
      | in_default v ↦
          holds_still f.rule.now.pattern f.second f.least f.greatest c.args.m c.loop-number.number
          (λ s. (r : ℕ) → IsPhaseOf c.args.self.now c.args.m r → MeetsOther false c.args.m r c.args.width s c.args.other → ⊥) before v.in_default.ensures
    ])

pub returns : goal.returns
returns c = λ _ r s phase other met.
    let f = c.args.others.now in
    let past = c.loop-number-test.false in
    let wf : FitsSigned w64 c.args.width = search rules in
    let of : FitsSigned w64 c.args.other = search rules in
    let w : to_z w64 (of_z w64 c.args.width) ≡ c.args.width = to_z-of_z wf in
    let o : to_z w64 (of_z w64 c.args.other) ≡ c.args.other = to_z-of_z of in
    let before = rw (w, o) at c.loop-number.invariant in
    holds_of_all f.rule.now.pattern f.second f.least f.greatest c.args.m c.loop-number.number
    (λ s. (r : ℕ) → IsPhaseOf c.args.self.now c.args.m r → MeetsOther false c.args.m r c.args.width s c.args.other → ⊥) f.form.0 f.form.1 c.requires.second (omega (arith, past)) before s other r phase met
