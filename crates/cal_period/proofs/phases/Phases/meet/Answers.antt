use Rattle.std.proofs.Common.{◌≡◌, ◌∙◌, sym, to_z, of_z, w64, to_z-of_z, FitsSigned, rules, arith}
use Rattle.std.proofs.lemmas.Bool.{true≢false}
use Rattle.cal_period.specs.Phases.{MeetsOther}
use Rattle.cal_period.proofs.PhaseLemmas.{holds_more, holds_still, holds_of_all}
use Rattle.cal_period.proofs.phases.Phases.meet.Goals as goal
use Rattle.cal_period.proofs.phases.Phases.meet.Goals.{in-Some+else-meets_other, in_default}

pub loop-number-preserved : goal.loop-number-preserved
loop-number-preserved c =
    let f = c.args.self.now in
    let wf : FitsSigned w64 c.args.width = search rules in
    let of : FitsSigned w64 c.args.other = search rules in
    let w : to_z w64 (of_z w64 c.args.width) ≡ c.args.width = to_z-of_z wf in
    let o : to_z w64 (of_z w64 c.args.other) ≡ c.args.other = to_z-of_z of in
    let before = rw (w, o) at c.loop-number.invariant in
    rw (w, o) (elim c.match-nth.branch [
      | in-Some+else-meets_other v ↦
          holds_more f.rule.now.pattern f.second f.least f.greatest c.args.m c.loop-number.number v.in-Some.first (λ r. MeetsOther c.args.own c.args.m r c.args.width c.args.residue c.args.other → ⊥) before v.in-Some.ensures
          (λ h. true≢false (sym (v.meets_other.ensures.1 (rw (w, o) h)) ∙ v.if-meets_other.false))
      | in_default v ↦
          holds_still f.rule.now.pattern f.second f.least f.greatest c.args.m c.loop-number.number (λ r. MeetsOther c.args.own c.args.m r c.args.width c.args.residue c.args.other → ⊥) before v.in_default.ensures
    ])

pub returns : goal.returns
returns c = λ _ r phase met.
    let f = c.args.self.now in
    let past = c.loop-number-test.false in
    let wf : FitsSigned w64 c.args.width = search rules in
    let of : FitsSigned w64 c.args.other = search rules in
    let w : to_z w64 (of_z w64 c.args.width) ≡ c.args.width = to_z-of_z wf in
    let o : to_z w64 (of_z w64 c.args.other) ≡ c.args.other = to_z-of_z of in
    let before = rw (w, o) at c.loop-number.invariant in
    holds_of_all f.rule.now.pattern f.second f.least f.greatest c.args.m c.loop-number.number (λ r. MeetsOther c.args.own c.args.m r c.args.width c.args.residue c.args.other → ⊥) f.form.0 f.form.1 c.requires.turn (omega (arith, past)) before r phase met
