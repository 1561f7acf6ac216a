use Rattle.std.proofs.Common.{◌≡◌, to_z, of_z, w64, to_z-of_z, FitsSigned, rules, arith}
use Rattle.std.proofs.lemmas.Int.{ints}
use Rattle.cal_period.proofs.by_residues.are_phases_alone.Goals as goal

pub returns : goal.returns
returns c = λ t.
    let wf : FitsSigned w64 c.args.width = search rules in
    let vf : FitsSigned w64 c.args.width = search rules in
    let w : to_z w64 (of_z w64 c.args.width) ≡ c.args.width = to_z-of_z wf in
    let v : to_z w64 (of_z w64 c.args.width) ≡ c.args.width = to_z-of_z vf in
    let apart = rw w at (c.is_apart.ensures t) in
    let narrow = c.if-m-width.false in
    (c.cycle_seconds-m.result, c.cycle_seconds-m.ensures.range.0, omega (arith, ints, narrow), λ r s p q differ meet. apart r s p q ((λ own. differ), meet))
