use Rattle.std.proofs.Common.{◌≡◌, sym, to_z, of_z, w64, to_z-of_z, FitsSigned, rules}
use Rattle.std.proofs.lemmas.Bool.{true≢false}
use Rattle.cal_period.proofs.by_residues.are_phases_apart.Goals as goal

pub returns : goal.returns
returns c = λ t.
    let wf : FitsSigned w64 c.args.width = search rules in
    let vf : FitsSigned w64 c.args.other = search rules in
    let w : to_z w64 (of_z w64 c.args.width) ≡ c.args.width = to_z-of_z wf in
    let v : to_z w64 (of_z w64 c.args.other) ≡ c.args.other = to_z-of_z vf in
    let apart = rw (w, v) at (c.are_apart.ensures t) in
    (c.modulus.result, c.modulus.ensures.range.0, λ r s p q meet. apart r s p q ((λ own. absurd (true≢false (sym own))), meet))
