use Rattle.std.proofs.Common.{◌≡◌, to_z, of_z, w64, to_z-of_z, FitsSigned, rules}
use Rattle.cal_period.proofs.by_residues.are_locally_apart.Goals as goal

pub returns : goal.returns
returns c = λ t.
    let wf : FitsSigned w64 c.width.result = search rules in
    let vf : FitsSigned w64 c.width-2.result = search rules in
    let w : to_z w64 (of_z w64 c.width.result) ≡ c.width.result = to_z-of_z wf in
    let v : to_z w64 (of_z w64 c.width-2.result) ≡ c.width-2.result = to_z-of_z vf in
    let apart = rw (w, v) at (c.are_phases_apart.ensures t) in
    (apart.0, apart.1, (c.width.result, c.width-2.result, c.width.ensures.of, c.width-2.ensures.of, λ r s p q. apart.2 r s ((c.local.ensures apart.0 r).0 p) ((c.local-2.ensures apart.0 s).0 q)))
