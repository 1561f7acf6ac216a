use Rattle.std.proofs.Common.{◌≡◌, to_z, of_z, w64, to_z-of_z, FitsSigned, rules}
use Rattle.cal_events.specs.Series.{series_said}
use Rattle.cal_period.proofs.ByResidues.{two_clear}
use Rattle.cal_period.proofs.by_residues.are_clear_by_residues.Goals as goal

pub returns : goal.returns
returns c = λ t.
    let a = c.args.a.now in
    let b = c.args.b.now in
    let wf : FitsSigned w64 c.width.result = search rules in
    let vf : FitsSigned w64 c.width-2.result = search rules in
    let w : to_z w64 (of_z w64 c.width.result) ≡ c.width.result = to_z-of_z wf in
    let v : to_z w64 (of_z w64 c.width-2.result) ≡ c.width-2.result = to_z-of_z vf in
    let apart = rw (w, v) at (c.are_phases_apart.ensures t) in
    two_clear (series_said a) (series_said b) (c.series_are_said.ensures a) (c.series_are_said.ensures b) (c.instances_last.ensures.series a) (c.instances_last.ensures.series b)
    c.width.result c.width-2.result c.width.ensures.of c.width-2.ensures.of apart.0 apart.1 (λ r s p q. apart.2 r s ((c.of.ensures apart.0 r).0 p) ((c.of-2.ensures apart.0 s).0 q))
