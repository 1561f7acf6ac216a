use Rattle.std.proofs.Common.{◌≡◌, to_z, of_z, w64, to_z-of_z, FitsSigned, rules}
use Rattle.cal_events.specs.Series.{series_said}
use Rattle.cal_period.proofs.ByResidues.{one_clear}
use Rattle.cal_period.proofs.by_residues.is_clear_by_residues.Goals as goal

pub returns : goal.returns
returns c = λ t.
    let a = c.args.a.now in
    let wf : FitsSigned w64 c.width.result = search rules in
    let vf : FitsSigned w64 c.width.result = search rules in
    let w : to_z w64 (of_z w64 c.width.result) ≡ c.width.result = to_z-of_z wf in
    let v : to_z w64 (of_z w64 c.width.result) ≡ c.width.result = to_z-of_z vf in
    let apart = rw w at (c.are_phases_alone.ensures t) in
    one_clear (series_said a) (c.known_by_start.ensures a) (c.series_are_said.ensures a) (c.instances_last.ensures.series a) c.width.result c.width.ensures.of apart.0 apart.1 apart.2
    (λ r s p q. apart.3 r s ((c.of.ensures apart.0 r).0 p) ((c.of.ensures apart.0 s).0 q))
