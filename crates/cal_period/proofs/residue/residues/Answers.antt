use Rattle.cal_events.specs.Series.{series_said}
use Rattle.cal_period.proofs.Turning.{are_residues}
use Rattle.cal_period.proofs.residue.residues.Goals as goal

pub returns : goal.returns
returns c =
    let of = c.of-phases.ensures c.args.m in
    let listed = c.in_ok-all.ensures in
    let o = c.put_in_order.ensures in
    are_residues (series_said c.args.series.now) c.args.m c.in_ok-all.all.items c.put_in_order.new.residues.items
    (λ r. (λ h. (of r).1 ((listed r).0 h), λ h. (listed r).1 ((of r).0 h))) o.rises o.keeps o.adds_none
