use Rattle.std.proofs.Common.{◌≡◌, to_z, of_z, w64, FitsSigned, rules, to_z-of_z}
use Rattle.cal_events.specs.Series.{series_said}
use Rattle.cal_period.proofs.Settling.{alone_settled}
use Rattle.cal_period.proofs.alone.clash_alone.Goals as goal

pub returns : goal.returns
returns c =
    let bound = c.settled_by.result in
    let fits : FitsSigned w64 bound = search rules in
    let cast : to_z w64 (of_z w64 bound) ≡ bound = to_z-of_z fits in
    alone_settled (series_said c.args.a.now) bound c.clash_alone_below.result c.settled_by.ensures.settles.alone (rw cast at c.clash_alone_below.ensures)
