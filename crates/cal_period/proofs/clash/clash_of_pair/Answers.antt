use Rattle.std.proofs.Common.{◌≡◌, to_z, of_z, w64, FitsSigned, rules, to_z-of_z}
use Rattle.cal_events.specs.Series.{series_said}
use Rattle.cal_period.proofs.Settling.{pair_settled}
use Rattle.cal_period.proofs.clash.clash_of_pair.Goals as goal

pub returns : goal.returns
returns c =
    let a = series_said c.args.a.now in
    let b = series_said c.args.b.now in
    let bound = c.settled_by.result in
    let fits : FitsSigned w64 bound = search rules in
    let cast : to_z w64 (of_z w64 bound) ≡ bound = to_z-of_z fits in
    pair_settled a b bound c.clash_below.result c.settled_by.ensures.settles.pair (rw cast at c.clash_below.ensures)
