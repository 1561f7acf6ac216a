use Rattle.std.proofs.Common.{◌≡◌, rules, to_z, of_z, w64, FitsSigned, to_z-of_z}
use Rattle.worked_examples.proofs.counting.CountingDrawn.regular_from.Goals as goal

pub returns : goal.returns
returns g c =
    let fits : FitsSigned w64 c.regular_from.result = search rules in
    let cast : to_z w64 (of_z w64 c.regular_from.result) ≡ c.regular_from.result = to_z-of_z fits in
    rw cast c.regular_from.ensures
