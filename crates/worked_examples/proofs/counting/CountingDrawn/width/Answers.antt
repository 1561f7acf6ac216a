use Rattle.std.proofs.Common.{◌≡◌, rules, to_z, of_z, w64, FitsSigned, to_z-of_z}
use Rattle.worked_examples.proofs.counting.CountingDrawn.width.Goals as goal

pub returns-clause-width : goal.returns-clause-width
returns-clause-width g c =
    let fits : FitsSigned w64 c.width.result = search rules in
    let cast : to_z w64 (of_z w64 c.width.result) ≡ c.width.result = to_z-of_z fits in
    rw cast c.width.ensures.width
