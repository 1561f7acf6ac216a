use Rattle.std.proofs.Common.{refl, ◌++◌}
use Rattle.cal_zones.proofs.WrittenLines.{both_written}
use Rattle.cal_zones.proofs.write.write_parts.Goals as goal

pub returns-in_ok-write_part-in-Pair-2 : goal.returns-in_ok-write_part-in-Pair-2
returns-in_ok-write_part-in-Pair-2 c =
    let first = c.in_ok-write_part-in-Pair.ensures in
    let second = c.in_ok-write_part-in-Pair-2.ensures in
    (first.0 ++ second.0, rw c.in-Pair.is (first.1.0, second.1.0, first.1.1, second.1.1, rw (first.1.2, second.1.2) refl), both_written _ _ _ first.0 second.0 first.2 second.2)
