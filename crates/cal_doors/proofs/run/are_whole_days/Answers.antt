use Rattle.std.proofs.Common.{◌≡◌, ◌∙◌, ◌%◌, arith, to_z, of_z, w64, to_z-of_z}
use Rattle.std.proofs.lemmas.Bool.Decides.{nat_tests}
use Rattle.cal_doors.proofs.RunLemmas.{whole_days}
use Rattle.cal_doors.proofs.run.are_whole_days.Goals as goal

pub returns : goal.returns
returns c h =
    let one : to_z w64 (of_z w64 c.seconds.result) ≡ c.seconds.result = to_z-of_z {w = w64} (record { sfits = c.seconds.type_inv }) in
    let other : to_z w64 (of_z w64 c.seconds-2.result) ≡ c.seconds-2.result = to_z-of_z {w = w64} (record { sfits = c.seconds-2.type_inv }) in
    let none : c.abs_diff.result % 86_400 ≡ 0 = grind (arith, nat_tests) in
    whole_days c.args.one c.args.other c.abs_diff.result (rw (one ∙ c.seconds.ensures.value, other ∙ c.seconds-2.ensures.value) at c.abs_diff.ensures) none
