use Rattle.std.proofs.Common.{arith}
use Rattle.std.proofs.lemmas.Nat.Gcd.{IsGcd-from_zero, IsGcd-from_mod}
use Rattle.cal_period.proofs.phases.common_divisor.Goals as goal

pub loop-lesser-preserved : goal.loop-lesser-preserved
loop-lesser-preserved c =
    let i = c.loop-lesser.invariant in
    let test = c.loop-lesser-test.true in
    record {
      some = omega (arith, test);
      same = λ g h. i.same g (IsGcd-from_mod c.loop-lesser.greater c.loop-lesser.lesser g h);
    }

pub returns : goal.returns
returns c =
    let test = c.loop-lesser-test.false in
    c.loop-lesser.invariant.same c.loop-lesser.greater (IsGcd-from_zero c.loop-lesser.greater c.loop-lesser.lesser (omega (arith, test)))
