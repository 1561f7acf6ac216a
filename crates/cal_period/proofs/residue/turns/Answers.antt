use Rattle.std.proofs.Common.{◌≡◌, ◌*◌, ◌<◌, ◌≤◌, ◌/◌, arith}
use Rattle.cal_period.proofs.Turning.{few_turns, some_divisor, some_turns, whole_turns}
use Rattle.cal_period.proofs.residue.turns.Goals as goal

pub nonzero_div-result : goal.nonzero_div-result
nonzero_div-result c = some_divisor c.args.cycle (c.args.m / 86_400) c.common_divisor.result c.common_divisor.ensures c.requires.cycle.0

pub returns-clause-some : goal.returns-clause-some
returns-clause-some c =
    let e = c.requires.modulus.1 in
    let some = c.requires.modulus.2 in
    let most = c.requires.modulus.3 in
    let is : c.args.m ≡ 86_400 * (c.args.m / 86_400) = omega (arith, e) in
    let few : c.args.m / 86_400 ≤ 420 = omega (arith, e, most) in
    let any : 0 < c.args.m / 86_400 = omega (arith, e, some) in
    (some_turns c.args.cycle (c.args.m / 86_400) c.args.m c.common_divisor.result c.common_divisor.ensures is any, few_turns (c.args.m / 86_400) c.common_divisor.result few)

pub returns-clause-whole : goal.returns-clause-whole
returns-clause-whole c =
    let e = c.requires.modulus.1 in
    let some = c.requires.modulus.2 in
    let is : c.args.m ≡ 86_400 * (c.args.m / 86_400) = omega (arith, e) in
    let any : 0 < c.args.m / 86_400 = omega (arith, e, some) in
    whole_turns c.args.cycle (c.args.m / 86_400) c.args.m c.common_divisor.result c.common_divisor.ensures is any
