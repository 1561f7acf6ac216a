use Rattle.std.proofs.Common.{arith, ◌/◌}
use Rattle.cal_rules.proofs.Multiples.{least_multiple, no_multiple, few_days}
use Rattle.cal_rules.proofs.period.multiple_of.Goals as goal

pub returns-in_default-clause-least : goal.returns-in_default-clause-least
returns-in_default-clause-least c = let e = c.if-a-eq0.false in no_multiple c.args.a c.args.b (omega (arith, e)) c.in_default.ensures

pub returns-clause-least : goal.returns-clause-least
returns-clause-least c = let e = c.if-a-eq0.false in least_multiple c.args.a c.args.b (2_932_897 / c.args.a) c.in-Some.count (omega (arith, e)) c.in-Some.ensures

pub returns-clause-few : goal.returns-clause-few
returns-clause-few c = let e = c.if-a-eq0.false in few_days c.args.a c.in-Some.count (omega (arith, e)) c.in-Some.ensures.few
