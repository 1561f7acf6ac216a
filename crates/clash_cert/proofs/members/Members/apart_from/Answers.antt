use Rattle.std.proofs.Common.{sym, arith}
use Rattle.clash_cert.proofs.MemberLemmas.{apart_first, apart_second, apart_other, apart_run}
use Rattle.clash_cert.proofs.members.Members.apart_from.Goals as goal

pub returns-in_default : goal.returns-in_default
returns-in_default c groups of =
    apart_first groups c.args.self.now of c.args.series c.args.i c.args.j (omega (arith, c.if-series-j.false)) (sym c.in_default.ensures)

pub returns-in_default-member : goal.returns-in_default-member
returns-in_default-member c groups of =
    apart_second groups c.args.self.now of c.args.series c.args.i c.args.j (omega (arith, c.if-series-j.false)) (sym c.in_default-member.ensures)

pub returns-then-first-second : goal.returns-then-first-second
returns-then-first-second c groups of =
    apart_run groups c.args.self.now of c.args.series c.args.i c.args.j c.in-Some.first c.in-Some-member.second (sym c.in-Some.ensures) (sym c.in-Some-member.ensures) c.if-first-second.true
    c.after_run.result (omega (arith, c.if-series-j.false)) c.after_run.ensures

pub returns-else-first-second : goal.returns-else-first-second
returns-else-first-second c groups of =
    apart_other groups c.args.self.now of c.args.series c.args.i c.args.j c.in-Some.first c.in-Some-member.second (omega (arith, c.if-series-j.false)) (sym c.in-Some.ensures)
    (sym c.in-Some-member.ensures) c.if-first-second.false
