use Rattle.cal_period.proofs.Members.{common}
use Rattle.cal_period.proofs.recurs.common_period.Goals as goal

pub returns : goal.returns
returns g c =
    common (g.A.Recurs.period c.args.a.now) (g.B.Recurs.period c.args.b.now) c.in_ok-first.first c.in_ok-second.second c.common_multiple.result c.in_ok-first.ensures c.in_ok-second.ensures
    c.common_multiple.ensures.least c.common_multiple.ensures.few
