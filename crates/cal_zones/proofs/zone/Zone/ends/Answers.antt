use Rattle.cal_zones.proofs.zone.Zone.ends.Goals as goal

pub returns-in-Pair-clause-ends : goal.returns-in-Pair-clause-ends
returns-in-Pair-clause-ends c =
    let p = c.in-Pair.pair in
    let a = p.standard in
    rw c.in-Pair.is (c.offsets-in-Pair.ensures.order, p.there, p.back)
