use Rattle.std.proofs.Common.{ap, of_z, w32}
use Rattle.std.proofs.lemmas.Bool.{eqb-true, eqb-false}
use Rattle.cal_zones.specs.Onsets.{observance_of}
use Rattle.cal_zones.proofs.Casts.{same_offset}
use Rattle.cal_zones.proofs.read.keeps.Goals as goal

pub returns-then-times-offset-clause-yes : goal.returns-then-times-offset-clause-yes
returns-then-times-offset-clause-yes c = λ e.
    let times = c.in_ok-times.times in
    (observance_of times, c.in_ok-times.ensures.says, same_offset _ _ times.from c.ranges.offset c.if-times-offset.true, same_offset _ _ times.to c.ranges.offset (eqb-true _ _ e))

pub returns-then-times-offset-clause-no : goal.returns-then-times-offset-clause-no
returns-then-times-offset-clause-no c = λ e. (observance_of c.in_ok-times.times, c.in_ok-times.ensures.says, λ p. eqb-false _ _ e (ap (of_z w32) p.1))

pub returns-else-times-offset-clause-no : goal.returns-else-times-offset-clause-no
returns-else-times-offset-clause-no c = λ e. (observance_of c.in_ok-times.times, c.in_ok-times.ensures.says, λ p. c.if-times-offset.false (ap (of_z w32) p.0))
