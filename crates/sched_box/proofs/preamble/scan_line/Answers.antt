use Rattle.sched_box.proofs.PreambleLemmas.{line_ends, line_goes}
use Rattle.sched_box.proofs.preamble.scan_line.Goals as goal

pub returns-in-Some-clause-leads : goal.returns-in-Some-clause-leads
returns-in-Some-clause-leads c = line_ends c.args.lent.now c.in-Some.end c.in-Some.ensures

pub returns-in-None-clause-leads : goal.returns-in-None-clause-leads
returns-in-None-clause-leads c = line_goes c.args.lent.now c.in-None.ensures
