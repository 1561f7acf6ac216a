use Rattle.std.proofs.Common.{rules}
use Rattle.sched_devices.proofs.InputLemmas.{all_taken}
use Rattle.sched_devices.proofs.disk_folder.read_whole.Goals as goal

pub returns-then-not-branch-clause-few : goal.returns-then-not-branch-clause-few
returns-then-not-branch-clause-few g c = rw (c.in_ok-take_lent.ensures.end c.if-not-branch.true).0 (search rules)

pub returns-then-not-branch-clause-whole : goal.returns-then-not-branch-clause-whole
returns-then-not-branch-clause-whole g c =
    let (taken, is, longer, used) = c.in_ok-take_lent.ensures.taken in
    rw is (all_taken _ _ _ _ taken c.loop-reader.invariant used (c.in_ok-take_lent.ensures.end c.if-not-branch.true).1)
