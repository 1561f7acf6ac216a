use Rattle.std.proofs.Common.{◌≡◌, ◌+◌, suc, arith}
use Rattle.std.proofs.lemmas.List.{length-drop}
use Rattle.std.proofs.lemmas.List.FromFn.{length-enumerate_from}
use Rattle.ical_lines.specs.Text.{lines_left, numbered_left}
use Rattle.ical_lines.proofs.BreakLemmas.{lines_of-le}
use Rattle.ical_tree.proofs.RunLemmas.{take_grown, drop_grown}
use Rattle.ical_tree.proofs.own_lines.Run.grow.Goals as goal

pub overflow_add-self : goal.overflow_add-self
overflow_add-self c =
    let run = c.args.self.now in
    omega (arith, c.requires, length-drop run.count (numbered_left run.from), length-enumerate_from (run.from.passed + 1) (lines_left run.from), lines_of-le run.from.rest.now, run.from.is_in_memory)

pub returns-clause-lines : goal.returns-clause-lines
returns-clause-lines c = λ line rest e.
    let run = c.args.self.now in
    let more : run.count + 1 ≡ suc run.count = omega arith in
    rw more (take_grown run.count (numbered_left run.from) rest line e)

pub returns-clause-after : goal.returns-clause-after
returns-clause-after c =
    let run = c.args.self.now in
    let more : run.count + 1 ≡ suc run.count = omega arith in
    rw more (drop_grown run.count (numbered_left run.from))
