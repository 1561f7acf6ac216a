use Rattle.std.proofs.Common.{sym, ◌∙◌}
use Rattle.ical_tree.proofs.BuiltLemmas.{added, opens, some_open}
use Rattle.ical_tree.specs.Runs.{run_numbered}
use Rattle.ical_tree.proofs.read.Reader.add.Goals as goal

pub returns-clause-built : goal.returns-clause-built
returns-clause-built c = λ done line rest p e b.
    let reader = c.args.self.now in
    let filled = some_open (opens reader.«open».items) (run_numbered reader.run) (sym c.is_outside.ensures ∙ c.if-is_outside.false) in
    added (opens reader.«open».items) (run_numbered reader.run) (run_numbered c.grow.new.self) reader.closed done line filled (c.grow.ensures.lines line rest e) p b
