use Rattle.std.proofs.Common.{ℕ, List, subst}
use Rattle.sched_cli.specs.Commands.{SaysLine}
use Rattle.sched_cli.specs.Running.{differs_text}
use Rattle.sched_cli.proofs.status.report_box.Goals as goal

pub returns-in-Differs-clause-says : goal.returns-in-Differs-clause-says
returns-in-Differs-clause-says g c =
    let after = c.report_differs.new.errors in
    let Says : List ℕ → Type 0 = λ name. SaysLine (differs_text name) (g.E.Output.contents c.args.errors.now) (g.E.Output.contents after) (g.E.Output.may_lose after) in
    rw c.in-Differs.is (subst Says c.as_str.ensures.value c.report_differs.ensures.says)
