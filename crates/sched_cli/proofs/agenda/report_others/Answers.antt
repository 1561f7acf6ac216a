use Rattle.std.proofs.Common.{◌∙◌, subst, List, ℕ}
use Rattle.sched_cli.specs.Commands.{SaysLine}
use Rattle.sched_cli.proofs.agenda.report_others.Goals as goal

pub returns-clause-says : goal.returns-clause-says
returns-clause-says g c three =
    subst (λ (line : List ℕ). SaysLine line (g.E.Output.contents c.args.errors.now) (g.E.Output.contents c.say.new.errors) (g.E.Output.may_lose c.say.new.errors))
    (c.as_slice.ensures.value ∙ c.in-Ok.ensures) c.say.ensures
