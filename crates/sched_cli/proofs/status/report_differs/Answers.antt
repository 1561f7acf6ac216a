use Rattle.sched_cli.specs.Running.{differs_text}
use Rattle.sched_cli.proofs.Saying.{written_says}
use Rattle.sched_cli.proofs.status.report_differs.Goals as goal

pub returns-clause-says : goal.returns-clause-says
returns-clause-says g c = written_says (differs_text c.args.name.now) c.say_differs.result _ _ _ c.say_differs.ensures
